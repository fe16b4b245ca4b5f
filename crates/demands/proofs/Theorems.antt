-- DEMAND 3, as theorems: the statements of specs/Demand3.antt, for every legal start and every history. Assumes nothing.
use mathlib.Core.Path.{◌≡◌, refl, sym, ap, ap₂, ◌∙◌, subst}
use mathlib.Core.Bool.{true}
use mathlib.Core.List.{List, [], ◌∷◌}
use mathlib.Core.Option.{Option}
use mathlib.Core.Logic.{◌⊎◌, inl, inr, ⊎_elim}
use Prim.Native.Nat.{ℕ, zero, suc, ◌+◌, ◌<◌}
use native.Mathlib.Omega.{arith}
use native.Mathlib.Numerals.{add-one}
use borrow.Author.Tests.{eq-eqb}
use lib.ListN.{length, get_or, get_or-map}
use lib.Seq.{length-take-le}
use Rattle.blocks.specs.Owners.{blocks}
use Rattle.blocks.proofs.Agreement.{free_and_held, free_or_one}
use Rattle.session.specs.Reply.{Told}
use Rattle.table.specs.declared.File as table
use Rattle.table.specs.Table.{no_file, files, numbers}
use Rattle.files.specs.Sound.{places}
use Rattle.files.proofs.Soundness.{file_blocks, free_blocks}
use Rattle.server.specs.declared.Server.{Server}
use Rattle.server.specs.State.{Lent, map_part, owner_part, table_part}
use Rattle.history.specs.Calls.{Call, Start, legal, History, start, ◌▸◌, after}
use Rattle.history.specs.Good.{Good}
use Rattle.history.specs.Stored.{files_of}
use Rattle.history.proofs.GoodFacts.{Facts, good_facts}
use Rattle.history.proofs.Histories.{good_after}
use Rattle.history.proofs.Kept.{call_change}
use Rattle.model.specs.State.{File, Model, empty}
use Rattle.model.specs.Files as model
use Rattle.model.specs.Files.{find, free}
use Rattle.model.specs.Step.{step}
use Rattle.accepted.specs.Exchange.{Exchange, exchange, Transcript, ◌▹◌, exchanged, transcript}
use Rattle.accepted.specs.Accepted.{blocks_of, reserved}
use Rattle.accepted.specs.Agreement.{size_of, Agrees}
use Rattle.accepted.proofs.Theorems.{blocks_after, every_transcript}
use Rattle.views.specs.View.{view}
use Rattle.views.proofs.Views.{found_at, placed_at}
use Rattle.views.proofs.Counting.{reserved_is, free_is}
use Rattle.refines.proofs.Refining.{every_call, every_history}
use Rattle.demands.specs.Demand3.{server_at, lent_at, files_at, model_at, exchanged_at, transcript_at, Live, ByPlace, Free, Owned, EachBlock, BlocksHeld}

-- ---- of one good state

-- a place that owns a block has one
owned_some : (owner : List ℕ) (b v : ℕ) → b < length owner → get_or owner b 0 ≡ v → blocks v owner ≡ 0 → ⊥
unfolding blocks
owned_some [] b v h e z = omega arith
owned_some (o ∷ os) zero v h e z = let y = rw (eq-eqb o v e) at z in omega arith
owned_some (o ∷ os) (suc b) v h e z = owned_some os b v (omega arith) e (omega arith)

module _ (sv : Server) (l : Lent) (g : Good sv l) where
  facts : Facts sv l
  facts = good_facts sv l g

  owners : length (owner_part sv l) ≡ sv.blocks
  owners = length-take-le sv.blocks l.owner facts.room.owner

  number_at : (q : ℕ) → get_or (numbers (files (table_part sv l))) q 0 ≡ (files_of sv l q).file.number
  number_at q = get_or-map (λ (f : table.File). f.number) (files (table_part sv l)) q no_file

  -- no two places have a file of one number
  numbers_apart : (p q : ℕ) → Live (files_of sv l p) → (files_of sv l p).file.number ≡ (files_of sv l q).file.number → p ≡ q
  numbers_apart p q live e = facts.store.files.numbers p q (λ z. live (sym (number_at p) ∙ z)) (number_at p ∙ e ∙ sym (number_at q))

  -- an owner of a block is the place of a file
  owner_live : (b place : ℕ) → b < length (owner_part sv l) → get_or (owner_part sv l) b 0 ≡ suc place → Live (files_of sv l place)
  owner_live b place h e z =
      let none : blocks (place + 1) (owner_part sv l) ≡ 0 =
      free_blocks (map_part sv l) (owner_part sv l) (table_part sv l) sv.last.number sv.last.time facts.store place z in
      owned_some (owner_part sv l) b (place + 1) h (e ∙ sym (add-one place)) none

  block_owner : (b : ℕ) → b < sv.blocks → Free sv l b ⊎ Owned sv l b
  block_owner b h =
      let k : b < length (owner_part sv l) = omega (arith, owners) in
      ⊎_elim
      (λ f. inl (record { bit = f.0; owner = f.1 }))
      (λ f. inr (record { place = f.0; bit = f.1; owner = f.2 ∙ sym (add-one f.0); file = owner_live b f.0 k f.2 }))
      (free_or_one (map_part sv l) (owner_part sv l) (places (table_part sv l)) b facts.store.blocks k)

-- ---- after any history

module _ (s : Start) (ok : legal s ≡ true) where
  abbrev m₀ : Model
  m₀ = empty s.blocks s.files s.sessions s.most

  good : (h : History) → Good (server_at s h) (lent_at s h)
  good h = good_after s ok h

  stands_for : (h : History) → view (server_at s h) (lent_at s h) ≡ model_at s h
  stands_for h = every_history s ok h

  -- what the server answers is what the machine answers
  pub answers : (h : History) (c : Call) → exchanged_at s h c ≡ exchanged (model_at s h) c
  answers h c =
      ap (λ (t : Told). exchange c t)
      ((every_call (server_at s h) (lent_at s h) (good h) c).told ∙ ap (λ (m : Model). (step m c).told) (stands_for h))

  transcript_is : (h : History) → transcript_at s h ≡ transcript m₀ h
  unfolding transcript_at transcript
  transcript_is start = refl
  transcript_is (h ▸ c) = ap₂ (λ (t : Transcript) (x : Exchange). t ▹ x) (transcript_is h) (answers h c)

  blocks_made : (h : History) → (server_at s h).blocks ≡ s.blocks
  blocks_made h = ap (λ (m : Model). m.blocks) (stands_for h) ∙ blocks_after m₀ h

  -- by number
  pub agrees : (h : History) → Agrees (model_at s h) (transcript_at s h)
  agrees h =
      subst (Agrees (model_at s h)) (sym (transcript_is h))
      (every_transcript s.blocks s.files s.sessions s.most
      (omega (arith, (facts (server_at s h) (lent_at s h) (good h)).sizes.blocks, blocks_made h)) h)

  -- by place
  pub by_place : (h : History) → ByPlace s h
  unfolding after
  by_place h =
      let sv = server_at s h in
      let l = lent_at s h in
      record {
        found = λ place live.
            ap (λ (m : Model). find (files_at s h place).file.number m.files) (sym (stands_for h)) ∙ found_at sv l (good h) place live;
        placed = λ n f e.
            let p = placed_at sv l (good h) n f (ap (λ (m : Model). find n m.files) (stands_for h) ∙ e) in
            record { place = p.place; live = p.live; is = p.is };
        apart = numbers_apart sv l (good h);
        change = call_change sv l (good h);
      }

  -- "each storage block is free or belongs to one file"
  pub each_block : (h : History) → EachBlock s h
  each_block h b k = block_owner (server_at s h) (lent_at s h) (good h) b (omega (arith, blocks_made h))

  -- "blocks held equal the sum over live files of their reserved blocks by history"
  pub blocks_held : (h : History) → BlocksHeld s h
  unfolding blocks_of
  blocks_held h =
      let sv = server_at s h in
      let l = lent_at s h in
      let store = (facts sv l (good h)).store in
      record {
        held = sym (reserved_is sv l (good h)) ∙ ap (λ (m : Model). model.reserved m.files) (stands_for h) ∙ (agrees h).blocks;
        each = λ place live.
            file_blocks (map_part sv l) (owner_part sv l) (table_part sv l) sv.last.number sv.last.time store place live
            ∙ sym (ap (λ (o : Option File). blocks_of (size_of o)) ((by_place h).found place live))
            ∙ ap blocks_of ((agrees h).standing (files_at s h place).file.number);
        all = free_and_held (map_part sv l) (owner_part sv l) (places (table_part sv l)) store.blocks ∙ owners sv l (good h) ∙ blocks_made h;
        free_is = sym (free_is sv l (good h)) ∙ ap free (stands_for h);
      }
