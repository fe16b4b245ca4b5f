-- A server just made is good: the empty store is sound, and no session is open.
use Rattle.std.specs.Prelude.{Result, Ok, Err, IsOk}
use mathlib.Core.Path.{◌≡◌, refl, ap, sym, ◌∙◌, subst}
use mathlib.Core.Bool.{true}
use mathlib.Core.List.{List, ◌++◌}
use Prim.Native.Nat.{ℕ, ◌*◌, ◌≤◌}
use native.Mathlib.Omega.{arith}
use borrow.Author.Tests.{le-leb, eq-eqb}
use lib.ListN.{length, take, drop, replicate, length-replicate}
use lib.Seq.{length-take-le}
use Rattle.refusal.specs.declared.Refusal.{Refusal}
use Rattle.refusal.specs.Refusal.{numbered}
use Rattle.blocks.specs.Owners.{map_of}
use Rattle.blocks.specs.Check.{words_for}
use Rattle.blocks.specs.Answers.{make_map, make_owner}
use Rattle.blocks.proofs.Agreement.{length-map}
use Rattle.table.specs.Table.{files}
use Rattle.files.proofs.Empty.{empty_sound}
use Rattle.links.proofs.Facts.{closed_facts}
use Rattle.server.specs.declared.Server.{Server}
use Rattle.server.specs.State.{Lent, lent, words, table_part}
use Rattle.server.specs.Check.{sizes_fit}
use Rattle.server.specs.Making.{Emptied, Makes, makes, new_server, empty_of, make_of, zeroed}
use Rattle.server.proofs.CheckLaws.{sizes_true, Room, room_true, both_true}
use Rattle.server.proofs.CheckLaws as check
use Rattle.history.specs.Calls.{Start, legal, making, made, State, state}
use Rattle.history.specs.Good.{Good}
use Rattle.history.proofs.Parts.{front_back, front_length}
use Rattle.history.proofs.GoodFacts.{least_blocks, facts_good}

module _ (s : Start) where
  abbrev server : Server
  server = new_server s.blocks s.files s.sessions s.most

  -- what making leaves of what is lent
  abbrev left : Lent
  left =
      lent s.lent.disk
      (map_of (words s.blocks) (replicate s.blocks 0) ++ drop (words s.blocks) s.lent.map) (zeroed s.blocks s.lent.owner)
      (zeroed (4 * s.files) s.lent.table) (zeroed (s.sessions * s.most) s.lent.selected) (zeroed (s.sessions * 258) s.lent.held)

  record Sized : Type 0 where
    some : 1 ≤ s.blocks
    sizes : check.Sizes s.blocks s.files s.sessions s.most
    room : Room s.blocks s.files s.sessions s.most (length s.lent.disk) (length s.lent.map) (length s.lent.owner)
        (length s.lent.table) (length s.lent.selected) (length s.lent.held)

  sized : legal s ≡ true → Sized
  sized e =
      let t = both_true (sizes_fit s.blocks s.files s.sessions s.most) _ e in
      record {
        some = least_blocks s.blocks s.files s.sessions s.most t.0;
        sizes = sizes_true s.blocks s.files s.sessions s.most t.0;
        room =
            room_true s.blocks s.files s.sessions s.most (length s.lent.disk) (length s.lent.map) (length s.lent.owner)
            (length s.lent.table) (length s.lent.selected) (length s.lent.held) t.1;
      }

  made_is : legal s ≡ true → Sized → made s ≡ state server left
  unfolding made make_of empty_of make_map make_owner
  made_is e z =
      rw (
        e,
        length-take-le s.blocks s.lent.owner z.room.owner,
        length-take-le (words s.blocks) s.lent.map z.room.map,
        le-leb 1 s.blocks z.some,
        le-leb s.blocks 4096 z.sizes.blocks,
        eq-eqb (words s.blocks) (words_for s.blocks) refl,
      )

  -- zeros at the front of a slice that has room for them
  zeros : (n : ℕ) (l : List ℕ) → n ≤ length l → (take n (zeroed n l) ≡ replicate n 0) × (length (zeroed n l) ≡ length l)
  zeros n l h =
      let e : length (replicate {A = ℕ} n 0) ≡ length (take n l) = length-replicate n 0 ∙ sym (length-take-le n l h) in
      (front_back n (replicate n 0) l h e, front_length n (replicate n 0) l h e)

  left_good : legal s ≡ true → Sized → Good server left
  left_good e z =
      let m = map_of (words s.blocks) (replicate s.blocks 0) in
      let k : length m ≡ length (take (words s.blocks) s.lent.map) =
      length-map (words s.blocks) (replicate s.blocks 0) ∙ sym (length-take-le (words s.blocks) s.lent.map z.room.map) in
      let o = zeros s.blocks s.lent.owner z.room.owner in
      let t = zeros (4 * s.files) s.lent.table z.room.table in
      let x = zeros (s.sessions * s.most) s.lent.selected z.room.selected in
      let h = zeros (s.sessions * 258) s.lent.held z.room.held in
      facts_good server left
      (rw (front_length (words s.blocks) m s.lent.map z.room.map k, o.1, t.1, x.1, h.1) e)
      (rw (front_back (words s.blocks) m s.lent.map z.room.map k, o.0, t.0) (empty_sound s.blocks s.files 0 0 z.sizes.files))
      (closed_facts (files (table_part server left)) s.sessions s.most left.selected left.held z.sizes.sessions z.sizes.most
      (omega (arith, x.1, z.room.selected)) (omega (arith, h.1, z.room.held)))
      refl

  pub made_good : legal s ≡ true → Good (made s).server (made s).lent
  made_good e = go (sized e)
    where
      go : Sized → Good (made s).server (made s).lent
      go z = subst (λ (t : State). Good t.server t.lent) (sym (made_is e z)) (left_good e z)

-- making with legal sizes, in slices that have room, is not refused
abbrev is_made : Result Server ℕ → ℕ
is_made (Ok sv) = 1
is_made (Err n) = 0

pub made_ok : (s : Start) (r : Result Server Refusal) (l : Emptied) → legal s ≡ true → makes (numbered r) l ≡ making s → IsOk r
unfolding make_of
made_ok s (Ok sv) l h e = refl
made_ok s (Err refusal) l h e =
    let m : is_made (making s).made ≡ 1 = rw h in
    let z : ◌≡◌ {A = ℕ} 0 1 = ap (λ (x : Makes). is_made x.made) e ∙ m in absurd (omega arith)
