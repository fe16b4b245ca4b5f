-- DIR_SHORT_CMD and DIR_LONG_CMD are steps of the machine.
use mathlib.Core.Path.{◌≡◌, refl, sym, ap, ap₂, ◌∙◌, subst}
use mathlib.Core.Bool.{Bool, true, false, cond}
use mathlib.Core.List.{List, [], ◌∷◌}
use mathlib.Core.Option.{Option}
use Prim.Native.Nat.{ℕ, ◌+◌, ◌-◌, ◌≤◌, ◌<◌}
use native.Mathlib.Omega.{arith}
use borrow.Author.Tests.{eqb-true, ltb-true, ltb-false}
use lib.Dec.{eqb, ltb}
use lib.ListN.{length, take, drop, length-drop}
use lib.Seq.{length-take-le, take_all}
use Rattle.packet.specs.Frame.{padded}
use Rattle.header.specs.Entries.{running_on}
use Rattle.session.specs.declared.state.Session.{Session}
use Rattle.session.specs.declared.state.Downlink.TheVariants as down
use Rattle.session.specs.declared.state.Listed.TheVariants as listed
use Rattle.session.specs.declared.reply.Reply.TheVariants as reply
use Rattle.session.specs.State.{with_down, with_next}
use Rattle.std.proofs.Common.{Some, None}
use Rattle.std.specs.Prelude as std
use Rattle.table.specs.Table.{file_at, find_of}
use Rattle.table.proofs.Finding.{find_number_law}
use Rattle.decide.specs.Words.{word_at}
use Rattle.decide.specs.Downlink.{ten_from, list_found, list_numbered, on_directory}
use Rattle.decide.specs.declared.act.Act.TheVariants as act
use Rattle.carry.specs.Download as download
use Rattle.carry.specs.Carry.{carry_out}
use Rattle.server.specs.declared.Server.{Server}
use Rattle.server.specs.State.{Lent, link_of}
use Rattle.model.specs.State as model
use Rattle.model.specs.State.{File, in_session, turn}
use Rattle.model.specs.Downlink.{directory_of_one, next_ten, directory_numbered, on_dir_cmd}
use Rattle.views.specs.View.{file_in}
use Rattle.views.proofs.Views.{find_view}
use Rattle.views.proofs.Bytes as bytes
use Rattle.refines.proofs.Packets.{Here, F, fs, sel, s0, k0, M, does, on, moves, tells}
use Rattle.refines.proofs.Downlink.{own, size_sel, count_is}

-- the next ten of so many selected files, or all that are left: which they are, and how many lie behind then
next_ten_law : (next count : ℕ) (xs : List ℕ) → next ≤ count → count ≤ length xs
    → (take (ten_from next count - next) (drop next xs) ≡ take 10 (drop next (take count xs)))
    × (ten_from next count ≡ next + length (take 10 (drop next (take count xs))))
unfolding ten_from
next_ten_law next count xs h k = go (ltb (count - next) 10) refl
  where
    front : List ℕ
    front = drop next (take count xs)

    size : length front ≡ count - next
    size = length-drop next (take count xs) ∙ ap (λ (n : ℕ). n - next) (length-take-le count xs k)

    go : (b : Bool) → ltb (count - next) 10 ≡ b
        → (take (cond b count (next + 10) - next) (drop next xs) ≡ take 10 front) × (cond b count (next + 10) ≡ next + length (take 10 front))
    go true e =
        let f = ltb-true (count - next) 10 e in (
          bytes.front_read xs count next (count - next) k (omega arith)
              ∙ take_all (count - next) front (omega (arith, size)) ∙ sym (take_all 10 front (omega (arith, size))),
          omega (arith, size, ap length (take_all 10 front (omega (arith, size)))),
        )
    go false e =
        let f = ltb-false (count - next) 10 e in (
          ap (λ (n : ℕ). take n (drop next xs)) (ten next) ∙ bytes.front_read xs count next 10 k (omega arith),
          omega (arith, length-take-le 10 front (omega (arith, size))),
        )
      where
        ten : (n : ℕ) → n + 10 - n ≡ 10
        ten n = omega arith

module _ (c : Here) (long : Bool) where
  abbrev sv : Server
  sv = c.sv

  abbrev l : Lent
  l = c.l

  abbrev s : Session
  s = link_of c.sv c.i

  -- ---- of one file

  one_does : (place n : ℕ) → (F c place).file.number ≡ n
      → does c (act.List (listed.One place) long s.next) ≡ turn reply.Nothing (in_session c.i (model.with_down (model.listing long (n ∷ []) 0)) (M c))
  unfolding carry_out download.list_turn running_on
  one_does place n e =
      moves c (with_down (with_next (s0 c) s.next) (down.Listing (listed.One place) long 0 0)) (model.with_down (model.listing long (n ∷ []) 0)) c.linked
      (ap (λ (k : ℕ). model.with_down (model.listing long (k ∷ []) 0) (k0 c)) e) reply.Nothing

  found_does : (found : std.Option ℕ) (n : ℕ) → find_of (fs c) n ≡ found
      → does c (list_found found long s.next (fs c)) ≡ directory_of_one (file_in (F c) found) (M c) c.i long n
  unfolding list_found directory_of_one
  found_does None n e = tells c (reply.DownloadError 4)
  found_does (Some place) n e =
      on c (eqb (file_at (fs c) place).time 0) _ _ _ _ (λ _. tells c (reply.DownloadError 11)) (λ _. one_does place n (find_number_law (fs c) n place e))

  -- ---- of the next ten of the selection

  within : s.count ≤ length (sel c)
  within = omega (arith, size_sel c, (own c).at_most)

  ten_is : s.next < s.count → take (ten_from s.next s.count - s.next) (drop s.next (sel c)) ≡ next_ten (k0 c)
  ten_is h = (next_ten_law s.next s.count (sel c) (omega arith) within).0

  passed_is : s.next < s.count → ten_from s.next s.count ≡ s.next + length (next_ten (k0 c))
  passed_is h = (next_ten_law s.next s.count (sel c) (omega arith) within).1

  ten_does : s.next < s.count
      → does c (act.List (listed.Selected s.next) long (ten_from s.next s.count))
      ≡ turn reply.Nothing
      (in_session c.i (λ x. model.with_down (model.listing long (next_ten (k0 c)) 0) (model.with_next (s.next + length (next_ten (k0 c))) x)) (M c))
  unfolding carry_out download.list_turn running_on
  ten_does h =
      moves c (with_down (with_next (s0 c) (ten_from s.next s.count)) (down.Listing (listed.Selected s.next) long 0 0))
      (λ x. model.with_down (model.listing long (next_ten (k0 c)) 0) (model.with_next (s.next + length (next_ten (k0 c))) x)) c.linked
      (ap₂ (λ (ns : List ℕ) (k : ℕ). model.with_down (model.listing long ns 0) (model.with_next k (k0 c))) (ten_is h) (passed_is h)) reply.Nothing

  -- ---- the command

  numbered_does : (n : ℕ) → does c (list_numbered n long s.count s.next (fs c)) ≡ directory_numbered (M c) c.i (k0 c) long n
  unfolding list_numbered directory_numbered
  numbered_does n =
      on c (eqb n 0) _ _ _ _
      (λ _.
      subst (λ (k : ℕ).
      does c (cond (ltb s.next s.count) (act.List (listed.Selected s.next) long (ten_from s.next s.count)) (act.Tell (reply.DownloadError 5)))
      ≡ cond (ltb s.next k)
      (turn reply.Nothing
      (in_session c.i (λ x. model.with_down (model.listing long (next_ten (k0 c)) 0) (model.with_next (s.next + length (next_ten (k0 c))) x)) (M c)))
      (turn (reply.DownloadError 5) (M c)))
      (sym (count_is c))
      (on c (ltb s.next s.count) _ _ _ _ (λ q. ten_does (ltb-true s.next s.count q)) (λ _. tells c (reply.DownloadError 5))))
      (λ _.
      found_does (find_of (fs c) n) n refl
      ∙ ap (λ (f : Option File). directory_of_one f (M c) c.i long n) (sym (find_view sv l c.good n)))

  pub directory_does : does c (on_directory long s.count s.next (length c.info) (padded c.info) (fs c)) ≡ on_dir_cmd long (M c) c.i (k0 c) c.info
  unfolding on_directory on_dir_cmd
  directory_does =
      on c (eqb (length c.info) 4) _ _ _ _
      (λ q.
      let n = eqb-true (length c.info) 4 q in
      rw (bytes.word_padded c.info 0 (omega arith)) (numbered_does (word_at c.info 0)))
      (λ _. tells c (reply.DownloadError 1))
