-- The number that beginning a file answers (document 01: "UPLOAD new: 1, 3, 13").
use mathlib.Core.Path.{◌≡◌, refl, sym, ap, ◌∙◌}
use mathlib.Core.List.{List}
use Prim.Native.Nat.{ℕ}
use lib.ListN.{length}
use Rattle.blocks.specs.Answers.{reserve_number}
use Rattle.std.proofs.Common.{Option, Some, None, Err}
use Rattle.table.specs.Table.{files, free_of, free_number}
use Rattle.table.specs.Given.{next_number, given_number, blocks_for}
use Rattle.files.specs.Uploads.{Begins, begins, begin_at, begin_in, begin_with, begin_of, begun_number, after}
use Rattle.files.proofs.Calls.{done, refused, by_number}

-- the place found, 0 where there is none
abbrev pub place_in : Option ℕ → ℕ
place_in None = 0
place_in (Some place) = place

module _ (map owner : List ℕ) (size : ℕ) where
  -- of the place found the first refusal counts: that it is none, then that of its blocks
  abbrev pub room_in : Option ℕ → ℕ
  room_in found = after (free_number found) (reserve_number map (length owner) (place_in found) (blocks_for size))

  at_number : (place n : ℕ) (table : List ℕ)
      → begun_number (begin_at place n size map owner table).answer ≡ reserve_number map (length owner) place (blocks_for size)
  unfolding begin_at
  at_number place n table =
      let k = reserve_number map (length owner) place (blocks_for size) in
      by_number k
      (λ z. ap (λ (b : Begins). begun_number b.answer) (done k _ (begins (Err k) map owner table) z) ∙ sym z)
      (λ z. ap (λ (b : Begins). begun_number b.answer) (refused k _ (begins (Err k) map owner table) z))

  in_number : (found : Option ℕ) (n : ℕ) (table : List ℕ) → begun_number (begin_in found n size map owner table).answer ≡ room_in found
  unfolding begin_in
  in_number None n table = refl
  in_number (Some place) n table = at_number place n table

  with_number : (given : Option ℕ) (table : List ℕ)
      → begun_number (begin_with given size map owner table).answer ≡ after (given_number given) (room_in (free_of (files table)))
  unfolding begin_with
  with_number None table = refl
  with_number (Some n) table = in_number (free_of (files table)) n table

  -- 3 "file numbers .. are used up", then 13 "no free file place", then the number of the blocks: 13 "fewer free blocks than needed"
  pub begin_number : (table : List ℕ) (last : ℕ)
      → begun_number (begin_of map owner table last size).answer ≡ after (given_number (next_number last)) (room_in (free_of (files table)))
  begin_number table last = with_number (next_number last) table
