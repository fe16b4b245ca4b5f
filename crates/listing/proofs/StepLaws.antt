-- One entry is read: how the position and the next bytes go on behind it. Assumes nothing.
use mathlib.Core.Path.{◌≡◌}
use mathlib.Core.List.{List, ◌∷◌, ◌++◌}
use Prim.Native.Nat.{ℕ, suc, ◌+◌, ◌-◌, ◌≤◌, ◌<◌}
use native.Mathlib.Omega.{arith}
use lib.ListN.{length, take, drop, length-drop}
use lib.Seq.{take-append-le, drop-append-le}
use Rattle.header.specs.Entries.{running_on}
use Rattle.listing.specs.Listing.{position, position_at}
use Rattle.listing.proofs.PositionLaws.{drop_past, take_past, position_in, position_past}

module _ (e : List ℕ) (es : List (List ℕ)) (sent room : ℕ) where
  -- all bytes of the entry lie behind
  pub behind_position : 1 ≤ room → length e ≤ sent
      → position_at (sent + room) (e ∷ es)
      ≡ position (suc (position_at (sent - length e + room) es).entry) (position_at (sent - length e + room) es).byte
  behind_position s h =
      let q : sent - length e + room ≡ sent + room - length e = omega arith in
      rw q (position_past (sent + room) e es (omega arith) (omega arith))

  pub behind_bytes : length e ≤ sent → take room (drop sent (running_on (e ∷ es))) ≡ take room (drop (sent - length e) (running_on es))
  unfolding running_on
  behind_bytes h = rw (drop_past sent e (running_on es) h)

  -- there is room for some of its bytes
  pub some_position : room < length e - sent → position_at (sent + room) (e ∷ es) ≡ position 0 (sent + room)
  some_position h = position_in (sent + room) e es (omega arith)

  pub some_bytes : room < length e - sent → take room (drop sent (running_on (e ∷ es))) ≡ take room (drop sent e)
  unfolding running_on
  some_bytes h =
      let inside : sent ≤ length e = omega arith in
      let fits : room ≤ length (drop sent e) = rw length-drop (omega arith) in
      rw (drop-append-le sent e (running_on es) inside, take-append-le room (drop sent e) (running_on es) fits)

  -- there is room for all that is left of it
  pub rest_position : sent < length e → length e - sent ≤ room
      → position_at (sent + room) (e ∷ es)
      ≡ position (suc (position_at (room - (length e - sent)) es).entry) (position_at (room - (length e - sent)) es).byte
  rest_position l h =
      let q : room - (length e - sent) ≡ sent + room - length e = omega arith in
      rw q (position_past (sent + room) e es (omega arith) (omega arith))

  pub rest_bytes : sent < length e → length e - sent ≤ room
      → take room (drop sent (running_on (e ∷ es))) ≡ drop sent e ++ take (room - (length e - sent)) (running_on es)
  unfolding running_on
  rest_bytes l h =
      let inside : sent ≤ length e = omega arith in
      let fits : length (drop sent e) ≤ room = rw length-drop (omega arith) in
      rw (drop-append-le sent e (running_on es) inside, take_past room (drop sent e) (running_on es) fits, length-drop sent e)
