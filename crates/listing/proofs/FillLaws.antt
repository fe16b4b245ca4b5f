-- What a filling gives, and what it means for a directory whose bytes are counted from the front of its first entry. Assumes nothing.
use mathlib.Core.Path.{◌≡◌, refl}
use mathlib.Core.List.{List, [], ◌∷◌}
use Prim.Native.Nat.{ℕ, zero, suc, ◌+◌, ◌≤◌}
use native.Mathlib.Omega.{arith}
use lib.ListN.{length, take, drop, get_or, replicate, length-append, length-take, length-drop}
use lib.Seq.{take_all, take_at, drop-append-add, get_or-drop}
use Rattle.header.specs.Entries.{running_on}
use Rattle.listing.specs.Listing.{position_at, next_bytes, fill_of}
use Rattle.listing.proofs.PositionLaws.{running_split, running_take_add, position_length, position_within}

module _ (es : List (List ℕ)) (done sent : ℕ) where
  next_size : length (next_bytes es done sent) ≤ 256
  next_size = rw length-take (omega arith)

  pub fill_size : (fill_of es done sent).size ≤ 256
  unfolding fill_of
  fill_size = next_size

  pub fill_whole : length (fill_of es done sent).bytes ≡ 256
  unfolding fill_of
  fill_whole =
      rw (length-append (take 256 (next_bytes es done sent)) (drop (length (next_bytes es done sent)) (replicate 256 0)))
      (simp (length-take, length-drop) (omega arith))

  -- the bytes that go out
  pub fill_bytes : take (fill_of es done sent).size (fill_of es done sent).bytes ≡ next_bytes es done sent
  unfolding fill_of
  fill_bytes =
      rw (take_all 256 (next_bytes es done sent) next_size)
      (take_at (next_bytes es done sent) (drop (length (next_bytes es done sent)) (replicate 256 0)) (length (next_bytes es done sent)) refl)

  -- they are the next of all bytes
  pub next_of_all : next_bytes es done sent ≡ take 256 (drop (length (running_on (take done es)) + sent) (running_on es))
  next_of_all =
      rw (← running_split done es, drop-append-add (running_on (take done es)) (running_on (drop done es)) sent)

  -- and then so many bytes more lie behind
  pub fill_moves : sent ≤ length (running_on (drop done es))
      → length (running_on (take (fill_of es done sent).done es)) + (fill_of es done sent).sent
      ≡ length (running_on (take done es)) + sent + (fill_of es done sent).size
  unfolding fill_of
  fill_moves h =
      let k = (position_at (sent + 256) (drop done es)).entry in
      let p = position_length (sent + 256) (drop done es) in
      rw (
        running_take_add done k es,
        length-append (running_on (take done es)) (running_on (take k (drop done es))),
        length-take 256 (drop sent (running_on (drop done es))),
        length-drop sent (running_on (drop done es)),
      )
      (omega (arith, p))

  -- it comes to an entry, or past the last one, and there to a byte of that entry or to its end
  pub fill_within : done ≤ length es
      → ((fill_of es done sent).done ≤ length es) × ((fill_of es done sent).sent ≤ length (get_or es (fill_of es done sent).done []))
  unfolding fill_of
  fill_within h =
      let w = position_within (sent + 256) (drop done es) in (
        omega (arith, w.0, length-drop done es),
        rw (← get_or-drop done es (position_at (sent + 256) (drop done es)).entry []) w.1,
      )

-- a byte of an entry is one of the bytes from that entry on
pub within_running : (es : List (List ℕ)) (done sent : ℕ) → sent ≤ length (get_or es done []) → sent ≤ length (running_on (drop done es))
unfolding running_on
within_running [] zero sent h = h
within_running [] (suc done) sent h = h
within_running (e ∷ es) zero sent h = rw (length-append e (running_on es)) (omega arith)
within_running (e ∷ es) (suc done) sent h = within_running es done sent h
