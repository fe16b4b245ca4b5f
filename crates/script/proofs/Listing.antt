-- A directory ends: how many requests may still send a packet of it, that each that sends one leaves fewer, and that there are not many. Assumes nothing.
use native.Mathlib.Omega.{arith}
use mathlib.Core.Path.{◌≡◌, sym, ◌∙◌, ap}
use mathlib.Core.Bool.{Bool}
use mathlib.Core.List.{List, [], ◌∷◌, map}
use Prim.Native.Nat.{ℕ, suc, ◌+◌, ◌-◌, ◌*◌, ◌/◌, ◌≤◌, ◌<◌, min}
use lib.ListN.{length, take, drop, length-append, length-take, length-drop, length-map}
use Rattle.session.specs.declared.state.Listed.{Listed}
use Rattle.session.specs.declared.state.Listed.TheVariants as listed
use Rattle.table.specs.declared.File.{File}
use Rattle.std.proofs.Common.{Option, Some, None}
use Rattle.table.specs.Table.{file_at, find_of}
use Rattle.blocks.proofs.Bits.{by_lt}
use Rattle.header.specs.Entries.{running_on}
use Rattle.entries.proofs.Laws.{entry_short}
use Rattle.directory.specs.Directory.{found_in}
use Rattle.listing.specs.Listing.{entry_in, entries_of, fill_of}
use Rattle.listing.proofs.PositionLaws.{running_split}
use Rattle.listing.proofs.FillLaws.{fill_moves}

-- the bytes that are still to be sent
abbrev pub bytes_left : List (List ℕ) → ℕ → ℕ → ℕ
bytes_left es done sent = length (running_on es) - (length (running_on (take done es)) + sent)

-- the requests that may still send a packet: DATA of 256 bytes, one of what is left then, and DATA_END
unfoldable pub requests_left : List (List ℕ) → ℕ → ℕ → ℕ
requests_left es done sent = suc ((bytes_left es done sent + 255) / 256)

-- ---- each DATA leaves fewer

-- n of a bytes are sent, 256 or all
fewer : (a b n : ℕ) → b + n ≡ a → 0 < n → n ≤ 256 → (n < 256 → b ≡ 0) → suc ((b + 255) / 256) < suc ((a + 255) / 256)
fewer a b n e p q r =
    by_lt n 256 (λ h. let z : b ≡ 0 = r h in omega (arith, e, p, z)) (λ h. omega (arith, e, q, h))

module _ (es : List (List ℕ)) (done sent : ℕ) where
  split : length (running_on es) ≡ length (running_on (take done es)) + length (running_on (drop done es))
  split = ap length (sym (running_split done es)) ∙ length-append (running_on (take done es)) (running_on (drop done es))

  -- how many bytes are filled in
  filled : (fill_of es done sent).size ≡ min 256 (length (running_on (drop done es)) - sent)
  unfolding fill_of
  filled = length-take 256 (drop sent (running_on (drop done es))) ∙ ap (min 256) (length-drop sent (running_on (drop done es)))

  pub sent_fewer : ((fill_of es done sent).size ≡ 0 → ⊥)
      → requests_left es (fill_of es done sent).done (fill_of es done sent).sent < requests_left es done sent
  unfolding requests_left
  sent_fewer h =
      let some : 0 < (fill_of es done sent).size = positive (fill_of es done sent).size h in
      let inside : sent ≤ length (running_on (drop done es)) = omega (arith, filled, some) in
      let m = fill_moves es done sent inside in
      fewer (bytes_left es done sent) (bytes_left es (fill_of es done sent).done (fill_of es done sent).sent) (fill_of es done sent).size
      (omega (arith, split, filled, m, some)) some (omega (arith, filled)) (λ k. omega (arith, split, filled, m, some, k))
    where
      positive : (n : ℕ) → (n ≡ 0 → ⊥) → 0 < n
      positive n f = omega (arith, f)

-- ---- and there are not many

-- an entry is not longer than all blocks together
entry_most : (long : Bool) (disk owner : List ℕ) (fs : List File) (f : Option ℕ) → length (entry_in long disk owner fs f) ≤ 1048576
unfolding entry_in
entry_most long disk owner fs None = omega arith
entry_most long disk owner fs (Some place) = (entry_short long disk owner place (file_at fs place).received).most

running_most : (long : Bool) (disk owner : List ℕ) (fs : List File) (founds : List (Option ℕ))
    → length (running_on (map (entry_in long disk owner fs) founds)) ≤ length founds * 1048576
unfolding running_on
running_most long disk owner fs [] = omega arith
running_most long disk owner fs (f ∷ founds) =
    omega (
      arith,
      length-append (entry_in long disk owner fs f) (running_on (map (entry_in long disk owner fs) founds)),
      entry_most long disk owner fs f,
      running_most long disk owner fs founds,
    )

count_most : (l : Listed) (next : ℕ) (fs : List File) (selected : List ℕ) → length selected ≤ 50 → length (found_in l next fs selected) ≤ 50
unfolding found_in
count_most (listed.One place) next fs selected h = omega arith
count_most (listed.Selected first) next fs selected h =
    omega (
      arith,
      h,
      length-map (take (next - first) (drop first selected)) (find_of fs),
      length-take (next - first) (drop first selected),
      length-drop first selected,
    )

pub requests_most : (l : Listed) (long : Bool) (next : ℕ) (disk owner : List ℕ) (fs : List File) (selected : List ℕ) (done sent : ℕ)
    → length selected ≤ 50 → requests_left (entries_of l long next disk owner fs selected) done sent ≤ 1048577
unfolding requests_left
requests_most l long next disk owner fs selected done sent h =
    omega (arith, running_most long disk owner fs (found_in l next fs selected), count_most l next fs selected h)
