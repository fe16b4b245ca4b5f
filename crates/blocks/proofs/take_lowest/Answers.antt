-- `blocks::take_lowest` meets its contract. The bit of the lowest free block is 1, so a difference clears it.
use Prim.Native.Nat.{ℕ, ◌-◌, ◌%◌, ◌/◌}
use mathlib.Core.Path.{◌≡◌, ap, ◌∙◌}
use native.Mathlib.Omega.{arith}
use lib.ListN.{get_or, set}
use Rattle.blocks.specs.FreeMap.{bit_at, cleared}
use Rattle.blocks.proofs.Bits.{shl_one, bit_le}
use Rattle.blocks.proofs.Lowest.{low_bit}
use Rattle.blocks.proofs.take_lowest.Goals as goal

pub overflow_sub-map : goal.overflow_sub-map
overflow_sub-map c =
    let p = c in
    let m = p.args.map.now in
    let b = c.lowest_free-b.result in
    let e = c.lowest_free-b.ensures in
    let one : bit_at m b ≡ 1 = ap (bit_at m) e ∙ low_bit m (λ i. (c.slice_known-3-1.given i).fits) p.requires.3 in
    omega (arith, shl_one (b % 64) (omega arith), bit_le (b % 64) (get_or m (b / 64) 0) one)

pub returns : goal.returns
returns c =
    let r = c.lowest_free-b in
    let m = c.args.map.now in
    let e = r.ensures in
    let s = shl_one (r.result % 64) (omega arith) in record { value = ap (λ (b : ℕ). b / 64) e; map_after = ap (λ (x : ℕ). set m (r.result / 64) (get_or m (r.result / 64) 0 - x)) s ∙ ap (cleared m) e; owner_after = c.give.ensures ∙ simp e }
