use mathlib.Core.Path.{◌≡◌}
use Prim.Native.Nat.{◌+◌, ◌-◌, ◌≤◌}
use lib.ListN.{length, drop}
use Rattle.text.specs.Match.{any_tail, matches}
use Rattle.text.specs.Comparisons.{tried, behind, up_to64}
use Rattle.text.proofs.Counting as counting
use Rattle.text.proofs.after_star.Given as goal

abbrev pub invariant-loop-back : goal.invariant-loop-back
invariant-loop-back l =
    (l.back ≤ length l.pattern) × (l.mark ≤ length l.text) × (any_tail (matches l.pattern) l.text ≡ any_tail (matches (drop l.back l.pattern)) (drop l.mark l.text))
    × (up_to64 (l.before + tried l.pattern (behind l.pattern) l.text) ≡ up_to64 (l.n + counting.onward l.pattern l.text l.back l.mark))

abbrev pub decreases-loop-back : goal.decreases-loop-back
decreases-loop-back l = (length l.pattern - l.back) + (length l.text - l.mark)
