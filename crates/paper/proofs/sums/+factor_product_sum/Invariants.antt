use Rattle.std.proofs.Common.{◌+◌, ◌*◌, ◌-◌, length}
use Rattle.readings.proofs.Readers.{Grown, Summed}
use Rattle.paper.proofs.sums.+factor_product_sum.Given as goal

abbrev pub decreases-factor : goal.decreases-factor
decreases-factor l = 3 * l.left

abbrev pub decreases-product : goal.decreases-product
decreases-product l = 3 * l.left + 1

abbrev pub decreases-sum : goal.decreases-sum
decreases-sum l = 3 * l.left + 2

abbrev pub invariant-product-loop-out : goal.invariant-product-loop-out
invariant-product-loop-out l = Grown l.text l.left l.initial.p l.initial.m l.initial.out l.p l.m l.out

abbrev pub decreases-product-loop-out : goal.decreases-product-loop-out
decreases-product-loop-out l = length l.text - l.p

abbrev pub invariant-sum-loop-out : goal.invariant-sum-loop-out
invariant-sum-loop-out l = Summed l.text l.left l.initial.p l.initial.m l.initial.out l.p l.m l.out

abbrev pub decreases-sum-loop-out : goal.decreases-sum-loop-out
decreases-sum-loop-out l = length l.text - l.p
