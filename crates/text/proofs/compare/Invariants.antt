use mathlib.Core.Path.{◌≡◌}
use Prim.Native.Nat.{◌+◌}
use lib.ListN.{length}
use Rattle.std.specs.Iterator.Adapters.{zip_first, zip_second}
use Rattle.std.specs.Slice.Iter.{iter_rest}
use Rattle.text.specs.Steps.{fitting}
use Rattle.text.specs.Comparisons.{compared}
use Rattle.text.proofs.compare.Given as goal

abbrev pub invariant-loop-p : goal.invariant-loop-p
invariant-loop-p l =
    let ps = iter_rest (zip_first l.p-iterator) in
    let ts = iter_rest (zip_second l.p-iterator) in record {
      fits : l.run.fitting + length ps ≡ length l.pattern;
      counts : l.run.compared ≡ l.run.fitting;
      fitting_on : fitting l.pattern l.text ≡ l.run.fitting + fitting ps ts;
      compared_on : compared l.pattern l.text ≡ l.run.fitting + compared ps ts;
    }
