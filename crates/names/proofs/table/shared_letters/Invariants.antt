use mathlib.Core.Path.{◌≡◌}
use mathlib.Core.List.{map}
use Prim.Native.Nat.{◌+◌}
use lib.ListN.{length}
use Rattle.std.specs.Iterator.Adapters.{zip_first, zip_second}
use Rattle.std.specs.Slice.Iter.{iter_rest}
use Rattle.text.specs.Match.{lower}
use Rattle.names.specs.Rows.{shared}
use Rattle.names.proofs.table.shared_letters.Given as goal

abbrev pub invariant-loop-letter : goal.invariant-loop-letter
invariant-loop-letter l =
    let name = iter_rest (zip_first l.letter-iterator) in
    let text = iter_rest (zip_second l.letter-iterator) in record {
      passed : l.same + length name ≡ length l.letters;
      shares : shared (map lower l.letters) l.text ≡ l.same + shared (map lower name) text;
    }
