use mathlib.Core.Path.{ap, ◌∙◌}
use mathlib.Core.List.{map}
use Prim.Native.Nat.{ℕ}
use native.Mathlib.Omega.{arith}
use lib.Dec.{eqb}
use lib.ListN.{get_or}
use Rattle.names.specs.Names.{items, small}
use Rattle.packet.specs.Names.{bytes_of}
use Rattle.text.specs.Match.{lower}
use Rattle.names.proofs.RowLaws as laws
use Rattle.names.proofs.table.shares_a_letter.Goals as goal

pub returns-then-text-eq0 : goal.returns-then-text-eq0
returns-then-text-eq0 c = let a = c.args in laws.nothing_shared _ a.text.now (omega arith)

pub returns : goal.returns
unfolding items small bytes_of laws.first_of lower
returns c =
    let a = c.args in
    ap (λ (b : ℕ). eqb b (get_or (map laws.first_of items) a.k 0)) c.lowered.ensures
    ∙ laws.first_shared a.k a.text.now (omega arith) (omega arith)
