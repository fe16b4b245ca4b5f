-- `equation::tokens::read_relation` meets its contract. Assumes nothing.
use mathlib.Core.Path.{sym, ◌∙◌}
use Prim.Native.Nat.{◌+◌}
use native.Mathlib.Omega.{arith}
use lib.ListN.{get_or}
use Rattle.equation.proofs.TokenLaws as tokens
use Rattle.equation.proofs.tokens.read_relation.Goals as goal

pub returns-then-eq-at-lt4 : goal.returns-then-eq-at-lt4
returns-then-eq-at-lt4 c = tokens.relation_short c.args.eq.now c.args.at (get_or c.args.eq.now c.args.at 0) c.if-eq-at-lt4.true

pub overflow_cast-n : goal.overflow_cast-n
overflow_cast-n c = omega (arith, c.type_inv.eq (c.args.at + 3))

pub returns-then-eq-start : goal.returns-then-eq-start
returns-then-eq-start c = tokens.relation_over c.args.eq.now c.args.at (get_or c.args.eq.now c.args.at 0) c.number16-id.result (omega arith) c.number16-id.ensures c.if-eq-start.true

pub returns-then-good_relation : goal.returns-then-good_relation
returns-then-good_relation c = tokens.relation_good c.args.eq.now c.args.at (get_or c.args.eq.now c.args.at 0) c.number16-id.result (omega arith) c.number16-id.ensures c.if-eq-start.false (sym c.good_relation.ensures ∙ c.if-good_relation.true)

pub returns-else-good_relation : goal.returns-else-good_relation
returns-else-good_relation c = tokens.relation_bad c.args.eq.now c.args.at (get_or c.args.eq.now c.args.at 0) c.number16-id.result (omega arith) c.number16-id.ensures c.if-eq-start.false (sym c.good_relation.ensures ∙ c.if-good_relation.false)
