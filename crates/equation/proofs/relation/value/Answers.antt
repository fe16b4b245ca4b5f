-- `equation::relation::value` meets its contract. Assumes nothing.
use Rattle.std.proofs.Common.{arith, rules, length}
use Rattle.std.proofs.lemmas.Iterator.Adapters.{YieldsList-from_rev_slice}
use Rattle.std.proofs.lemmas.Iterator.Consumers.{YieldsList-turn, YieldsList-end}
use Rattle.std.proofs.lemmas.List.{length_push}
use Rattle.equation.proofs.RelationLaws as numbers
use Rattle.equation.proofs.relation.value.Goals as goal

pub loop-b-init : goal.loop-b-init
loop-b-init c = numbers.value_none c.args.bytes.now

pub overflow_mul-v : goal.overflow_mul-v
overflow_mul-v c =
    let t = YieldsList-turn (YieldsList-from_rev_slice c.args.bytes.now (search rules)) c.loop-b.yielded _ c.loop-b.yielded_by _ _ c.in-Some.b c.in-Some.is c.next.ensures.steps in
    omega (arith, numbers.value_small c.args.bytes.now (length c.loop-b.yielded) c.loop-b.v c.in-Some.b.now c.loop-b.invariant t c.requires (λ k. omega (arith, c.type_inv.bytes k)))

pub overflow_add-v : goal.overflow_add-v
overflow_add-v c =
    let t = YieldsList-turn (YieldsList-from_rev_slice c.args.bytes.now (search rules)) c.loop-b.yielded _ c.loop-b.yielded_by _ _ c.in-Some.b c.in-Some.is c.next.ensures.steps in
    omega (arith, numbers.value_small c.args.bytes.now (length c.loop-b.yielded) c.loop-b.v c.in-Some.b.now c.loop-b.invariant t c.requires (λ k. omega (arith, c.type_inv.bytes k)))

pub loop-b-preserved : goal.loop-b-preserved
loop-b-preserved c =
    let t = YieldsList-turn (YieldsList-from_rev_slice c.args.bytes.now (search rules)) c.loop-b.yielded _ c.loop-b.yielded_by _ _ c.in-Some.b c.in-Some.is c.next.ensures.steps in
    rw (length_push c.loop-b.yielded c.in-Some.b, c.from.ensures) (numbers.value_more c.args.bytes.now (length c.loop-b.yielded) c.loop-b.v c.in-Some.b.now c.loop-b.invariant t)

pub returns : goal.returns
returns c =
    let t = YieldsList-end (YieldsList-from_rev_slice c.args.bytes.now (search rules)) c.loop-b.yielded _ c.loop-b.yielded_by _ _ c.in-None.is c.next.ensures.steps in
    numbers.value_all c.args.bytes.now (length c.loop-b.yielded) c.loop-b.v c.loop-b.invariant t.1
