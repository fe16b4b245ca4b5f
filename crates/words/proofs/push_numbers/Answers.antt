use native.Mathlib.Omega.{arith}
use Rattle.words.proofs.PieceLaws as laws
use Rattle.words.proofs.push_numbers.Goals as goal

pub loop-v-init : goal.loop-v-init
loop-v-init c = laws.all_left c.args.out.now c.args.n c.args.named.now

pub push_number-to-requires : goal.push_number-to-requires
push_number-to-requires c =
    laws.number_fits c.args.out.now c.args.n c.args.named.now c.loop-v.out c.loop-v.to c.loop-v.v-index c.loop-v.invariant
    c.loop-v-test.true c.requires

pub loop-v-preserved : goal.loop-v-preserved
loop-v-preserved c =
    laws.number_put c.args.out.now c.args.n c.args.named.now c.loop-v.out c.loop-v.to c.loop-v.v-index c.loop-v.invariant
    c.loop-v-test.true _ _ c.push_number-to.auto.out c.push_number-to.ensures

pub shape_of-out : goal.shape_of-out
shape_of-out c = c.loop-v.invariant.size

pub returns : goal.returns
returns c =
    laws.none_left c.args.out.now c.args.n c.args.named.now c.loop-v.out c.loop-v.to c.loop-v.v-index c.loop-v.invariant
    c.loop-v-test.false
