use Rattle.std.proofs.Common.{ltb, sym, ◌∙◌}
use Rattle.lines.proofs.PairLaws.{digits_most, digits_done}
use Rattle.lines.proofs.numeral.has_digits.Goals as goal

pub loop-b-preserved : goal.loop-b-preserved
loop-b-preserved c =
    let l = c.loop-b in
    l.invariant ∙ digits_most c.args.digits.now l.b-index l.most c.hex_value.result c.loop-b-test.true c.hex_value.ensures c.max-most.result c.max-most.ensures

pub returns : goal.returns
returns c = let l = c.loop-b in sym (l.invariant ∙ digits_done c.args.digits.now l.b-index (ltb l.most 16) c.loop-b-test.false)
