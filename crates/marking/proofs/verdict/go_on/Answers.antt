use Rattle.packet.specs.Names.{bytes_of}
use Rattle.marking.proofs.VerdictLaws.{open_on, open_told}
use Rattle.marking.proofs.verdict.go_on.Goals as goal

pub agrees_at-requires : goal.agrees_at-requires
agrees_at-requires c = tt

pub wrapping_add_usize-requires : goal.wrapping_add_usize-requires
wrapping_add_usize-requires c = tt

pub returns-then-agrees_at : goal.returns-then-agrees_at
returns-then-agrees_at c = open_on c.args.matched c.args.at c.args.answer.now c.args.part.now c.args.text.now _ c.agrees_at.ensures _ c.if-agrees_at.true c.wrapping_add_usize.ensures.value

pub least-front-requires : goal.least-front-requires
least-front-requires c = tt

pub put-requires : goal.put-requires
put-requires c = tt

pub returns : goal.returns
unfolding bytes_of
returns c = open_told c.args.matched c.args.at c.args.answer.now c.args.part.now c.args.text.now _ c.agrees_at.ensures _ _ _ c.if-agrees_at.false c.least-front.ensures.2 c.put.ensures
