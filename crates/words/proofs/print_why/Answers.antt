use native.Mathlib.Omega.{arith}
use Rattle.words.proofs.Room as room
use Rattle.words.proofs.ReplyLaws as laws
use Rattle.words.proofs.print_why.Goals as goal

pub print-requires : goal.print-requires
print-requires c = omega (arith, c.why_line-n.ensures.end, c.why_line-n.auto.out, c.blank_line-buffer.ensures, room.why_fits c.args.disk.now c.args.owner.now c.args.table.now c.args.most c.args.number (omega (arith, c.well_formed)) c.args.equation.now)

pub returns : goal.returns
returns c =
    rw (← laws.print_pushed c.blank_line-buffer.result _ c.why_line-n.new.out c.args.text.now c.why_line-n.result
    (omega (arith, c.blank_line-buffer.ensures, room.why_fits c.args.disk.now c.args.owner.now c.args.table.now c.args.most c.args.number (omega (arith, c.well_formed)) c.args.equation.now)) c.why_line-n.ensures) c.print.ensures
