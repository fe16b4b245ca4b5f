use native.Mathlib.Omega.{arith}
use Rattle.words.proofs.Room as room
use Rattle.words.proofs.ReplyLaws as laws
use Rattle.words.proofs.print_paper.Goals as goal

pub print-requires : goal.print-requires
print-requires c = omega (arith, c.paper_line-n.ensures.end, c.paper_line-n.auto.out, c.blank_line-buffer.ensures, room.paper_fits c.args.disk.now c.args.owner.now c.args.table.now c.args.most c.args.number (omega (arith, c.well_formed)) c.args.equation.now (omega (arith, c.well_formed)))

pub returns : goal.returns
returns c =
    rw (← laws.print_pushed c.blank_line-buffer.result _ c.paper_line-n.new.out c.args.text.now c.paper_line-n.result
    (omega (arith, c.blank_line-buffer.ensures, room.paper_fits c.args.disk.now c.args.owner.now c.args.table.now c.args.most c.args.number (omega (arith, c.well_formed)) c.args.equation.now (omega (arith, c.well_formed)))) c.paper_line-n.ensures) c.print.ensures
