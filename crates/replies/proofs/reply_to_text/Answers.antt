use mathlib.Core.Path.{◌∙◌}
use native.Mathlib.Omega.{arith}
use Rattle.replies.proofs.ReplyLaws as laws
use Rattle.replies.proofs.SaidLaws as said
use Rattle.replies.proofs.reply_to_text.Goals as goal

pub print-requires : goal.print-requires
print-requires c =
    let b = c.blank_line-buffer in
    let p = c.paper_line-n in
    omega (
      arith,
      p.ensures.value,
      p.auto.out,
      b.ensures,
      said.said_fits c.args.equation.now
          (omega (arith, c.well_formed.0.1)),
    )

pub returns : goal.returns
returns c =
    let b = c.blank_line-buffer in
    let p = c.paper_line-n in
    let q = c.print in
    q.ensures
    ∙ laws.print_line b.result _ p.new.out
    c.args.text.now p.result p.ensures.value
    (omega (
      arith,
      b.ensures,
      said.said_fits c.args.equation.now
          (omega (arith, c.well_formed.0.1)),
    )) p.ensures.out_after
