use mathlib.Core.Path.{◌∙◌}
use native.Mathlib.Omega.{arith}
use Rattle.replies.proofs.ReplyLaws as laws
use Rattle.replies.proofs.SaidLaws as said
use Rattle.replies.proofs.reply_to_bytes.Goals as goal

pub print-requires : goal.print-requires
print-requires c =
    let b = c.blank_line-buffer in
    let p = c.equation_line-n in
    omega (
      arith,
      p.ensures.value,
      p.auto.out,
      b.ensures,
      said.told_fits c.args.equation.now,
    )

pub returns : goal.returns
returns c =
    let b = c.blank_line-buffer in
    let p = c.equation_line-n in
    let q = c.print in
    q.ensures
    ∙ laws.print_line b.result _ p.new.out
    c.args.text.now p.result p.ensures.value
    (omega (
      arith,
      b.ensures,
      said.told_fits c.args.equation.now,
    )) p.ensures.out_after
