use mathlib.Core.Path.{sym}
use Rattle.words.proofs.WhyLaws as laws
use Rattle.words.proofs.number_at.Goals as goal
use Rattle.words.proofs.number_at.Goals.{else-next-line-via-then-next-line+else-line-next-eq9, else-next-line-via-else-next-line}

pub returns-then-line-next-eq9 : goal.returns-then-line-next-eq9
returns-then-line-next-eq9 c =
    rw (← c.decimal.ensures, c.in_ok-v.was) (sym (laws.tab_follows c.args.line.now _ _ c.if-line-next-eq9.true))

pub returns-in_err-v : goal.returns-in_err-v
returns-in_err-v c =
    rw (c.from_residual.ensures, ← c.decimal.ensures, c.in_err-v.was) (sym (laws.no_digits c.args.line.now))

pub returns : goal.returns
returns c =
    let line = c.args.line.now in
    rw (← c.decimal.ensures, c.in_ok-v.was)
    (elim c.else-next-line.branch [
      | else-next-line-via-then-next-line+else-line-next-eq9 w ↦ sym (laws.no_tab line c.in_ok-v.v c.in_ok-v.next w.if-line-next-eq9.false)
      | else-next-line-via-else-next-line w ↦ sym (laws.no_byte line c.in_ok-v.v c.in_ok-v.next w.if-next-line.false)
    ])
