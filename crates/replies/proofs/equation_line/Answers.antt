use Rattle.std.proofs.Common.{Ok, Err}
use mathlib.Core.Path.{sym, ap, ◌∙◌}
use Rattle.refusal.specs.Refusal.{numbered}
use native.Mathlib.Omega.{arith}
use lib.Seq.{length-take-le}
use Rattle.packet.specs.Names.{bytes_of}
use Rattle.replies.proofs.SaidLaws as said
use Rattle.replies.specs.Reply.{told_of}
use Rattle.replies.proofs.equation_line.Goals as goal

pub slice_bounds-text-end : goal.slice_bounds-text-end
slice_bounds-text-end c =
    omega (
      arith,
      said.text_fits c.args.equation.now
          (numbered c.to_text.result)
          c.in-Ok-Text.n c.to_text.new.out c.to_text.ensures
          (ap numbered c.in-Ok-Text.is ∙ ap Ok c.in-Ok-Text.field-0-is),
      c.to_text.auto.out,
    )

pub slice_bounds-text_line-end : goal.slice_bounds-text_line-end
slice_bounds-text_line-end c =
    sym (length-take-le c.in-Ok-Text.n c.to_text.new.out
    (omega (
      arith,
      said.text_fits c.args.equation.now
          (numbered c.to_text.result) c.in-Ok-Text.n
          c.to_text.new.out c.to_text.ensures
          (ap numbered c.in-Ok-Text.is ∙ ap Ok c.in-Ok-Text.field-0-is),
      c.to_text.auto.out,
    )))

pub text_line-requires : goal.text_line-requires
text_line-requires c = (
  omega (
    arith,
    said.text_fits c.args.equation.now
        (numbered c.to_text.result) c.in-Ok-Text.n
        c.to_text.new.out c.to_text.ensures
        (ap numbered c.in-Ok-Text.is ∙ ap Ok c.in-Ok-Text.field-0-is),
    length-take-le c.in-Ok-Text.n c.to_text.new.out
        (omega (
          arith,
          said.text_fits c.args.equation.now
              (numbered c.to_text.result) c.in-Ok-Text.n
              c.to_text.new.out c.to_text.ensures
              (ap numbered c.in-Ok-Text.is ∙ ap Ok c.in-Ok-Text.field-0-is),
          c.to_text.auto.out,
        )),
  ),
  c.requires,
)

pub returns-in-Ok-Text : goal.returns-in-Ok-Text
unfolding told_of bytes_of
returns-in-Ok-Text c =
    rw (said.told_as c.args.equation.now
    (numbered c.to_text.result) _
    c.to_text.new.out
    c.to_text.ensures
    (ap numbered c.in-Ok-Text.is ∙ ap Ok c.in-Ok-Text.field-0-is)) (record { value = c.text_line.ensures.value; out_after = c.text_line.ensures.out_after })

pub returns-in-Err : goal.returns-in-Err
unfolding told_of bytes_of
returns-in-Err c =
    rw (said.told_as c.args.equation.now
    (numbered c.to_text.result) _
    c.to_text.new.out
    c.to_text.ensures (ap numbered c.in-Err.is ∙ ap Err (sym c.from.ensures)))
    (record { value = c.refused_by.ensures.value; out_after = c.refused_by.ensures.out_after })

pub returns-in-Ok-Mark : goal.returns-in-Ok-Mark
unfolding told_of bytes_of
returns-in-Ok-Mark c =
    rw (said.told_as c.args.equation.now
    (numbered c.to_text.result) _
    c.to_text.new.out
    c.to_text.ensures (ap numbered c.in-Ok-Mark.is ∙ ap Ok c.in-Ok-Mark.field-0-is))
    (record { value = c.refused_line.ensures.value; out_after = c.refused_line.ensures.out_after })

pub returns-in-Ok-Deeper : goal.returns-in-Ok-Deeper
unfolding told_of bytes_of
returns-in-Ok-Deeper c =
    rw (said.told_as c.args.equation.now
    (numbered c.to_text.result) _
    c.to_text.new.out
    c.to_text.ensures (ap numbered c.in-Ok-Deeper.is ∙ ap Ok c.in-Ok-Deeper.field-0-is))
    (record { value = c.refused_line-in-Ok-Deeper.ensures.value; out_after = c.refused_line-in-Ok-Deeper.ensures.out_after })

pub returns-in-Ok-Bytes : goal.returns-in-Ok-Bytes
unfolding told_of bytes_of
returns-in-Ok-Bytes c =
    rw (said.told_as c.args.equation.now
    (numbered c.to_text.result) _
    c.to_text.new.out
    c.to_text.ensures (ap numbered c.in-Ok-Bytes.is ∙ ap Ok c.in-Ok-Bytes.field-0-is))
    (record { value = c.refused_line-in-Ok-Bytes.ensures.value; out_after = c.refused_line-in-Ok-Bytes.ensures.out_after })
