use Rattle.std.proofs.Common.{Ok, Err}
use mathlib.Core.Path.{sym, ap, ◌∙◌}
use Rattle.refusal.specs.Refusal.{numbered}
use native.Mathlib.Omega.{arith}
use lib.Seq.{length-take-le}
use Rattle.packet.specs.Names.{bytes_of}
use Rattle.replies.proofs.SaidLaws as said
use Rattle.replies.proofs.paper_line.Goals as goal

pub slice_bounds-bytes-end : goal.slice_bounds-bytes-end
slice_bounds-bytes-end c =
    omega (
      arith,
      said.bytes_fit c.args.equation.now
          (numbered c.to_bytes.result) c.in-Ok-Bytes.n c.to_bytes.new.out
          c.to_bytes.ensures (ap numbered c.in-Ok-Bytes.is ∙ ap Ok c.in-Ok-Bytes.field-0-is),
      c.to_bytes.auto.out,
    )

pub slice_bounds-bytes_line-end : goal.slice_bounds-bytes_line-end
slice_bounds-bytes_line-end c =
    sym (length-take-le c.in-Ok-Bytes.n c.to_bytes.new.out
    (omega (
      arith,
      said.bytes_fit c.args.equation.now
          (numbered c.to_bytes.result) c.in-Ok-Bytes.n
          c.to_bytes.new.out c.to_bytes.ensures
          (ap numbered c.in-Ok-Bytes.is ∙ ap Ok c.in-Ok-Bytes.field-0-is),
      c.to_bytes.auto.out,
    )))

pub bytes_line-requires : goal.bytes_line-requires
bytes_line-requires c = (
  omega (
    arith,
    said.bytes_fit c.args.equation.now
        (numbered c.to_bytes.result) c.in-Ok-Bytes.n
        c.to_bytes.new.out c.to_bytes.ensures
        (ap numbered c.in-Ok-Bytes.is ∙ ap Ok c.in-Ok-Bytes.field-0-is),
    length-take-le c.in-Ok-Bytes.n c.to_bytes.new.out
        (omega (
          arith,
          said.bytes_fit c.args.equation.now
              (numbered c.to_bytes.result) c.in-Ok-Bytes.n
              c.to_bytes.new.out c.to_bytes.ensures
              (ap numbered c.in-Ok-Bytes.is ∙ ap Ok c.in-Ok-Bytes.field-0-is),
          c.to_bytes.auto.out,
        )),
  ),
  c.requires,
)

pub returns-in-Ok-Bytes : goal.returns-in-Ok-Bytes
returns-in-Ok-Bytes c =
    rw (said.said_as c.args.equation.now
    (numbered c.to_bytes.result) _
    c.to_bytes.new.out
    c.to_bytes.ensures
    (ap numbered c.in-Ok-Bytes.is ∙ ap Ok c.in-Ok-Bytes.field-0-is)) (record { value = c.bytes_line.ensures.value; out_after = c.bytes_line.ensures.out_after })

pub returns-in-Ok-Wrong : goal.returns-in-Ok-Wrong
returns-in-Ok-Wrong c =
    rw (said.said_as c.args.equation.now
    (numbered c.to_bytes.result) _
    c.to_bytes.new.out
    c.to_bytes.ensures (ap numbered c.in-Ok-Wrong.is ∙ ap Ok c.in-Ok-Wrong.field-0-is))
    (record { value = c.wrong_line.ensures.value; out_after = c.wrong_line.ensures.out_after })

pub returns-in-Ok-Long : goal.returns-in-Ok-Long
unfolding bytes_of
returns-in-Ok-Long c =
    rw (said.said_as c.args.equation.now
    (numbered c.to_bytes.result) _
    c.to_bytes.new.out
    c.to_bytes.ensures (ap numbered c.in-Ok-Long.is ∙ ap Ok c.in-Ok-Long.field-0-is))
    (record { value = c.refused_line.ensures.value; out_after = c.refused_line.ensures.out_after })

pub returns-in-Err : goal.returns-in-Err
returns-in-Err c =
    rw (said.said_as c.args.equation.now
    (numbered c.to_bytes.result) _
    c.to_bytes.new.out
    c.to_bytes.ensures (ap numbered c.in-Err.is ∙ ap Err (sym c.from.ensures)))
    (record { value = c.refused_by.ensures.value; out_after = c.refused_by.ensures.out_after })
