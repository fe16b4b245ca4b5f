use Rattle.std.proofs.Common.{sym, ◌∙◌, arith, length-take-le}
use Rattle.lines.proofs.FieldLaws.{one_field, two_fields, three_bad, three_value}
use Rattle.lines.proofs.commands.read.Goals as goal

pub returns-then-line-first : goal.returns-then-line-first
returns-then-line-first c = let e = c.args in one_field e.line.now e.bytes.now (omega (arith, c.field_end-first.ensures))

pub slice_bounds-name-end : goal.slice_bounds-name-end
slice_bounds-name-end c = sym (length-take-le c.field_end-first.result c.args.line.now (omega arith))

pub returns-then-line-second : goal.returns-then-line-second
returns-then-line-second c = let e = c.args in rw (
  c.command_of_two.ensures,
  c.number_to-number.ensures,
) (two_fields e.line.now c.field_end-first.result c.field_end-first.ensures (omega arith) c.field_end-second.result c.field_end-second.ensures e.bytes.now (omega arith))

pub returns-in_default : goal.returns-in_default
returns-in_default c = let e = c.args in three_bad e.line.now c.field_end-first.result c.field_end-first.ensures (omega arith) c.field_end-second.result c.field_end-second.ensures e.bytes.now (omega arith) (sym c.number_to-number.ensures ∙ c.in_default.is)

pub returns : goal.returns
returns c = let e = c.args in c.read_rx.ensures ∙ three_value e.line.now c.field_end-first.result c.field_end-first.ensures (omega arith) c.field_end-second.result c.field_end-second.ensures e.bytes.now _ (omega arith) (sym c.number_to-number.ensures ∙ c.in-Some.is)
