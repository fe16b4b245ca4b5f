use native.Mathlib.Omega.{arith}
use Rattle.std.proofs.Common.{Ok}
use mathlib.Core.Path.{sym, ap, ◌∙◌}
use Rattle.refusal.specs.Refusal.{numbered}
use lib.Seq.{length-take-le}
use Rattle.replies.proofs.SaidLaws as said
use Rattle.words.specs.Why.{ask_in}
use Rattle.words.proofs.ReplyLaws as laws
use Rattle.words.proofs.paper_line.Goals as goal

pub slice_bounds-bytes-end : goal.slice_bounds-bytes-end
slice_bounds-bytes-end c = omega (arith, said.bytes_fit c.args.equation.now (numbered c.to_bytes.result) c.in-Ok-Bytes.n c.to_bytes.new.out c.to_bytes.ensures (ap numbered c.in-Ok-Bytes.is ∙ ap Ok c.in-Ok-Bytes.field-0-is), c.to_bytes.auto.out)

pub slice_bounds-why_line-end : goal.slice_bounds-why_line-end
slice_bounds-why_line-end c = sym (length-take-le c.in-Ok-Bytes.n c.to_bytes.new.out (omega (arith, said.bytes_fit c.args.equation.now (numbered c.to_bytes.result) c.in-Ok-Bytes.n c.to_bytes.new.out c.to_bytes.ensures (ap numbered c.in-Ok-Bytes.is ∙ ap Ok c.in-Ok-Bytes.field-0-is), c.to_bytes.auto.out)))

pub returns-in-Ok-Bytes : goal.returns-in-Ok-Bytes
returns-in-Ok-Bytes c =
    rw (laws.paper_as (ask_in c.args.disk.now c.args.owner.now c.args.table.now c.args.most c.args.number) c.args.equation.now (numbered c.to_bytes.result) _ c.to_bytes.new.out c.to_bytes.ensures (ap numbered c.in-Ok-Bytes.is ∙ ap Ok c.in-Ok-Bytes.field-0-is))
    c.why_line.ensures

pub returns-in-Ok-Wrong : goal.returns-in-Ok-Wrong
returns-in-Ok-Wrong c =
    rw (laws.paper_as (ask_in c.args.disk.now c.args.owner.now c.args.table.now c.args.most c.args.number) c.args.equation.now (numbered c.to_bytes.result) _ c.to_bytes.new.out c.to_bytes.ensures (ap numbered c.in-Ok-Wrong.is ∙ ap Ok c.in-Ok-Wrong.field-0-is))
    c.wrong_line.ensures

pub returns-in-Ok-Long : goal.returns-in-Ok-Long
returns-in-Ok-Long c =
    rw (laws.paper_as (ask_in c.args.disk.now c.args.owner.now c.args.table.now c.args.most c.args.number) c.args.equation.now (numbered c.to_bytes.result) _ c.to_bytes.new.out c.to_bytes.ensures (ap numbered c.in-Ok-Long.is ∙ ap Ok c.in-Ok-Long.field-0-is))
    c.wrong_line-in-Ok-Long.ensures

pub returns-in-Err : goal.returns-in-Err
returns-in-Err c =
    rw (laws.paper_as (ask_in c.args.disk.now c.args.owner.now c.args.table.now c.args.most c.args.number) c.args.equation.now (numbered c.to_bytes.result) _ c.to_bytes.new.out c.to_bytes.ensures (ap numbered c.in-Err.is))
    c.wrong_line-in-Err.ensures
