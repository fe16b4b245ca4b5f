use Rattle.std.proofs.Common.{◌+◌, drop, sym, ap, ◌∙◌, drop_of_length-le}
use borrow.Author.Tests.{not-true, not-false}
use Rattle.header.specs.Scan.{in_header, header_from}
use Rattle.header.specs.declared.scan.Scan.{Scan}
use Rattle.header.proofs.Machine.{header_stop, header_step}
use Rattle.header.proofs.scan.feed_header.Goals as goal

pub returns-then-ended : goal.returns-then-ended
returns-then-ended c = sym (header_stop c.loop-b.scan (drop c.loop-b.b-index c.args.part.now) (not-true (in_header c.loop-b.scan.phase) (sym c.ended.ensures ∙ c.if-ended.true))) ∙ c.loop-b.invariant

pub loop-b-preserved : goal.loop-b-preserved
loop-b-preserved c = ap (λ (z : Scan). header_from z (drop (c.loop-b.b-index + 1) c.args.part.now)) c.step-scan.ensures ∙ sym (header_step c.loop-b.scan c.args.part.now c.loop-b.b-index (not-false (in_header c.loop-b.scan.phase) (sym c.ended.ensures ∙ c.if-ended.false)) c.loop-b-test.true) ∙ c.loop-b.invariant

pub returns : goal.returns
unfolding header_from
returns c = ap (header_from c.loop-b.scan) (sym (drop_of_length-le c.args.part.now c.loop-b-test.false)) ∙ c.loop-b.invariant
