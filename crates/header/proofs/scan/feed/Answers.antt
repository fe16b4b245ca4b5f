use Rattle.std.proofs.Common.{◌+◌, ◌-◌, length, drop, sym, ap, ◌∙◌, arith, length-drop, drop_of_length-le, take_all}
use borrow.Author.Tests.{not-true}
use Rattle.header.specs.Scan.{in_header, scan_from}
use Rattle.header.specs.declared.scan.Scan.{Scan}
use Rattle.header.proofs.Machine.{scan_step}
use Rattle.header.proofs.scan.feed.Goals as goal

pub feed_rest-requires : goal.feed_rest-requires
feed_rest-requires c = not-true (in_header c.loop-i.scan.phase) (sym c.ended.ensures ∙ c.if-ended.true)

pub returns-then-ended : goal.returns-then-ended
returns-then-ended c = c.feed_rest.ensures ∙ ap (scan_from c.loop-i.scan) (take_all (length c.args.part.now - c.loop-i.i) (drop c.loop-i.i c.args.part.now) (omega (arith, length-drop c.loop-i.i c.args.part.now))) ∙ c.loop-i.invariant

pub loop-i-preserved : goal.loop-i-preserved
loop-i-preserved c = ap (λ (z : Scan). scan_from z (drop (c.loop-i.i + 1) c.args.part.now)) c.step-scan.ensures ∙ sym (scan_step c.loop-i.scan c.args.part.now c.loop-i.i c.loop-i-test.true) ∙ c.loop-i.invariant

pub returns : goal.returns
unfolding scan_from
returns c = ap (scan_from c.loop-i.scan) (sym (drop_of_length-le c.args.part.now c.loop-i-test.false)) ∙ c.loop-i.invariant
