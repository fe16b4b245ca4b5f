use native.Mathlib.Omega.{arith}
use mathlib.Core.Path.{sym, ◌∙◌}
use borrow.Author.Rules.{rules}
use Rattle.packet.proofs.FeedLaws.{more_short, feeds_on, feeds_stop, feeds_all}
use Rattle.packet.proofs.frame.feed.Goals as goal

pub returns-in_default : goal.returns-in_default
returns-in_default c = feeds_stop _ _ _ _ _ _ _ _ _ c.loop-i.invariant.3 c.run_length-k.ensures.1 (omega arith) c.run_length-k.ensures.0 (omega arith) c.store.ensures.to_after _ (sym c.mark_of.ensures) c.in_default.not-More

pub loop-i-preserved : goal.loop-i-preserved
loop-i-preserved c =
    let e = sym c.mark_of.ensures ∙ c.in-More.is in
    (more_short _ _ e, omega arith, search rules, feeds_on _ _ _ _ _ _ _ _ _ c.loop-i.invariant.3 c.run_length-k.ensures.1 (omega arith) c.run_length-k.ensures.0 (omega arith) c.store.ensures.to_after e)

pub returns : goal.returns
returns c = feeds_all _ _ _ _ _ _ c.loop-i.invariant.3 c.loop-i-test.false
