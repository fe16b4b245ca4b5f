use mathlib.Core.Path.{sym}
use lib.Seq.{length-take-le}
use Rattle.replies.proofs.ReplyLaws as laws
use Rattle.replies.proofs.print.Goals as goal

pub returns-then-text-n : goal.returns-then-text-n
returns-then-text-n c =
    let a = c.args in
    laws.print_none a.buffer.now a.text.now a.n c.requires c.if-text-n.true

pub slice_bounds-store-end : goal.slice_bounds-store-end
slice_bounds-store-end c =
    let a = c.args in
    sym (length-take-le a.n a.buffer.now c.requires)

pub returns : goal.returns
returns c =
    let a = c.args in
    let s = c.store in
    laws.print_whole a.buffer.now a.text.now s.new.to a.n c.requires
    c.if-text-n.false s.ensures.to_after
