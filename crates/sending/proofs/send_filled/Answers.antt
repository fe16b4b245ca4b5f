-- `sending::send_filled` meets its contract. Assumes nothing.
use Rattle.refusal.specs.Refusal.{numbered}
use borrow.Author.Tests.{eq-eqb, ne_eqb}
use Rattle.sending.specs.Sending.{listed_as}
use Rattle.sending.proofs.SendLaws.{filled_length, filled_sent}
use Rattle.sending.proofs.send_filled.Goals as goal

pub returns-then-f-eq0 : goal.returns-then-f-eq0
unfolding listed_as
returns-then-f-eq0 c = rw (eq-eqb _ _ c.if-f-eq0.true, c.with_down.ensures, ← c.send.ensures)

pub slice_bounds-write_packet-end : goal.slice_bounds-write_packet-end
slice_bounds-write_packet-end c = filled_length c.args.f.size c.args.f.bytes c.requires.0 c.requires.1

pub returns : goal.returns
unfolding listed_as
returns c =
    let e = c in
    let w = c.write_packet in
    rw (
      ne_eqb _ _ c.if-f-eq0.false,
      c.with_down-2.ensures,
      filled_sent e.args.f.size e.args.f.bytes e.requires.0 e.requires.1 e.args.out.now w.new.out (numbered w.result) e.requires.2 w.ensures.value w.ensures.out_after,
    )
