use Rattle.refusal.specs.Refusal.{numbered}
use Rattle.sending.specs.Sending.{data_of}
use Rattle.sending.proofs.SendLaws.{zeros, zeros_length, front_within, front_length, data_sent}
use Rattle.sending.proofs.send_data.Goals as goal

pub slice_bounds-read-end : goal.slice_bounds-read-end
slice_bounds-read-end c = zeros_length c.args.n c.requires.0

pub slice_bounds-info-end-2 : goal.slice_bounds-info-end-2
slice_bounds-info-end-2 c = front_within c.args.n c.read.new.out c.requires.0 c.read.auto.out

pub slice_bounds-write_packet-end : goal.slice_bounds-write_packet-end
slice_bounds-write_packet-end c = front_length c.args.n c.read.new.out c.requires.0 c.read.auto.out

pub returns : goal.returns
unfolding data_of
returns c = let e = c in let w = c.write_packet in rw (c.with_down.ensures, data_sent e.args.n c.read.new.out e.requires.0 c.read.auto.out e.args.out.now w.new.out (numbered w.result) e.requires.1 w.ensures.value w.ensures.out_after, c.read.ensures.out_after, zeros e.args.n 256 e.requires.0)
