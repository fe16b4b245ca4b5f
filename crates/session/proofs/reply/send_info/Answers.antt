use native.Mathlib.Omega.{arith}
use Rattle.packet.specs.Packet.{left_in}
use Rattle.packet.proofs.PacketLaws.{accepted}
use Rattle.session.proofs.reply.send_info.Goals as goal

pub returns : goal.returns
unfolding left_in
returns c = let w = c.write_packet in let e = c in rw (w.ensures.out_after, w.ensures.value, ← accepted e.args.kind e.args.info.now e.args.out.now (omega arith) (omega arith) (omega arith))
