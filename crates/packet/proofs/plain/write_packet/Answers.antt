use native.Mathlib.Omega.{arith}
use mathlib.Core.Path.{refl, ◌∙◌}
use lib.ListN.{length-set}
use Rattle.packet.specs.Packet.{left_in}
use Rattle.packet.proofs.PacketLaws.{stored_packet, refused_kind, refused_long, refused_room, accepted}
use Rattle.packet.proofs.plain.write_packet.Goals as goal

pub returns-then-kind-gt17 : goal.returns-then-kind-gt17
unfolding left_in
returns-then-kind-gt17 c = record { value = refused_kind _ _ _ (omega arith); out_after = refl }

pub returns-then-info-gt2047 : goal.returns-then-info-gt2047
unfolding left_in
returns-then-info-gt2047 c = record { value = refused_long _ _ _ (omega arith) (omega arith); out_after = refl }

pub returns-then-out-size : goal.returns-then-out-size
unfolding left_in
returns-then-out-size c = record { value = refused_room _ _ _ (omega arith) (omega arith) (omega arith); out_after = refl }

pub bounds-out-1 : goal.bounds-out-1
bounds-out-1 c = simp length-set (omega arith)

pub returns : goal.returns
unfolding left_in
returns c =
    let e = c in
    record {
      value = accepted _ _ _ (omega arith) (omega arith) (omega arith);
      out_after = c.store.ensures.to_after ∙ stored_packet e.args.kind e.args.info.now e.args.out.now (omega arith);
    }
