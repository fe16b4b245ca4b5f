use mathlib.Core.Path.{refl}
use Rattle.packet.specs.Frame.{without_packet}
use Rattle.packet.proofs.frame.without_packet.Goals as goal

pub returns : goal.returns
unfolding without_packet
returns c = refl
