use mathlib.Core.Path.{◌∙◌}
use Rattle.packet.proofs.FeedLaws.{run_of, least_is}
use Rattle.packet.proofs.frame.run_length.Goals as goal

pub returns : goal.returns
returns c = run_of _ _ _ _ _ c.requires.1 c.requires.2 c.wanted.ensures (c.min.ensures ∙ least_is _ _)
