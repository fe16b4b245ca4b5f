use mathlib.Core.Path.{◌∙◌}
use Rattle.tested.proofs.Tested.{receives}
use Rattle.tested.proofs.receive.Goals as goal

pub returns : goal.returns
returns c = c.receive.ensures ∙ receives _ _ _ c.is_sound-sound.ensures _ _ _ _
