use mathlib.Core.Path.{◌∙◌}
use Rattle.tested.proofs.Tested.{requests}
use Rattle.tested.proofs.request.Goals as goal

pub returns : goal.returns
returns c = c.request.ensures ∙ requests _ _ _ c.is_sound-sound.ensures _ _
