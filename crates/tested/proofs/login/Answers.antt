use mathlib.Core.Path.{◌∙◌}
use Rattle.tested.proofs.Tested.{logs_in}
use Rattle.tested.proofs.login.Goals as goal

pub returns : goal.returns
returns c = c.login.ensures ∙ logs_in _ _ _ c.is_sound-sound.ensures _ _ _
