use mathlib.Core.Path.{◌∙◌}
use Rattle.tested.proofs.Tested.{loses}
use Rattle.tested.proofs.lose.Goals as goal

pub returns : goal.returns
returns c = c.lose.ensures ∙ loses _ _ _ c.is_sound-sound.ensures _
