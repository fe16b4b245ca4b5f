use Rattle.std.proofs.Common.{ℕ}
use lib.ListN.{length-replicate}
use Rattle.classday.proofs.blank_text.Goals as goal

pub returns : goal.returns
returns c = length-replicate {A = ℕ} 65536 0
