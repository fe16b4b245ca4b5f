use Rattle.std.proofs.Common.{ℕ}
use lib.ListN.{length-replicate}
use Rattle.passday.proofs.blank_input.Goals as goal

pub returns : goal.returns
returns c = length-replicate {A = ℕ} 262144 0
