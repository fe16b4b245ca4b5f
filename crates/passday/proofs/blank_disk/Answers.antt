use Rattle.std.proofs.Common.{ℕ}
use lib.ListN.{length-replicate}
use Rattle.passday.proofs.blank_disk.Goals as goal

pub returns : goal.returns
returns c = length-replicate {A = ℕ} 32768 0
