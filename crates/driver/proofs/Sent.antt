-- The driver of Worked.antt is sent the file that it uploaded: by the theorems. Assumes nothing.
use mathlib.Core.Path.{◌≡◌}
use mathlib.Core.List.{◌∷◌, ◌++◌}
use lib.ListN.{replicate}
use Rattle.cases.specs.Packets.{complete_as}
use Rattle.cases.specs.Pass.{pump}
use Rattle.driver.specs.Driver.{asked, answered, reached}
use Rattle.driver.proofs.Driving.{every_driver, every_make, driver_plays}
use Rattle.driver.proofs.Worked.{small, words, two, calls, sends_file}

pub file_sent : (answered (reached small words calls) (asked pump two)).out ≡ 80 ∷ 0 ∷ complete_as 1 4 ++ replicate 176 0
file_sent = sends_file every_driver every_make driver_plays
