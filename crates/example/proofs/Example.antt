-- The sheet of document 01's example script, computed from the definitions of the script program and of the server: it is what document 01 prints, but
-- for the number of free blocks, which is that of a server of 8. No theorem is used. Assumes nothing.
use mathlib.Core.Path.{◌≡◌, refl}
use Rattle.script.specs.Sheet.{sheet_of}
use Rattle.example.specs.Computing.{computing}
use Rattle.example.specs.Example.{server, script, printed}

pub example : sheet_of server script ≡ printed
unfolding computing
example = refl
