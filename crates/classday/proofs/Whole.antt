-- THE PROGRAM: every run of it, however the input comes in pieces, writes the sheet of the class script that was read. Assumes nothing.
use Rattle.std.proofs.Common.{ℕ, List, arith}
use Rattle.history.specs.Calls.{Start}
use Rattle.pass.specs.Pass.{Passing}
use Rattle.pass.specs.Run.{EveryRun, EveryRunOf, PrintsBy}
use Rattle.pass.specs.Sheets.{sheet_by}
use Rattle.pass.proofs.Whole.{every_program}
use Rattle.pass.proofs.Starting.{own_run}
use Rattle.classday.specs.Sheet.{class_words, class_sheet_of}
use Rattle.classday.specs.Whole.{ProgramPrints}
use Rattle.classday.proofs.Words.{class_fair}

pub every_run : EveryRun 8192 class_words
every_run = every_program 8192 class_words (omega arith) class_fair

as_class : (s : Start) (read wrote : List ℕ) (after : Passing) → PrintsBy (sheet_by class_words s) read wrote after
    → PrintsBy (class_sheet_of s) read wrote after
unfolding class_sheet_of
as_class s read wrote after p = record { front = p.front; whole = p.whole }

prints_class : EveryRunOf 8192 class_words class_sheet_of
prints_class s ok m e r turns read wrote after run small =
    as_class s read wrote after (every_run s ok m e r turns read wrote after run small)

-- THEOREM: so does the program's own run
pub program_prints : ProgramPrints
program_prints = own_run 8192 class_words class_sheet_of prints_class
