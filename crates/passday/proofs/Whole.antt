-- THE PROGRAM: every run of it, however the input comes in pieces, writes the sheet of the script that was read (specs/Run.antt). Assumes nothing.
use Rattle.std.proofs.Common.{◌≡◌, ℕ, List, arith, cond, refl}
use mathlib.Core.Option.{none, some}
use Rattle.history.specs.Calls.{Start}
use Rattle.script.specs.Line.{Ran}
use Rattle.script.specs.Sheet.{sheet_of}
use Rattle.input.specs.Input.{find_of}
use Rattle.script.specs.Doing.{rests_of}
use Rattle.pass.specs.declared.Pass.{Pass}
use Rattle.pass.specs.declared.Next.TheVariants as next
use Rattle.pass.specs.Pass as program
use Rattle.pass.specs.Pass.{Passing, unread, on_found}
use Rattle.pass.specs.Run.{PrintsBy}
use Rattle.pass.specs.Sheets.{no_more, Fair, sheet_by}
use Rattle.pass.proofs.SheetLaws.{no_more_law}
use Rattle.pass.proofs.Whole.{every_program}
use Rattle.pass.proofs.Starting.{own_run}
use Rattle.passday.specs.Pass.{writes_first, decide_of}
use Rattle.passday.specs.Run.{EveryRun}
use Rattle.passday.specs.Whole.{ProgramPrints}

-- what is due is to write first where that is said, and else the next step or line
decides : (p : Pass) (input : List ℕ) (size : ℕ)
    → decide_of p input size
    ≡ cond (writes_first p.stage p.filled size) next.Flush
    (cond (rests_of p.day.doing) (on_found (find_of (unread p input) p.ended) p.filled) next.Step)
decides p input size = unfold program.decide_of in refl

-- no words are fair
none_some : (r : Ran) → none ≡ some r → ⊥
none_some r e = let z : ◌≡◌ {A = ℕ} 0 1 = cc in omega arith

none_fair : Fair 560 no_more
none_fair =
    record {
      short = λ day l line r h e. absurd (none_some r e);
      good = λ day l line r g e. absurd (none_some r e);
      rests = λ day l line r g e. absurd (none_some r e);
    }

as_sheet : (s : Start) (read wrote : List ℕ) (after : Passing) → PrintsBy (sheet_by no_more s) read wrote after → PrintsBy (sheet_of s) read wrote after
as_sheet s read wrote after p =
    record { front = λ rest f. rw (← no_more_law s _) (p.front rest f); whole = λ rest f e. rw (← no_more_law s _) (p.whole rest f e) }

-- THEOREM
pub every_run : EveryRun
every_run s ok m e r turns read wrote after run small =
    as_sheet s read wrote after (every_program 560 no_more (omega arith) none_fair s ok m e r turns read wrote after run small)

-- THEOREM: so does the program's own run
pub program_prints : ProgramPrints
program_prints = own_run 560 no_more sheet_of every_run
