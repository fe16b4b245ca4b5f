-- WHAT THE PROGRAMS `desk` AND `sheet` WRITE: at every time a front of the desk's output for the answer sheet that is read, or of the right sheet of the
-- script that is read (Rattle.marking.specs.Desk), and in the end all of it. The theorems are in proofs/Whole.antt. Assumes nothing.
use Rattle.std.specs.Prelude.{◌≡◌, true, List, ◌++◌, ℕ, ◌<◌, ◌^◌, length}
use Rattle.history.specs.Calls.{Start, legal, made}
use Rattle.input.specs.Turns.{Front}
use Rattle.marking.specs.declared.Kind.{Kind}
use Rattle.marking.specs.Desk.{output_of}
use Rattle.sitting.specs.declared.turn.Stage.TheVariants as stage
use Rattle.sitting.specs.Turn.{Memory, State, new_of}
use Rattle.sitting.specs.Run.{Run, HasRoom, MayFollow}
use Rattle.sitting.specs.Whole.{start_of, Sat}

pub record Prints (k : Kind) (s : Start) (read wrote : List ℕ) (after : State) : Type 0 where
  -- at any time what was written is the front of the output, whatever is still to be read
  pub front : (rest : List ℕ) → MayFollow after.sitting rest → Front wrote (output_of k s (read ++ rest))
  -- and where the program is done, it is all of it
  pub whole : (rest : List ℕ) → MayFollow after.sitting rest → after.sitting.stage ≡ stage.Done → wrote ≡ output_of k s (read ++ rest)

-- for every way in which the input comes in pieces and every server just made
abbrev pub EveryRun : Type 0
EveryRun =
    (k : Kind) (s : Start) → legal s ≡ true → (m : Memory) → m.lent ≡ (made s).lent → HasRoom m
    → (turns : ℕ) (read wrote : List ℕ) (after : State) → Run (new_of k (made s).server) m turns read wrote after → length read < 2 ^ 63
    → Prints k s read wrote after

-- THE PROGRAMS: what their own run (`sit`, crates/sitting/src/lib.rt) writes is the output for the input that it read. `desk` is `sit` of the desk, `sheet` of the
-- right sheet.
abbrev pub ProgramPrints : Type 0
ProgramPrints =
    (k : Kind) (ran : Sat k) → length ran.played.read < 2 ^ 63
    → Prints k (start_of ran.memory.lent) ran.played.read ran.played.wrote ran.after
