-- A step of a line: one call of the server, as in `passday`, and what it prints, less the session, compared with the pupil's answer or put behind what
-- waits. Assumes nothing.
use Rattle.std.specs.Prelude.{ℕ, List, take}
use Rattle.server.specs.State.{Lent}
use Rattle.input.specs.Parts.{bytes_from}
use Rattle.script.specs.declared.Day.{Day}
use Rattle.script.specs.Day.{Stepping, step_of}
use Rattle.script.specs.Line.{room}
use Rattle.marking.specs.declared.verdict.Verdict.{Verdict}
use Rattle.marking.specs.declared.Marked.{Marked}
use Rattle.marking.specs.declared.Part.{Part}
use Rattle.marking.specs.Verdict.{Judges, judged_of}

-- the pupil's answer in the input
abbrev pub part_in : Part → List ℕ → List ℕ
part_in p input = bytes_from p.from p.to input

-- what a step answers, and what it leaves in the text
pub record Concludes : Type 0 where
  pub step : Marked
  pub text : List ℕ

abbrev pub concludes : Marked → List ℕ → Concludes
concludes r text = record { step = r; text = text }

abbrev pub step_to : Day → Judges → Marked
step_to day j = record { day = day; verdict = j.judged.verdict; written = j.judged.written }

abbrev pub concluded_of : Day → Judges → Concludes
concluded_of day j = concludes (step_to day j) j.text

-- and what it leaves of all that is lent
pub record Marking : Type 0 where
  pub step : Marked
  pub lent : Lent
  pub text : List ℕ

abbrev pub marking : Marked → Lent → List ℕ → Marking
marking r l text = record { step = r; lent = l; text = text }

-- what a step of the script printed
abbrev pub printed_by : Stepping → List ℕ
printed_by s = take s.stepped.written s.text

abbrev pub mark_by : Stepping → Judges → Marking
mark_by s j = marking (step_to s.stepped.day j) s.lent j.text

unfoldable pub mark_of : Day → Verdict → Lent → List ℕ → List ℕ → ℕ → List ℕ → Marking
mark_of day v l bytes answer at text =
    mark_by (step_of day l bytes room) (judged_of v answer (printed_by (step_of day l bytes room)) at text)
