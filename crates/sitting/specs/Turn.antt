-- A turn of the programs `desk` and `sheet`: a step of the line that is being run, the line's end, the next line, the last lines, more input, or output
-- written. What the C library's `read` brings and whether its `write` succeeds is not known beforehand. Assumes nothing.
use Rattle.std.specs.Prelude.{◌≡◌, ℕ, ◌+◌, ◌≤◌, Bool, true, false, cond, List, [], ◌++◌, length, take, ◌==◌, nat_lt}
use Rattle.server.specs.declared.Server.{Server}
use Rattle.server.specs.State.{Lent}
use Rattle.lines.specs.declared.commands.Command.{Command}
use Rattle.lines.specs.declared.commands.Command.TheVariants as command
use Rattle.lines.specs.Commands.{Reads, read_of}
use Rattle.lines.specs.Lines.{Printed}
use Rattle.input.specs.declared.Found.{Found}
use Rattle.input.specs.declared.Found.TheVariants as found
use Rattle.input.specs.Parts.{bytes_from, rest_of, least_of, wrapped}
use Rattle.input.specs.Input.{find_of, shift_of}
use Rattle.input.specs.Turns as turning
use Rattle.script.specs.declared.Day.{Day}
use Rattle.script.specs.declared.doing.Doing.{Doing}
use Rattle.script.specs.declared.doing.Doing.TheVariants as doing
use Rattle.script.specs.Doing.{rests_of}
use Rattle.script.specs.Day as script
use Rattle.script.specs.Day.{day_of}
use Rattle.marking.specs.declared.Kind.{Kind}
use Rattle.marking.specs.declared.Part.{Part}
use Rattle.marking.specs.declared.Marked.{Marked}
use Rattle.marking.specs.declared.verdict.Verdict.{Verdict}
use Rattle.marking.specs.declared.verdict.Verdict.TheVariants as verdict
use Rattle.marking.specs.declared.verdict.Judged.{Judged}
use Rattle.marking.specs.declared.verdict.Finished.{Finished}
use Rattle.marking.specs.Fields.{script_end}
use Rattle.marking.specs.Desk.{last_text, stop_text}
use Rattle.marking.specs.Put.{put_behind}
use Rattle.marking.specs.Verdict as judging
use Rattle.marking.specs.Verdict.{Judges, Finishes}
use Rattle.marking.specs.Step.{part_in, Marking, mark_of}
use Rattle.sitting.specs.declared.turn.Mark.{Mark}
use Rattle.sitting.specs.declared.turn.Sitting.{Sitting}
use Rattle.sitting.specs.declared.turn.Stage.{Stage}
use Rattle.sitting.specs.declared.turn.Stage.TheVariants as stage
use Rattle.sitting.specs.declared.turn.Next.{Next}
use Rattle.sitting.specs.declared.turn.Next.TheVariants as next

-- ---- what is lent to the turns: the server's slices, the input, the bytes of an `rx` line, and the text that waits to be written

pub record Memory : Type 0 where
  pub lent : Lent
  pub input : List ℕ
  pub bytes : List ℕ
  pub text : List ℕ

abbrev pub memory : Lent → List ℕ → List ℕ → List ℕ → Memory
memory l input bytes text = record { lent = l; input = input; bytes = bytes; text = text }

-- a sitting between two turns, and its memory
pub record State : Type 0 where
  pub sitting : Sitting
  pub memory : Memory

abbrev pub state : Sitting → Memory → State
state p m = record { sitting = p; memory = m }

abbrev pub part_of : ℕ → ℕ → Part
part_of from to = record { from = from; to = to }

abbrev pub mark_with : Kind → Verdict → ℕ → Part → Mark
mark_with k v right answer = record { kind = k; verdict = v; right = right; answer = answer }

abbrev pub sitting_of : Day → Mark → ℕ → ℕ → Bool → ℕ → ℕ → Stage → Sitting
sitting_of day mark from end ended lines filled stage =
    record { day = day; mark = mark; from = from; end = end; ended = ended; lines = lines; filled = filled; stage = stage }

-- "the clock starts at 0"
abbrev pub new_of : Kind → Server → Sitting
new_of k sv = sitting_of (day_of sv 0 doing.Rest) (mark_with k verdict.Rest 0 (part_of 0 0)) 0 0 false 0 0 stage.Going

-- nothing is left to be done: all was written, or it can't be
unfoldable pub over_of : Stage → Bool
over_of stage.Going = false
over_of stage.Last = false
over_of stage.Done = true
over_of stage.Broken = true

abbrev pub with_stage : Sitting → Stage → Sitting
with_stage p s = sitting_of p.day p.mark p.from p.end p.ended p.lines p.filled s

-- ---- what a turn does

-- with no line whole yet, what is printed is written before more is read
abbrev pub flush_or_fill : ℕ → Next
flush_or_fill filled = cond (nat_lt 0 filled) next.Flush next.Fill

unfoldable pub on_found : Found → ℕ → Next
on_found found.Part filled = flush_or_fill filled
on_found (found.Line n) filled = next.Line n
on_found found.TooLong filled = next.Error
on_found found.Nothing filled = next.Last

-- the bytes that were read and are not yet run
abbrev pub unread : Sitting → List ℕ → List ℕ
unread p input = bytes_from p.from p.end input

-- what waits is written first where the text, of `size` bytes, has not room for all that a turn may put, and where nothing else is left to be done
unfoldable pub writes_first : Stage → ℕ → ℕ → Bool
writes_first stage.Going filled size = nat_lt (rest_of filled size size) 131700
writes_first stage.Last filled size = true
writes_first stage.Done filled size = true
writes_first stage.Broken filled size = true

-- a line that is being run is stepped until the script rests
abbrev pub in_line : Doing → Next
in_line d = cond (rests_of d) next.Finish next.Step

unfoldable pub by_verdict : Verdict → Next → Next → Next
by_verdict verdict.Rest between within = between
by_verdict (verdict.Open matched) between within = within
by_verdict verdict.Told between within = within

-- a line that is being run comes to its end before the next
unfoldable pub decide_of : Sitting → List ℕ → ℕ → Next
decide_of p input size =
    cond (writes_first p.stage p.filled size) next.Flush
    (by_verdict p.mark.verdict (on_found (find_of (unread p input) p.ended) p.filled) (in_line p.day.doing))

-- ---- a step of the line that is being run

abbrev pub with_more : Sitting → Day → Mark → ℕ → ℕ → Stage → Sitting
with_more p day mark at more s = sitting_of day mark p.from p.end p.ended p.lines (wrapped (at + more)) s

abbrev pub with_verdict : Mark → Verdict → Mark
with_verdict m v = mark_with m.kind v m.right m.answer

abbrev pub stepped_by : Sitting → Marked → ℕ → Sitting
stepped_by p m size = with_more p m.day (with_verdict p.mark m.verdict) (least_of p.filled size) m.written p.stage

abbrev pub stepped_to : Sitting → Memory → Marking → State
stepped_to p m s = state (stepped_by p s.step (length m.text)) (memory s.lent m.input m.bytes s.text)

unfoldable pub stepped_of : Sitting → Memory → State
stepped_of p m = stepped_to p m (mark_of p.day p.mark.verdict m.lent m.bytes (part_in p.mark.answer m.input) p.filled m.text)

-- ---- a line's end, and the last lines: something is put behind what waits

pub record Put : Type 0 where
  pub sitting : Sitting
  pub text : List ℕ

abbrev pub put : Sitting → List ℕ → Put
put p text = record { sitting = p; text = text }

abbrev pub put_in : Memory → Put → State
put_in m w = state w.sitting (memory m.lent m.input m.bytes w.text)

abbrev pub right_more : Mark → Bool → Mark
right_more m right = mark_with m.kind verdict.Rest (cond right (wrapped (m.right + 1)) m.right) m.answer

abbrev pub finished_by : Sitting → Finished → ℕ → Sitting
finished_by p f size = with_more p p.day (right_more p.mark f.right) (least_of p.filled size) f.written p.stage

abbrev pub finished_to : Sitting → List ℕ → Finishes → Put
finished_to p text f = put (finished_by p f.finished (length text)) f.text

unfoldable pub finish_of : Sitting → List ℕ → List ℕ → Put
finish_of p input text = finished_to p text (judging.finished_of p.mark.verdict (part_in p.mark.answer input) p.filled text)

abbrev pub put_to : Stage → Sitting → List ℕ → Printed → Put
put_to s p text w = put (with_more p p.day p.mark (least_of p.filled (length text)) w.size s) w.text

unfoldable pub last_put : Sitting → List ℕ → Put
last_put p text = put_to stage.Last p text (put_behind p.filled (last_text p.mark.kind p.mark.right) text)

abbrev pub stop_put : Sitting → List ℕ → Put
stop_put p text = put_to p.stage p text (put_behind p.filled (stop_text p.mark.kind (wrapped (p.lines + 1))) text)

unfoldable pub error_put : Sitting → List ℕ → Put
error_put p text = last_put (stop_put p text).sitting (stop_put p text).text

-- ---- the next line

-- it is passed over with its newline, and begun
abbrev pub begun_by : Sitting → ℕ → ℕ → Command → Judged → ℕ → Sitting
begun_by p answer to c j size =
    sitting_of (script.begin_of p.day c) (mark_with p.mark.kind j.verdict p.mark.right (part_of answer to))
    (least_of (wrapped (to + 1)) p.end) p.end p.ended (wrapped (p.lines + 1)) (wrapped (least_of p.filled size + j.written)) p.stage

abbrev pub begun_to : Sitting → ℕ → ℕ → Command → List ℕ → Judges → Put
begun_to p answer to c text j = put (begun_by p answer to c j.judged (length text)) j.text

unfoldable pub line_begun : Sitting → ℕ → ℕ → Command → List ℕ → List ℕ → Put
line_begun p answer to c input text =
    begun_to p answer to c text (judging.begun_of p.mark.kind (bytes_from p.from to input) p.filled text)

unfoldable pub begun_as : Sitting → ℕ → ℕ → Command → List ℕ → List ℕ → Put
begun_as p answer to command.Unreadable input text = error_put p text
begun_as p answer to (command.Time clock) input text = line_begun p answer to (command.Time clock) input text
begun_as p answer to (command.Open session) input text = line_begun p answer to (command.Open session) input text
begun_as p answer to (command.Drop session) input text = line_begun p answer to (command.Drop session) input text
begun_as p answer to (command.Rx session n) input text = line_begun p answer to (command.Rx session n) input text

-- where the line ends, and where its script's fields end
abbrev pub line_to : Sitting → ℕ → ℕ
line_to p n = wrapped (p.from + n)

abbrev pub script_to : Sitting → ℕ → List ℕ → ℕ
script_to p n input = wrapped (p.from + script_end p.mark.kind (bytes_from p.from (line_to p n) input))

abbrev pub read_at : Sitting → ℕ → List ℕ → List ℕ → Reads
read_at p n input bytes = read_of (bytes_from p.from (script_to p n input) input) bytes

-- with the bytes of an `rx` line
pub record Begins : Type 0 where
  pub sitting : Sitting
  pub bytes : List ℕ
  pub text : List ℕ

abbrev pub begins : Sitting → List ℕ → List ℕ → Begins
begins p bytes text = record { sitting = p; bytes = bytes; text = text }

abbrev pub begin_to : List ℕ → Put → Begins
begin_to bytes w = begins w.sitting bytes w.text

unfoldable pub begin_of : Sitting → ℕ → List ℕ → List ℕ → List ℕ → Begins
begin_of p n input bytes text =
    begin_to (read_at p n input bytes).bytes (begun_as p (script_to p n input) (line_to p n) (read_at p n input bytes).command input text)

abbrev pub begin_in : Memory → Begins → State
begin_in m b = state b.sitting (memory m.lent m.input b.bytes b.text)

-- ---- writing

-- what is handed to `write`
abbrev pub waiting_text : Sitting → List ℕ → List ℕ
waiting_text p text = take (least_of p.filled (length text)) text

-- where only writing was left, the program is done
unfoldable pub written_stage : Stage → Stage
written_stage stage.Going = stage.Going
written_stage stage.Last = stage.Done
written_stage stage.Done = stage.Done
written_stage stage.Broken = stage.Broken

-- by whether all of it was written
unfoldable pub flushed_of : Bool → Sitting → Sitting
flushed_of true p = sitting_of p.day p.mark p.from p.end p.ended p.lines 0 (written_stage p.stage)
flushed_of false p = with_stage p stage.Broken

-- ---- reading

-- the part of a line that is kept goes to the front
abbrev pub kept_of : Sitting → List ℕ → ℕ
kept_of p input = least_of (shift_of p.from p.end input).size (length input)

-- `brought` is what stands behind it after a read of n bytes; a read that brings nothing, or fails, ends the input
abbrev pub filled_to : Sitting → Memory → ℕ → List ℕ → State
filled_to p m n brought =
    state (sitting_of p.day p.mark 0 (kept_of p m.input + n) (n == 0) p.lines p.filled p.stage)
    (memory m.lent (take (kept_of p m.input) (shift_of p.from p.end m.input).input ++ brought) m.bytes m.text)

-- ---- a turn

-- what was read in a turn, and what was written
pub data Turn (p : Sitting) (m : Memory) : Next → List ℕ → List ℕ → State → Type 0 where
  step : Turn p m next.Step [] [] (stepped_of p m)
  finish : Turn p m next.Finish [] [] (put_in m (finish_of p m.input m.text))
  line : (n : ℕ) → Turn p m (next.Line n) [] [] (begin_in m (begin_of p n m.input m.bytes m.text))
  last : Turn p m next.Last [] [] (put_in m (last_put p m.text))
  error : Turn p m next.Error [] [] (put_in m (error_put p m.text))
  written : Turn p m next.Flush [] (waiting_text p m.text) (state (flushed_of true p) m)
  -- a write that failed may have written a part of it
  broken : (n : ℕ) → Turn p m next.Flush [] (take n (waiting_text p m.text)) (state (flushed_of false p) m)
  filled : (n : ℕ) (brought : List ℕ) → kept_of p m.input + length brought ≡ length m.input → n ≤ length brought
      → Turn p m next.Fill (take n brought) [] (filled_to p m n brought)

-- the turn that is due
abbrev pub DueTurn : State → List ℕ → List ℕ → State → Type 0
DueTurn s read wrote after =
    Turn s.sitting s.memory (decide_of s.sitting s.memory.input (length s.memory.text)) read wrote after

-- with what it read and what it wrote
abbrev pub Turned : Sitting → Memory → State → Type 0
Turned p m after = turning.Turned DueTurn (state p m) after
