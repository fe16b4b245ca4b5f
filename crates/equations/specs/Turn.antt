-- A turn of the program: the next line answered, the input's end, more input, or output written. What the C library's `read` brings and whether its `write`
-- succeeds is not known beforehand. Assumes nothing.
use Rattle.std.specs.Prelude.{◌≡◌, ℕ, ◌+◌, ◌≤◌, Bool, true, false, cond, List, [], ◌++◌, length, take, drop, ◌==◌, nat_lt, Option, None, Some}
use Rattle.lines.specs.Lines.{Printed, printed_in, error_line}
use Rattle.input.specs.declared.Found.{Found}
use Rattle.input.specs.declared.Found.TheVariants as found
use Rattle.input.specs.Parts.{bytes_from, rest_of, least_of, wrapped}
use Rattle.input.specs.Input.{find_of, shift_of}
use Rattle.replies.specs.Reply.{Replies, replies, reply_of}
use Rattle.equations.specs.declared.progress.Progress.{Progress}
use Rattle.equations.specs.declared.progress.Stage.{Stage}
use Rattle.equations.specs.declared.progress.Stage.TheVariants as stage
use Rattle.equations.specs.declared.progress.Next.{Next}
use Rattle.equations.specs.declared.progress.Next.TheVariants as next

-- ---- the program between two turns, with the input and the text that are lent to it

pub record State : Type 0 where
  pub progress : Progress
  pub input : List ℕ
  pub text : List ℕ

abbrev pub state : Progress → List ℕ → List ℕ → State
state p input text = record { progress = p; input = input; text = text }

abbrev pub progress_of : ℕ → ℕ → Bool → ℕ → ℕ → Stage → Progress
progress_of from end ended lines filled stage =
    record { from = from; end = end; ended = ended; lines = lines; filled = filled; stage = stage }

abbrev pub new_of : Progress
new_of = progress_of 0 0 false 0 0 stage.Going

-- nothing is left to be done: all was written, or it can't be
unfoldable pub over_of : Stage → Bool
over_of stage.Going = false
over_of stage.Last = false
over_of stage.Done = true
over_of stage.Broken = true

abbrev pub with_stage : Progress → Stage → Progress
with_stage p s = progress_of p.from p.end p.ended p.lines p.filled s

-- ---- what a turn does

-- with no line whole yet, what is printed is written before more is read
abbrev pub flush_or_fill : ℕ → Next
flush_or_fill filled = cond (nat_lt 0 filled) next.Flush next.Fill

unfoldable pub on_found : Found → ℕ → Next
on_found found.Part filled = flush_or_fill filled
on_found (found.Line n) filled = next.Line n
on_found found.TooLong filled = next.Error
on_found found.Nothing filled = next.End

-- the bytes that were read and are not yet answered
abbrev pub unread : Progress → List ℕ → List ℕ
unread p input = bytes_from p.from p.end input

-- what waits is written first where the text, of `size` bytes, has not room for any line that is printed, and where nothing else is left to be done
unfoldable pub writes_first : Stage → ℕ → ℕ → Bool
writes_first stage.Going filled size = nat_lt (rest_of filled size size) 4096
writes_first stage.Last filled size = true
writes_first stage.Done filled size = true
writes_first stage.Broken filled size = true

unfoldable pub decide_of : Progress → List ℕ → ℕ → Next
decide_of p input size =
    cond (writes_first p.stage p.filled size) next.Flush (on_found (find_of (unread p input) p.ended) p.filled)

-- ---- a line put behind what waits

-- the program and the text afterwards
pub record Put : Type 0 where
  pub progress : Progress
  pub text : List ℕ

abbrev pub put : Progress → List ℕ → Put
put p text = record { progress = p; text = text }

abbrev pub put_in : State → Put → State
put_in s w = state w.progress s.input w.text

abbrev pub with_more : Progress → ℕ → ℕ → Stage → Progress
with_more p at more s = progress_of p.from p.end p.ended p.lines (wrapped (at + more)) s

abbrev pub put_at : Progress → ℕ → List ℕ → Printed → Put
put_at p at text w = put (with_more p at w.size stage.Last) (take at text ++ w.text)

-- "a line that can't be read prints `error` and the line's number and ends the program"
unfoldable pub error_put : Progress → List ℕ → Put
error_put p text =
    put_at p (least_of p.filled (length text)) text
    (printed_in (error_line (wrapped (p.lines + 1))) (drop (least_of p.filled (length text)) text))

-- ---- the next line

-- it is passed over with its newline
abbrev pub beyond : Progress → ℕ → Progress
beyond p to = progress_of (least_of (wrapped (to + 1)) p.end) p.end p.ended (wrapped (p.lines + 1)) p.filled p.stage

-- the reply to a line, behind the first `at` bytes of a text
abbrev pub behind : ℕ → List ℕ → Replies → Replies
behind at text r = replies r.reply (take at text ++ r.text)

abbrev pub reply_behind : ℕ → List ℕ → List ℕ → Replies
reply_behind at line text = behind (least_of at (length text)) text (reply_of line (drop (least_of at (length text)) text))

unfoldable pub on_reply : Progress → ℕ → Option ℕ → List ℕ → Put
on_reply p to None text = error_put p text
on_reply p to (Some size) text = put (with_more (beyond p to) (least_of p.filled (length text)) size p.stage) text

abbrev pub line_at : Progress → ℕ → List ℕ → List ℕ
line_at p n input = bytes_from p.from (wrapped (p.from + n)) input

abbrev pub on_replies : Progress → ℕ → Replies → Put
on_replies p to r = on_reply p to r.reply r.text

unfoldable pub answered_of : Progress → ℕ → List ℕ → List ℕ → Put
answered_of p n input text = on_replies p (wrapped (p.from + n)) (reply_behind p.filled (line_at p n input) text)

-- ---- writing

-- what is handed to `write`
abbrev pub waiting_text : Progress → List ℕ → List ℕ
waiting_text p text = take (least_of p.filled (length text)) text

-- where only writing was left, the program is done
unfoldable pub written_stage : Stage → Stage
written_stage stage.Going = stage.Going
written_stage stage.Last = stage.Done
written_stage stage.Done = stage.Done
written_stage stage.Broken = stage.Broken

-- by whether all of it was written
unfoldable pub flushed_of : Bool → Progress → Progress
flushed_of true p = progress_of p.from p.end p.ended p.lines 0 (written_stage p.stage)
flushed_of false p = with_stage p stage.Broken

-- whether all was written is not known beforehand
pub record Flushed (p r : Progress) : Type 0 where
  pub written : Bool
  pub is : r ≡ flushed_of written p

-- ---- reading

-- the part of a line that is kept goes to the front
abbrev pub kept_of : Progress → List ℕ → ℕ
kept_of p input = least_of (shift_of p.from p.end input).size (length input)

-- `brought` is what stands behind it after a read of n bytes; a read that brings nothing, or fails, ends the input
abbrev pub filled_to : State → ℕ → List ℕ → State
filled_to s n brought =
    let p = s.progress in
    state (progress_of 0 (kept_of p s.input + n) (n == 0) p.lines p.filled p.stage)
    (take (kept_of p s.input) (shift_of p.from p.end s.input).input ++ brought) s.text

-- nor is known what a read brings: n bytes of what stands behind the part that is kept are new
pub record Filled (p : Progress) (input : List ℕ) (r : Progress) (after : List ℕ) : Type 0 where
  pub n : ℕ
  pub brought : List ℕ
  pub size : kept_of p input + length brought ≡ length input
  pub most : n ≤ length brought
  pub is : (text : List ℕ) → state r after text ≡ filled_to (state p input text) n brought

-- ---- a turn

-- what was read in a turn, and what was written
pub data Turn (s : State) : Next → List ℕ → List ℕ → State → Type 0 where
  line : (n : ℕ) → Turn s (next.Line n) [] [] (put_in s (answered_of s.progress n s.input s.text))
  ended : Turn s next.End [] [] (state (with_stage s.progress stage.Last) s.input s.text)
  error : Turn s next.Error [] [] (put_in s (error_put s.progress s.text))
  written : Turn s next.Flush [] (waiting_text s.progress s.text) (state (flushed_of true s.progress) s.input s.text)
  -- a write that failed may have written a part of it
  broken : (n : ℕ) → Turn s next.Flush [] (take n (waiting_text s.progress s.text)) (state (flushed_of false s.progress) s.input s.text)
  filled : (n : ℕ) (brought : List ℕ) → kept_of s.progress s.input + length brought ≡ length s.input → n ≤ length brought
      → Turn s next.Fill (take n brought) [] (filled_to s n brought)

-- the turn that is due
abbrev pub DueTurn : State → List ℕ → List ℕ → State → Type 0
DueTurn s read wrote after = Turn s (decide_of s.progress s.input (length s.text)) read wrote after
