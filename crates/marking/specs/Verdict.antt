-- The verdict on a line while the server's fields are produced (document 02, A13: "A line is right exactly when its answer fields equal the server's, in
-- order, none over"). As long as they agree with the pupil's answer nothing is put into the text: what is known so far are the answer's own first
-- bytes. At the first difference the line is wrong, and these bytes and all that follows are put. So what is held is never more than the pupil's line.
-- Assumes nothing.
use Rattle.std.specs.Prelude.{ℕ, ◌+◌, ◌-◌, Bool, true, false, cond, List, [], ◌∷◌, ◌++◌, length, take, drop, ◌==◌}
use Rattle.packet.specs.Names.{bytes_of}
use Rattle.lines.specs.Commands.{same}
use Rattle.lines.specs.Lines.{Printed, printed}
use Rattle.input.specs.Parts.{bytes_from, wrapped}
use Rattle.marking.specs.declared.Kind.{Kind}
use Rattle.marking.specs.declared.Kind.TheVariants as kind
use Rattle.marking.specs.declared.verdict.Verdict.{Verdict}
use Rattle.marking.specs.declared.verdict.Verdict.TheVariants as verdict
use Rattle.marking.specs.declared.verdict.Judged.{Judged}
use Rattle.marking.specs.declared.verdict.Finished.{Finished}
use Rattle.marking.specs.Fields.{fields_end}
use Rattle.marking.specs.Put.{put_behind}

-- ---- what judging answers, and what it leaves in the text

pub record Judges : Type 0 where
  pub judged : Judged
  pub text : List ℕ

abbrev pub judges : Judged → List ℕ → Judges
judges r text = record { judged = r; text = text }

abbrev pub judged_to : Verdict → Printed → Judges
judged_to v p = judges (record { verdict = v; written = p.size }) p.text

-- nothing is put
abbrev pub quietly : Verdict → List ℕ → Judges
quietly v text = judged_to v (printed 0 text)

-- ---- some of the server's fields

-- they are what stands in the answer from a place on
unfoldable pub agrees_at : ℕ → List ℕ → List ℕ → Bool
agrees_at at answer part = same part (take (length part) (drop at answer))

-- the first difference makes the line wrong
unfoldable pub open_of : ℕ → List ℕ → List ℕ → ℕ → List ℕ → Judges
open_of matched answer part at text =
    cond (agrees_at matched answer part)
    (quietly (verdict.Open (wrapped (matched + length part))) text)
    (judged_to verdict.Told (put_behind at (bytes_of "wrong" ++ (take matched answer ++ part)) text))

unfoldable pub part_of : Verdict → List ℕ → List ℕ → ℕ → List ℕ → Judges
part_of verdict.Rest answer part at text = quietly verdict.Rest text
part_of (verdict.Open matched) answer part at text = open_of matched answer part at text
part_of verdict.Told answer part at text = judged_to verdict.Told (put_behind at part text)

-- a printed line's last byte is its newline
abbrev pub tail_end : ℕ → ℕ
tail_end size = size - 1

-- a printed line from its first TAB on, without its newline
abbrev pub tail_of : List ℕ → List ℕ
tail_of line = bytes_from (fields_end 0 line) (tail_end (length line)) line

unfoldable pub judged_of : Verdict → List ℕ → List ℕ → ℕ → List ℕ → Judges
judged_of v answer line at text = part_of v answer (tail_of line) at text

-- ---- a line's beginning and its end

-- on a right sheet the line is put as it stands
unfoldable pub begun_of : Kind → List ℕ → ℕ → List ℕ → Judges
begun_of kind.Desk line at text = quietly (verdict.Open 0) text
begun_of kind.Sheet line at text = judged_to verdict.Told (put_behind at line text)

pub record Finishes : Type 0 where
  pub finished : Finished
  pub text : List ℕ

abbrev pub finishes : Finished → List ℕ → Finishes
finishes r text = record { finished = r; text = text }

abbrev pub finished_to : Bool → Printed → Finishes
finished_to right p = finishes (record { right = right; written = p.size }) p.text

-- "none over"
unfoldable pub told_of : ℕ → List ℕ → ℕ → List ℕ → Finishes
told_of matched answer at text =
    cond (matched == length answer)
    (finished_to true (put_behind at (bytes_of "right" ++ (answer ++ 10 ∷ [])) text))
    (finished_to false (put_behind at (bytes_of "wrong" ++ (take matched answer ++ 10 ∷ [])) text))

unfoldable pub finished_of : Verdict → List ℕ → ℕ → List ℕ → Finishes
finished_of verdict.Rest answer at text = finished_to false (printed 0 text)
finished_of (verdict.Open matched) answer at text = told_of matched answer at text
finished_of verdict.Told answer at text = finished_to false (put_behind at (10 ∷ []) text)
