-- All that the program prints for its input: "for each line one", "a last line without its newline counts", and "a line that can't be read prints `error` and
-- the line's number and ends the program". The input is all its bytes; nothing is said of how they are read in pieces. Assumes nothing.
use Rattle.std.specs.Prelude.{ℕ, zero, suc, ◌+◌, true, List, [], ◌++◌, length, take, drop}
use Rattle.std.proofs.Math.Option.{Option, none, some}
use Rattle.lines.specs.Lines.{error_line}
use Rattle.input.specs.Input.{find_of, by_first}
use Rattle.replies.specs.Reply.{replies_to}

-- the reply to a line and what is printed for those behind it; a line without a reply ends the program
unfoldable pub then_more : Option (List ℕ) → List ℕ → List ℕ → List ℕ
then_more none error more = error
then_more (some line) error more = line ++ more

-- The lines from one on, which has this number; the first argument bounds how many there are. Behind a line stands its newline.
unfoldable pub lines_from : ℕ → ℕ → List ℕ → List ℕ
lines_from zero number input = []
lines_from (suc k) number input =
    by_first (find_of input true) [] (error_line number)
    (λ n. then_more (replies_to (take n input)) (error_line number) (lines_from k (number + 1) (drop (n + 1) input)))

-- THE OUTPUT; there are no more lines than bytes
unfoldable pub output_of : List ℕ → List ℕ
output_of input = lines_from (length input) 1 input
