-- The lines of the program `equations`: "`text` TAB an equation as on paper (the rest of the line, tabs included); `bytes` TAB hex" is read, and "for each
-- line one: `bytes` TAB hex, or `wrong` TAB place TAB reason, or `refused` TAB reason; for `bytes`: `text` TAB the text, or `refused` TAB reason (`33`, `8`,
-- `mark`, `deeper`, `bytes`)" is printed. TAB is 9, the newline 10. Assumes nothing.
use Rattle.std.specs.Prelude.{Bool, true, false, cond, List, [], ◌∷◌, ◌++◌, ℕ, ◌+◌, leb, length, take, drop, replicate, None, Some, Result, Ok, Err}
use Rattle.std.specs.Prelude as std
use Rattle.std.proofs.Math.Option.{Option, none, some}
use Rattle.packet.specs.Names.{bytes_of}
use Rattle.lines.specs.Numerals.{is_hex, bytes_in}
use Rattle.lines.specs.Text.{decimal_of, hex_of}
use Rattle.lines.specs.Lines.{Printed, printed_in}
use Rattle.names.specs.Names.{begins_with}
use Rattle.grammar.specs.Formula.{postfix}
use Rattle.grammar.specs.Machine.{Outcome, accepted, refused, outcome_of}
use Rattle.grammar.specs.declared.Reason.{Reason}
use Rattle.grammar.specs.declared.Reason.TheVariants as reason
use Rattle.back.specs.Answer.{Answers, written_of}
use Rattle.back.specs.declared.Answer.{Answer}
use Rattle.back.specs.declared.Answer.TheVariants as answer

-- the words of the reasons
unfoldable pub word_of : Reason → List ℕ
word_of reason.Item = bytes_of "item"
word_of reason.Deeper = bytes_of "deeper"
word_of reason.Operator = bytes_of "operator"
word_of reason.Order = bytes_of "order"
word_of reason.Constant = bytes_of "constant"
word_of reason.Large = bytes_of "large"
word_of reason.Width = bytes_of "width"
word_of reason.String = bytes_of "string"
word_of reason.Stars = bytes_of "stars"
word_of reason.Long = bytes_of "long"
word_of reason.Connective = bytes_of "connective"
word_of reason.Bracket = bytes_of "bracket"

-- ---- the printed lines

unfoldable pub bytes_line : List ℕ → List ℕ
bytes_line bytes = bytes_of "bytes\t" ++ (hex_of bytes ++ (10 ∷ []))

unfoldable pub wrong_line : ℕ → Reason → List ℕ
wrong_line place why = bytes_of "wrong\t" ++ (decimal_of place ++ (9 ∷ (word_of why ++ (10 ∷ []))))

unfoldable pub refused_line : List ℕ → List ℕ
refused_line word = bytes_of "refused\t" ++ (word ++ (10 ∷ []))

unfoldable pub text_line : List ℕ → List ℕ
text_line text = bytes_of "text\t" ++ (text ++ (10 ∷ []))

-- ---- what is printed for a line

-- for an equation as on paper; places are counted from 1
unfoldable pub said_of : Outcome → List ℕ
said_of (accepted f) = cond (leb (length (postfix f)) 256) (bytes_line (postfix f)) (refused_line (bytes_of "bytes"))
said_of (refused p why) = wrong_line (p + 1) why

-- for an equation in bytes
unfoldable pub told_of : Result Answer ℕ → List ℕ → List ℕ
told_of (Ok (answer.Text n)) out = text_line (take n out)
told_of (Err n) out = refused_line (decimal_of n)
told_of (Ok answer.Mark) out = refused_line (bytes_of "mark")
told_of (Ok answer.Deeper) out = refused_line (bytes_of "deeper")
told_of (Ok answer.Bytes) out = refused_line (bytes_of "bytes")

abbrev pub told_by : Answers → List ℕ
told_by a = told_of a.answer a.out

-- room for the longest text
abbrev pub room : List ℕ
room = replicate 4000 0

-- nothing, where a field is not hex, of at most 65,536 bytes
unfoldable pub hex_reply : List ℕ → Option (List ℕ)
hex_reply field =
    cond (is_hex field) (cond (leb (length (bytes_in field)) 65536) (some (told_by (written_of (bytes_in field) room))) none) none

-- nothing, where the line can't be read
unfoldable pub replies_to : List ℕ → Option (List ℕ)
replies_to line =
    cond (begins_with (bytes_of "text\t") line) (some (said_of (outcome_of (drop 5 line))))
    (cond (begins_with (bytes_of "bytes\t") line) (hex_reply (drop 6 line)) none)

-- ---- the answer to a line, and the lent text afterwards

pub record Replies : Type 0 where
  pub reply : std.Option ℕ
  pub text : List ℕ

abbrev pub replies : std.Option ℕ → List ℕ → Replies
replies r text = record { reply = r; text = text }

abbrev pub lined : Printed → Replies
lined p = replies (Some p.size) p.text

unfoldable pub replied : Option (List ℕ) → List ℕ → Replies
replied none text = replies None text
replied (some line) text = lined (printed_in line text)

abbrev pub reply_of : List ℕ → List ℕ → Replies
reply_of line text = replied (replies_to line) text
