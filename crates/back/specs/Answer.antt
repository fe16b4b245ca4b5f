-- How an equation is answered: "33 above 2,047 bytes; then 8; then `mark` (it ends in an end mark), `deeper` (its text would nest deeper than 16), `bytes`
-- (above 256), in that order; then 33 where the output is too short." A refusal writes nothing, and output beyond the text is untouched. Assumes nothing.
use Rattle.std.specs.Prelude.{◌≡◌, cond, List, ◌++◌, ℕ, ltb, leb, length, drop, Result, Ok, Err}
use Rattle.std.proofs.Math.Option.{Option, none, some}
use Rattle.equation.specs.Symbols.{token_number}
use Rattle.equation.specs.Tree.{Tree, parse}
use Rattle.equation.specs.Newer.{unmarked}
use Rattle.equation.specs.declared.tokens.Token.TheVariants.{Bad}
use Rattle.grammar.specs.Formula.{Formula}
use Rattle.writing.specs.Text.{text_of, nesting}
use Rattle.writing.specs.Places.{formula_of}
use Rattle.back.specs.Steps.{Accepted}
use Rattle.back.specs.declared.Answer.{Answer}
use Rattle.back.specs.declared.Answer.TheVariants as answer

pub record Answers : Type 0 where
  pub answer : Result Answer ℕ
  pub out : List ℕ

abbrev pub answers : Result Answer ℕ → List ℕ → Answers
answers a out = record { answer = a; out = out }

unfoldable pub delivered : List ℕ → List ℕ → Answers
delivered text out =
    cond (leb (length text) (length out)) (answers (Ok (answer.Text (length text))) (text ++ drop (length text) out)) (answers (Err 33) out)

-- an accepted equation of n bytes, of which the first m stand before its end mark
unfoldable pub written : Formula → ℕ → ℕ → List ℕ → Answers
written f n m out =
    cond (ltb m n) (answers (Ok answer.Mark) out)
    (cond (ltb 16 (nesting f)) (answers (Ok answer.Deeper) out) (cond (ltb 256 n) (answers (Ok answer.Bytes) out) (delivered (text_of f) out)))

unfoldable pub written_by : Option Tree → ℕ → ℕ → List ℕ → Answers
written_by none n m out = answers (Err (token_number Bad)) out
written_by (some t) n m out = written (formula_of t) n m out

unfoldable pub written_of : List ℕ → List ℕ → Answers
written_of bytes out =
    cond (ltb 2047 (length bytes)) (answers (Err 33) out) (written_by (parse bytes) (length bytes) (length (unmarked bytes)) out)

-- what the helpers of the public function give for an equation that is accepted
abbrev pub Delivers : List ℕ → List ℕ → List ℕ → Answers → Type 0
Delivers bytes steps out a = (w : Accepted bytes steps) → a ≡ delivered (text_of w.formula) out

abbrev pub Replies : List ℕ → List ℕ → List ℕ → Answers → Type 0
Replies bytes steps out a = (w : Accepted bytes steps) → a ≡ written w.formula (length bytes) (length (unmarked bytes)) out
