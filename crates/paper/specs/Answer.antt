-- What a text is turned into: the answer, and the lent output afterwards. Assumes nothing.
use Rattle.std.specs.Prelude.{cond, List, ◌++◌, ℕ, ◌+◌, leb, length, take, drop, Result, Ok, Err}
use Rattle.grammar.specs.Formula.{postfix}
use Rattle.grammar.specs.Machine.{Outcome, accepted, refused, outcome_of}
use Rattle.paper.specs.declared.Answer.{Answer}
use Rattle.paper.specs.declared.Answer.TheVariants as answer

pub record Answers : Type 0 where
  pub answer : Result Answer ℕ
  pub out : List ℕ

abbrev pub answers : Result Answer ℕ → List ℕ → Answers
answers a out = record { answer = a; out = out }

-- "a result above 256 bytes is refused as `bytes`, with no place. Last, 33 where the output is too short."
unfoldable pub delivered : List ℕ → List ℕ → Answers
delivered bytes out =
    cond (leb (length bytes) 256)
    (cond (leb (length bytes) (length out)) (answers (Ok (answer.Bytes (length bytes))) (bytes ++ drop (length bytes) out)) (answers (Err 33) out))
    (answers (Ok answer.Long) out)

-- "Places are counted from 1."
unfoldable pub answered : Outcome → List ℕ → Answers
answered (accepted f) out = delivered (postfix f) out
answered (refused p why) out = answers (Ok (answer.Wrong (p + 1) why)) out

abbrev pub bytes_of : List ℕ → List ℕ → Answers
bytes_of text out = answered (outcome_of text) out

-- the first m bytes of a buffer of 256, delivered
unfoldable pub delivered_from : List ℕ → ℕ → List ℕ → Answers
delivered_from bytes m out =
    cond (leb m 256)
    (cond (leb m (length out)) (answers (Ok (answer.Bytes m)) (take m bytes ++ drop m out)) (answers (Err 33) out))
    (answers (Ok answer.Long) out)
