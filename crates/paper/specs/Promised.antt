-- What is promised of turning a text into bytes, beside the equation of the public call (src/lib.rt). Assumes nothing.
use Rattle.std.specs.Prelude.{◌≡◌, Ok, Err, List, ◌++◌, ℕ, ◌+◌, ◌≤◌, ◌<◌, length, drop}
use Rattle.std.proofs.Math.Option.{some}
use Rattle.header.specs.Items.{fields_of}
use Rattle.equation.specs.Tree.{parse}
use Rattle.equation.specs.Answer.{answer_of, validity_of}
use Rattle.grammar.specs.Formula.{Formula, postfix, true_on, tree_from}
use Rattle.grammar.specs.Grammar.{Reads, WrongPlace}
use Rattle.grammar.specs.declared.Reason.{Reason}
use Rattle.readings.specs.Table.{Told}
use Rattle.paper.specs.Answer.{answers, bytes_of}
use Rattle.paper.specs.declared.Answer.TheVariants as answer

-- the bytes of a text of the grammar, where they are at most 256
pub record Accepts (text : List ℕ) (f : Formula) : Type 0 where
  pub written : (out : List ℕ) → length (postfix f) ≤ length out
      → bytes_of text out ≡ answers (Ok (answer.Bytes (length (postfix f)))) (postfix f ++ drop (length (postfix f)) out)
  pub short : (out : List ℕ) → length out < length (postfix f) → bytes_of text out ≡ answers (Err 33) out
  pub parsed : parse (postfix f) ≡ some (tree_from 0 f)
  pub valid : validity_of (postfix f) ≡ 0
  pub truth : (file : List ℕ) → answer_of (postfix f) file ≡ Ok (true_on (fields_of file) f)

pub record Promised : Type 0 where
  -- accepted are texts of the grammar alone; the bytes are those of what the text means
  pub sound : (text out : List ℕ) (n : ℕ) (now : List ℕ) → bytes_of text out ≡ answers (Ok (answer.Bytes n)) now
      → (f : Formula) × Reads text f × (n ≡ length (postfix f)) × (n ≤ 256) × (now ≡ postfix f ++ drop n out)
  -- a text has one meaning
  pub one_meaning : (text : List ℕ) (f g : Formula) → Reads text f → Reads text g → f ≡ g
  -- every text of the grammar is accepted as what it means, unless its bytes are above 256
  pub complete : (text : List ℕ) (f : Formula) → Reads text f → length (postfix f) ≤ 256 → Accepts text f
  pub long : (text : List ℕ) (f : Formula) → Reads text f → 256 < length (postfix f) → (out : List ℕ) → bytes_of text out ≡ answers (Ok answer.Long) out
  -- the place of any other text, counted from 1, is the first wrong one, and nothing is written
  pub wrong : (text out : List ℕ) (place : ℕ) (why : Reason) (now : List ℕ) → bytes_of text out ≡ answers (Ok (answer.Wrong place why)) now
      → (q : ℕ) × (place ≡ q + 1) × WrongPlace text q × (now ≡ out)
  -- "The reason is the one of the table": what is wanted at that place, and what stands there, give it
  pub reason : (text out : List ℕ) (place : ℕ) (why : Reason) (now : List ℕ) → bytes_of text out ≡ answers (Ok (answer.Wrong place why)) now
      → (q : ℕ) × (place ≡ q + 1) × Told text q why
