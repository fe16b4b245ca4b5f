-- The reading of a text, a byte at a time: what each byte does to what has been read, and where and why a text is wrong. That this reads the texts
-- of Grammar.antt, and that its wrong place is the first, is proved in proofs/. Assumes nothing.
use Rattle.std.specs.Prelude.{Bool, true, false, cond, List, [], ◌∷◌, ◌++◌, ℕ, suc, ◌+◌, ◌-◌, ◌*◌, ltb, leb, eqb, length, drop}
use Rattle.std.proofs.Math.Option.{Option, none, some}
use Rattle.names.specs.Kinds.{is_blank, is_printed, hex_of, is_hex_digit}
use Rattle.text.specs.Match.{lower}
use Rattle.lines.specs.Numerals.{digit}
use Rattle.equation.specs.Holds.{Relation}
use Rattle.equation.specs.Symbols.{stars_in}
use Rattle.names.specs.Names.{id_named, starts_name}
use Rattle.grammar.specs.Formula.{Formula, relation, and_after, or_after}
use Rattle.grammar.specs.Meaning.{is_equality, or_equal, width_of, is_width, number_relation, text_relation}
use Rattle.grammar.specs.declared.Comparison.{Comparison}
use Rattle.grammar.specs.declared.Comparison.TheVariants as comparison
use Rattle.grammar.specs.declared.Reason.{Reason}
use Rattle.grammar.specs.declared.Reason.TheVariants as reason

-- ---- in a relation

-- what stands read of a relation
pub data Phase : Type 0 where
  -- letters of a name, lowered
  name : List ℕ → Phase
  -- "#": how many digits stand behind it, and their value
  hash : ℕ → ℕ → Phase
  -- an item, by its id
  item : ℕ → Phase
  -- the first byte of "==" or "!="
  half : ℕ → Comparison → Phase
  -- "<" or ">", which "=" may follow
  order : ℕ → Comparison → Phase
  -- an operator
  constant : ℕ → Comparison → Phase
  -- digits, by their value; the same and ":"
  digits colon : ℕ → Comparison → ℕ → Phase
  -- a string's bytes; the same and "\"; the same and "\x"
  string escape coded : ℕ → Comparison → List ℕ → Phase
  -- a string's bytes, "\x" and the value of one hex digit
  code : ℕ → Comparison → List ℕ → ℕ → Phase

-- what a byte does in a relation: it goes on; it ends with the byte; it ended before the byte; or the byte is wrong
pub data Part : Type 0 where
  on : Phase → Part
  whole past : Relation → Part
  stop : Reason → Part

-- letters with one more: a name, the beginning of one, or neither
unfoldable pub lettered : Option ℕ → Bool → List ℕ → Part
lettered (some id) begins letters = on (item id)
lettered none begins letters = cond begins (on (name letters)) (stop reason.Item)

-- the first byte of a constant
unfoldable pub wanted : ℕ → Comparison → ℕ → Part
wanted id c b =
    cond (digit b) (on (digits id c (b - 48)))
    (cond (eqb b 34) (cond (is_equality c) (on (string id c [])) (stop reason.Order)) (stop reason.Constant))

-- a further byte of a string; `*` is 42
unfoldable pub added : ℕ → Comparison → List ℕ → ℕ → Part
added id c bytes b =
    cond (cond (eqb b 42) (leb 4 (stars_in bytes)) false) (stop reason.Stars)
    (cond (ltb (length bytes) 255) (on (string id c (bytes ++ b ∷ []))) (stop reason.Long))

unfoldable pub part_of : Phase → ℕ → Part
part_of (name letters) b = lettered (id_named (letters ++ lower b ∷ [])) (starts_name (letters ++ lower b ∷ [])) (letters ++ lower b ∷ [])
part_of (hash n v) b =
    cond (is_hex_digit b) (cond (eqb n 3) (on (item (16 * v + hex_of b))) (on (hash (suc n) (16 * v + hex_of b)))) (stop reason.Item)
part_of (item id) b =
    cond (is_blank b) (on (item id))
    (cond (eqb b 60) (on (order id comparison.Less))
    (cond (eqb b 62) (on (order id comparison.Greater))
    (cond (eqb b 61) (on (half id comparison.Equal)) (cond (eqb b 33) (on (half id comparison.NotEqual)) (stop reason.Operator)))))
part_of (half id c) b = cond (eqb b 61) (on (constant id c)) (stop reason.Operator)
part_of (order id c) b = cond (eqb b 61) (on (constant id (or_equal c))) (cond (is_blank b) (on (constant id c)) (wanted id c b))
part_of (constant id c) b = cond (is_blank b) (on (constant id c)) (wanted id c b)
part_of (digits id c v) b =
    cond (digit b) (cond (leb (10 * v + (b - 48)) 4294967295) (on (digits id c (10 * v + (b - 48)))) (stop reason.Large))
    (cond (eqb b 58) (on (colon id c v)) (past (number_relation id c (width_of id v) v)))
part_of (colon id c v) b = cond (is_width b v) (whole (number_relation id c (b - 48) v)) (stop reason.Width)
part_of (string id c bytes) b =
    cond (eqb b 34) (whole (text_relation id c bytes))
    (cond (eqb b 92) (cond (ltb (length bytes) 255) (on (escape id c bytes)) (stop reason.Long))
    (cond (is_printed b) (added id c bytes b) (stop reason.String)))
part_of (escape id c bytes) b =
    cond (eqb b 34) (on (string id c (bytes ++ 34 ∷ [])))
    (cond (eqb b 92) (on (string id c (bytes ++ 92 ∷ []))) (cond (eqb b 120) (on (coded id c bytes)) (stop reason.String)))
part_of (coded id c bytes) b = cond (is_hex_digit b) (on (code id c bytes (hex_of b))) (stop reason.String)
part_of (code id c bytes d) b = cond (is_hex_digit b) (added id c bytes (16 * d + hex_of b)) (stop reason.String)

-- ---- around relations

-- what stands read in a bracket: the sum before the last `||`, the product before the last `&&`
pub record Level : Type 0 where
  pub sum : Option Formula
  pub product : Option Formula

abbrev pub level : Option Formula → Option Formula → Level
level sum product = record { sum = sum; product = product }

abbrev pub fresh : Level
fresh = level none none

-- a factor is wanted; in a relation; a product so far, and the sum before it; the same and "&", or "|". The list is that of the levels of the
-- brackets around, innermost first.
pub data State : Type 0 where
  want : Level → List Level → State
  inside : Phase → Level → List Level → State
  have ampersand bar : Formula → Option Formula → List Level → State

pub data Move : Type 0 where
  go : State → Move
  halt : Reason → Move

unfoldable pub closed : Formula → List Level → Move
closed f [] = halt reason.Connective
closed f (l ∷ ls) = go (have (and_after l.product f) l.sum ls)

-- a byte after a whole factor: '&' is 38, '|' is 124, ')' is 41
unfoldable pub after : Formula → Option Formula → List Level → ℕ → Move
after p o ls b =
    cond (is_blank b) (go (have p o ls))
    (cond (eqb b 38) (go (ampersand p o ls))
    (cond (eqb b 124) (go (bar p o ls)) (cond (eqb b 41) (closed (or_after o p) ls) (halt reason.Connective))))

unfoldable pub taken : Part → Level → List Level → ℕ → Move
taken (on phase) l ls b = go (inside phase l ls)
taken (whole r) l ls b = go (have (and_after l.product (relation r)) l.sum ls)
taken (past r) l ls b = after (and_after l.product (relation r)) l.sum ls b
taken (stop why) l ls b = halt why

-- '(' is 40, '#' is 35
unfoldable pub step : State → ℕ → Move
step (want l ls) b =
    cond (is_blank b) (go (want l ls))
    (cond (eqb b 40) (cond (ltb (length ls) 16) (go (want fresh (l ∷ ls))) (halt reason.Deeper))
    (cond (eqb b 35) (go (inside (hash 0 0) l ls)) (taken (part_of (name []) b) l ls b)))
step (inside phase l ls) b = taken (part_of phase b) l ls b
step (have p o ls) b = after p o ls b
step (ampersand p o ls) b = cond (eqb b 38) (go (want (level o (some p)) ls)) (halt reason.Connective)
step (bar p o ls) b = cond (eqb b 124) (go (want (level (some (or_after o p)) none) ls)) (halt reason.Connective)

-- ---- a whole text

-- what it means, or the first wrong place, counted from 0, and the reason
pub data Outcome : Type 0 where
  accepted : Formula → Outcome
  refused : ℕ → Reason → Outcome

-- the text ends at place p behind a factor
unfoldable pub ended : Formula → List Level → ℕ → Outcome
ended f [] p = accepted f
ended f (l ∷ ls) p = refused p reason.Bracket

-- "The end of the text is judged like a byte that may stand nowhere": no relation goes on with byte 0
unfoldable pub ended_in : Part → Level → List Level → ℕ → Outcome
ended_in (on phase) l ls p = refused p reason.Connective
ended_in (whole r) l ls p = refused p reason.Connective
ended_in (past r) l ls p = ended (or_after l.sum (and_after l.product (relation r))) ls p
ended_in (stop why) l ls p = refused p why

unfoldable pub ending : State → ℕ → Outcome
ending (want l ls) p = refused p reason.Item
ending (inside phase l ls) p = ended_in (part_of phase 0) l ls p
ending (have q o ls) p = ended (or_after o q) ls p
ending (ampersand q o ls) p = refused p reason.Connective
ending (bar q o ls) p = refused p reason.Connective

unfoldable pub moved : Move → ℕ → (State → Outcome) → Outcome
moved (go s) p k = k s
moved (halt why) p k = refused p why

-- the outcome from a state on, with the place of the first byte that is left
unfoldable pub run : State → ℕ → List ℕ → Outcome
run st p [] = ending st p
run st p (b ∷ bs) = moved (step st b) p (λ s. run s (suc p) bs)

-- from a place of a text on
abbrev pub from : State → ℕ → List ℕ → Outcome
from st p text = run st p (drop p text)

abbrev pub outcome_of : List ℕ → Outcome
outcome_of text = run (want fresh []) 0 text
