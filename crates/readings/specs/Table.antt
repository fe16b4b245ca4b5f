-- Why a text is wrong at its first wrong place: what is wanted there, by the bytes before it (`At`), and what stands there give the reason (`reason_at`, the
-- table of docs/EQUATIONS.md row by row). It speaks of the grammar alone; that the reader's reason is this one is `told` (proofs/TableLaws.antt).
-- Assumes nothing.
use Rattle.std.specs.Prelude.{◌≡◌, Bool, true, false, cond, List, [], ◌∷◌, ◌++◌, map, ℕ, zero, suc, ◌+◌, ◌*◌, ◌<◌, leb, eqb, length, take, drop}
use Rattle.std.proofs.Math.Option.{Option, none, some}
use Rattle.text.specs.Match.{lower}
use Rattle.lines.specs.Numerals.{digit}
use Rattle.equation.specs.Symbols.{stars_in}
use Rattle.names.specs.Kinds.{is_blank, is_printed, hex_of, is_hex_digit, every}
use Rattle.names.specs.Names.{id_named, starts_name}
use Rattle.grammar.specs.Meaning.{is_equality}
use Rattle.grammar.specs.Grammar.{Blanks, Item, item_text, Stands, operator_text, Character, characters_text, characters_bytes, Characters, Digits}
use Rattle.grammar.specs.Grammar.{unsized, Written, written_text, GoodWritten}
use Rattle.grammar.specs.declared.Comparison.{Comparison}
use Rattle.grammar.specs.declared.Reason.{Reason}
use Rattle.grammar.specs.declared.Reason.TheVariants as reason

-- ---- the table

-- what is wanted at a place
pub data Place : Type 0 where
  -- an item or "(", so many brackets being open
  factor : ℕ → Place
  -- more of a name, or of the digits behind "#"
  in_item : Place
  -- an operator, or the second byte of "==" or "!="
  operator : Place
  -- a constant behind an operator, also straight behind "<" or ">"
  constant : Comparison → Place
  -- more digits of a number, or what may follow it, so many brackets being open
  digits : ℕ → Place
  -- "1", "2" or "4" behind ":"
  width : Place
  -- a further character of a string that has these bytes, or its end
  string : List ℕ → Place
  -- more of an escape
  escape : Place
  -- the second hex digit of an escape, behind one of this value, in a string that has these bytes
  code : ℕ → List ℕ → Place
  -- "&&", "||", ")" or the end, so many brackets being open
  connective : ℕ → Place
  -- the second byte of "&&" or "||"
  half : Place

-- what stands at a place: a byte, or the end of the text
unfoldable pub standing : List ℕ → Option ℕ
standing [] = none
standing (b ∷ bs) = some b

-- "The end of the text is judged like a byte that may stand nowhere."
unfoldable pub is_a : (ℕ → Bool) → Option ℕ → Bool
is_a test none = false
is_a test (some b) = test b

-- a byte that takes a string's stars above four
unfoldable pub fifth_star : List ℕ → ℕ → Bool
fifth_star bytes b = cond (eqb b 42) (leb 4 (stars_in bytes)) false

unfoldable pub open_reason : ℕ → Option ℕ → Reason
open_reason n (some b) = reason.Connective
open_reason zero none = reason.Connective
open_reason (suc n) none = reason.Bracket

unfoldable pub reason_at : Place → Option ℕ → Reason
-- "an item or "(" is wanted, or inside a name or the digits behind "#"": `item`; ""(" that would be the 17th open one": `deeper`, which comes before it
reason_at (factor n) x = cond (is_a (λ b. eqb b 40) x) reason.Deeper reason.Item
reason_at in_item x = reason.Item
-- "an operator is wanted, or the second byte of "==" or "!=""
reason_at operator x = reason.Operator
-- "a constant is wanted and a string begins after <, <=, > or >=": `order`; "and something else stands there": `constant`
reason_at (constant c) x = cond (is_a (λ b. eqb b 34) x) reason.Order reason.Constant
-- "a digit takes the number above 4,294,967,295": `large`, which comes before `connective`
reason_at (digits n) x = cond (is_a digit x) reason.Large (open_reason n x)
-- "behind ":" no 1, 2 or 4, or one that is too small for the number"
reason_at width x = reason.Width
-- "the fifth star": `stars`, which comes before `long`; "the 256th byte of a string": `long`; "a byte outside 20h to 7eh .. or the text ends": `string`
reason_at (string bytes) x = cond (is_a (fifth_star bytes) x) reason.Stars (cond (is_a is_printed x) reason.Long reason.String)
-- "a wrong escape, or the text ends": `string`; the fifth star "at the byte that completes it: .. the last digit of its escape"
reason_at escape x = reason.String
reason_at (code d bytes) x = cond (is_a (λ b. cond (is_hex_digit b) (fifth_star bytes (16 * d + hex_of b)) false) x) reason.Stars reason.String
-- ""&&", "||", ")" or the end is wanted, or inside one of these": `connective`; "the text ends with a bracket open": `bracket`, which comes before it
reason_at (connective n) x = open_reason n x
reason_at half x = reason.Connective

-- ---- what is wanted behind the bytes of a text

mutual
  -- an item or "(" is wanted, so many brackets being open
  pub data Wants : ℕ → List ℕ → Type 0 where
    start : Wants 0 []
    blank : (n : ℕ) (u : List ℕ) (b : ℕ) → Wants n u → is_blank b ≡ true → Wants n (u ++ b ∷ [])
    opens : (n : ℕ) (u : List ℕ) → Wants n u → n < 16 → Wants (suc n) (u ++ 40 ∷ [])
    ands : (t : Bool) (n : ℕ) (u : List ℕ) → Has t n u → Wants n (u ++ 38 ∷ 38 ∷ [])
    ors : (t : Bool) (n : ℕ) (u : List ℕ) → Has t n u → Wants n (u ++ 124 ∷ 124 ∷ [])

  -- a factor is whole; it ends in the digits of a number, which further digits may follow, or not
  pub data Has : Bool → ℕ → List ℕ → Type 0 where
    related : (n : ℕ) (u : List ℕ) (r : Written) → Wants n u → GoodWritten r → Has (unsized r.constant) n (u ++ written_text r)
    spaced : (t : Bool) (n : ℕ) (u : List ℕ) (b : ℕ) → Has t n u → is_blank b ≡ true → Has false n (u ++ b ∷ [])
    closes : (t : Bool) (n : ℕ) (u : List ℕ) → Has t (suc n) u → Has false n (u ++ 41 ∷ [])

-- an item and blanks
pub record Named (w : List ℕ) : Type 0 where
  pub item : Item
  pub id : ℕ
  pub gap : List ℕ
  pub stands : Stands item id
  pub blanks : Blanks gap
  pub text : w ≡ item_text item ++ gap

-- an item and an operator, with blanks behind both
pub record Compared (c : Comparison) (w : List ℕ) : Type 0 where
  pub item : Item
  pub id : ℕ
  pub before : List ℕ
  pub behind : List ℕ
  pub stands : Stands item id
  pub blank_before : Blanks before
  pub blank_behind : Blanks behind
  pub text : w ≡ item_text item ++ (before ++ (operator_text c ++ behind))

-- the same, '"' and characters, with e behind them
pub record Quoted (cs : List Character) (e w : List ℕ) : Type 0 where
  pub comparison : Comparison
  pub front : List ℕ
  pub compared : Compared comparison front
  pub equality : is_equality comparison ≡ true
  pub good : Characters cs
  pub text : w ≡ front ++ (34 ∷ (characters_text cs ++ e))

-- the place behind these bytes
pub data At : Place → List ℕ → Type 0 where
  at_factor : (n : ℕ) (u : List ℕ) → Wants n u → At (factor n) u
  in_name : (n : ℕ) (u w : List ℕ) → Wants n u → id_named (map lower w) ≡ none → starts_name (map lower w) ≡ true → At in_item (u ++ w)
  in_hash : (n : ℕ) (u ds : List ℕ) → Wants n u → every is_hex_digit ds ≡ true → length ds < 4 → At in_item (u ++ 35 ∷ ds)
  at_operator : (n : ℕ) (u w : List ℕ) → Wants n u → Named w → At operator (u ++ w)
  in_operator : (n : ℕ) (u w : List ℕ) (c : Comparison) (b : ℕ) → Wants n u → Named w → operator_text c ≡ b ∷ 61 ∷ [] → At operator (u ++ (w ++ b ∷ []))
  at_constant : (n : ℕ) (u w : List ℕ) (c : Comparison) → Wants n u → Compared c w → At (constant c) (u ++ w)
  in_number : (n : ℕ) (u : List ℕ) → Has true n u → At (digits n) u
  at_width : (n : ℕ) (u w ds : List ℕ) (c : Comparison) → Wants n u → Compared c w → Digits ds → At width (u ++ ((w ++ ds) ++ 58 ∷ []))
  in_string : (n : ℕ) (u w : List ℕ) (cs : List Character) → Wants n u → Quoted cs [] w → At (string (characters_bytes cs)) (u ++ w)
  in_escape : (n : ℕ) (u w : List ℕ) (cs : List Character) → Wants n u → Quoted cs (92 ∷ []) w → At escape (u ++ w)
  in_coded : (n : ℕ) (u w : List ℕ) (cs : List Character) → Wants n u → Quoted cs (92 ∷ 120 ∷ []) w → At escape (u ++ w)
  in_code : (n : ℕ) (u w : List ℕ) (cs : List Character) (a : ℕ) → Wants n u → Quoted cs (92 ∷ 120 ∷ a ∷ []) w → is_hex_digit a ≡ true
      → At (code (hex_of a) (characters_bytes cs)) (u ++ w)
  at_connective : (n : ℕ) (u : List ℕ) → Has false n u → At (connective n) u
  in_and : (t : Bool) (n : ℕ) (u : List ℕ) → Has t n u → At half (u ++ 38 ∷ [])
  in_or : (t : Bool) (n : ℕ) (u : List ℕ) → Has t n u → At half (u ++ 124 ∷ [])

-- ---- the statement

-- "The reason is the one of the table": of a text that is wrong at a place, counted from 0
pub record Told (text : List ℕ) (place : ℕ) (why : Reason) : Type 0 where
  pub wanted : Place
  pub at : At wanted (take place text)
  pub is : why ≡ reason_at wanted (standing (drop place text))
