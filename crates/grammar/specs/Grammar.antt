-- The grammar of equations as on paper. A text of the grammar is made by these cases, and by these alone:
--   sum       = product { "||" product }
--   product   = factor { "&&" factor }
--   factor    = "(" sum ")"  |  relation                      blanks may stand before and after it
--   relation  = item order number  |  item equal number  |  item equal string      blanks may stand between
--   item      = name  |  "#" and exactly four hex digits of either case
--   number    = one or more decimal digits, and then perhaps ":" and "1", "2" or "4"
--   string    = '"' { char } '"'
--   char      = a byte 20h to 7eh but '"' and '\'  |  '\"'  |  '\\'  |  '\x' and two hex digits of either case
-- Each has its text and what it means; the limits are part of it. Assumes nothing.
use Rattle.std.specs.Prelude.{◌≡◌, Bool, true, false, cond, List, [], ◌∷◌, ◌++◌, map, ℕ, suc, ◌+◌, ◌*◌, ◌-◌, ◌≤◌, ◌<◌, max, eqb, length, take}
use Rattle.std.proofs.Math.Option.{Option, some}
use Rattle.names.specs.Kinds.{is_blank, is_printed, hex_of, is_hex_digit, every}
use Rattle.packet.specs.Names.{bytes_of}
use Rattle.text.specs.Match.{lower}
use Rattle.lines.specs.Numerals.{digit, value_from}
use Rattle.equation.specs.Holds.{Relation}
use Rattle.equation.specs.Symbols.{stars_in}
use Rattle.names.specs.Names.{id_named}
use Rattle.grammar.specs.Formula as formula
use Rattle.grammar.specs.Formula.{Formula}
use Rattle.grammar.specs.Meaning.{is_equality, width_of, is_width, number_relation, text_relation}
use Rattle.grammar.specs.declared.Comparison.{Comparison}
use Rattle.grammar.specs.declared.Comparison.TheVariants.{Equal, Greater, Less, NotEqual, GreaterOrEqual, LessOrEqual}

abbrev pub Blanks : List ℕ → Type 0
Blanks bs = every is_blank bs ≡ true

-- ---- items

pub data Item : Type 0 where
  name : List ℕ → Item
  number : ℕ → ℕ → ℕ → ℕ → Item

unfoldable pub item_text : Item → List ℕ
item_text (name letters) = letters
item_text (number a b c d) = 35 ∷ a ∷ b ∷ c ∷ d ∷ []

-- the id that an item stands for; "Names are read in letters of either case"
unfoldable pub Stands : Item → ℕ → Type 0
Stands (name letters) id = id_named (map lower letters) ≡ some id
Stands (number a b c d) id = (every is_hex_digit (a ∷ b ∷ c ∷ d ∷ []) ≡ true) × (16 * (16 * (16 * hex_of a + hex_of b) + hex_of c) + hex_of d ≡ id)

-- ---- operators

unfoldable pub operator_text : Comparison → List ℕ
operator_text Equal = bytes_of "=="
operator_text Greater = bytes_of ">"
operator_text Less = bytes_of "<"
operator_text NotEqual = bytes_of "!="
operator_text GreaterOrEqual = bytes_of ">="
operator_text LessOrEqual = bytes_of "<="

-- ---- strings

pub data Character : Type 0 where
  plain escaped : ℕ → Character
  coded : ℕ → ℕ → Character

-- '\' is 92, '"' is 34, 'x' is 120
unfoldable pub character_text : Character → List ℕ
character_text (plain b) = b ∷ []
character_text (escaped b) = 92 ∷ b ∷ []
character_text (coded a b) = 92 ∷ 120 ∷ a ∷ b ∷ []

unfoldable pub character_byte : Character → ℕ
character_byte (plain b) = b
character_byte (escaped b) = b
character_byte (coded a b) = 16 * hex_of a + hex_of b

unfoldable pub good_character : Character → Bool
good_character (plain b) = cond (eqb b 34) false (cond (eqb b 92) false (is_printed b))
good_character (escaped b) = cond (eqb b 34) true (eqb b 92)
good_character (coded a b) = cond (is_hex_digit a) (is_hex_digit b) false

unfoldable pub characters_text : List Character → List ℕ
characters_text [] = []
characters_text (c ∷ cs) = character_text c ++ characters_text cs

unfoldable pub characters_bytes : List Character → List ℕ
characters_bytes [] = []
characters_bytes (c ∷ cs) = character_byte c ∷ characters_bytes cs

unfoldable pub good_characters : List Character → Bool
good_characters [] = true
good_characters (c ∷ cs) = cond (good_character c) (good_characters cs) false

-- ---- constants

-- a number's digits; the same with the digit of a width; a string
pub data Constant : Type 0 where
  number : List ℕ → Constant
  sized : List ℕ → ℕ → Constant
  string : List Character → Constant

-- a number without a width, which further digits may follow
unfoldable pub unsized : Constant → Bool
unsized (number ds) = true
unsized (sized ds w) = false
unsized (string cs) = false

-- ':' is 58
unfoldable pub constant_text : Constant → List ℕ
constant_text (number ds) = ds
constant_text (sized ds w) = ds ++ (58 ∷ w ∷ [])
constant_text (string cs) = 34 ∷ (characters_text cs ++ (34 ∷ []))

-- "one or more decimal digits"; "A number is at most 4,294,967,295."
pub record Digits (ds : List ℕ) : Type 0 where
  pub some : 0 < length ds
  pub are : every digit ds ≡ true
  pub fits : value_from 0 ds ≤ 4294967295

-- "A string has at most 255 bytes and at most four bytes 2ah (`*`), however they are written."
pub record Characters (cs : List Character) : Type 0 where
  pub are : good_characters cs ≡ true
  pub short : length (characters_bytes cs) ≤ 255
  pub stars : stars_in (characters_bytes cs) ≤ 4

unfoldable pub GoodConstant : Comparison → Constant → Type 0
GoodConstant c (number ds) = Digits ds
GoodConstant c (sized ds w) = Digits ds × (is_width w (value_from 0 ds) ≡ true)
GoodConstant c (string cs) = Characters cs × (is_equality c ≡ true)

unfoldable pub meant : ℕ → Comparison → Constant → Relation
meant id c (number ds) = number_relation id c (width_of id (value_from 0 ds)) (value_from 0 ds)
meant id c (sized ds w) = number_relation id c (w - 48) (value_from 0 ds)
meant id c (string cs) = text_relation id c (characters_bytes cs)

-- ---- relations

pub record Written : Type 0 where
  pub item : Item
  pub id : ℕ
  pub before : List ℕ
  pub comparison : Comparison
  pub behind : List ℕ
  pub constant : Constant

unfoldable pub written_text : Written → List ℕ
written_text r = item_text r.item ++ (r.before ++ (operator_text r.comparison ++ (r.behind ++ constant_text r.constant)))

abbrev pub relation_of : Written → Relation
relation_of r = meant r.id r.comparison r.constant

pub record GoodWritten (r : Written) : Type 0 where
  pub stands : Stands r.item r.id
  pub before : Blanks r.before
  pub behind : Blanks r.behind
  pub constant : GoodConstant r.comparison r.constant

-- ---- sums, products and factors: "AND binds closer than OR, each groups from the left"

mutual
  pub data Sum : Type 0 where
    product : Product → Sum
    plus : Sum → Product → Sum

  pub data Product : Type 0 where
    factor : Factor → Product
    times : Product → Factor → Product

  pub data Factor : Type 0 where
    relation : List ℕ → Written → List ℕ → Factor
    bracket : List ℕ → Sum → List ℕ → Factor

-- '|' is 124, '&' is 38, '(' and ')' are 40 and 41
unfoldable mutual
  pub textS : Sum → List ℕ
  textS (product p) = textP p
  textS (plus s p) = textS s ++ (124 ∷ 124 ∷ textP p)

  pub textP : Product → List ℕ
  textP (factor f) = textF f
  textP (times p f) = textP p ++ (38 ∷ 38 ∷ textF f)

  pub textF : Factor → List ℕ
  textF (relation x r y) = x ++ (written_text r ++ y)
  textF (bracket x s y) = x ++ (40 ∷ (textS s ++ (41 ∷ y)))

unfoldable mutual
  pub formulaS : Sum → Formula
  formulaS (product p) = formulaP p
  formulaS (plus s p) = formula.either (formulaS s) (formulaP p)

  pub formulaP : Product → Formula
  formulaP (factor f) = formulaF f
  formulaP (times p f) = formula.both (formulaP p) (formulaF f)

  pub formulaF : Factor → Formula
  formulaF (relation x r y) = formula.relation (relation_of r)
  formulaF (bracket x s y) = formulaS s

unfoldable mutual
  pub GoodS : Sum → Type 0
  GoodS (product p) = GoodP p
  GoodS (plus s p) = GoodS s × GoodP p

  pub GoodP : Product → Type 0
  GoodP (factor f) = GoodF f
  GoodP (times p f) = GoodP p × GoodF f

  pub GoodF : Factor → Type 0
  GoodF (relation x r y) = Blanks x × GoodWritten r × Blanks y
  GoodF (bracket x s y) = Blanks x × GoodS s × Blanks y

-- how deep brackets are nested, "redundant ones count"
unfoldable mutual
  pub nestS : Sum → ℕ
  nestS (product p) = nestP p
  nestS (plus s p) = max (nestS s) (nestP p)

  pub nestP : Product → ℕ
  nestP (factor f) = nestF f
  nestP (times p f) = max (nestP p) (nestF f)

  pub nestF : Factor → ℕ
  nestF (relation x r y) = 0
  nestF (bracket x s y) = suc (nestS s)

-- how many pairs of brackets there are
unfoldable mutual
  pub pairsS : Sum → ℕ
  pairsS (product p) = pairsP p
  pairsS (plus s p) = pairsS s + pairsP p

  pub pairsP : Product → ℕ
  pairsP (factor f) = pairsF f
  pairsP (times p f) = pairsP p + pairsF f

  pub pairsF : Factor → ℕ
  pairsF (relation x r y) = 0
  pairsF (bracket x s y) = suc (pairsS s)

-- ---- texts

-- a text of the grammar, and what it means; "brackets are nested at most 16 deep"
pub record Reads (text : List ℕ) (f : Formula) : Type 0 where
  pub sum : Sum
  pub good : GoodS sum
  pub nested : nestS sum ≤ 16
  pub is_text : textS sum ≡ text
  pub is_formula : formulaS sum ≡ f

-- bytes with which a text of the grammar begins
pub record Begins (bytes : List ℕ) : Type 0 where
  pub rest : List ℕ
  pub means : Formula
  pub reads : Reads (bytes ++ rest) means

-- the first wrong place, counted from 0: all before it begins a text of the grammar; with the byte at it nothing does; and the whole is none
pub record WrongPlace (text : List ℕ) (place : ℕ) : Type 0 where
  pub within : place ≤ length text
  pub begins : Begins (take place text)
  pub never : place < length text → Begins (take (place + 1) text) → ⊥
  pub none : (f : Formula) → Reads text f → ⊥
