-- What the readers of tokens find at a place of a text. That this is what the machine (crates/grammar) does there is proved in proofs/TokenLaws.antt and
-- proofs/ItemLaws.antt. Assumes nothing.
use Rattle.std.specs.Prelude.{false, cond, List, [], ◌∷◌, ℕ, zero, suc, ◌+◌, ◌-◌, ◌*◌, ltb, leb, eqb, get_or, drop, Result, Ok, Err}
use Rattle.lines.specs.Numerals.{digit}
use Rattle.names.specs.Kinds.{is_blank, is_printed, hex_of, is_hex_digit}
use Rattle.names.specs.Rows.{found}
use Rattle.grammar.specs.Meaning.{width_of, is_width}
use Rattle.grammar.specs.declared.Comparison.{Comparison}
use Rattle.grammar.specs.declared.Comparison.TheVariants.{Equal, Greater, Less, NotEqual, GreaterOrEqual, LessOrEqual}
use Rattle.grammar.specs.declared.Reason.{Reason}
use Rattle.grammar.specs.declared.Reason.TheVariants as reason
use Rattle.tokens.specs.declared.Wrong.{Wrong}
use Rattle.tokens.specs.declared.strings.Character.{Character}
use Rattle.tokens.specs.declared.strings.Character.TheVariants as character

-- ---- blanks

-- how many blanks bytes begin with
unfoldable pub blanks_in : List ℕ → ℕ
blanks_in [] = 0
blanks_in (b ∷ bs) = cond (is_blank b) (suc (blanks_in bs)) 0

abbrev pub past_blanks : List ℕ → ℕ → ℕ
past_blanks text at = at + blanks_in (drop at text)

-- ---- items; "#" is 35

-- n hex digits more, behind others of the value v; the first byte that is left has place p
unfoldable pub hash_from : ℕ → ℕ → ℕ → List ℕ → Result (ℕ × ℕ) ℕ
hash_from zero v p bs = Ok (v, p)
hash_from (suc n) v p [] = Err p
hash_from (suc n) v p (b ∷ bs) = cond (is_hex_digit b) (hash_from n (16 * v + hex_of b) (suc p) bs) (Err p)

-- a name that begins at place p
unfoldable pub named_at : ℕ → Result (ℕ × ℕ) ℕ → Result (ℕ × ℕ) ℕ
named_at p (Ok (id, n)) = Ok (id, p + n)
named_at p (Err n) = Err (p + n)

unfoldable pub item_at : List ℕ → ℕ → Result (ℕ × ℕ) ℕ
item_at text at = cond (eqb (get_or text at 0) 35) (hash_from 4 0 (at + 1) (drop (at + 1) text)) (named_at at (found (drop at text)))

-- ---- operators; "=" is 61

unfoldable pub order_at : List ℕ → ℕ → Comparison → Comparison → Result (Comparison × ℕ) ℕ
order_at text at alone equal = cond (eqb (get_or text at 0) 61) (Ok (equal, at + 1)) (Ok (alone, at))

unfoldable pub second_at : List ℕ → ℕ → Comparison → Result (Comparison × ℕ) ℕ
second_at text at c = cond (eqb (get_or text at 0) 61) (Ok (c, at + 1)) (Err at)

unfoldable pub sign_at : List ℕ → ℕ → Result (Comparison × ℕ) ℕ
sign_at text at =
    cond (eqb (get_or text at 0) 60) (order_at text (at + 1) Less LessOrEqual)
    (cond (eqb (get_or text at 0) 62) (order_at text (at + 1) Greater GreaterOrEqual)
    (cond (eqb (get_or text at 0) 61) (second_at text (at + 1) Equal) (cond (eqb (get_or text at 0) 33) (second_at text (at + 1) NotEqual) (Err at))))

-- ---- numbers; ":" is 58

-- further digits behind others of the value v; the first byte that is left has place p
unfoldable pub amount_from : ℕ → ℕ → List ℕ → Result (ℕ × ℕ) ℕ
amount_from v p [] = Ok (v, p)
amount_from v p (b ∷ bs) =
    cond (digit b) (cond (leb (10 * v + (b - 48)) 4294967295) (amount_from (10 * v + (b - 48)) (suc p) bs) (Err p)) (Ok (v, p))

-- the width of a number whose digits end at a place
unfoldable pub sized_at : List ℕ → ℕ → ℕ → ℕ → Result (ℕ × ℕ) ℕ
sized_at text at id v =
    cond (eqb (get_or text at 0) 58)
    (cond (is_width (get_or text (at + 1) 0) v) (Ok (get_or text (at + 1) 0 - 48, at + 2)) (Err (at + 1)))
    (Ok (width_of id v, at))

-- the first wrong place, and why it is wrong
abbrev pub wrong_at : ℕ → Reason → Wrong
wrong_at at reason = record { at = at; reason = reason }

unfoldable pub number_of : ℕ → Result (ℕ × ℕ) ℕ → Result (ℕ × ℕ × ℕ) Wrong
number_of v (Ok (w, p)) = Ok (v, w, p)
number_of v (Err p) = Err (wrong_at p reason.Width)

unfoldable pub sized_from : List ℕ → ℕ → Result (ℕ × ℕ) ℕ → Result (ℕ × ℕ × ℕ) Wrong
sized_from text id (Ok (v, p)) = number_of v (sized_at text p id v)
sized_from text id (Err p) = Err (wrong_at p reason.Large)

unfoldable pub number_at : List ℕ → ℕ → ℕ → Result (ℕ × ℕ × ℕ) Wrong
number_at text at id =
    cond (digit (get_or text at 0)) (sized_from text id (amount_from (get_or text at 0 - 48) (at + 1) (drop (at + 1) text))) (Err (wrong_at at reason.Constant))

-- ---- characters of a string that has so many bytes and stars

-- a byte that is complete at a place
unfoldable pub added_at : ℕ → ℕ → ℕ → ℕ → Character
added_at at b count stars =
    cond (cond (eqb b 42) (leb 4 stars) false) (character.Wrong at reason.Stars)
    (cond (ltb count 255) (character.Is b (at + 1)) (character.Wrong at reason.Long))

unfoldable pub code_at : List ℕ → ℕ → ℕ → ℕ → Character
code_at text at count stars =
    cond (is_hex_digit (get_or text at 0))
    (cond (is_hex_digit (get_or text (at + 1) 0)) (added_at (at + 1) (16 * hex_of (get_or text at 0) + hex_of (get_or text (at + 1) 0)) count stars)
    (character.Wrong (at + 1) reason.String))
    (character.Wrong at reason.String)

unfoldable pub escape_at : List ℕ → ℕ → ℕ → ℕ → Character
escape_at text at count stars =
    cond (eqb (get_or text at 0) 34) (character.Is 34 (at + 1))
    (cond (eqb (get_or text at 0) 92) (character.Is 92 (at + 1))
    (cond (eqb (get_or text at 0) 120) (code_at text (at + 1) count stars) (character.Wrong at reason.String)))

unfoldable pub character_at : List ℕ → ℕ → ℕ → ℕ → Character
character_at text at count stars =
    cond (eqb (get_or text at 0) 34) character.End
    (cond (eqb (get_or text at 0) 92) (cond (ltb count 255) (escape_at text (at + 1) count stars) (character.Wrong at reason.Long))
    (cond (is_printed (get_or text at 0)) (added_at at (get_or text at 0) count stars) (character.Wrong at reason.String)))
