-- Laws on pieces written at a place, one behind the other. Assumes nothing.
use Rattle.std.proofs.Common.{◌≡◌, ℕ, suc, ◌+◌, ◌/◌, ◌%◌, ◌<◌, ◌≤◌, List, [], ◌∷◌, ◌++◌, length, get_or, drop, set, add-one, arith, drop_of_length-le, le-leb}
use borrow.Author.Tests.{lt-leb}
use lib.Seq.{sets, sets-eq, set_comm}
use Rattle.numbers.specs.Hex.{hex_digit}
use Rattle.lines.specs.Text.{decimal_of, hex_of}
use Rattle.lines.proofs.TextLaws.{one_digit, digits_one, more_digits, digits_more, hex_next}
use Rattle.lines.specs.Lines.{printed, printed_in}

-- two pieces written one behind the other are their join, written once
pub joined : (text : List ℕ) (at : ℕ) (xs ys : List ℕ) → sets (sets text at xs) (at + length xs) ys ≡ sets text at (xs ++ ys)
joined text at [] ys = let e : at + 0 ≡ at = omega arith in rw e
joined text at (x ∷ xs) ys = let e : at + suc (length xs) ≡ suc at + length xs = omega arith in rw e (joined (set text at x) (suc at) xs ys)

-- the last byte may be written first
pub last_first : (text : List ℕ) (at : ℕ) (xs : List ℕ) (y : ℕ)
    → sets (set text (at + length xs) y) at xs ≡ sets text at (xs ++ (y ∷ []))
last_first text at [] y = let e : at + 0 ≡ at = omega arith in rw e
last_first text at (x ∷ xs) y =
    let e : at + suc (length xs) ≡ suc at + length xs = omega arith in
    rw (e, set_comm text (suc at + length xs) at y x (λ h. omega arith)) (last_first (set text at x) (suc at) xs y)

-- a line at the front of a text that has room, and one that has none
pub printed_whole : (line text : List ℕ) → length line ≤ length text → printed (length line) (sets text 0 line) ≡ printed_in line text
unfolding printed_in
printed_whole line text h =
    let e : 0 + length line ≡ length line = omega arith in
    rw (le-leb (length line) (length text) h, sets-eq line text 0 (omega arith), e)

pub printed_none : (line text : List ℕ) → length text < length line → printed 0 text ≡ printed_in line text
unfolding printed_in
printed_none line text h = rw (lt-leb (length line) (length text) h)

-- ---- a number, its last digit first, and hex, byte by byte: what is still to be written makes the whole

pub decimal_step : (text : List ℕ) (at i rest : ℕ) (whole : List ℕ)
    → 9 < rest
    → i + 1 ≡ at + length (decimal_of rest)
    → sets text at (decimal_of rest) ≡ whole
    → sets (set text i (48 + rest % 10)) at (decimal_of (rest / 10)) ≡ whole
decimal_step text at i rest whole h e w =
    let e' : i ≡ at + length (decimal_of (rest / 10)) = omega (arith, digits_more rest h) in
    rw (e', last_first text at (decimal_of (rest / 10)) (48 + rest % 10), ← more_digits rest h) w

pub decimal_end : (text : List ℕ) (at i rest : ℕ) (whole : List ℕ)
    → rest ≤ 9
    → i + 1 ≡ at + length (decimal_of rest)
    → sets text at (decimal_of rest) ≡ whole
    → set text i (48 + rest) ≡ whole
decimal_end text at i rest whole h e w =
    let e' : i ≡ at = omega (arith, digits_one rest (omega arith)) in
    rw e' (rw (one_digit rest (omega arith)) at w)

pub hex_step : (text : List ℕ) (to i : ℕ) (bytes whole : List ℕ)
    → i < length bytes
    → sets text to (hex_of (drop i bytes)) ≡ whole
    → sets (set (set text to (hex_digit (get_or bytes i 0 / 16))) (to + 1) (hex_digit (get_or bytes i 0 % 16))) (to + 2) (hex_of (drop (i + 1) bytes))
    ≡ whole
hex_step text to i bytes whole h w =
    let e : to + 2 ≡ suc (suc to) = omega arith in
    rw (add-one to, add-one i, e) (rw (hex_next bytes i h) at w)

pub hex_end : (text : List ℕ) (to i : ℕ) (bytes whole : List ℕ)
    → length bytes ≤ i
    → sets text to (hex_of (drop i bytes)) ≡ whole
    → text ≡ whole
unfolding hex_of
hex_end text to i bytes whole h w = rw (drop_of_length-le bytes h) at w
