-- Laws on finding a line, and on what is left behind it. Assumes nothing.
use Rattle.std.proofs.Common.{◌≡◌, ℕ, zero, suc, ◌+◌, ◌-◌, ◌%◌, ◌<◌, ◌≤◌, Bool, true, false, cond, eqb, ltb, List, [], ◌∷◌, ◌++◌, length, get_or, take, drop, sym, refl, ap, ◌∙◌, add-one, arith, length-append, length-drop, drop_of_length-le, drop-cons, take_all, drop-drop, ltb-false, le-ltb, lt-ltb, eq-eqb, ne_eqb, eqb-true}
use lib.Seq.{drop-append_seam}
use borrow.Author.Tests.{eqb-false}
use Rattle.std.specs.List.{copy_within}
use Rattle.input.specs.Parts.{bytes_from, rest_of}
use Rattle.lines.specs.Commands.{read_of}
use Rattle.input.specs.Input.{line_length, Passed, found_of, find_of, moved_of, shifted, shift_of}
use Rattle.input.proofs.PartLaws.{bytes_part, part_length, rest_part, rest_length}

positive : (n : ℕ) → (n ≡ 0 → ⊥) → 0 < n
positive zero h = absurd (h refl)
positive (suc n) h = omega arith

-- ---- the first newline

pub line_none : line_length [] ≡ 0
unfolding line_length
line_none = refl

pub cons_here : (b : ℕ) (bs : List ℕ) → b ≡ 10 → line_length (b ∷ bs) ≡ 0
unfolding line_length
cons_here b bs e = rw (eq-eqb b 10 e)

pub cons_on : (b : ℕ) (bs : List ℕ) → (b ≡ 10 → ⊥) → line_length (b ∷ bs) ≡ line_length bs + 1
unfolding line_length
cons_on b bs h = rw (ne_eqb b 10 h) (sym (add-one (line_length bs)))

pub line_here : (l : List ℕ) (n : ℕ) → n < length l → get_or l n 0 ≡ 10 → line_length (drop n l) ≡ 0
line_here l n p e = rw (drop-cons l n 0 p) (cons_here (get_or l n 0) (drop (suc n) l) e)

pub line_on : (l : List ℕ) (n : ℕ) → n < length l → (get_or l n 0 ≡ 10 → ⊥) → line_length (drop n l) ≡ suc (line_length (drop (suc n) l))
line_on l n p h = rw (drop-cons l n 0 p) (omega (arith, cons_on (get_or l n 0) (drop (suc n) l) h))

pub line_end : (l : List ℕ) (n : ℕ) → length l ≤ n → line_length (drop n l) ≡ 0
unfolding line_length
line_end l n p = rw (drop_of_length-le l p)

-- a part that reaches to the end
pub end_all : (n : ℕ) (l : List ℕ) → take (length l - n) (drop n l) ≡ drop n l
end_all n l = take_all (length l - n) (drop n l) (omega (arith, length-drop n l))

pub none_passed : (l : List ℕ) → Passed l 0
none_passed l = record { within = omega arith; count = omega arith }

-- `least` is the least distance of the first i bytes from a newline, counted upwards from it
pub record Near (l : List ℕ) (least i : ℕ) : Type 0 where
  pub within : i ≤ length l
  pub found : least ≡ 0 → line_length l < length l
  pub passed : 0 < least → line_length l ≡ i + line_length (drop i l)

pub near_none : (l : List ℕ) → Near l 255 0
near_none l = record { within = omega arith; found = λ e. absurd (omega arith); passed = λ h. omega arith }

module _ (l : List ℕ) (least i d : ℕ) (h : i < length l) (small : d < 256) (e : (d + 10) % 256 ≡ get_or l i 0) (near : Near l least i) where
  newline : 0 < least → d ≡ 0 → line_length l < length l
  newline some z = omega (arith, near.passed some, line_here l i h (sym e ∙ ap (λ (k : ℕ). (k + 10) % 256) z))

  onward : 0 < least → 0 < d → line_length l ≡ i + 1 + line_length (drop (i + 1) l)
  onward some far =
      rw (add-one i) (omega (arith, near.passed some, line_on l i h (λ t. let x : (d + 10) % 256 ≡ 10 = e ∙ t in omega arith)))

  pub near_closer : d < least → Near l d (i + 1)
  near_closer c = record { within = omega arith; found = λ z. newline (omega arith) z; passed = λ far. onward (omega arith) far }

  pub near_same : least ≤ d → Near l least (i + 1)
  near_same c = record { within = omega arith; found = near.found; passed = λ some. onward some (omega arith) }

pub near_all : (l : List ℕ) (least i : ℕ) → Near l least i → length l ≤ i → eqb least 0 ≡ ltb (line_length l) (length l)
near_all l least i near all = go (eqb least 0) refl
  where
    go : (t : Bool) → eqb least 0 ≡ t → t ≡ ltb (line_length l) (length l)
    go true e = sym (lt-ltb (line_length l) (length l) (near.found (eqb-true least 0 e)))
    go false e =
        let ne : least ≡ 0 → ⊥ = eqb-false least 0 e in
        let some : 0 < least = positive least ne in
        sym (le-ltb (line_length l) (length l) (omega (arith, near.passed some, near.within, line_end l i all)))

-- a piece without a newline is passed over
piece_passed : (piece rest : List ℕ) → length piece ≤ line_length piece → line_length (piece ++ rest) ≡ length piece + line_length rest
piece_passed [] rest e = omega arith
piece_passed (b ∷ bs) rest e = go (eqb b 10) refl (piece_passed bs rest)
  where
    go : (t : Bool)
        → eqb b 10 ≡ t
        → (length bs ≤ line_length bs → line_length (bs ++ rest) ≡ length bs + line_length rest)
        → line_length (b ∷ bs ++ rest) ≡ suc (length bs) + line_length rest
    go true p ih = absurd (omega (arith, e, cons_here b bs (eqb-true b 10 p)))
    go false p ih =
        let ne : b ≡ 10 → ⊥ = eqb-false b 10 p in
        omega (arith, cons_on b (bs ++ rest) ne, ih (omega (arith, e, cons_on b bs ne)))

-- after n bytes without a newline `rest` is left
pub record Left (l rest : List ℕ) (n : ℕ) : Type 0 where
  pub passed : Passed l n
  pub is : rest ≡ drop n l

pub passes_piece : (l rest piece more : List ℕ) (n size : ℕ)
    → Left l rest n
    → rest ≡ piece ++ more
    → length piece ≡ size
    → false ≡ ltb (line_length piece) (length piece)
    → Left l more (n + size)
passes_piece l rest piece more n size p h s e =
    let d : drop n l ≡ piece ++ more = sym p.is ∙ h in
    record {
      passed = record {
        within = omega (arith, p.passed.within, ap length d, length-append piece more, length-drop n l);
        count = rw (← behind) (omega (arith, p.passed.count, ap line_length d, piece_passed piece more (ltb-false _ _ (sym e))));
      };
      is = behind;
    }
  where
    behind : more ≡ drop (n + size) l
    behind = sym (sym (drop-drop size n l) ∙ ap (drop size) (sym p.is ∙ h) ∙ ap (λ (k : ℕ). drop k (piece ++ more)) (sym s) ∙ drop-append_seam piece more)

-- ---- moving to the front

pub moved_within : (from n : ℕ) (l : List ℕ) → copy_within l from (from + n) 0 ≡ moved_of from n l
unfolding moved_of
moved_within from n l =
    let many : from + n - from ≡ n = omega arith in
    let behind : 0 + n ≡ n = omega arith in rw (many, behind) refl

-- ---- the same over a part that is cut to what is lent

pub find_part : (input : List ℕ) (from end e a : ℕ) (ended : Bool) → e ≡ cond (ltb end (length input)) end (length input) → a ≡ cond (ltb from e) from e
    → found_of (line_length (take (e - a) (drop a input))) (e - a) ended ≡ find_of (bytes_from from end input) ended
unfolding find_of
find_part input from end e a ended p q =
    ap (λ (l : List ℕ). found_of (line_length l) (e - a) ended) (bytes_part input from end e a p q)
    ∙ ap (λ (k : ℕ). found_of (line_length (bytes_from from end input)) k ended) (part_length input from end e a p q)

pub read_part : (input : List ℕ) (from end e a : ℕ) (bytes : List ℕ) → e ≡ cond (ltb end (length input)) end (length input)
    → a ≡ cond (ltb from e) from e → read_of (take (e - a) (drop a input)) bytes ≡ read_of (bytes_from from end input) bytes
read_part input from end e a bytes p q = ap (λ (l : List ℕ). read_of l bytes) (bytes_part input from end e a p q)

pub shift_part : (input : List ℕ) (from end r a : ℕ) → r ≡ rest_of from end (length input) → a ≡ cond (ltb from (length input)) from (length input)
    → shifted r (moved_of a r input) ≡ shift_of from end input
unfolding shift_of moved_of
shift_part input from end r a p q = rw (rest_length input from end r a p q, rest_part input from end r a p q)
