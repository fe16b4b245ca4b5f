-- Laws on pieces of a line. Assumes nothing.
use native.Mathlib.Omega.{arith}
use native.Mathlib.Numerals.{add-one}
use mathlib.Core.Path.{◌≡◌, refl, sym, ◌∙◌, ap}
use mathlib.Core.List.{List, [], ◌∷◌, ◌++◌, append_assoc}
use Prim.Native.Nat.{ℕ, ◌+◌, ◌-◌, ◌≤◌, ◌<◌}
use lib.ListN.{length, take, drop, get_or, length-append, length-drop, drop_of_length-le}
use lib.Seq.{sets, sets-eq, drop-cons, drop-drop}
use Rattle.lines.specs.Text.{decimal_of}
use Rattle.lines.specs.Lines.{Printed, printed, printed_in}
use Rattle.lines.proofs.Writing.{joined}
use Rattle.input.proofs.Places.{printed_all, end_part, put_end}
use Rattle.words.specs.Pieces.{Pushed}
use Rattle.words.specs.Why.{number_fields}

-- two pieces are one
pub joins : {out o1 o2 : List ℕ} {n a b : ℕ} {xs ys : List ℕ} → Pushed out n xs a o1 → Pushed o1 a ys b o2 → Pushed out n (xs ++ ys) b o2
joins {out} {o1} {o2} {n} {a} {b} {xs} {ys} p q =
    record {
      end = omega (arith, p.end, q.end, length-append xs ys);
      is = q.is ∙ rw (p.is, p.end) (joined out n xs ys);
    }

module _ (out : List ℕ) (n : ℕ) (xs ys : List ℕ) (fits : n + length (xs ++ ys) ≤ length out) where
  -- where both have room, the first has
  pub room_first : n + length xs ≤ length out
  room_first = omega (arith, fits, length-append xs ys)

  -- and the second has, behind it
  pub room_then : (a : ℕ) (now : List ℕ) → length now ≡ length out → Pushed out n xs a now → a + length ys ≤ length now
  room_then a now e p = omega (arith, fits, e, p.end, length-append xs ys)

-- ---- the numbers named, one at a time

next_number_law : (named : List ℕ) (i : ℕ) → i < length named
    → number_fields (drop i named) ≡ (9 ∷ decimal_of (get_or named i 0)) ++ number_fields (drop (i + 1) named)
unfolding number_fields
next_number_law named i h = rw (add-one i, drop-cons named i 0 h)

no_number : (named : List ℕ) (i : ℕ) → length named ≤ i → number_fields (drop i named) ≡ []
unfolding number_fields
no_number named i h = rw (drop_of_length-le named {i = i} h)

-- with i numbers put: the others, put from a place on, make the whole
pub record Left (first : List ℕ) (n : ℕ) (named now : List ℕ) (to i : ℕ) : Type 0 where
  pub size : length now ≡ length first
  pub end : to + length (number_fields (drop i named)) ≡ n + length (number_fields named)
  pub is : sets now to (number_fields (drop i named)) ≡ sets first n (number_fields named)

module _ (first : List ℕ) (n : ℕ) (named : List ℕ) where
  pub all_left : Left first n named first n 0
  all_left = record { size = refl; end = refl; is = refl }

  module _ (now : List ℕ) (to i : ℕ) (l : Left first n named now to i) where
    pub number_fits : i < length named → n + length (number_fields named) ≤ length first → to + length (9 ∷ decimal_of (get_or named i 0)) ≤ length now
    number_fits h fits =
        omega (
          arith,
          fits,
          l.size,
          l.end,
          ap length (next_number_law named i h),
          length-append (9 ∷ decimal_of (get_or named i 0)) (number_fields (drop (i + 1) named)),
        )

    pub number_put : i < length named → (later : List ℕ) (end : ℕ) → length later ≡ length now → Pushed now to (9 ∷ decimal_of (get_or named i 0)) end later
        → Left first n named later end (i + 1)
    number_put h later end e p =
        record {
          size = e ∙ l.size;
          end = omega (
            arith,
            l.end,
            p.end,
            ap length (next_number_law named i h),
            length-append (9 ∷ decimal_of (get_or named i 0)) (number_fields (drop (i + 1) named)),
          );
          is = rw (p.is, p.end) (joined now to (9 ∷ decimal_of (get_or named i 0)) (number_fields (drop (i + 1) named)))
              ∙ ap (λ (x : List ℕ). sets now to x) (sym (next_number_law named i h)) ∙ l.is;
        }

    pub none_left : length named ≤ i → Pushed first n (number_fields named) to now
    none_left h =
        record {
          end = omega (arith, l.end, ap length (no_number named i h));
          is = rw (no_number named i h) at l.is;
        }

-- ---- a line printed behind a piece

pub printed_behind : (now part line : List ℕ) (a size : ℕ) → a + length line ≤ length now
    → printed size part ≡ printed_in line (take (length now - a) (drop a now))
    → Pushed now a line (a + size) (take a now ++ (part ++ drop (length now - a) (drop a now)))
printed_behind now part line a size fits e =
    record { end = ap (λ (k : ℕ). a + k) (ap (λ (p : Printed). p.size) all); is = put_end a now part ∙ is }
  where
    all : printed size part ≡ printed (length line) (line ++ drop (length line) (drop a now))
    all =
        e ∙ ap (λ (t : List ℕ). printed_in line t) (end_part a now)
        ∙ printed_all line (drop a now) (omega (arith, fits, length-drop a now))

    is : take a now ++ part ≡ sets now a line
    is =
        ap (λ (p : Printed). take a now ++ p.text) all
        ∙ ap (λ (x : List ℕ). take a now ++ (line ++ x)) (drop-drop (length line) a now)
        ∙ sym (append_assoc (take a now) line (drop (a + length line) now))
        ∙ sym (sets-eq line now a fits)
