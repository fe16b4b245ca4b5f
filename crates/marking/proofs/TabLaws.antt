-- Laws on the first TAB of a line, byte by byte and piece by piece. Assumes nothing.
use Rattle.std.proofs.Common.{◌≡◌, ℕ, zero, suc, ◌+◌, ◌-◌, ◌%◌, ◌<◌, ◌≤◌, Bool, true, false, cond, eqb, ltb, List, [], ◌∷◌, length, get_or, take, drop, sym, refl, ap, ◌∙◌, add-one, arith, length-drop, drop_of_length-le, drop-cons, drop-drop, ltb-false, le-ltb, lt-ltb, eq-eqb, ne_eqb, eqb-true}
use lib.Seq.{drop-nil}
use borrow.Author.Tests.{eqb-false}
use Rattle.input.proofs.Places.{end_part}
use Rattle.marking.specs.Fields.{fields_end, InField}
use Rattle.marking.proofs.FieldLaws.{end_most}

positive : (n : ℕ) → (n ≡ 0 → ⊥) → 0 < n
positive zero h = absurd (h refl)
positive (suc n) h = omega arith

-- ---- the first TAB

cons_here : (b : ℕ) (bs : List ℕ) → b ≡ 9 → fields_end 0 (b ∷ bs) ≡ 0
unfolding fields_end
cons_here b bs e = rw (eq-eqb b 9 e)

cons_on : (b : ℕ) (bs : List ℕ) → (b ≡ 9 → ⊥) → fields_end 0 (b ∷ bs) ≡ suc (fields_end 0 bs)
unfolding fields_end
cons_on b bs h = rw (ne_eqb b 9 h)

pub tab_here : (l : List ℕ) (n : ℕ) → n < length l → get_or l n 0 ≡ 9 → fields_end 0 (drop n l) ≡ 0
tab_here l n p e = rw (drop-cons l n 0 p) (cons_here (get_or l n 0) (drop (suc n) l) e)

pub tab_on : (l : List ℕ) (n : ℕ) → n < length l → (get_or l n 0 ≡ 9 → ⊥) → fields_end 0 (drop n l) ≡ suc (fields_end 0 (drop (suc n) l))
tab_on l n p h = rw (drop-cons l n 0 p) (cons_on (get_or l n 0) (drop (suc n) l) h)

pub tab_end : (l : List ℕ) (n : ℕ) → length l ≤ n → fields_end 0 (drop n l) ≡ 0
unfolding fields_end
tab_end l n p = rw (drop_of_length-le l p)

pub none_before : (l : List ℕ) → InField l 0
none_before l = record { within = omega arith; count = omega arith }

-- `least` is the least distance of the first i bytes from a TAB, counted upwards from it
pub record Near (l : List ℕ) (least i : ℕ) : Type 0 where
  pub within : i ≤ length l
  pub found : least ≡ 0 → fields_end 0 l < length l
  pub passed : 0 < least → fields_end 0 l ≡ i + fields_end 0 (drop i l)

-- a byte less 9, and 9 more again
pub distance : (x : ℕ) → x < 256 → ((x + 247) % 256 + 9) % 256 ≡ x
distance x h = omega arith

pub near_none : (l : List ℕ) → Near l 255 0
near_none l = record { within = omega arith; found = λ e. absurd (omega arith); passed = λ h. omega arith }

module _ (l : List ℕ) (least i d : ℕ) (h : i < length l) (small : d < 256) (e : (d + 9) % 256 ≡ get_or l i 0) (near : Near l least i) where
  tab : 0 < least → d ≡ 0 → fields_end 0 l < length l
  tab some z = omega (arith, near.passed some, tab_here l i h (sym e ∙ ap (λ (k : ℕ). (k + 9) % 256) z))

  onward : 0 < least → 0 < d → fields_end 0 l ≡ i + 1 + fields_end 0 (drop (i + 1) l)
  onward some far =
      rw (add-one i) (omega (arith, near.passed some, tab_on l i h (λ t. let x : (d + 9) % 256 ≡ 9 = e ∙ t in omega arith)))

  pub near_closer : d < least → Near l d (i + 1)
  near_closer c = record { within = omega arith; found = λ z. tab (omega arith) z; passed = λ far. onward (omega arith) far }

  pub near_same : least ≤ d → Near l least (i + 1)
  near_same c = record { within = omega arith; found = near.found; passed = λ some. onward some (omega arith) }

pub near_all : (l : List ℕ) (least i : ℕ) → Near l least i → length l ≤ i → eqb least 0 ≡ ltb (fields_end 0 l) (length l)
near_all l least i near all = go (eqb least 0) refl
  where
    go : (t : Bool) → eqb least 0 ≡ t → t ≡ ltb (fields_end 0 l) (length l)
    go true e = sym (lt-ltb (fields_end 0 l) (length l) (near.found (eqb-true least 0 e)))
    go false e =
        let ne : least ≡ 0 → ⊥ = eqb-false least 0 e in
        let some : 0 < least = positive least ne in
        sym (le-ltb (fields_end 0 l) (length l) (omega (arith, near.passed some, near.within, tab_end l i all)))

-- a piece without a TAB is passed over
piece_passed : (k : ℕ) (l : List ℕ) → k ≤ length l → length (take k l) ≤ fields_end 0 (take k l) → fields_end 0 l ≡ k + fields_end 0 (drop k l)
piece_passed zero l h e = omega arith
piece_passed (suc k) [] h e = absurd (omega arith)
piece_passed (suc k) (b ∷ bs) h e = go (eqb b 9) refl (piece_passed k bs (omega arith))
  where
    go : (t : Bool)
        → eqb b 9 ≡ t
        → (length (take k bs) ≤ fields_end 0 (take k bs) → fields_end 0 bs ≡ k + fields_end 0 (drop k bs))
        → fields_end 0 (b ∷ bs) ≡ suc k + fields_end 0 (drop k bs)
    go true p ih = absurd (omega (arith, e, cons_here b (take k bs) (eqb-true b 9 p)))
    go false p ih =
        let ne : b ≡ 9 → ⊥ = eqb-false b 9 p in
        omega (arith, cons_on b bs ne, ih (omega (arith, e, cons_on b (take k bs) ne)))

pub passes_piece : (l : List ℕ) (n size : ℕ)
    → InField l n
    → size ≤ length l - n
    → false ≡ ltb (fields_end 0 (take (n + size - n) (drop n l))) (length (take (n + size - n) (drop n l)))
    → InField l (n + size)
passes_piece l n size p h e =
    let s : n + size - n ≡ size = omega arith in
    let q : length (take size (drop n l)) ≤ fields_end 0 (take size (drop n l)) = ltb-false _ _ (sym (rw s at e)) in
    let m : size ≤ length (drop n l) = rw (length-drop n l) h in
    record {
      within = omega (arith, p.within);
      count = rw (← drop-drop size n l) (omega (arith, p.count, piece_passed size (drop n l) m q));
    }

-- ---- field by field

next_field : (n : ℕ) (l : List ℕ) → fields_end 0 l < length l → fields_end (suc n) l ≡ fields_end 0 l + 1 + fields_end n (drop (fields_end 0 l + 1) l)
unfolding fields_end
next_field n [] p = absurd (omega (arith, p))
next_field n (b ∷ bs) p = go (eqb b 9) (λ (q : fields_end 0 bs < length bs). next_field n bs q) p
  where
    go : (t : Bool) → (fields_end 0 bs < length bs → fields_end (suc n) bs ≡ fields_end 0 bs + 1 + fields_end n (drop (fields_end 0 bs + 1) bs))
        → cond t 0 (suc (fields_end 0 bs)) < suc (length bs)
        → cond t (suc (fields_end n bs)) (suc (fields_end (suc n) bs))
        ≡ cond t 0 (suc (fields_end 0 bs)) + 1 + fields_end n (drop (cond t 0 (suc (fields_end 0 bs)) + 1) (b ∷ bs))
    go true h q = omega arith
    go false h q =
        let e : suc (fields_end 0 bs) + 1 ≡ suc (fields_end 0 bs + 1) = omega arith in
        rw e (omega (arith, h (omega (arith, q))))

only_field : (n : ℕ) (l : List ℕ) → length l ≤ fields_end 0 l → fields_end n l ≡ fields_end 0 l
unfolding fields_end
only_field zero l p = refl
only_field (suc n) [] p = refl
only_field (suc n) (b ∷ bs) p = go (eqb b 9) (λ (q : length bs ≤ fields_end 0 bs). only_field (suc n) bs q) p
  where
    go : (t : Bool) → (length bs ≤ fields_end 0 bs → fields_end (suc n) bs ≡ fields_end 0 bs) → suc (length bs) ≤ cond t 0 (suc (fields_end 0 bs))
        → cond t (suc (fields_end n bs)) (suc (fields_end (suc n) bs)) ≡ cond t 0 (suc (fields_end 0 bs))
    go true h q = absurd (omega (arith, q))
    go false h q = ap suc (h (omega (arith, q)))

-- from a place on, of a list that is handed over as its end
module _ (line : List ℕ) (at left f : ℕ) (within : at ≤ length line) (e : f ≡ fields_end 0 (take (length line - at) (drop at line))) where
  first_is : f ≡ fields_end 0 (drop at line)
  first_is = e ∙ ap (λ (l : List ℕ). fields_end 0 l) (end_part at line)

  pub ends_here : (end : ℕ) → end ≡ at + f → length line ≤ end → end ≡ at + fields_end left (drop at line)
  ends_here end g p =
      g ∙ ap (λ (k : ℕ). at + k)
      (first_is ∙ sym (only_field left (drop at line) (omega (arith, p, g, first_is, length-drop at line))))

  pub field_on : (end : ℕ) → end ≡ at + f → end < length line → 0 < left
      → end + 1 + fields_end (left - 1) (drop (end + 1) line) ≡ at + fields_end left (drop at line)
  field_on end g p some =
      go left some
    where
      plus : (a b : ℕ) → a + b + 1 ≡ a + (b + 1)
      plus a b = omega arith

      go : (n : ℕ) → 0 < n → end + 1 + fields_end (n - 1) (drop (end + 1) line) ≡ at + fields_end n (drop at line)
      go zero q = absurd (omega (arith, q))
      go (suc n) q =
          let h = next_field n (drop at line) (omega (arith, p, g, first_is, length-drop at line)) in
          let d : drop (fields_end 0 (drop at line) + 1) (drop at line) ≡ drop (end + 1) line =
          drop-drop (fields_end 0 (drop at line) + 1) at line
          ∙ ap (λ (k : ℕ). drop k line) (sym (plus at (fields_end 0 (drop at line))) ∙ ap (λ (k : ℕ). at + k + 1) (sym first_is) ∙ ap (λ (k : ℕ). k + 1) (sym g))
          in
          let m : suc n - 1 ≡ n = omega arith in
          rw (m, h, d) (omega (arith, g, first_is))

  pub field_last : (end : ℕ) → end ≡ at + f → left ≡ 0 → end ≡ at + fields_end left (drop at line)
  field_last end g z = rw z (g ∙ ap (λ (k : ℕ). at + k) first_is)

  pub field_most : at + f ≤ length line
  field_most = omega (arith, within, first_is, end_most 0 (drop at line), length-drop at line)
