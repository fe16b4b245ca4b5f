-- A line that is found in the bytes read so far is the same line whatever is read behind them, and so is one that is too long. Assumes nothing.
use Rattle.std.proofs.Common.{◌≡◌, ℕ, suc, ◌+◌, ◌<◌, ◌≤◌, Bool, true, false, cond, eqb, ltb, List, [], ◌∷◌, ◌++◌, length, drop, sym, refl, ap, ◌∙◌, append-nil, arith, length-append, ltb-false, ltb-true, le-ltb, lt-ltb, ne_eqb, eqb-true}
use lib.Seq.{drop-append-le}
use borrow.Author.Tests.{eqb-false}
use Rattle.input.specs.declared.Found.{Found}
use Rattle.input.specs.declared.Found.TheVariants as found
use Rattle.input.specs.Input.{line_length, found_of, find_of}

-- ---- the first newline, with more behind the bytes

length_least : (u : List ℕ) → line_length u ≤ length u
unfolding line_length
length_least [] = omega arith
length_least (b ∷ bs) = go (eqb b 10) (length_least bs)
  where
    go : (t : Bool) → line_length bs ≤ length bs → cond t 0 (suc (line_length bs)) ≤ suc (length bs)
    go true h = omega arith
    go false h = omega (arith, h)

length_grows : (u rest : List ℕ) → line_length u ≤ line_length (u ++ rest)
unfolding line_length
length_grows [] rest = omega arith
length_grows (b ∷ bs) rest = go (eqb b 10) (length_grows bs rest)
  where
    go : (t : Bool) → line_length bs ≤ line_length (bs ++ rest) → cond t 0 (suc (line_length bs)) ≤ cond t 0 (suc (line_length (bs ++ rest)))
    go true h = omega arith
    go false h = omega (arith, h)

length_same : (u rest : List ℕ) → line_length u < length u → line_length (u ++ rest) ≡ line_length u
unfolding line_length
length_same [] rest p = absurd (omega (arith, p))
length_same (b ∷ bs) rest p = go (eqb b 10) p (length_same bs rest)
  where
    go : (t : Bool) → cond t 0 (suc (line_length bs)) < suc (length bs) → (line_length bs < length bs → line_length (bs ++ rest) ≡ line_length bs)
        → cond t 0 (suc (line_length (bs ++ rest))) ≡ cond t 0 (suc (line_length bs))
    go true q h = refl
    go false q h = ap suc (h (omega (arith, q)))

-- ---- what is found

-- by the four tests: too long, shorter than the bytes, at the end of the input, and empty
abbrev by_tests : Bool → Bool → Bool → Bool → ℕ → Found
by_tests long within ended empty n =
    cond long found.TooLong (cond within (found.Line n) (cond ended (cond empty found.Nothing (found.Line n)) found.Part))

line_of : (a b : ℕ) → found.Line a ≡ found.Line b → a ≡ b
line_of a b e = cc

-- a line of n bytes among those read, with what may follow
pub record LineFound (u rest : List ℕ) (n : ℕ) : Type 0 where
  pub most : n ≤ 131072
  pub within : n ≤ length u
  pub some : 0 < length u
  pub found : find_of (u ++ rest) true ≡ found.Line n
  -- the line and its newline are passed over
  pub behind : drop (n + 1) (u ++ rest) ≡ drop (n + 1) u ++ rest

found_within : (u rest : List ℕ) → line_length u ≤ 131072 → line_length u < length u → LineFound u rest (line_length u)
unfolding find_of found_of
found_within u rest p q =
    record {
      most = p;
      within = omega (arith, q);
      some = omega (arith, q);
      found = rw (
        length_same u rest q,
        le-ltb 131072 (line_length u) p,
        lt-ltb (line_length u) (length (u ++ rest)) (omega (arith, q, length-append u rest)),
      );
      behind = drop-append-le (line_length u + 1) u rest (omega (arith, q));
    }

found_last : (u rest : List ℕ) → line_length u ≤ 131072 → length u ≤ line_length u → (line_length u ≡ 0 → ⊥) → rest ≡ []
    → LineFound u rest (line_length u)
unfolding find_of found_of
found_last u rest p q z e =
    rw e
    (record {
      most = p;
      within = length_least u;
      some = positive (length u) (λ x. z (omega (arith, x, length_least u)));
      found = rw (append-nil u, le-ltb 131072 (line_length u) p, le-ltb (line_length u) (length u) q, ne_eqb (line_length u) 0 z);
      behind =
          ap (λ (l : List ℕ). drop (line_length u + 1) l) (append-nil u) ∙ sym (append-nil (drop (line_length u + 1) u));
    })
  where
    positive : (n : ℕ) → (n ≡ 0 → ⊥) → 0 < n
    positive ℕ.zero h = absurd (h refl)
    positive (suc n) h = omega arith

pub find_line : (u rest : List ℕ) (ended : Bool) (n : ℕ) → find_of u ended ≡ found.Line n → (ended ≡ true → rest ≡ []) → LineFound u rest n
unfolding find_of found_of
find_line u rest ended n e none =
    go (ltb 131072 (line_length u)) refl (ltb (line_length u) (length u)) refl ended none (eqb (line_length u) 0) refl e
  where
    is : LineFound u rest (line_length u) → found.Line (line_length u) ≡ found.Line n → LineFound u rest n
    is w f = rw (← line_of (line_length u) n f) w

    go : (t : Bool) → ltb 131072 (line_length u) ≡ t → (v : Bool) → ltb (line_length u) (length u) ≡ v → (x : Bool)
        → (x ≡ true → rest ≡ []) → (z : Bool) → eqb (line_length u) 0 ≡ z
        → by_tests t v x z (line_length u) ≡ found.Line n
        → LineFound u rest n
    go true a v b x c z d f = let k : ◌≡◌ {A = ℕ} 0 1 = cc in absurd (omega arith)
    go false a true b x c z d f = is (found_within u rest (ltb-false 131072 (line_length u) a) (ltb-true (line_length u) (length u) b)) f
    go false a false b false c z d f = let k : ◌≡◌ {A = ℕ} 0 1 = cc in absurd (omega arith)
    go false a false b true c true d f = let k : ◌≡◌ {A = ℕ} 0 1 = cc in absurd (omega arith)
    go false a false b true c false d f =
        is (found_last u rest (ltb-false 131072 (line_length u) a) (ltb-false (line_length u) (length u) b) (eqb-false (line_length u) 0 d) (c refl)) f

still_long : (u : List ℕ) (ended : Bool) → 131072 < line_length u → find_of u ended ≡ found.TooLong
unfolding find_of found_of
still_long u ended p = rw (lt-ltb 131072 (line_length u) p)

pub find_long : (u rest : List ℕ) (ended : Bool) → find_of u ended ≡ found.TooLong → find_of (u ++ rest) true ≡ found.TooLong
unfolding find_of found_of
find_long u rest ended e =
    go (ltb 131072 (line_length u)) refl (ltb (line_length u) (length u)) ended (eqb (line_length u) 0) e
  where
    go : (t : Bool) → ltb 131072 (line_length u) ≡ t → (v x z : Bool)
        → by_tests t v x z (line_length u) ≡ found.TooLong
        → find_of (u ++ rest) true ≡ found.TooLong
    go true a v x z f = still_long (u ++ rest) true (omega (arith, ltb-true 131072 (line_length u) a, length_grows u rest))
    go false a true x z f = let k : ◌≡◌ {A = ℕ} 0 1 = cc in absurd (omega arith)
    go false a false false z f = let k : ◌≡◌ {A = ℕ} 0 1 = cc in absurd (omega arith)
    go false a false true true f = let k : ◌≡◌ {A = ℕ} 0 1 = cc in absurd (omega arith)
    go false a false true false f = let k : ◌≡◌ {A = ℕ} 0 1 = cc in absurd (omega arith)

-- ---- nothing, and no whole line yet

empty : (u : List ℕ) → length u ≤ 0 → u ≡ []
empty [] p = refl
empty (b ∷ bs) p = absurd (omega (arith, p))

pub find_nothing : (u : List ℕ) (ended : Bool) → find_of u ended ≡ found.Nothing → (ended ≡ true) × (u ≡ [])
unfolding find_of found_of
find_nothing u ended e =
    go (ltb 131072 (line_length u)) (ltb (line_length u) (length u)) refl ended (eqb (line_length u) 0) refl e
  where
    go : (t v : Bool) → ltb (line_length u) (length u) ≡ v → (x z : Bool) → eqb (line_length u) 0 ≡ z
        → by_tests t v x z (line_length u) ≡ found.Nothing
        → (x ≡ true) × (u ≡ [])
    go true v b x z d f = let k : ◌≡◌ {A = ℕ} 0 1 = cc in absurd (omega arith)
    go false true b x z d f = let k : ◌≡◌ {A = ℕ} 0 1 = cc in absurd (omega arith)
    go false false b false z d f = let k : ◌≡◌ {A = ℕ} 0 1 = cc in absurd (omega arith)
    go false false b true true d f =
        (refl, empty u (omega (arith, ltb-false (line_length u) (length u) b, eqb-true (line_length u) 0 d)))
    go false false b true false d f = let k : ◌≡◌ {A = ℕ} 0 1 = cc in absurd (omega arith)

pub nothing_found : find_of [] true ≡ found.Nothing
unfolding find_of found_of line_length
nothing_found = refl

pub find_part : (u : List ℕ) (ended : Bool) → find_of u ended ≡ found.Part → ended ≡ false
unfolding find_of found_of
find_part u ended e = go (ltb 131072 (line_length u)) (ltb (line_length u) (length u)) ended (eqb (line_length u) 0) e
  where
    go : (t v x z : Bool)
        → by_tests t v x z (line_length u) ≡ found.Part
        → x ≡ false
    go true v x z f = let k : ◌≡◌ {A = ℕ} 0 1 = cc in absurd (omega arith)
    go false true x z f = let k : ◌≡◌ {A = ℕ} 0 1 = cc in absurd (omega arith)
    go false false false z f = refl
    go false false true true f = let k : ◌≡◌ {A = ℕ} 0 1 = cc in absurd (omega arith)
    go false false true false f = let k : ◌≡◌ {A = ℕ} 0 1 = cc in absurd (omega arith)
