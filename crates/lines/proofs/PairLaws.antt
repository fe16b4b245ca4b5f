-- Laws on how pairs of hex digits are read (specs/Pairs.antt): it comes to specs/Numerals.antt. Assumes nothing.
use Rattle.std.proofs.Common.{◌≡◌, ℕ, zero, suc, ◌+◌, ◌-◌, ◌*◌, ◌/◌, ◌%◌, ◌<◌, ◌≤◌, Bool, true, false, cond, ltb, List, [], ◌∷◌, ◌++◌, map, length, get_or, take, drop, set, replicate, sym, refl, ap, ◌∙◌, append-nil, add-zero, add-one, arith, length-append, length-drop, drop_of_length-le, length-take-le, drop-cons, drop-drop, take_at, ltb-false, ltb-true, le-ltb, lt-ltb, max}
use lib.Seq.{sets, sets-eq}
use Rattle.lines.specs.Numerals.{hex_value, is_hex, bytes_in}
use Rattle.lines.specs.Pairs.{all_hex, pairs_in, digit_value, pair_byte}
use Rattle.lines.proofs.NumeralLaws.{pair, bytes_count, next_pair}

-- ---- the test: `most` is the largest value passed

module _ (line : List ℕ) (i most v : ℕ) (h : i < length line) (e : v ≡ hex_value (get_or line i 0)) where
  digits_step : all_hex (drop i line) ≡ cond (ltb v 16) (all_hex (drop (i + 1) line)) false
  unfolding all_hex
  digits_step = rw (add-one i, drop-cons line i 0 h, e)

  pub digits_larger : most < v → cond (ltb most 16) (all_hex (drop i line)) false ≡ cond (ltb v 16) (all_hex (drop (i + 1) line)) false
  digits_larger m = rw digits_step (go (ltb most 16) refl (ltb v 16) refl (all_hex (drop (i + 1) line)))
    where
      go : (t : Bool) → ltb most 16 ≡ t → (u : Bool) → ltb v 16 ≡ u → (a : Bool) → cond t (cond u a false) false ≡ cond u a false
      go true p u q a = refl
      go false p true q a = absurd (omega (arith, ltb-false most 16 p, ltb-true v 16 q))
      go false p false q a = refl

  pub digits_smaller : v ≤ most → cond (ltb most 16) (all_hex (drop i line)) false ≡ cond (ltb most 16) (all_hex (drop (i + 1) line)) false
  digits_smaller m = rw digits_step (go (ltb most 16) refl (ltb v 16) refl (all_hex (drop (i + 1) line)))
    where
      go : (t : Bool) → ltb most 16 ≡ t → (u : Bool) → ltb v 16 ≡ u → (a : Bool) → cond t (cond u a false) false ≡ cond t a false
      go true p true q a = refl
      go true p false q a = absurd (omega (arith, ltb-true most 16 p, ltb-false v 16 q))
      go false p u q a = refl

  -- the larger of the two decides
  pub digits_most : (m : ℕ) → m ≡ max most v → cond (ltb most 16) (all_hex (drop i line)) false ≡ cond (ltb m 16) (all_hex (drop (i + 1) line)) false
  digits_most m e = rw e (go (ltb most v) refl)
    where
      go : (t : Bool) → ltb most v ≡ t
          → cond (ltb most 16) (all_hex (drop i line)) false ≡ cond (ltb (max most v) 16) (all_hex (drop (i + 1) line)) false
      go true p = let k : max most v ≡ v = omega (arith, ltb-true most v p) in rw k (digits_larger (ltb-true most v p))
      go false p = let k : max most v ≡ most = omega (arith, ltb-false most v p) in rw k (digits_smaller (ltb-false most v p))

pub digits_done : (line : List ℕ) (i : ℕ) (t : Bool) → length line ≤ i → cond t (all_hex (drop i line)) false ≡ t
unfolding all_hex
digits_done line i true h = rw (drop_of_length-le line h)
digits_done line i false h = refl

-- an even number of digits are pairs
pub even_digits : (l : List ℕ) → length l % 2 ≡ 0 → all_hex l ≡ is_hex l
unfolding all_hex is_hex
even_digits [] e = refl
even_digits (a ∷ []) e = absurd (omega arith)
even_digits (a ∷ b ∷ rest) e = rw (even_digits rest (omega arith))

-- ---- the byte of a pair

-- what is known of a digit
record Digit (b : ℕ) : Type 0 where
  value : digit_value b ≡ hex_value b
  small : b < 256

digit_of : (b : ℕ) → hex_value b < 16 → Digit b
unfolding hex_value
digit_of b h = go (ltb b 48) refl (ltb b 58) refl (ltb b 97) refl (ltb b 103) refl h
  where
    go : (t : Bool) → ltb b 48 ≡ t → (u : Bool) → ltb b 58 ≡ u → (v : Bool) → ltb b 97 ≡ v → (w : Bool) → ltb b 103 ≡ w
        → cond t 16 (cond u (b - 48) (cond v 16 (cond w (b - 87) 16))) < 16
        → Digit b
    go true p u q v r w s h = absurd (omega arith)
    go false p true q v r w s h =
        let x = ltb-false b 48 p in
        let y = ltb-true b 58 q in
        record { value = rw (le-ltb b 48 x, lt-ltb b 58 y) (omega arith); small = omega arith }
    go false p false q true r w s h = absurd (omega arith)
    go false p false q false r true s h =
        let x = ltb-false b 48 p in
        let y = ltb-false b 58 q in
        let z = ltb-false b 97 r in
        let k = ltb-true b 103 s in
        record { value = rw (le-ltb b 48 x, le-ltb b 58 y, le-ltb b 97 z, lt-ltb b 103 k) (omega arith); small = omega arith }
    go false p false q false r false s h = absurd (omega arith)

pair_value : (a b : ℕ) → hex_value a < 16 → hex_value b < 16 → pair_byte (a + 256 * b) ≡ 16 * hex_value a + hex_value b
unfolding pair_byte
pair_value a b h k =
    let l : (a + 256 * b) % 256 ≡ a = omega (arith, (digit_of a h).small) in
    let t : (a + 256 * b) / 256 ≡ b = omega (arith, (digit_of a h).small) in
    rw (l, t, (digit_of a h).value, (digit_of b k).value) (mod-small (16 * hex_value a + hex_value b) (omega arith))
  where
    mod-small : (n : ℕ) → n < 256 → n % 256 ≡ n
    mod-small n h = omega arith

pub bytes_of_pairs : (l : List ℕ) → is_hex l ≡ true → map pair_byte (pairs_in l) ≡ bytes_in l
unfolding pairs_in bytes_in is_hex
bytes_of_pairs [] e = refl
bytes_of_pairs (a ∷ []) e = refl
bytes_of_pairs (a ∷ b ∷ rest) e = go (ltb (hex_value a) 16) refl (ltb (hex_value b) 16) refl e (bytes_of_pairs rest)
  where
    go : (t : Bool) → ltb (hex_value a) 16 ≡ t → (u : Bool) → ltb (hex_value b) 16 ≡ u
        → cond t (cond u (is_hex rest) false) false ≡ true
        → (is_hex rest ≡ true → map pair_byte (pairs_in rest) ≡ bytes_in rest)
        → pair_byte (a + 256 * b) ∷ map pair_byte (pairs_in rest) ≡ (16 * hex_value a + hex_value b) ∷ bytes_in rest
    go true p true q e ih = rw (pair_value a b (ltb-true _ 16 p) (ltb-true _ 16 q), ih e)
    go true p false q e ih = let z : ◌≡◌ {A = ℕ} 0 1 = cc in absurd (omega arith)
    go false p u q e ih = let z : ◌≡◌ {A = ℕ} 0 1 = cc in absurd (omega arith)

-- ---- pairs made of digits

pairs_count : (l : List ℕ) → length (pairs_in l) ≡ length l / 2
unfolding pairs_in
pairs_count [] = refl
pairs_count (a ∷ []) = refl
pairs_count (a ∷ b ∷ l) = omega (arith, pairs_count l)

pub pairs_first : (pairs digits : List ℕ) → length digits ≡ 2 * length pairs → sets pairs 0 (pairs_in digits) ≡ pairs_in digits
pairs_first pairs digits h =
    let n : 0 + length (pairs_in digits) ≡ length pairs = omega (arith, pairs_count digits) in
    sets-eq (pairs_in digits) pairs 0 (omega arith) ∙ rw (n, drop_of_length-le pairs {i = length pairs} (omega arith)) (append-nil (pairs_in digits))

pub pairs_next : (pairs : List ℕ) (k : ℕ) (digits : List ℕ) (i : ℕ) (whole : List ℕ)
    → i + 1 < length digits
    → sets pairs k (pairs_in (drop i digits)) ≡ whole
    → sets (set pairs k (get_or digits i 0 + 256 * get_or digits (i + 1) 0)) (k + 1) (pairs_in (drop (i + 2) digits)) ≡ whole
unfolding pairs_in
pairs_next pairs k digits i whole h w = rw (add-one k) (rw (pair digits i h) at w)

pub pairs_last : (pairs : List ℕ) (k : ℕ) (digits : List ℕ) (i : ℕ) (whole : List ℕ)
    → length digits ≤ i
    → sets pairs k (pairs_in (drop i digits)) ≡ whole
    → pairs ≡ whole
unfolding pairs_in
pairs_last pairs k digits i whole h w = rw (drop_of_length-le digits h) at w

-- ---- bytes made of pairs

pub bytes_first : (bytes : List ℕ) (at : ℕ) (vs : List ℕ) → sets bytes (at + 0) vs ≡ sets bytes at vs
bytes_first bytes at vs = rw add-zero

pub bytes_next : (bytes : List ℕ) (at k : ℕ) (pairs whole : List ℕ)
    → k < length pairs
    → sets bytes (at + k) (map pair_byte (drop k pairs)) ≡ whole
    → sets (set bytes (at + k) (pair_byte (get_or pairs k 0))) (at + (k + 1)) (map pair_byte (drop (k + 1) pairs)) ≡ whole
bytes_next bytes at k pairs whole h w =
    let e : at + (k + 1) ≡ suc (at + k) = omega arith in
    rw (e, add-one k) (rw (drop-cons pairs k 0 h) at w)

pub bytes_last : (bytes : List ℕ) (at k : ℕ) (pairs whole : List ℕ)
    → length pairs ≤ k
    → sets bytes (at + k) (map pair_byte (drop k pairs)) ≡ whole
    → bytes ≡ whole
bytes_last bytes at k pairs whole h w = rw (drop_of_length-le pairs h) at w

-- ---- a piece: pairs at the front of an array of zeros

-- pairs are an even number of digits
hex_even : (l : List ℕ) → is_hex l ≡ true → length l % 2 ≡ 0
unfolding is_hex
hex_even [] e = refl
hex_even (a ∷ []) e = let z : ◌≡◌ {A = ℕ} 0 1 = cc in absurd (omega arith)
hex_even (a ∷ b ∷ rest) e = let r : length rest % 2 ≡ 0 = hex_even rest (go (ltb (hex_value a) 16) (ltb (hex_value b) 16) e) in omega arith
  where
    go : (t u : Bool) → cond t (cond u (is_hex rest) false) false ≡ true → is_hex rest ≡ true
    go true true e = e
    go true false e = let z : ◌≡◌ {A = ℕ} 0 1 = cc in absurd (omega arith)
    go false u e = let z : ◌≡◌ {A = ℕ} 0 1 = cc in absurd (omega arith)

module _ (digits : List ℕ) (few : length digits ≤ 256) where
  pub zeros_length : length digits / 2 ≡ length (take {A = ℕ} (length digits / 2) (replicate 128 0))
  zeros_length = sym (length-take-le (length digits / 2) (replicate 128 0) (omega arith))

  module _ (good : is_hex digits ≡ true) where
    pub zeros_pairs : length digits ≡ 2 * length (take {A = ℕ} (length digits / 2) (replicate 128 0))
    zeros_pairs = rw (← zeros_length) (omega (arith, hex_even digits good))

    module _ (pairs rest : List ℕ) (made : pairs ≡ pairs_in digits) where
      size : length pairs ≡ length digits / 2
      size = ap length made ∙ pairs_count digits

      front : take (length digits / 2) (pairs ++ rest) ≡ pairs
      front = take_at pairs rest (length digits / 2) size

      pub front_within : length digits / 2 ≤ length (pairs ++ rest)
      front_within = rw (length-append pairs rest) (omega (arith, size))

      pub front_length : length digits / 2 ≡ length (take (length digits / 2) (pairs ++ rest))
      front_length = rw front (sym size)

      pub front_put : (bytes : List ℕ) (at : ℕ) → sets bytes at (map pair_byte (take (length digits / 2) (pairs ++ rest))) ≡ sets bytes at (bytes_in digits)
      front_put bytes at = rw (front, made, bytes_of_pairs digits good)

-- ---- a line cut into pieces

twice : (n : ℕ) → 2 * suc n ≡ suc (suc (2 * n))
twice n = omega arith

-- the first n pairs and the others
record Cut (n : ℕ) (l : List ℕ) : Type 0 where
  front : is_hex (take (2 * n) l) ≡ true
  back : is_hex (drop (2 * n) l) ≡ true
  whole : bytes_in l ≡ bytes_in (take (2 * n) l) ++ bytes_in (drop (2 * n) l)

cut : (n : ℕ) (l : List ℕ) → 2 * n ≤ length l → is_hex l ≡ true → Cut n l
unfolding is_hex bytes_in
cut zero l h e = record { front = refl; back = e; whole = refl }
cut (suc n) [] h e = absurd (omega arith)
cut (suc n) (a ∷ []) h e = absurd (omega arith)
cut (suc n) (a ∷ b ∷ rest) h e = go (ltb (hex_value a) 16) refl (ltb (hex_value b) 16) refl e (cut n rest (omega arith))
  where
    go : (t : Bool) → ltb (hex_value a) 16 ≡ t → (u : Bool) → ltb (hex_value b) 16 ≡ u
        → cond t (cond u (is_hex rest) false) false ≡ true
        → (is_hex rest ≡ true → Cut n rest)
        → Cut (suc n) (a ∷ b ∷ rest)
    go true p true q e ih = record {
      front = rw (twice n, p, q) (ih e).front;
      back = rw (twice n) (ih e).back;
      whole = rw (twice n) (ap (λ (l : List ℕ). (16 * hex_value a + hex_value b) ∷ l) (ih e).whole);
    }
    go true p false q e ih = let z : ◌≡◌ {A = ℕ} 0 1 = cc in absurd (omega arith)
    go false p u q e ih = let z : ◌≡◌ {A = ℕ} 0 1 = cc in absurd (omega arith)

sets_append : (xs ys l : List ℕ) (i : ℕ) → sets l i (xs ++ ys) ≡ sets (sets l i xs) (i + length xs) ys
sets_append [] ys l i = rw add-zero
sets_append (x ∷ xs) ys l i =
    sets_append xs ys (set l i x) (suc i)
    ∙ ap (λ (j : ℕ). sets (sets (set l i x) (suc i) xs) j ys) (let e : suc i + length xs ≡ i + suc (length xs) = omega arith in e)

-- digits are left, and n pairs of them are written from byte k on
module _ (line : List ℕ) (i n : ℕ) (good : is_hex (drop i line) ≡ true) (there : 2 * n ≤ length line - i) where
  cut_here : Cut n (drop i line)
  cut_here = cut n (drop i line) (rw (length-drop i line) there) good

  taken : take (i + 2 * n - i) (drop i line) ≡ take (2 * n) (drop i line)
  taken = ap (λ (j : ℕ). take j (drop i line)) (let e : i + 2 * n - i ≡ 2 * n = omega arith in e)

  digits_taken : length (take (2 * n) (drop i line)) ≡ 2 * n
  digits_taken = length-take-le (2 * n) (drop i line) (rw (length-drop i line) there)

  pub piece_good : is_hex (take (i + 2 * n - i) (drop i line)) ≡ true
  piece_good = rw taken cut_here.front

  pub piece_size : length (take (i + 2 * n - i) (drop i line)) ≡ 2 * n
  piece_size = rw taken digits_taken

  bytes_taken : length (bytes_in (take (2 * n) (drop i line))) ≡ n
  bytes_taken = bytes_count (take (2 * n) (drop i line)) ∙ rw digits_taken (omega arith)

  pub piece_back : is_hex (drop (i + 2 * n) line) ≡ true
  piece_back = rw (← drop-drop (2 * n) i line) cut_here.back

  pub piece_count : length (bytes_in (drop i line)) ≡ n + length (bytes_in (drop (i + 2 * n) line))
  piece_count =
      ap length cut_here.whole ∙ length-append (bytes_in (take (2 * n) (drop i line))) (bytes_in (drop (2 * n) (drop i line)))
      ∙ rw (bytes_taken, drop-drop (2 * n) i line)

  pub piece_next : (bytes bytes' : List ℕ) (k : ℕ) (whole : List ℕ)
      → bytes' ≡ sets bytes k (bytes_in (take (i + 2 * n - i) (drop i line)))
      → sets bytes k (bytes_in (drop i line)) ≡ whole
      → sets bytes' (k + n) (bytes_in (drop (i + 2 * n) line)) ≡ whole
  piece_next bytes bytes' k whole e w =
      ap (λ (l : List ℕ). sets l (k + n) (bytes_in (drop (i + 2 * n) line))) (e ∙ ap (λ (l : List ℕ). sets bytes k (bytes_in l)) taken)
      ∙ rw (← drop-drop (2 * n) i line) (sym (split (bytes_in (take (2 * n) (drop i line))) bytes_taken) ∙ ap (λ (l : List ℕ). sets bytes k l) (sym cut_here.whole))
      ∙ w
    where
      split : (xs : List ℕ)
          → length xs ≡ n
          → sets bytes k (xs ++ bytes_in (drop (2 * n) (drop i line))) ≡ sets (sets bytes k xs) (k + n) (bytes_in (drop (2 * n) (drop i line)))
      split xs l = sets_append xs (bytes_in (drop (2 * n) (drop i line))) bytes k ∙ rw l

-- a digit that is left is one of two
pub two_left : (line : List ℕ) (i : ℕ) → i < length line → is_hex (drop i line) ≡ true → 1 < length line - i
two_left line i h e = omega (arith, (next_pair line i h e).room)
