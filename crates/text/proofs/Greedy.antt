-- After a `*` the first place where the bytes up to the next `*` fit is as good as any later one; and what each step of the match finds.
-- Assumes nothing.
use mathlib.Core.Path.{◌≡◌, refl, sym, ap, ◌∙◌}
use mathlib.Core.Bool.{Bool, true, false, ◌&&◌, ◌||◌, cond, true≢false}
use mathlib.Core.List.{List, [], ◌∷◌}
use mathlib.Core.Logic.{◌⊎◌, inl, inr}
use Prim.Native.Nat.{ℕ, zero, suc, ◌+◌, ◌-◌, ◌≤◌, ◌<◌}
use native.Mathlib.Omega.{arith}
use lib.Dec.{eqb, eqb-zero-suc, eqb-suc-suc}
use lib.ListN.{length, take, drop, length-drop, drop_of_length-le}
use lib.Seq.{take_all, get_or-drop, drop-drop}
use native.Mathlib.Numerals.{add-one}
use native.Mathlib.Nat.{add-suc}
use borrow.Author.Tests.{eqb-true, eq-eqb}
use Rattle.text.specs.Match.{fits, any_tail, one, matches}
use Rattle.text.specs.Steps.{plain, fitting, star_at}

pub both_ways : (a b : Bool) → (a ≡ true → b ≡ true) → (b ≡ true → a ≡ true) → a ≡ b
both_ways true b f g = sym (f refl)
both_ways false true f g = g refl
both_ways false false f g = refl

no_way : {A : Type 0} → false ≡ true → A
no_way e = absurd (true≢false (sym e))

and_right : (a b : Bool) → a && b ≡ true → b ≡ true
and_right true b e = e
and_right false b e = no_way e

or_right : (a b : Bool) → b ≡ true → a || b ≡ true
or_right true b e = refl
or_right false b e = e

or_case : {C : Type 0} (a b : Bool) → (a ≡ true → C) → (b ≡ true → C) → a || b ≡ true → C
or_case true b f g e = f refl
or_case false b f g e = g e

-- a byte that fits one to one is no star
pub plain_no_star : (p t : ℕ) → plain p t ≡ true → eqb p 42 ≡ false
unfolding plain
plain_no_star p t e = go (eqb p 42) e
  where
    go : (s : Bool) → cond s false (fits p t) ≡ true → s ≡ false
    go true e = no_way e
    go false e = refl

plain_fits : (p t : ℕ) → eqb p 42 ≡ false → plain p t ≡ fits p t
unfolding plain
plain_fits p t e = rw e

-- one tail more
mono : (f : List ℕ → Bool) (xs : List ℕ) (k : ℕ) → any_tail f (drop (suc k) xs) ≡ true → any_tail f (drop k xs) ≡ true
unfolding any_tail
mono f [] zero e = e
mono f [] (suc k) e = e
mono f (x ∷ xs) zero e = or_right (f (x ∷ xs)) (any_tail f xs) e
mono f (x ∷ xs) (suc k) e = mono f xs k e

star_head : (p : ℕ) (ps ts : List ℕ) → eqb p 42 ≡ true → matches (p ∷ ps) ts ≡ any_tail (matches ps) ts
unfolding matches
star_head p ps ts e = rw e

plain_head : (p : ℕ) (ps ts : List ℕ) → eqb p 42 ≡ false → matches (p ∷ ps) ts ≡ one p (matches ps) ts
unfolding matches
plain_head p ps ts e = rw e

-- past the bytes before a star: what the rest of the pattern then meets
abbrev Past : List ℕ → ℕ → List ℕ → Type 0
Past ps k xs = any_tail (matches (drop (suc k) ps)) (drop k xs) ≡ true

past : (ps ts xs : List ℕ) → star_at ps (fitting ps ts) ≡ true → matches ps xs ≡ true → Past ps (fitting ps ts) xs
unfolding fitting one
past [] ts xs s m = no_way s
past (p ∷ ps) [] xs s m = sym (star_head p ps xs s) ∙ m
past (p ∷ ps) (t ∷ ts) xs s m = go (past ps ts) (plain p t) refl s
  where
    IH : Type 0
    IH = (xs : List ℕ) → star_at ps (fitting ps ts) ≡ true → matches ps xs ≡ true → Past ps (fitting ps ts) xs

    next : IH → (xs : List ℕ) → star_at ps (fitting ps ts) ≡ true → one p (matches ps) xs ≡ true → Past (p ∷ ps) (suc (fitting ps ts)) xs
    next ih [] s m = no_way m
    next ih (x ∷ xs) s m = ih xs s (and_right (fits p x) (matches ps xs) m)

    go : IH → (b : Bool) → plain p t ≡ b → star_at (p ∷ ps) (cond b (suc (fitting ps ts)) 0) ≡ true → Past (p ∷ ps) (cond b (suc (fitting ps ts)) 0) xs
    go ih true e s = next ih xs s (sym (plain_head p ps xs (plain_no_star p t e)) ∙ m)
    go ih false e s = sym (star_head p ps xs s) ∙ m

-- at a star: the rest of the pattern meets some tail of the rest of the text
pub at_star : (ps ts : List ℕ) → star_at ps (fitting ps ts) ≡ true
    → matches ps ts ≡ any_tail (matches (drop (suc (fitting ps ts)) ps)) (drop (fitting ps ts) ts)
unfolding fitting one
at_star [] ts s = no_way s
at_star (p ∷ ps) [] s = star_head p ps [] s
at_star (p ∷ ps) (t ∷ ts) s = go (at_star ps ts) (plain p t) refl s
  where
    go : (star_at ps (fitting ps ts) ≡ true → matches ps ts ≡ any_tail (matches (drop (suc (fitting ps ts)) ps)) (drop (fitting ps ts) ts))
        → (b : Bool) → plain p t ≡ b → star_at (p ∷ ps) (cond b (suc (fitting ps ts)) 0) ≡ true
        → matches (p ∷ ps) (t ∷ ts) ≡ any_tail (matches (drop (suc (cond b (suc (fitting ps ts)) 0)) (p ∷ ps))) (drop (cond b (suc (fitting ps ts)) 0) (t ∷ ts))
    go ih true e s =
        let n = plain_no_star p t e in
        let f : fits p t ≡ true = sym (plain_fits p t n) ∙ e in
        plain_head p ps (t ∷ ts) n ∙ ap (λ (b : Bool). b && matches ps ts) f ∙ ih s
    go ih false e s = star_head p ps (t ∷ ts) s

-- not at a star: the pattern matches if it and the text end here
pub at_stop : (ps ts : List ℕ) → star_at ps (fitting ps ts) ≡ false
    → matches ps ts ≡ cond (eqb (fitting ps ts) (length ps)) (eqb (fitting ps ts) (length ts)) false
unfolding fitting one matches
at_stop [] [] s = refl
at_stop [] (t ∷ ts) s = sym (eqb-zero-suc (length ts))
at_stop (p ∷ ps) [] s = rw (s, eqb-zero-suc (length ps))
at_stop (p ∷ ps) (t ∷ ts) s = go (at_stop ps ts) (plain p t) refl s
  where
    go : (star_at ps (fitting ps ts) ≡ false → matches ps ts ≡ cond (eqb (fitting ps ts) (length ps)) (eqb (fitting ps ts) (length ts)) false)
        → (b : Bool) → plain p t ≡ b → star_at (p ∷ ps) (cond b (suc (fitting ps ts)) 0) ≡ false
        → matches (p ∷ ps) (t ∷ ts) ≡ cond (eqb (cond b (suc (fitting ps ts)) 0) (suc (length ps))) (eqb (cond b (suc (fitting ps ts)) 0) (suc (length ts))) false
    go ih true e s =
        let n = plain_no_star p t e in
        let f : fits p t ≡ true = sym (plain_fits p t n) ∙ e in
        plain_head p ps (t ∷ ts) n ∙ ap (λ (b : Bool). b && matches ps ts) f
        ∙ (ih s ∙ rw (eqb-suc-suc (fitting ps ts) (length ps), eqb-suc-suc (fitting ps ts) (length ts)))
    go ih false e s =
        let f : fits p t ≡ false = sym (plain_fits p t s) ∙ e in
        plain_head p ps (t ∷ ts) s ∙ (ap (λ (b : Bool). b && matches ps ts) f ∙ rw (eqb-zero-suc (length ps)))

any_past : (ps ts xs : List ℕ) → star_at ps (fitting ps ts) ≡ true → any_tail (matches ps) xs ≡ true → Past ps (fitting ps ts) xs
unfolding any_tail
any_past ps ts [] s e = past ps ts [] s e
any_past ps ts (x ∷ xs) s e =
    or_case (matches ps (x ∷ xs)) (any_tail (matches ps) xs) (past ps ts (x ∷ xs) s)
    (λ h. mono (matches (drop (suc (fitting ps ts)) ps)) (x ∷ xs) (fitting ps ts) (any_past ps ts xs s h)) e

here : (f : List ℕ → Bool) (ts : List ℕ) → f ts ≡ true → any_tail f ts ≡ true
unfolding any_tail
here f [] e = e
here f (t ∷ ts) e = rw e

-- THE GREEDY STEP
pub greedy : (ps ts : List ℕ) → star_at ps (fitting ps ts) ≡ true
    → any_tail (matches ps) ts ≡ any_tail (matches (drop (suc (fitting ps ts)) ps)) (drop (fitting ps ts) ts)
greedy ps ts s =
    both_ways (any_tail (matches ps) ts) (any_tail (matches (drop (suc (fitting ps ts)) ps)) (drop (fitting ps ts) ts))
    (any_past ps ts ts s) (λ h. here (matches ps) ts (at_star ps ts s ∙ h))

-- ---- a run, by its place

pub run_ends : (ps ts : List ℕ) → (ps ≡ []) ⊎ (ts ≡ []) → fitting ps ts ≡ 0
unfolding fitting
run_ends ps ts (inl e) = rw e refl
run_ends [] ts (inr e) = refl
run_ends (p ∷ ps) ts (inr e) = rw e refl

pub run_stops : (ps ts qs us : List ℕ) (p t : ℕ) → ps ≡ p ∷ qs → ts ≡ t ∷ us → plain p t ≡ false → fitting ps ts ≡ 0
unfolding fitting
run_stops ps ts qs us p t e h f = rw (e, h, f)

pub run_goes : (ps ts qs us : List ℕ) (p t : ℕ) → ps ≡ p ∷ qs → ts ≡ t ∷ us → plain p t ≡ true → fitting ps ts ≡ suc (fitting qs us)
unfolding fitting
run_goes ps ts qs us p t e h f = rw (e, h, f)

pub run_le : (ps ts : List ℕ) → (fitting ps ts ≤ length ps) × (fitting ps ts ≤ length ts)
unfolding fitting
run_le [] ts = (omega arith, omega arith)
run_le (p ∷ ps) [] = (omega arith, omega arith)
run_le (p ∷ ps) (t ∷ ts) = go (run_le ps ts) (plain p t)
  where
    go : (fitting ps ts ≤ length ps) × (fitting ps ts ≤ length ts) → (b : Bool)
        → (cond b (suc (fitting ps ts)) 0 ≤ suc (length ps)) × (cond b (suc (fitting ps ts)) 0 ≤ suc (length ts))
    go h true = (omega arith, omega arith)
    go h false = (omega arith, omega arith)

-- a star stands inside the pattern
pub star_in : (ps : List ℕ) (k : ℕ) → star_at ps k ≡ true → k < length ps
star_in [] k e = no_way e
star_in (p ∷ ps) zero e = omega arith
star_in (p ∷ ps) (suc k) e = let h = star_in ps k e in omega arith

-- ---- the turns of `after_star`

tail_star : (ps ts : List ℕ) (back mark : ℕ) → star_at ps (back + fitting (drop back ps) (drop mark ts)) ≡ true
    → any_tail (matches (drop back ps)) (drop mark ts)
    ≡ any_tail (matches (drop (back + fitting (drop back ps) (drop mark ts) + 1) ps)) (drop (mark + fitting (drop back ps) (drop mark ts)) ts)
tail_star ps ts back mark s =
    let k = fitting (drop back ps) (drop mark ts) in
    greedy (drop back ps) (drop mark ts) (rw (get_or-drop back ps k 0) s)
    ∙ rw (drop-drop (suc k) back ps, drop-drop k mark ts, add-one (back + k), add-suc back k)

pub tail_none : (f : List ℕ → Bool) (ts : List ℕ) (mark : ℕ) → f (drop mark ts) ≡ false → mark < length ts → any_tail f (drop mark ts) ≡ any_tail f (drop (suc mark) ts)
unfolding any_tail
tail_none f [] mark e h = let z : ⊥ = omega arith in absurd z
tail_none f (t ∷ ts) zero e h = rw e
tail_none f (t ∷ ts) (suc m) e h = tail_none f ts m e (omega arith)

-- a test of a sum is the test of what is added
eqb_shift : (a k n m : ℕ) → a + m ≡ n → eqb (a + k) n ≡ eqb k m
eqb_shift a k n m h =
    both_ways (eqb (a + k) n) (eqb k m) (λ e. eq-eqb k m (omega (arith, eqb-true (a + k) n e))) (λ e. eq-eqb (a + k) n (omega (arith, eqb-true k m e)))

stops : (ps ts : List ℕ) (back mark : ℕ) → back ≤ length ps → mark ≤ length ts → star_at ps (back + fitting (drop back ps) (drop mark ts)) ≡ false
    → matches (drop back ps) (drop mark ts)
    ≡ cond (eqb (back + fitting (drop back ps) (drop mark ts)) (length ps)) (eqb (mark + fitting (drop back ps) (drop mark ts)) (length ts)) false
stops ps ts back mark h i s =
    let k = fitting (drop back ps) (drop mark ts) in
    at_stop (drop back ps) (drop mark ts) (rw (get_or-drop back ps k 0) s)
    ∙ rw (eqb_shift back k (length ps) (length (drop back ps)) (omega (arith, length-drop back ps)), eqb_shift mark k (length ts) (length (drop mark ts)) (omega (arith, length-drop mark ts)))

-- ---- a turn of `after_star` with what `compare` gave

pub record Turn (ps ts : List ℕ) (back mark k : ℕ) : Type 0 where
  pub same : k ≡ fitting (drop back ps) (drop mark ts)
  pub in_pattern : back + k ≤ length ps
  pub in_text : mark + k ≤ length ts

pub turn : (ps ts : List ℕ) (back mark k : ℕ) → back ≤ length ps → mark ≤ length ts
    → k ≡ fitting (take (length ps - back) (drop back ps)) (take (length ts - mark) (drop mark ts)) → Turn ps ts back mark k
turn ps ts back mark k h i e = record { same = e'; in_pattern = m; in_text = n }
  where
    e' : k ≡ fitting (drop back ps) (drop mark ts)
    e' = rw (take_all (length ps - back) (drop back ps) (omega (arith, length-drop back ps)), take_all (length ts - mark) (drop mark ts) (omega (arith, length-drop mark ts))) at e

    l : (fitting (drop back ps) (drop mark ts) ≤ length (drop back ps)) × (fitting (drop back ps) (drop mark ts) ≤ length (drop mark ts))
    l = run_le (drop back ps) (drop mark ts)

    m : back + k ≤ length ps
    m = omega (arith, length-drop back ps, l.0, e')

    n : mark + k ≤ length ts
    n = omega (arith, length-drop mark ts, l.1, e')

pub turn_star : (ps ts : List ℕ) (back mark k : ℕ) → Turn ps ts back mark k → star_at ps (back + k) ≡ true
    → any_tail (matches (drop back ps)) (drop mark ts) ≡ any_tail (matches (drop (back + k + 1) ps)) (drop (mark + k) ts)
turn_star ps ts back mark k h s = rw h.same (tail_star ps ts back mark (rw h.same at s))

pub turn_stop : (ps ts : List ℕ) (back mark k : ℕ) → Turn ps ts back mark k → back ≤ length ps → mark ≤ length ts → star_at ps (back + k) ≡ false
    → matches (drop back ps) (drop mark ts) ≡ cond (eqb (back + k) (length ps)) (eqb (mark + k) (length ts)) false
turn_stop ps ts back mark k h i j s = rw h.same (stops ps ts back mark i j (rw h.same at s))

pub turn_found : (f : List ℕ → Bool) (ts : List ℕ) (mark : ℕ) → f (drop mark ts) ≡ true → any_tail f (drop mark ts) ≡ true
turn_found f ts mark e = here f (drop mark ts) e

pub turn_last : (f : List ℕ → Bool) (ts : List ℕ) (mark : ℕ) → mark ≡ length ts → f (drop mark ts) ≡ false → any_tail f (drop mark ts) ≡ false
unfolding any_tail
turn_last f ts mark h e = let n : drop mark ts ≡ [] = drop_of_length-le ts {i = mark} (omega arith) in rw n (rw n at e)

pub turn_next : (f : List ℕ → Bool) (ts : List ℕ) (mark : ℕ) → mark < length ts → f (drop mark ts) ≡ false → any_tail f (drop mark ts) ≡ any_tail f (drop (mark + 1) ts)
turn_next f ts mark h e = rw (add-one mark) (tail_none f ts mark e h)

-- ---- `counted_match`: one run, then after the star

pub first_star : (ps ts : List ℕ) (k : ℕ) → k ≡ fitting ps ts → star_at ps k ≡ true
    → matches ps ts ≡ any_tail (matches (take (length ps - (k + 1)) (drop (k + 1) ps))) (take (length ts - k) (drop k ts))
first_star ps ts k e s =
    rw (take_all (length ps - (k + 1)) (drop (k + 1) ps) (omega (arith, length-drop (k + 1) ps)), take_all (length ts - k) (drop k ts) (omega (arith, length-drop k ts)), add-one k, e)
    (at_star ps ts (rw e at s))

pub first_stop : (ps ts : List ℕ) (k : ℕ) → k ≡ fitting ps ts → star_at ps k ≡ false
    → matches ps ts ≡ cond (eqb k (length ps)) (eqb k (length ts)) false
first_stop ps ts k e s = rw e (at_stop ps ts (rw e at s))
