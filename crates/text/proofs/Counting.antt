-- The comparisons of the match are at most the product of both lengths, so there are none where either is empty, and the count does not stop
-- where both have at most 255 bytes; and what each step of the match counts. Assumes nothing.
use mathlib.Core.Path.{◌≡◌, refl, sym, ap, ◌∙◌}
use mathlib.Core.Bool.{Bool, true, false, cond, true≢false}
use mathlib.Core.List.{List, [], ◌∷◌}
use mathlib.Core.Logic.{◌⊎◌, inl, inr}
use Prim.Native.Nat.{ℕ, zero, suc, ◌+◌, ◌-◌, ◌*◌, ◌≤◌}
use native.Mathlib.Omega.{arith}
use native.Mathlib.Numerals.{add-one}
use native.Mathlib.Nat.{add-suc, add_assoc, add-mul, mul-le-mul, mul-le-mul_left, le-mul_of_pos_right}
use lib.Dec.{leb, eqb}
use lib.ListN.{length, take, drop, length-drop, drop_of_length-le}
use lib.Seq.{take_all, get_or-drop, drop-drop}
use borrow.Author.Tests.{leb-true, leb-false, le-leb}
use Rattle.text.specs.Steps.{plain, fitting, star_at}
use Rattle.text.specs.Comparisons.{compared, both_end, tried, behind, comparisons, up_to64}
use Rattle.text.specs.Match.{matches}
use Rattle.text.proofs.Greedy.{Turn, at_stop, star_in, plain_no_star}

no_way : {A : Type 0} → false ≡ true → A
no_way e = absurd (true≢false (sym e))

-- ---- a run

pub compared_le : (ps ts : List ℕ) → (compared ps ts ≤ length ps) × (compared ps ts ≤ length ts)
unfolding compared
compared_le [] ts = (omega arith, omega arith)
compared_le (p ∷ ps) [] = (omega arith, omega arith)
compared_le (p ∷ ps) (t ∷ ts) = go (compared_le ps ts) (plain p t)
  where
    go : (compared ps ts ≤ length ps) × (compared ps ts ≤ length ts) → (b : Bool)
        → (suc (cond b (compared ps ts) 0) ≤ suc (length ps)) × (suc (cond b (compared ps ts) 0) ≤ suc (length ts))
    go h true = (omega arith, omega arith)
    go h false = (omega arith, omega arith)

none_compared : (ps : List ℕ) → compared ps [] ≡ 0
unfolding compared
none_compared [] = refl
none_compared (p ∷ ps) = refl

pub compared_ends : (ps ts : List ℕ) → (ps ≡ []) ⊎ (ts ≡ []) → compared ps ts ≡ 0
unfolding compared
compared_ends ps ts (inl e) = rw e refl
compared_ends ps ts (inr e) = rw e (none_compared ps)

pub compared_stops : (ps ts qs us : List ℕ) (p t : ℕ) → ps ≡ p ∷ qs → ts ≡ t ∷ us → plain p t ≡ false → compared ps ts ≡ 1
unfolding compared
compared_stops ps ts qs us p t e h f = rw (e, h, f)

pub compared_goes : (ps ts qs us : List ℕ) (p t : ℕ) → ps ≡ p ∷ qs → ts ≡ t ∷ us → plain p t ≡ true → compared ps ts ≡ suc (compared qs us)
unfolding compared
compared_goes ps ts qs us p t e h f = rw (e, h, f)

-- ---- behind a star

behind_star : (p : ℕ) (ps xs : List ℕ) → eqb p 42 ≡ true → behind (p ∷ ps) xs ≡ tried ps (behind ps) xs
unfolding behind
behind_star p ps xs e = rw e

behind_plain : (p : ℕ) (ps xs : List ℕ) → eqb p 42 ≡ false → behind (p ∷ ps) xs ≡ behind ps xs
unfolding behind
behind_plain p ps xs e = rw e

-- a run that ends at a star: behind the first star is behind that one
behind_next : (ps ts xs : List ℕ) → star_at ps (fitting ps ts) ≡ true
    → behind ps xs ≡ tried (drop (suc (fitting ps ts)) ps) (behind (drop (suc (fitting ps ts)) ps)) xs
unfolding fitting
behind_next [] ts xs s = no_way s
behind_next (p ∷ ps) [] xs s = behind_star p ps xs s
behind_next (p ∷ ps) (t ∷ ts) xs s = go (behind_next ps ts xs) (plain p t) refl s
  where
    go : (star_at ps (fitting ps ts) ≡ true → behind ps xs ≡ tried (drop (suc (fitting ps ts)) ps) (behind (drop (suc (fitting ps ts)) ps)) xs)
        → (b : Bool) → plain p t ≡ b → star_at (p ∷ ps) (cond b (suc (fitting ps ts)) 0) ≡ true
        → behind (p ∷ ps) xs
        ≡ tried (drop (suc (cond b (suc (fitting ps ts)) 0)) (p ∷ ps)) (behind (drop (suc (cond b (suc (fitting ps ts)) 0)) (p ∷ ps))) xs
    go ih true e s = behind_plain p ps xs (plain_no_star p t e) ∙ ih s
    go ih false e s = behind_star p ps xs s

tried_nil : (ps : List ℕ) (rest : List ℕ → ℕ) → tried ps rest [] ≡ 0
unfolding tried
tried_nil ps rest = refl

tried_cons : (ps : List ℕ) (rest : List ℕ → ℕ) (t : ℕ) (ts : List ℕ)
    → tried ps rest (t ∷ ts) ≡ compared ps (t ∷ ts)
    + cond (star_at ps (fitting ps (t ∷ ts))) (rest (drop (fitting ps (t ∷ ts)) (t ∷ ts))) (cond (both_end ps (t ∷ ts)) 0 (tried ps rest ts))
unfolding tried
tried_cons ps rest t ts = refl

-- at a star the count goes on behind it
pub tried_star : (ps ts : List ℕ) → star_at ps (fitting ps ts) ≡ true
    → tried ps (behind ps) ts
    ≡ compared ps ts + tried (drop (suc (fitting ps ts)) ps) (behind (drop (suc (fitting ps ts)) ps)) (drop (fitting ps ts) ts)
tried_star ps [] s =
    let z : drop {A = ℕ} (fitting ps []) [] ≡ [] = drop_of_length-le {A = ℕ} [] {i = fitting ps []} (omega arith) in
    rw (z, tried_nil (drop (suc (fitting ps [])) ps) (behind (drop (suc (fitting ps [])) ps)), none_compared ps, tried_nil ps (behind ps))
tried_star ps (t ∷ ts) s =
    tried_cons ps (behind ps) t ts
    ∙ ap
    (λ (x : Bool). compared ps (t ∷ ts) + cond x (behind ps (drop (fitting ps (t ∷ ts)) (t ∷ ts))) (cond (both_end ps (t ∷ ts)) 0 (tried ps (behind ps) ts)))
    s
    ∙ ap (λ (n : ℕ). compared ps (t ∷ ts) + n) (behind_next ps (t ∷ ts) (drop (fitting ps (t ∷ ts)) (t ∷ ts)) s)

-- at both ends, and where no text is left, nothing more is counted
pub tried_done : (ps : List ℕ) (rest : List ℕ → ℕ) (ts : List ℕ) → star_at ps (fitting ps ts) ≡ false → both_end ps ts ≡ true
    → tried ps rest ts ≡ compared ps ts
tried_done ps rest [] s e = rw (tried_nil ps rest, none_compared ps)
tried_done ps rest (t ∷ ts) s e = tried_cons ps rest t ts ∙ rw (s, e) (omega arith)

-- else the count goes on at the text's next place
pub tried_next : (ps : List ℕ) (rest : List ℕ → ℕ) (ts : List ℕ) → star_at ps (fitting ps ts) ≡ false → both_end ps ts ≡ false
    → tried ps rest ts ≡ compared ps ts + tried ps rest (drop 1 ts)
tried_next ps rest [] s e = rw (none_compared ps, tried_nil ps rest)
tried_next ps rest (t ∷ ts) s e = tried_cons ps rest t ts ∙ rw (s, e)

-- ---- THE BOUND

-- what a run compares, and a part of the product behind it, is in the product
product : (c k m n : ℕ) → c ≤ n → suc k ≤ m → c + (m - suc k) * (n - k) ≤ m * n
product c k m n h i =
    let d : m ≡ suc k + (m - suc k) = omega arith in
    let e : m * n ≡ suc k * n + (m - suc k) * n = ap (λ (x : ℕ). x * n) d ∙ add-mul (suc k) (m - suc k) n in
    let f : (m - suc k) * (n - k) ≤ (m - suc k) * n = mul-le-mul_left (m - suc k) (omega arith) in
    let g : 1 * n ≤ suc k * n = mul-le-mul {n₁ = 1} {m₁ = n} {n₂ = suc k} {m₂ = n} (omega arith) (omega arith) in
    omega arith

-- behind a star that a run meets: the pattern's bytes behind it times the text's
abbrev Behind : List ℕ → Type 0
Behind ps = (ts xs : List ℕ) → star_at ps (fitting ps ts) ≡ true → behind ps xs ≤ (length ps - suc (fitting ps ts)) * length xs

tried_bound : (ps : List ℕ) → Behind ps → (ts : List ℕ) → tried ps (behind ps) ts ≤ length ps * length ts
tried_bound ps b [] = rw (tried_nil ps (behind ps)) (omega arith)
tried_bound ps b (t ∷ ts) = rw (tried_cons ps (behind ps) t ts) (go (star_at ps k) refl (both_end ps (t ∷ ts)) (tried_bound ps b ts))
  where
    k : ℕ
    k = fitting ps (t ∷ ts)

    c : (compared ps (t ∷ ts) ≤ length ps) × (compared ps (t ∷ ts) ≤ length (t ∷ ts))
    c = compared_le ps (t ∷ ts)

    go : (s : Bool) → star_at ps k ≡ s → (e : Bool) → tried ps (behind ps) ts ≤ length ps * length ts
        → compared ps (t ∷ ts) + cond s (behind ps (drop k (t ∷ ts))) (cond e 0 (tried ps (behind ps) ts)) ≤ length ps * suc (length ts)
    go true s e ih =
        let r = rw (length-drop k (t ∷ ts)) at (b (t ∷ ts) (drop k (t ∷ ts)) s) in
        let q = product (compared ps (t ∷ ts)) k (length ps) (suc (length ts)) c.1 (star_in ps k s) in
        omega arith
    go false s true ih = let q = le-mul_of_pos_right {m = suc (length ts)} (length ps) (omega arith) in omega (arith, c.0)
    go false s false ih = omega (arith, c.0)

first : (p : ℕ) (ps xs : List ℕ) → eqb p 42 ≡ true → tried ps (behind ps) xs ≤ length ps * length xs → behind (p ∷ ps) xs ≤ (suc (length ps) - 1) * length xs
first p ps xs s h = let m : suc (length ps) - 1 ≡ length ps = omega arith in rw (m, behind_star p ps xs s) h

behind_bound : (ps : List ℕ) → Behind ps
unfolding fitting
behind_bound [] ts xs s = no_way s
behind_bound (p ∷ ps) [] xs s = first p ps xs s (tried_bound ps (behind_bound ps) xs)
behind_bound (p ∷ ps) (t ∷ ts) xs s = go (behind_bound ps) (plain p t) refl s
  where
    go : Behind ps → (b : Bool) → plain p t ≡ b → star_at (p ∷ ps) (cond b (suc (fitting ps ts)) 0) ≡ true
        → behind (p ∷ ps) xs ≤ (suc (length ps) - suc (cond b (suc (fitting ps ts)) 0)) * length xs
    go ih true e s =
        let m : suc (length ps) - suc (suc (fitting ps ts)) ≡ length ps - suc (fitting ps ts) = omega arith in
        rw (m, behind_plain p ps xs (plain_no_star p t e)) (ih ts xs s)
    go ih false e s = first p ps xs s (tried_bound ps ih xs)

-- the comparisons are at most the product of both lengths
pub comparisons_bound : (ps ts : List ℕ) → comparisons ps ts ≤ length ps * length ts
unfolding comparisons
comparisons_bound ps ts = go (star_at ps (fitting ps ts)) refl
  where
    c : (compared ps ts ≤ length ps) × (compared ps ts ≤ length ts)
    c = compared_le ps ts

    one : (m n c : ℕ) → c ≤ m → c ≤ n → c ≤ m * n
    one m zero c h i = omega arith
    one m (suc n) c h i = let q = le-mul_of_pos_right {m = suc n} m (omega arith) in omega arith

    go : (s : Bool) → star_at ps (fitting ps ts) ≡ s → compared ps ts + cond s (behind ps (drop (fitting ps ts) ts)) 0 ≤ length ps * length ts
    go true s =
        let r = rw (length-drop (fitting ps ts) ts) at (behind_bound ps ts (drop (fitting ps ts) ts) s) in
        let q = product (compared ps ts) (fitting ps ts) (length ps) (length ts) c.1 (star_in ps (fitting ps ts) s) in
        omega arith
    go false s = let q = one (length ps) (length ts) (compared ps ts) c.0 c.1 in omega arith

-- so none where either is empty
pub none_where_empty : (ps ts : List ℕ) → (comparisons [] ts ≡ 0) × (comparisons ps [] ≡ 0)
none_where_empty ps ts = (let q = comparisons_bound [] ts in omega arith, let q = comparisons_bound ps [] in omega arith)

-- ---- the count

pub up_to64_below : (n : ℕ) → n ≤ 18446744073709551615 → up_to64 n ≡ n
unfolding up_to64
up_to64_below n h = rw (le-leb n 18446744073709551615 h)

pub up_to64_above : (n : ℕ) → 18446744073709551615 ≤ n → up_to64 n ≡ 18446744073709551615
unfolding up_to64
up_to64_above n h = go (leb n 18446744073709551615) refl
  where
    go : (b : Bool) → leb n 18446744073709551615 ≡ b → cond b n 18446744073709551615 ≡ 18446744073709551615
    go true e = omega (arith, leb-true n 18446744073709551615 e)
    go false e = refl

pub up_to64_le : (n : ℕ) → up_to64 n ≤ n
unfolding up_to64
up_to64_le n = go (leb n 18446744073709551615) refl
  where
    go : (b : Bool) → leb n 18446744073709551615 ≡ b → cond b n 18446744073709551615 ≤ n
    go true e = omega arith
    go false e = omega (arith, leb-false n 18446744073709551615 e)

-- a sum that stopped stays stopped
pub up_to64_sum : (a b : ℕ) → up_to64 (up_to64 a + b) ≡ up_to64 (a + b)
up_to64_sum a b = go (leb a 18446744073709551615) refl
  where
    go : (t : Bool) → leb a 18446744073709551615 ≡ t → up_to64 (up_to64 a + b) ≡ up_to64 (a + b)
    go true e = rw (up_to64_below a (leb-true a 18446744073709551615 e))
    go false e =
        let h = leb-false a 18446744073709551615 e in
        rw (up_to64_above a (omega arith)) (up_to64_above (18446744073709551615 + b) (omega arith) ∙ sym (up_to64_above (a + b) (omega arith)))

-- an item and a constant have at most 255 bytes: every comparison of them is counted
pub never_stops : (ps ts : List ℕ) → length ps ≤ 255 → length ts ≤ 255
    → (up_to64 (comparisons ps ts) ≡ comparisons ps ts) × (comparisons ps ts ≤ 65025)
never_stops ps ts h i =
    let b = comparisons_bound ps ts in
    let q : length ps * length ts ≤ 255 * 255 = mul-le-mul {n₁ = length ps} {m₁ = length ts} {n₂ = 255} {m₂ = 255} h i in
    (up_to64_below (comparisons ps ts) (omega arith), omega arith)

-- ---- the turns of `after_star`, each with what `compare` gave

-- what is still counted behind a star, from a place of the pattern and one of the text on
abbrev pub onward : List ℕ → List ℕ → ℕ → ℕ → ℕ
onward ps ts back mark = tried (drop back ps) (behind (drop back ps)) (drop mark ts)

onward_star : (ps ts : List ℕ) (back mark : ℕ) → star_at ps (back + fitting (drop back ps) (drop mark ts)) ≡ true
    → onward ps ts back mark
    ≡ compared (drop back ps) (drop mark ts)
    + onward ps ts (back + fitting (drop back ps) (drop mark ts) + 1) (mark + fitting (drop back ps) (drop mark ts))
onward_star ps ts back mark s =
    let k = fitting (drop back ps) (drop mark ts) in
    tried_star (drop back ps) (drop mark ts) (rw (get_or-drop back ps k 0) s)
    ∙ rw (drop-drop (suc k) back ps, drop-drop k mark ts, add-one (back + k), add-suc back k)

pub turn_compared : (ps ts : List ℕ) (back mark c : ℕ)
    → c ≡ compared (take (length ps - back) (drop back ps)) (take (length ts - mark) (drop mark ts)) → c ≡ compared (drop back ps) (drop mark ts)
turn_compared ps ts back mark c e =
    let p = take_all (length ps - back) (drop back ps) (omega (arith, length-drop back ps)) in
    let t = take_all (length ts - mark) (drop mark ts) (omega (arith, length-drop mark ts)) in
    rw (p, t) at e

module _ (ps ts : List ℕ) (back mark k c n : ℕ) (t : Turn ps ts back mark k) (e : c ≡ compared (drop back ps) (drop mark ts)) where
  -- a sum that goes on
  more : (x y : ℕ) → x ≡ c + y → up_to64 (n + x) ≡ up_to64 (up_to64 (n + c) + y)
  more x y h = ap (λ (z : ℕ). up_to64 (n + z)) h ∙ ap up_to64 (sym (add_assoc n c y)) ∙ sym (up_to64_sum (n + c) y)

  pub count_star : star_at ps (back + k) ≡ true → up_to64 (n + onward ps ts back mark) ≡ up_to64 (up_to64 (n + c) + onward ps ts (back + k + 1) (mark + k))
  count_star s =
      more (onward ps ts back mark) (onward ps ts (back + k + 1) (mark + k)) (rw (e, t.same) (onward_star ps ts back mark (rw t.same at s)))

  pub count_last : mark ≡ length ts → up_to64 (n + onward ps ts back mark) ≡ up_to64 (n + c)
  count_last h =
      let d : drop mark ts ≡ [] = drop_of_length-le ts {i = mark} (omega arith) in
      let x : c ≡ 0 = e ∙ ap (compared (drop back ps)) d ∙ none_compared (drop back ps) in
      let y : onward ps ts back mark ≡ 0 = ap (tried (drop back ps) (behind (drop back ps))) d ∙ tried_nil (drop back ps) (behind (drop back ps)) in
      rw (x, y)

  module _ (s : star_at ps (back + k) ≡ false) where
    no_star : star_at (drop back ps) (fitting (drop back ps) (drop mark ts)) ≡ false
    no_star = rw (get_or-drop back ps (fitting (drop back ps) (drop mark ts)) 0) (rw t.same at s)

    pub count_done : matches (drop back ps) (drop mark ts) ≡ true → up_to64 (n + onward ps ts back mark) ≡ up_to64 (n + c)
    count_done m =
        ap (λ (z : ℕ). up_to64 (n + z))
        (tried_done (drop back ps) (behind (drop back ps)) (drop mark ts) no_star (sym (at_stop (drop back ps) (drop mark ts) no_star) ∙ m) ∙ sym e)

    pub count_next : matches (drop back ps) (drop mark ts) ≡ false
        → up_to64 (n + onward ps ts back mark) ≡ up_to64 (up_to64 (n + c) + onward ps ts back (mark + 1))
    count_next m =
        more (onward ps ts back mark) (onward ps ts back (mark + 1))
        (tried_next (drop back ps) (behind (drop back ps)) (drop mark ts) no_star (sym (at_stop (drop back ps) (drop mark ts) no_star) ∙ m)
        ∙ rw (e, drop-drop 1 mark ts))

-- ---- `counted_match`: one run, then after the star

module _ (ps ts : List ℕ) (k c : ℕ) (f : k ≡ fitting ps ts) (e : c ≡ compared ps ts) where
  pub first_count_star : star_at ps k ≡ true
      → up_to64 (comparisons ps ts)
      ≡ up_to64
      (c + tried (take (length ps - (k + 1)) (drop (k + 1) ps)) (behind (take (length ps - (k + 1)) (drop (k + 1) ps))) (take (length ts - k) (drop k ts)))
  unfolding comparisons
  first_count_star s =
      let x = take_all (length ps - (k + 1)) (drop (k + 1) ps) (omega (arith, length-drop (k + 1) ps)) in
      let y = take_all (length ts - k) (drop k ts) (omega (arith, length-drop k ts)) in
      rw (x, y, add-one k, e, f)
      (ap up_to64 (rw (rw f at s) (ap (λ (z : ℕ). compared ps ts + z) (behind_next ps ts (drop (fitting ps ts) ts) (rw f at s)))))

  pub first_count_stop : star_at ps k ≡ false → c ≤ 18446744073709551615 → up_to64 (comparisons ps ts) ≡ c
  unfolding comparisons
  first_count_stop s l = let z : c + 0 ≡ c = omega arith in rw (rw f at s, ← e, z) (up_to64_below c l)

-- what is counted is in the product
pub counted_bound : (ps ts : List ℕ) (n : ℕ) → n ≡ up_to64 (comparisons ps ts) → n ≤ length ps * length ts
counted_bound ps ts n e = omega (arith, comparisons_bound ps ts, up_to64_le (comparisons ps ts))
