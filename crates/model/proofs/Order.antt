-- Files in a list: those that an equation selects, and in order of upload time; a list of rising times is determined by its members. Assumes nothing.
use mathlib.Core.Path.{◌≡◌, refl, sym, ap, ap₂, ◌∙◌, subst}
use mathlib.Core.Bool.{Bool, true, false, cond}
use mathlib.Core.Logic.{◌⊎◌, inl, inr}
use mathlib.Core.List.{List, [], ◌∷◌, Memᴰ}
use mathlib.Core.Option.{some}
use Prim.Native.Nat.{ℕ, ◌≤◌, ◌<◌}
use native.Mathlib.Omega.{arith}
use borrow.Author.Tests.{eqb-true, eqb-false, ltb-true, ltb-false}
use lib.Dec.{eqb, ltb}
use Rattle.header.specs.Items.{fields_of}
use Rattle.equation.specs.Answer.{selects}
use Rattle.model.specs.State.{File}
use Rattle.model.specs.Files.{find, matching, placed, by_time}

abbrev pub In : File → List File → Type 0
In f fs = Memᴰ f fs

-- the times rise strictly, and the first is above b
abbrev pub Rising : ℕ → List File → Type 0
Rising b [] = Unit {0}
Rising b (f ∷ fs) = (b < f.time) × Rising f.time fs

rising_in : (b : ℕ) (fs : List File) (f : File) → Rising b fs → In f fs → b < f.time
rising_in b (g ∷ fs) f r (Memᴰ.head e) = subst (λ (x : File). b < x.time) (sym e) r.0
rising_in b (g ∷ fs) f r (Memᴰ.tail m) = omega (arith, r.0, rising_in g.time fs f r.1 m)
rising_in b [] f r x'' = elim x'' [ ]

pub not_in : {P : Type 0} (f : File) → In f [] → P
not_in f = elim [ ]

-- ---- the members determine the list

pub unique : (xs ys : List File) (b : ℕ) → Rising b xs → Rising b ys → ((f : File) → In f xs → In f ys) → ((f : File) → In f ys → In f xs) → xs ≡ ys
unique [] [] b r q a c = refl
unique [] (y ∷ ys) b r q a c = not_in y (c y (Memᴰ.head refl))
unique (x ∷ xs) [] b r q a c = not_in x (a x (Memᴰ.head refl))
unique (x ∷ xs) (y ∷ ys) b r q a c = go (a x (Memᴰ.head refl)) (c y (Memᴰ.head refl)) (unique xs ys)
  where
    rest : x ≡ y → ((k : ℕ) → Rising k xs → Rising k ys → ((f : File) → In f xs → In f ys) → ((f : File) → In f ys → In f xs) → xs ≡ ys) → x ∷ xs ≡ y ∷ ys
    rest e ih =
        ap₂ (λ (z : File) (zs : List File). z ∷ zs) e
        (ih x.time r.1 (subst (λ (z : File). Rising z.time ys) (sym e) q.1) (λ f m. left f m (a f (Memᴰ.tail m)))
        (λ f m. right f m (c f (Memᴰ.tail m))))
      where
        left : (f : File) → In f xs → In f (y ∷ ys) → In f ys
        left f m (Memᴰ.head z) = let k = rising_in x.time xs f r.1 m in let w = ap (λ (g : File). g.time) (z ∙ sym e) in absurd (omega arith)
        left f m (Memᴰ.tail z) = z

        right : (f : File) → In f ys → In f (x ∷ xs) → In f xs
        right f m (Memᴰ.head z) = let k = rising_in y.time ys f q.1 m in let w = ap (λ (g : File). g.time) (z ∙ e) in absurd (omega arith)
        right f m (Memᴰ.tail z) = z

    go : In x (y ∷ ys) → In y (x ∷ xs)
        → ((k : ℕ) → Rising k xs → Rising k ys → ((f : File) → In f xs → In f ys) → ((f : File) → In f ys → In f xs) → xs ≡ ys) → x ∷ xs ≡ y ∷ ys
    go (Memᴰ.head e) n ih = rest e ih
    go (Memᴰ.tail m) (Memᴰ.head e) ih = rest (sym e) ih
    go (Memᴰ.tail m) (Memᴰ.tail n) ih =
        let u = rising_in y.time ys x q.1 m in
        let v = rising_in x.time xs y r.1 n in
        absurd (omega arith)

-- ---- sorting

placed_here : (g : File) (xs : List File) → In g (placed g xs)
unfolding placed
placed_here g [] = Memᴰ.head refl
placed_here g (x ∷ xs) = go (ltb x.time g.time) (placed_here g xs)
  where
    go : (b : Bool) → In g (placed g xs) → In g (cond b (x ∷ placed g xs) (g ∷ x ∷ xs))
    go true h = Memᴰ.tail h
    go false h = Memᴰ.head refl

placed_there : (g : File) (xs : List File) (f : File) → In f xs → In f (placed g xs)
unfolding placed
placed_there g (x ∷ xs) f m = go (ltb x.time g.time) m (placed_there g xs f)
  where
    go : (b : Bool) → In f (x ∷ xs) → (In f xs → In f (placed g xs)) → In f (cond b (x ∷ placed g xs) (g ∷ x ∷ xs))
    go true (Memᴰ.head e) h = Memᴰ.head e
    go true (Memᴰ.tail m) h = Memᴰ.tail (h m)
    go false m h = Memᴰ.tail m
placed_there g [] f m = elim m [ ]

placed_in : (g : File) (xs : List File) (f : File) → In f (placed g xs) → (f ≡ g) ⊎ In f xs
unfolding placed
placed_in g [] f (Memᴰ.head e) = inl e
placed_in g [] f (Memᴰ.tail m) = not_in f m
placed_in g (x ∷ xs) f m = go (ltb x.time g.time) m (placed_in g xs f)
  where
    later : (f ≡ g) ⊎ In f xs → (f ≡ g) ⊎ In f (x ∷ xs)
    later (inl e) = inl e
    later (inr m) = inr (Memᴰ.tail m)

    go : (b : Bool) → In f (cond b (x ∷ placed g xs) (g ∷ x ∷ xs)) → (In f (placed g xs) → (f ≡ g) ⊎ In f xs) → (f ≡ g) ⊎ In f (x ∷ xs)
    go true (Memᴰ.head e) h = inr (Memᴰ.head e)
    go true (Memᴰ.tail m) h = later (h m)
    go false (Memᴰ.head e) h = inl e
    go false (Memᴰ.tail m) h = inr m

placed_rising : (g : File) (xs : List File) (b : ℕ) → Rising b xs → b < g.time → ((f : File) → In f xs → f.time ≡ g.time → ⊥) → Rising b (placed g xs)
unfolding placed
placed_rising g [] b r h n = (h, tt)
placed_rising g (x ∷ xs) b r h n = go (ltb x.time g.time) refl (placed_rising g xs x.time r.1)
  where
    go : (t : Bool) → ltb x.time g.time ≡ t
        → (x.time < g.time → ((f : File) → In f xs → f.time ≡ g.time → ⊥) → Rising x.time (placed g xs))
        → Rising b (cond t (x ∷ placed g xs) (g ∷ x ∷ xs))
    go true e ih = (r.0, ih (ltb-true x.time g.time e) (λ f m. n f (Memᴰ.tail m)))
    go false e ih =
        let k = ltb-false x.time g.time e in
        let z = n x (Memᴰ.head refl) in
        (h, (below k z, r.1))
      where
        below : g.time ≤ x.time → (x.time ≡ g.time → ⊥) → g.time < x.time
        below k z = omega arith

-- no two have the same time
abbrev pub Apart : List File → Type 0
Apart [] = Unit {0}
Apart (f ∷ fs) = ((g : File) → In g fs → g.time ≡ f.time → ⊥) × Apart fs

pub by_time_in : (xs : List File) (f : File) → In f (by_time xs) → In f xs
unfolding by_time
by_time_in [] f m = not_in f m
by_time_in (x ∷ xs) f m = go (placed_in x (by_time xs) f m) (by_time_in xs f)
  where
    go : (f ≡ x) ⊎ In f (by_time xs) → (In f (by_time xs) → In f xs) → In f (x ∷ xs)
    go (inl e) h = Memᴰ.head e
    go (inr m) h = Memᴰ.tail (h m)

pub by_time_back : (xs : List File) (f : File) → In f xs → In f (by_time xs)
unfolding by_time
by_time_back (x ∷ xs) f (Memᴰ.head e) = subst (λ (z : File). In z (placed x (by_time xs))) (sym e) (placed_here x (by_time xs))
by_time_back (x ∷ xs) f (Memᴰ.tail m) = placed_there x (by_time xs) f (by_time_back xs f m)
by_time_back [] f x' = elim x' [ ]

pub by_time_rising : (xs : List File) → Apart xs → ((f : File) → In f xs → 0 < f.time) → Rising 0 (by_time xs)
unfolding by_time
by_time_rising [] a h = tt
by_time_rising (x ∷ xs) a h =
    placed_rising x (by_time xs) 0 (by_time_rising xs a.1 (λ f m. h f (Memᴰ.tail m))) (h x (Memᴰ.head refl))
    (λ f m. a.0 f (by_time_in xs f m))

-- ---- matching

pub record Matches (eq : List ℕ) (f : File) : Type 0 where
  pub complete : f.time ≡ 0 → ⊥
  pub true_on_law : selects eq (fields_of f.bytes) ≡ true

pub matching_in : (eq : List ℕ) (xs : List File) (f : File) → In f (matching eq xs) → In f xs × Matches eq f
unfolding matching
matching_in eq [] f m = not_in f m
matching_in eq (x ∷ xs) f m = go (eqb x.time 0) refl (selects eq (fields_of x.bytes)) refl m (matching_in eq xs f)
  where
    later : In f xs × Matches eq f → In f (x ∷ xs) × Matches eq f
    later h = (Memᴰ.tail h.0, h.1)

    go : (a : Bool) → eqb x.time 0 ≡ a → (b : Bool) → selects eq (fields_of x.bytes) ≡ b
        → In f (cond a (matching eq xs) (cond b (x ∷ matching eq xs) (matching eq xs))) → (In f (matching eq xs) → In f xs × Matches eq f)
        → In f (x ∷ xs) × Matches eq f
    go true d b e m h = later (h m)
    go false d true e (Memᴰ.head z) h =
        (Memᴰ.head z, subst (λ (y : File). Matches eq y) (sym z) (record { complete = eqb-false x.time 0 d; true_on_law = e }))
    go false d true e (Memᴰ.tail m) h = later (h m)
    go false d false e m h = later (h m)

pub matching_back : (eq : List ℕ) (xs : List File) (f : File) → In f xs → Matches eq f → In f (matching eq xs)
unfolding matching
matching_back eq [] f m k = elim m [ ]
matching_back eq (x ∷ xs) f m k = go (eqb x.time 0) refl (selects eq (fields_of x.bytes)) refl m (λ n. matching_back eq xs f n k)
  where
    clash : false ≡ true → ⊥
    clash e = let z : ◌≡◌ {A = ℕ} 0 1 = cc in omega arith

    go : (a : Bool) → eqb x.time 0 ≡ a → (b : Bool) → selects eq (fields_of x.bytes) ≡ b → In f (x ∷ xs) → (In f xs → In f (matching eq xs))
        → In f (cond a (matching eq xs) (cond b (x ∷ matching eq xs) (matching eq xs)))
    go true d b e (Memᴰ.head z) h = absurd (k.complete (ap (λ (y : File). y.time) z ∙ eqb-true x.time 0 d))
    go true d b e (Memᴰ.tail n) h = h n
    go false d true e (Memᴰ.head z) h = Memᴰ.head z
    go false d true e (Memᴰ.tail n) h = Memᴰ.tail (h n)
    go false d false e (Memᴰ.head z) h =
        absurd (clash (sym e ∙ ap (λ (y : File). selects eq (fields_of y.bytes)) (sym z) ∙ k.true_on_law))
    go false d false e (Memᴰ.tail n) h = h n

-- no two complete files have the same time
abbrev pub Timed : List File → Type 0
Timed [] = Unit {0}
Timed (f ∷ fs) = ((g : File) → In g fs → (f.time ≡ 0 → ⊥) → g.time ≡ f.time → ⊥) × Timed fs

pub matching_apart : (eq : List ℕ) (xs : List File) → Timed xs → Apart (matching eq xs)
unfolding matching
matching_apart eq [] t = tt
matching_apart eq (x ∷ xs) t = go (eqb x.time 0) refl (selects eq (fields_of x.bytes)) (matching_apart eq xs t.1)
  where
    go : (a : Bool) → eqb x.time 0 ≡ a → (b : Bool) → Apart (matching eq xs) → Apart (cond a (matching eq xs) (cond b (x ∷ matching eq xs) (matching eq xs)))
    go true d b h = h
    go false d true h = ((λ g m. t.0 g (matching_in eq xs g m).0 (eqb-false x.time 0 d)), h)
    go false d false h = h

-- ---- found by number

pub record Found (n : ℕ) (fs : List File) (f : File) : Type 0 where
  pub inside : In f fs
  pub number : f.number ≡ n

pub find_in : (n : ℕ) (fs : List File) (f : File) → find n fs ≡ some f → Found n fs f
unfolding find
find_in n [] f e = let z : ◌≡◌ {A = ℕ} 0 1 = cc in absurd (omega arith)
find_in n (x ∷ fs) f e = go (eqb x.number n) refl e (find_in n fs f)
  where
    go : (b : Bool) → eqb x.number n ≡ b → cond b (some x) (find n fs) ≡ some f → (find n fs ≡ some f → Found n fs f) → Found n (x ∷ fs) f
    go true d e ih =
        let z : x ≡ f = cc in
        record { inside = Memᴰ.head (sym z); number = ap (λ (y : File). y.number) (sym z) ∙ eqb-true x.number n d }
    go false d e ih = let r = ih e in record { inside = Memᴰ.tail r.inside; number = r.number }
