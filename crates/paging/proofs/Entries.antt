-- Lists of entries whose upload times rise, and the newest of them. Assumes nothing.
use mathlib.Core.Path.{◌≡◌, refl, sym, ap, ap₂, ◌∙◌, subst}
use mathlib.Core.Bool.{Bool, true, false, cond}
use mathlib.Core.List.Memᴰ
use mathlib.Core.List.{List, [], ◌∷◌, ◌++◌, map, Memᴰ}
use mathlib.Core.Logic.{◌⊎◌, inl, inr, ⊎_elim}
use Prim.Native.Nat.{ℕ, zero, suc, ◌≤◌, ◌<◌}
use native.Mathlib.Omega.{arith}
use lib.Dec.{ltb}
use lib.ListN.{length, take, drop, take-append-drop}
use borrow.Author.Tests.{ltb-true, ltb-false}
use Rattle.paging.specs.Paging.{Entry, newest_of, Once, Rises}

-- ---- members

pub map_in : {A B : Type 0} (f : A → B) (x : A) (xs : List A) → Memᴰ x xs → Memᴰ (f x) (map f xs)
map_in {A = A} {B = B} f x [] x'' = elim x'' [ ]
map_in f x (y ∷ xs) (Memᴰ.head e) = Memᴰ.head (ap f e)
map_in f x (y ∷ xs) (Memᴰ.tail m) = Memᴰ.tail (map_in f x xs m)

pub record From {A B : Type 0} (f : A → B) (xs : List A) (y : B) : Type 0 where
  pub of : A
  pub inside : Memᴰ of xs
  pub same : y ≡ f of

pub in_map : {A B : Type 0} (f : A → B) (y : B) (xs : List A) → Memᴰ y (map f xs) → From f xs y
in_map f y [] m = absurd (Memᴰ.not-nil m)
in_map f y (x ∷ xs) (Memᴰ.head e) = record { of = x; inside = Memᴰ.head refl; same = e }
in_map f y (x ∷ xs) (Memᴰ.tail m) = let r = in_map f y xs m in record { of = r.of; inside = Memᴰ.tail r.inside; same = r.same }

pub map_same : {A B : Type 0} (f g : A → B) (xs : List A) → ((x : A) → Memᴰ x xs → f x ≡ g x) → map f xs ≡ map g xs
map_same f g [] h = refl
map_same f g (x ∷ xs) h = ap₂ ◌∷◌ (h x (Memᴰ.head refl)) (map_same f g xs (λ y m. h y (Memᴰ.tail m)))

pub in_left : {A : Type 0} (x : A) (xs ys : List A) → Memᴰ x xs → Memᴰ x (xs ++ ys)
in_left {A = A} x [] ys x'' = elim x'' [ ]
in_left x (y ∷ xs) ys (Memᴰ.head e) = Memᴰ.head e
in_left x (y ∷ xs) ys (Memᴰ.tail m) = Memᴰ.tail (in_left x xs ys m)

pub in_right : {A : Type 0} (x : A) (xs ys : List A) → Memᴰ x ys → Memᴰ x (xs ++ ys)
in_right x [] ys m = m
in_right x (y ∷ xs) ys m = Memᴰ.tail (in_right x xs ys m)

pub in_either : {A : Type 0} (x : A) (xs ys : List A) → Memᴰ x (xs ++ ys) → Memᴰ x xs ⊎ Memᴰ x ys
in_either x [] ys m = inr m
in_either x (y ∷ xs) ys (Memᴰ.head e) = inl (Memᴰ.head e)
in_either {A} x (y ∷ xs) ys (Memᴰ.tail m) =
    ⊎_elim (λ (a : Memᴰ x xs). inl (Memᴰ.tail a)) (λ (b : Memᴰ x ys). inr b) (in_either x xs ys m)

pub taken_in : {A : Type 0} (n : ℕ) (xs : List A) (x : A) → Memᴰ x (take n xs) → Memᴰ x xs
taken_in {A} n xs x m = subst (λ (l : List A). Memᴰ x l) (take-append-drop n xs) (in_left x (take n xs) (drop n xs) m)

pub take_map : {A B : Type 0} (f : A → B) (n : ℕ) (xs : List A) → take n (map f xs) ≡ map f (take n xs)
take_map f zero xs = refl
take_map f (suc n) [] = refl
take_map f (suc n) (x ∷ xs) = ap (λ l. f x ∷ l) (take_map f n xs)

pub map_map : {A B C : Type 0} (f : B → C) (g : A → B) (xs : List A) → map f (map g xs) ≡ map (λ (x : A). f (g x)) xs
map_map f g [] = refl
map_map f g (x ∷ xs) = ap (λ l. f (g x) ∷ l) (map_map f g xs)

-- ---- times that rise

pub rises_above : (t : ℕ) (es : List Entry) → Rises t es → (e : Entry) → Memᴰ e es → t < e.time
rises_above t [] r e x'' = elim x'' [ ]
rises_above t (x ∷ es) r e (Memᴰ.head s) = subst (λ (y : Entry). t < y.time) (sym s) r.0
rises_above t (x ∷ es) r e (Memᴰ.tail m) = omega (arith, r.0, rises_above x.time es r.1 e m)

pub rises_lower : (a b : ℕ) (es : List Entry) → a ≤ b → Rises b es → Rises a es
rises_lower a b [] h r = tt
rises_lower a b (e ∷ es) h r = (omega (arith, r.0), r.1)

-- all are above t
pub rises_from : (a t : ℕ) (es : List Entry) → Rises a es → ((e : Entry) → Memᴰ e es → t < e.time) → Rises t es
rises_from a t [] r h = tt
rises_from a t (e ∷ es) r h = (h e (Memᴰ.head refl), r.1)

pub rises_take : (a n : ℕ) (es : List Entry) → Rises a es → Rises a (take n es)
rises_take a zero es r = tt
rises_take a (suc n) [] r = tt
rises_take a (suc n) (e ∷ es) r = (r.0, rises_take e.time n es r.1)

-- one of them is among the first n, or these are n, and all older than it
pub record Beyond (n : ℕ) (es : List Entry) (e : Entry) : Type 0 where
  pub full : length (take n es) ≡ n
  pub older : (f : Entry) → Memᴰ f (take n es) → f.time < e.time

pub taken_or_beyond : (a n : ℕ) (es : List Entry) (e : Entry) → Rises a es → Memᴰ e es → Memᴰ e (take n es) ⊎ Beyond n es e
taken_or_beyond a (suc n) [] e r m = elim m [ ]
taken_or_beyond a zero es e r m = inr (record { full = refl; older = λ f k. absurd (Memᴰ.not-nil k) })
taken_or_beyond a (suc n) (x ∷ es) e r (Memᴰ.head s) = inl (Memᴰ.head s)
taken_or_beyond a (suc n) (x ∷ es) e r (Memᴰ.tail m) = go (taken_or_beyond x.time n es e r.1 m)
  where
    go : Memᴰ e (take n es) ⊎ Beyond n es e → Memᴰ e (x ∷ take n es) ⊎ Beyond (suc n) (x ∷ es) e
    go (inl j) = inl (Memᴰ.tail j)
    go (inr l) = inr (record { full = ap suc l.full; older = older })
      where
        older : (f : Entry) → Memᴰ f (x ∷ take n es) → f.time < e.time
        older f (Memᴰ.head s) = subst (λ (y : Entry). y.time < e.time) (sym s) (rises_above x.time es r.1 e m)
        older f (Memᴰ.tail j) = l.older f j

-- what was given, and then a page above all of it
pub rises_append : (a t : ℕ) (xs ys : List Entry) → a ≤ t → Rises a xs → ((e : Entry) → Memᴰ e xs → e.time ≤ t) → Rises t ys
    → Rises a (xs ++ ys)
rises_append a t [] ys h r k s = rises_lower a t ys h s
rises_append a t (x ∷ xs) ys h r k s =
    (r.0, rises_append x.time t xs ys (k x (Memᴰ.head refl)) r.1 (λ e m. k e (Memᴰ.tail m)) s)

-- lists with rising times and the same members are the same
pub rises_unique : (a b : ℕ) (xs ys : List Entry) → Rises a xs → Rises b ys
    → ((e : Entry) → Memᴰ e xs → Memᴰ e ys) → ((e : Entry) → Memᴰ e ys → Memᴰ e xs) → xs ≡ ys
rises_unique a b [] [] r s f g = refl
rises_unique a b [] (y ∷ ys) r s f g = absurd (Memᴰ.not-nil (g y (Memᴰ.head refl)))
rises_unique a b (x ∷ xs) [] r s f g = absurd (Memᴰ.not-nil (f x (Memᴰ.head refl)))
rises_unique a b (x ∷ xs) (y ∷ ys) r s f g = ap₂ ◌∷◌ first (rises_unique x.time y.time xs ys r.1 s.1 forth back)
  where
    first : x ≡ y
    first =
        ⊎_elim (λ (e : x ≡ y). e)
        (λ (k : Memᴰ x ys).
        ⊎_elim (λ (e : y ≡ x). sym e)
        (λ (j : Memᴰ y xs). absurd (omega (arith, rises_above y.time ys s.1 x k, rises_above x.time xs r.1 y j)))
        (Memᴰ.cases_cons (g y (Memᴰ.head refl))))
        (Memᴰ.cases_cons (f x (Memᴰ.head refl)))

    same_time : x.time ≡ y.time
    same_time = ap (λ (e : Entry). e.time) first

    forth : (e : Entry) → Memᴰ e xs → Memᴰ e ys
    forth e m =
        ⊎_elim (λ (z : e ≡ y). absurd (let t = ap (λ (y : Entry). y.time) z in omega (arith, rises_above x.time xs r.1 e m, same_time)))
        (λ (k : Memᴰ e ys). k) (Memᴰ.cases_cons (f e (Memᴰ.tail m)))

    back : (e : Entry) → Memᴰ e ys → Memᴰ e xs
    back e m =
        ⊎_elim (λ (z : e ≡ x). absurd (let t = ap (λ (y : Entry). y.time) z in omega (arith, rises_above y.time ys s.1 e m, same_time)))
        (λ (k : Memᴰ e xs). k) (Memᴰ.cases_cons (g e (Memᴰ.tail m)))

-- ---- the newest

abbrev later : ℕ → Entry → ℕ
later t e = cond (ltb t e.time) e.time t

record Later (t : ℕ) (e : Entry) (m : ℕ) : Type 0 where
  known : t ≤ m
  own : e.time ≤ m
  either : (m ≡ t) ⊎ (m ≡ e.time)

later_is : (t : ℕ) (e : Entry) → Later t e (later t e)
later_is t e = go (ltb t e.time) refl
  where
    go : (b : Bool) → ltb t e.time ≡ b → Later t e (cond b e.time t)
    go true b = let k = ltb-true t e.time b in record { known = omega arith; own = omega arith; either = inr refl }
    go false b = let k = ltb-false t e.time b in record { known = omega arith; own = k; either = inl refl }

pub newest_known : (t : ℕ) (es : List Entry) → t ≤ newest_of t es
unfolding newest_of
newest_known t [] = omega arith
newest_known t (e ∷ es) = let a = newest_known (later t e) es in omega (arith, (later_is t e).known)

pub newest_most : (t : ℕ) (es : List Entry) (e : Entry) → Memᴰ e es → e.time ≤ newest_of t es
unfolding newest_of
newest_most t [] e m = absurd (Memᴰ.not-nil m)
newest_most t (x ∷ es) e m =
    ⊎_elim (λ (s : e ≡ x). let a = ap (λ (y : Entry). y.time) s in let b = newest_known (later t x) es in omega (arith, (later_is t x).own))
    (λ (k : Memᴰ e es). newest_most (later t x) es e k) (Memᴰ.cases_cons m)

-- it is the time known before or that of an entry
pub record Of (es : List Entry) (t : ℕ) : Type 0 where
  pub entry : Entry
  pub inside : Memᴰ entry es
  pub time : entry.time ≡ t

pub newest_is : (t : ℕ) (es : List Entry) → (newest_of t es ≡ t) ⊎ Of es (newest_of t es)
unfolding newest_of
newest_is t [] = inl refl
newest_is t (x ∷ es) = go (newest_is (later t x) es) (later_is t x).either
  where
    go : (newest_of (later t x) es ≡ later t x) ⊎ Of es (newest_of (later t x) es) → (later t x ≡ t) ⊎ (later t x ≡ x.time)
        → (newest_of (later t x) es ≡ t) ⊎ Of (x ∷ es) (newest_of (later t x) es)
    go (inl e) (inl a) = inl (e ∙ a)
    go (inl e) (inr a) = inr (record { entry = x; inside = Memᴰ.head refl; time = sym (e ∙ a) })
    go (inr o) a = inr (record { entry = o.entry; inside = Memᴰ.tail o.inside; time = o.time })

-- ---- no number twice

-- with rising times, where equal numbers have equal times
pub rises_once : (t : ℕ) (es : List Entry) → Rises t es
    → ((e f : Entry) → Memᴰ e es → Memᴰ f es → e.number ≡ f.number → e.time ≡ f.time) → Once es
rises_once t [] r same = tt
rises_once t (x ∷ es) r same = (
  λ f m n. let s = same x f (Memᴰ.head refl) (Memᴰ.tail m) n in omega (arith, rises_above x.time es r.1 f m),
  rises_once x.time es r.1 (λ a b m n. same a b (Memᴰ.tail m) (Memᴰ.tail n)),
)

pub once_append : (xs ys : List Entry) → Once xs → Once ys
    → ((e f : Entry) → Memᴰ e xs → Memᴰ f ys → e.number ≡ f.number → ⊥) → Once (xs ++ ys)
once_append [] ys a b h = b
once_append (x ∷ xs) ys a b h = (
  λ f m n.
      ⊎_elim (λ (k : Memᴰ f xs). a.0 f k n) (λ (k : Memᴰ f ys). h x f (Memᴰ.head refl) k n) (in_either f xs ys m),
  once_append xs ys a.1 b (λ e f m k. h e f (Memᴰ.tail m) k),
)
