-- Laws of the lists that a view is made of: the files of the numbers 1 to n, and the sessions.
use mathlib.Core.Path.{◌≡◌, refl, sym, ap, ap₂, ◌∙◌}
use mathlib.Core.Bool.{Bool, true, false, cond}
use mathlib.Core.List.{List, [], ◌∷◌, ◌++◌}
use mathlib.Core.Option.{Option, none, some}
use Prim.Native.Nat.{ℕ, zero, suc, ◌≤◌, ◌<◌}
use native.Mathlib.Omega.{arith}
use borrow.Author.Tests.{eqb-true, eqb-false, eq-eqb, ne_eqb, leb-true, leb-false}
use lib.Dec.{eqb, leb}
use lib.ListN.{length, get_or, set}
use Rattle.model.specs.State as model
use Rattle.model.specs.State.{File}
use Rattle.model.specs.Files.{find, changed, without}
use Rattle.views.specs.View.{entry, listed, each}

-- ---- sessions

pub each_length : (n : ℕ) (f : ℕ → model.Session) → length (each n f) ≡ n
unfolding each
each_length zero f = refl
each_length (suc n) f = ap suc (each_length n (λ i. f (suc i)))

pub each_at : (n : ℕ) (f : ℕ → model.Session) (i : ℕ) → i < n → get_or (each n f) i model.closed_session ≡ f i
unfolding each
each_at zero f i h = absurd (omega arith)
each_at (suc n) f zero h = refl
each_at (suc n) f (suc i) h = each_at n (λ k. f (suc k)) i (omega arith)

pub each_same : (n : ℕ) (f g : ℕ → model.Session) → ((i : ℕ) → i < n → g i ≡ f i) → each n g ≡ each n f
unfolding each
each_same zero f g h = refl
each_same (suc n) f g h =
    ap₂ (λ (x : model.Session) (xs : List model.Session). x ∷ xs) (h 0 (omega arith))
    (each_same n (λ i. f (suc i)) (λ i. g (suc i)) (λ i k. h (suc i) (omega arith)))

-- one session is another one
pub each_set : (n : ℕ) (f g : ℕ → model.Session) (i : ℕ) → i < n → ((j : ℕ) → j < n → (j ≡ i → ⊥) → g j ≡ f j) → each n g ≡ set (each n f) i (g i)
unfolding each
each_set zero f g i h k = absurd (omega arith)
each_set (suc n) f g zero h k =
    ap (λ (xs : List model.Session). g 0 ∷ xs)
    (each_same n (λ i. f (suc i)) (λ i. g (suc i)) (λ i j. k (suc i) (omega arith) (λ e. absurd (omega arith))))
each_set (suc n) f g (suc i) h k =
    ap₂ (λ (x : model.Session) (xs : List model.Session). x ∷ xs) (k 0 (omega arith) (λ e. absurd (omega arith)))
    (each_set n (λ j. f (suc j)) (λ j. g (suc j)) i (omega arith) (λ j b e. k (suc j) (omega arith) (λ z. e (omega arith))))

-- ---- files

-- each file stands under its own number
abbrev pub Own : (ℕ → Option File) → Type 0
Own F = (n : ℕ) (f : File) → F n ≡ some f → f.number ≡ n

pub listed_same : (n : ℕ) (F G : ℕ → Option File) → ((k : ℕ) → 1 ≤ k → k ≤ n → G k ≡ F k) → listed n G ≡ listed n F
unfolding listed
listed_same zero F G h = refl
listed_same (suc n) F G h =
    ap₂ (λ (xs : List File) (x : Option File). xs ++ entry x) (listed_same n F G (λ k a b. h k a (omega arith))) (h (suc n) (omega arith) (omega arith))

-- ---- finding

abbrev or : Option File → Option File → Option File
or none y = y
or (some x) y = some x

find_append : (n : ℕ) (xs ys : List File) → find n (xs ++ ys) ≡ or (find n xs) (find n ys)
unfolding find
find_append n [] ys = refl
find_append n (x ∷ xs) ys = go (eqb x.number n) (find_append n xs ys)
  where
    go : (b : Bool) → find n (xs ++ ys) ≡ or (find n xs) (find n ys) → cond b (some x) (find n (xs ++ ys)) ≡ or (cond b (some x) (find n xs)) (find n ys)
    go true e = refl
    go false e = e

find_entry : (n k : ℕ) (x : Option File) → ((f : File) → x ≡ some f → f.number ≡ k) → find n (entry x) ≡ cond (eqb k n) x none
unfolding find entry
find_entry n k none h = go (eqb k n)
  where
    go : (b : Bool) → ◌≡◌ {A = Option File} none (cond b none none)
    go true = refl
    go false = refl
find_entry n k (some f) h = ap (λ (z : ℕ). cond (eqb z n) (some f) none) (h f refl)

or_none : (x : Option File) → or x none ≡ x
or_none none = refl
or_none (some x) = refl

module _ (F : ℕ → Option File) (own : Own F) where
  pub find_past : (m n : ℕ) → m < n → find n (listed m F) ≡ none
  unfolding listed find
  find_past zero n h = refl
  find_past (suc m) n h =
      find_append n (listed m F) (entry (F (suc m)))
      ∙ ap₂ or (find_past m n (omega arith)) (find_entry n (suc m) (F (suc m)) (own (suc m)) ∙ rw (ne_eqb (suc m) n (λ e. omega arith)))

  find_zero : (m : ℕ) → find 0 (listed m F) ≡ none
  unfolding listed find
  find_zero zero = refl
  find_zero (suc m) =
      find_append 0 (listed m F) (entry (F (suc m)))
      ∙ ap₂ or (find_zero m) (find_entry 0 (suc m) (F (suc m)) (own (suc m)) ∙ rw (ne_eqb (suc m) 0 (λ e. omega arith)))

  pub find_listed : (m n : ℕ) → 1 ≤ n → n ≤ m → find n (listed m F) ≡ F n
  unfolding listed
  find_listed zero n h k = absurd (omega arith)
  find_listed (suc m) n h k =
      find_append n (listed m F) (entry (F (suc m))) ∙ go (eqb (suc m) n) refl (find_listed m n h)
    where
      by : (b : Bool) → eqb (suc m) n ≡ b → find n (entry (F (suc m))) ≡ cond b (F (suc m)) none
      by b e = find_entry n (suc m) (F (suc m)) (own (suc m)) ∙ ap (λ (t : Bool). cond t (F (suc m)) none) e

      go : (b : Bool) → eqb (suc m) n ≡ b → (n ≤ m → find n (listed m F) ≡ F n) → or (find n (listed m F)) (find n (entry (F (suc m)))) ≡ F n
      go true e ih =
          let z = eqb-true (suc m) n e in
          ap₂ or (find_past m n (omega arith)) (by true e) ∙ ap F z
      go false e ih =
          ap₂ or (ih (let z = eqb-false (suc m) n e in omega arith)) (by false e) ∙ or_none (F n)

  -- no file has number 0 or one above m: each is found
  pub find_any : (m n : ℕ) → F 0 ≡ none → ((k : ℕ) → m < k → F k ≡ none) → find n (listed m F) ≡ F n
  find_any m zero z h = find_zero m ∙ sym z
  find_any m (suc n) z h = go (leb (suc n) m) refl
    where
      go : (b : Bool) → leb (suc n) m ≡ b → find (suc n) (listed m F) ≡ F (suc n)
      go true e = find_listed m (suc n) (omega arith) (leb-true (suc n) m e)
      go false e =
          let k : m < suc n = leb-false (suc n) m e in
          find_past m (suc n) k ∙ sym (h (suc n) k)

-- ---- one file is another one, or is no more

changed_append : (n : ℕ) (g : File → File) (xs ys : List File) → changed n g (xs ++ ys) ≡ changed n g xs ++ changed n g ys
unfolding changed
changed_append n g [] ys = refl
changed_append n g (x ∷ xs) ys = ap (λ (l : List File). cond (eqb x.number n) (g x) x ∷ l) (changed_append n g xs ys)

without_append : (n : ℕ) (xs ys : List File) → without n (xs ++ ys) ≡ without n xs ++ without n ys
unfolding without
without_append n [] ys = refl
without_append n (x ∷ xs) ys = go (eqb x.number n) (without_append n xs ys)
  where
    go : (b : Bool) → without n (xs ++ ys) ≡ without n xs ++ without n ys
        → cond b (without n (xs ++ ys)) (x ∷ without n (xs ++ ys)) ≡ cond b (without n xs) (x ∷ without n xs) ++ without n ys
    go true e = e
    go false e = ap (λ (l : List File). x ∷ l) e

changed_here : (n : ℕ) (g : File → File) (f : File) → f.number ≡ n → changed n g (entry (some f)) ≡ entry (some (g f))
unfolding changed entry
changed_here n g f e = rw (eq-eqb f.number n e)

changed_other : (n k : ℕ) (g : File → File) (x : Option File) → ((f : File) → x ≡ some f → f.number ≡ k) → (k ≡ n → ⊥) → changed n g (entry x) ≡ entry x
unfolding changed entry
changed_other n k g none h z = refl
changed_other n k g (some f) h z = rw (ne_eqb f.number n (λ e. z (sym (h f refl) ∙ e)))

without_here : (n : ℕ) (f : File) → f.number ≡ n → without n (entry (some f)) ≡ []
unfolding without entry
without_here n f e = rw (eq-eqb f.number n e)

without_other : (n k : ℕ) (x : Option File) → ((f : File) → x ≡ some f → f.number ≡ k) → (k ≡ n → ⊥) → without n (entry x) ≡ entry x
unfolding without entry
without_other n k none h z = refl
without_other n k (some f) h z = rw (ne_eqb f.number n (λ e. z (sym (h f refl) ∙ e)))

module _ (F G : ℕ → Option File) (own : Own F) (n : ℕ) (f : File) (was : F n ≡ some f) (others : (k : ℕ) → (k ≡ n → ⊥) → G k ≡ F k) where
  pub listed_changed : (g : File → File) → G n ≡ some (g f) → (m : ℕ) → listed m G ≡ changed n g (listed m F)
  unfolding listed changed
  listed_changed g is zero = refl
  listed_changed g is (suc m) =
      ap₂ (λ (xs ys : List File). xs ++ ys) (listed_changed g is m) (go (eqb (suc m) n) refl)
      ∙ sym (changed_append n g (listed m F) (entry (F (suc m))))
    where
      go : (b : Bool) → eqb (suc m) n ≡ b → entry (G (suc m)) ≡ changed n g (entry (F (suc m)))
      go true e =
          let z = eqb-true (suc m) n e in
          ap (λ (k : ℕ). entry (G k)) z ∙ ap entry is ∙ sym (changed_here n g f (own n f was)) ∙ ap (λ (x : Option File). changed n g (entry x)) (sym was)
          ∙ ap (λ (k : ℕ). changed n g (entry (F k))) (sym z)
      go false e =
          let z = eqb-false (suc m) n e in
          ap entry (others (suc m) z) ∙ sym (changed_other n (suc m) g (F (suc m)) (own (suc m)) z)

  pub listed_without : G n ≡ none → (m : ℕ) → listed m G ≡ without n (listed m F)
  unfolding listed without entry
  listed_without is zero = refl
  listed_without is (suc m) =
      ap₂ (λ (xs ys : List File). xs ++ ys) (listed_without is m) (go (eqb (suc m) n) refl)
      ∙ sym (without_append n (listed m F) (entry (F (suc m))))
    where
      none_entry : entry none ≡ []
      none_entry = refl

      go : (b : Bool) → eqb (suc m) n ≡ b → entry (G (suc m)) ≡ without n (entry (F (suc m)))
      go true e =
          let z = eqb-true (suc m) n e in
          ap (λ (k : ℕ). entry (G k)) z ∙ ap entry is ∙ none_entry ∙ sym (without_here n f (own n f was))
          ∙ ap (λ (x : Option File). without n (entry x)) (sym was) ∙ ap (λ (k : ℕ). without n (entry (F k))) (sym z)
      go false e =
          let z = eqb-false (suc m) n e in
          ap entry (others (suc m) z) ∙ sym (without_other n (suc m) (F (suc m)) (own (suc m)) z)
