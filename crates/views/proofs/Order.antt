-- The files of a state in order of upload time, found by number and by place. Assumes nothing.
use mathlib.Core.Path.{◌≡◌, refl, sym, ap, ◌∙◌, subst}
use mathlib.Core.Bool.{Bool, true, false, cond}
use mathlib.Core.Logic.{◌⊎◌, inl, inr}
use mathlib.Core.List.{List, [], ◌∷◌, ◌++◌, map, append-nil, Memᴰ}
use mathlib.Core.Option.{Option, none, some}
use Prim.Native.Nat.{ℕ, zero, suc, ◌≤◌}
use native.Mathlib.Omega.{arith}
use lib.ListN.{get_or, take}
use Rattle.table.specs.Order as table
use Rattle.files.specs.Selection.{passing}
use Rattle.model.specs.State.{File}
pub use Rattle.model.proofs.Order.{In, Rising, unique, by_time_in, by_time_back, by_time_rising, Matches, matching_in, matching_back, Timed, matching_apart}
use Rattle.model.proofs.Order.{not_in, find_in}
use Rattle.views.specs.View.{entry, listed}
use Rattle.views.proofs.Lists.{Own, find_listed}

pub timed_snoc : (xs : List File) (y : File) → Timed xs → ((f : File) → In f xs → (f.time ≡ 0 → ⊥) → y.time ≡ f.time → ⊥) → Timed (xs ++ y ∷ [])
timed_snoc [] y t h = ((λ g m. not_in g m), tt)
timed_snoc (x ∷ xs) y t h = ((λ g m. go g (append_in xs g m)), timed_snoc xs y t.1 (λ f m. h f (Memᴰ.tail m)))
  where
    append_in : (zs : List File) (g : File) → In g (zs ++ y ∷ []) → In g zs ⊎ (g ≡ y)
    append_in [] g (Memᴰ.head e) = inr e
    append_in [] g (Memᴰ.tail m) = not_in g m
    append_in (z ∷ zs) g (Memᴰ.head e) = inl (Memᴰ.head e)
    append_in (z ∷ zs) g (Memᴰ.tail m) = later (append_in zs g m)
      where
        later : In g zs ⊎ (g ≡ y) → In g (z ∷ zs) ⊎ (g ≡ y)
        later (inl m) = inl (Memᴰ.tail m)
        later (inr e) = inr e

    go : (g : File) → In g xs ⊎ (g ≡ y) → (x.time ≡ 0 → ⊥) → g.time ≡ x.time → ⊥
    go g (inl m) n e = t.0 g m n e
    go g (inr z) n e = h x (Memᴰ.head refl) n (ap (λ (f : File). f.time) (sym z) ∙ e)

-- ---- the files of the numbers 1 to n

pub record Stands (F : ℕ → Option File) (n : ℕ) (f : File) : Type 0 where
  pub is : F f.number ≡ some f
  pub some : 1 ≤ f.number
  pub most : f.number ≤ n

module _ (F : ℕ → Option File) (own : Own F) where
  entry_in : (x : Option File) (f : File) → In f (entry x) → x ≡ some f
  unfolding entry
  entry_in none f m = not_in f m
  entry_in (some g) f (Memᴰ.head e) = ap some (sym e)
  entry_in (some g) f (Memᴰ.tail m) = not_in f m

  append_in : (xs ys : List File) (f : File) → In f (xs ++ ys) → In f xs ⊎ In f ys
  append_in [] ys f m = inr m
  append_in (x ∷ xs) ys f (Memᴰ.head e) = inl (Memᴰ.head e)
  append_in (x ∷ xs) ys f (Memᴰ.tail m) = go (append_in xs ys f m)
    where
      go : In f xs ⊎ In f ys → In f (x ∷ xs) ⊎ In f ys
      go (inl m) = inl (Memᴰ.tail m)
      go (inr m) = inr m

  pub listed_in : (n : ℕ) (f : File) → In f (listed n F) → Stands F n f
  unfolding listed
  listed_in zero f m = not_in f m
  listed_in (suc n) f m = go (append_in (listed n F) (entry (F (suc n))) f m) (listed_in n f)
    where
      go : In f (listed n F) ⊎ In f (entry (F (suc n))) → (In f (listed n F) → Stands F n f) → Stands F (suc n) f
      go (inl m) h = let s = h m in record { is = s.is; some = s.some; most = omega (arith, s.most) }
      go (inr m) h =
          let e = entry_in (F (suc n)) f m in
          let k = own (suc n) f e in
          record { is = ap F k ∙ e; some = omega arith; most = omega arith }

  pub listed_back : (n : ℕ) (f : File) → Stands F n f → In f (listed n F)
  listed_back n f s = (find_in f.number (listed n F) f (find_listed F own n f.number s.some s.most ∙ s.is)).inside

  -- files that stand under different numbers have different times
  pub listed_timed : ((f g : File) (n m : ℕ) → Stands F n f → Stands F m g → (f.time ≡ 0 → ⊥) → g.time ≡ f.time → g.number ≡ f.number)
      → (n : ℕ) → Timed (listed n F)
  unfolding listed entry
  listed_timed h zero = tt
  listed_timed h (suc n) = go (F (suc n)) refl (listed_timed h n)
    where
      go : (x : Option File) → F (suc n) ≡ x → Timed (listed n F) → Timed (listed n F ++ entry x)
      go none e t = subst Timed (sym (append-nil (listed n F))) t
      go (some y) e t =
          let k = own (suc n) y e in
          timed_snoc (listed n F) y t
          (λ f m z q.
          let s = listed_in n f m in
          let w = h f y n (suc n) s (record { is = ap F k ∙ e; some = omega arith; most = omega arith }) z q in
          omega (arith, s.most))

-- ---- places in order

abbrev Of : ℕ → List ℕ → Type 0
Of p ps = Memᴰ p ps

pub passing_in : (test : ℕ → Bool) (ps : List ℕ) (p : ℕ) → Of p (passing test ps) → Of p ps × (test p ≡ true)
unfolding passing
passing_in test [] p m = elim m [ ]
passing_in test (q ∷ ps) p m = go (test q) refl m (passing_in test ps p)
  where
    go : (b : Bool) → test q ≡ b → Of p (cond b (q ∷ passing test ps) (passing test ps)) → (Of p (passing test ps) → Of p ps × (test p ≡ true))
        → Of p (q ∷ ps) × (test p ≡ true)
    go true e (Memᴰ.head z) h = (Memᴰ.head z, ap test z ∙ e)
    go true e (Memᴰ.tail m) h = (Memᴰ.tail (h m).0, (h m).1)
    go false e m h = (Memᴰ.tail (h m).0, (h m).1)

pub passing_back : (test : ℕ → Bool) (ps : List ℕ) (p : ℕ) → Of p ps → test p ≡ true → Of p (passing test ps)
unfolding passing
passing_back test [] p m t = elim m [ ]
passing_back test (q ∷ ps) p m t = go (test q) refl m (λ n. passing_back test ps p n t)
  where
    clash : false ≡ true → ⊥
    clash e = let z : ◌≡◌ {A = ℕ} 0 1 = cc in omega arith

    go : (b : Bool) → test q ≡ b → Of p (q ∷ ps) → (Of p ps → Of p (passing test ps)) → Of p (cond b (q ∷ passing test ps) (passing test ps))
    go true e (Memᴰ.head z) h = Memᴰ.head z
    go true e (Memᴰ.tail m) h = Memᴰ.tail (h m)
    go false e (Memᴰ.head z) h = absurd (clash (sym e ∙ ap test (sym z) ∙ t))
    go false e (Memᴰ.tail m) h = h m

lower : (ts : List ℕ) (a b : ℕ) (ps : List ℕ) → a ≤ b → table.Rising b ts ps → table.Rising a ts ps
lower ts a b [] h r = tt
lower ts a b (p ∷ ps) h r = (omega (arith, r.0), r.1)

passing_rising : (test : ℕ → Bool) (ts : List ℕ) (b : ℕ) (ps : List ℕ) → table.Rising b ts ps → table.Rising b ts (passing test ps)
unfolding passing
passing_rising test ts b [] r = tt
passing_rising test ts b (p ∷ ps) r = go (test p) (passing_rising test ts (get_or ts p 0) ps r.1)
  where
    go : (t : Bool) → table.Rising (get_or ts p 0) ts (passing test ps) → table.Rising b ts (cond t (p ∷ passing test ps) (passing test ps))
    go true h = (r.0, h)
    go false h = lower ts b (get_or ts p 0) (passing test ps) (omega (arith, r.0)) h

mapped_rising : (g : ℕ → File) (ts : List ℕ) (b : ℕ) (ps : List ℕ) → ((p : ℕ) → Of p ps → (g p).time ≡ get_or ts p 0) → table.Rising b ts ps → Rising b (map g ps)
mapped_rising g ts b [] h r = tt
mapped_rising g ts b (p ∷ ps) h r =
    let e = h p (Memᴰ.head refl) in
    (omega (arith, r.0), mapped_rising g ts (g p).time ps (λ q m. h q (Memᴰ.tail m)) (subst (λ (k : ℕ). table.Rising k ts ps) (sym e) r.1))

pub chosen_rising : (g : ℕ → File) (test : ℕ → Bool) (ts : List ℕ) (ps : List ℕ) → ((p : ℕ) → Of p ps → (g p).time ≡ get_or ts p 0)
    → table.Rising 0 ts ps → Rising 0 (map g (passing test ps))
chosen_rising g test ts ps h r =
    mapped_rising g ts 0 (passing test ps) (λ p m. h p (passing_in test ps p m).0) (passing_rising test ts 0 ps r)

pub record Image (g : ℕ → File) (ps : List ℕ) (f : File) : Type 0 where
  pub place : ℕ
  pub member : Of place ps
  pub is : f ≡ g place

pub map_in : (g : ℕ → File) (ps : List ℕ) (f : File) → In f (map g ps) → Image g ps f
map_in g [] f m = not_in f m
map_in g (p ∷ ps) f (Memᴰ.head e) = record { place = p; member = Memᴰ.head refl; is = e }
map_in g (p ∷ ps) f (Memᴰ.tail m) = let i = map_in g ps f m in record { place = i.place; member = Memᴰ.tail i.member; is = i.is }

pub map_back : (g : ℕ → File) (ps : List ℕ) (p : ℕ) → Of p ps → In (g p) (map g ps)
map_back g [] p x' = elim x' [ ]
map_back g (q ∷ ps) p (Memᴰ.head e) = Memᴰ.head (ap g e)
map_back g (q ∷ ps) p (Memᴰ.tail m) = Memᴰ.tail (map_back g ps p m)

pub take_map : {A B : Type 0} (g : A → B) (n : ℕ) (ps : List A) → take n (map g ps) ≡ map g (take n ps)
take_map g zero ps = refl
take_map g (suc n) [] = refl
take_map g (suc n) (p ∷ ps) = ap (λ l. g p ∷ l) (take_map g n ps)

pub map_twice : (h : File → ℕ) (g : ℕ → File) (ps : List ℕ) → map h (map g ps) ≡ map (λ p. h (g p)) ps
map_twice h g [] = refl
map_twice h g (p ∷ ps) = ap (λ (ns : List ℕ). h (g p) ∷ ns) (map_twice h g ps)
