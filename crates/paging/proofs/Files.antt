-- Files in a list: found by number, and those above an upload time. Assumes nothing.
use mathlib.Core.Path.{◌≡◌, refl, sym, ap, ◌∙◌, subst}
use mathlib.Core.Bool.{Bool, true, false, cond, ◌&&◌}
use mathlib.Core.List.Memᴰ
use mathlib.Core.List.{List, [], ◌∷◌, map}
use Prim.Native.Nat.{ℕ, ◌<◌}
use native.Mathlib.Omega.{arith}
use lib.Dec.{eqb, ltb}
use borrow.Author.Tests.{eqb-false, ltb-true, ltb-false, lt-ltb}
use Rattle.header.specs.Items.{fields_of}
use Rattle.equation.specs.Answer.{selects}
use Rattle.model.specs.State.{File}
use Rattle.model.specs.Files.{matching, placed, by_time}
use Rattle.model.proofs.Order.{In, Rising, Timed}
use Rattle.steps.specs.Sound.{Numbers}
use Rattle.steps.proofs.Found.{numbers_in}
use Rattle.paging.specs.Client.{above}
use Rattle.paging.specs.Paging.{entry_of, Rises}

-- ---- found by number

-- the numbers rise, so complete files of one time that have one number are one file
pub numbers_timed : (a b t : ℕ) (fs : List File) → Numbers a b t fs
    → ((f g : File) → In f fs → In g fs → (f.time ≡ 0 → ⊥) → f.time ≡ g.time → f.number ≡ g.number) → Timed fs
numbers_timed a b t [] n h = tt
numbers_timed a b t (x ∷ fs) n h = (
  λ g m z e.
      let k = h x g (Memᴰ.head refl) (Memᴰ.tail m) z (sym e) in omega (arith, (numbers_in x.number b t fs g n.3 m).from),
  numbers_timed x.number b t fs n.3 (λ f g i j. h f g (Memᴰ.tail i) (Memᴰ.tail j)),
)

pub rising_entries : (t : ℕ) (fs : List File) → Rising t fs → Rises t (map entry_of fs)
rising_entries t [] r = tt
rising_entries t (f ∷ fs) r = (r.0, rising_entries f.time fs r.1)

-- ---- above a time

pub above_in : (t : ℕ) (fs : List File) (f : File) → In f (above t fs) → In f fs × (t < f.time)
unfolding above
above_in t [] f m = elim m [ ]
above_in t (x ∷ fs) f m = go (ltb t x.time) refl m (above_in t fs f)
  where
    go : (b : Bool) → ltb t x.time ≡ b → In f (cond b (x ∷ above t fs) (above t fs)) → (In f (above t fs) → In f fs × (t < f.time))
        → In f (x ∷ fs) × (t < f.time)
    go true e (Memᴰ.head s) ih = (Memᴰ.head s, subst (λ (y : File). t < y.time) (sym s) (ltb-true t x.time e))
    go true e (Memᴰ.tail m) ih = let r = ih m in (Memᴰ.tail r.0, r.1)
    go false e m ih = let r = ih m in (Memᴰ.tail r.0, r.1)

pub in_above : (t : ℕ) (fs : List File) (f : File) → In f fs → t < f.time → In f (above t fs)
unfolding above
in_above t [] f x'' h = elim x'' [ ]
in_above t (x ∷ fs) f (Memᴰ.head e) h = rw (lt-ltb t x.time (subst (λ (y : File). t < y.time) e h)) (Memᴰ.head e)
in_above t (x ∷ fs) f (Memᴰ.tail m) h = later (ltb t x.time) (in_above t fs f m h)
  where
    later : (b : Bool) → In f (above t fs) → In f (cond b (x ∷ above t fs) (above t fs))
    later true m = Memᴰ.tail m
    later false m = m

pub above_rises : (a t : ℕ) (fs : List File) → Rising a fs → Rising a (above t fs)
unfolding above
above_rises a t [] r = tt
above_rises a t (x ∷ fs) r = go (ltb t x.time) (above_rises x.time t fs r.1)
  where
    lower : (gs : List File) → Rising x.time gs → Rising a gs
    lower [] q = tt
    lower (g ∷ gs) q = (omega (arith, r.0, q.0), q.1)

    go : (b : Bool) → Rising x.time (above t fs) → Rising a (cond b (x ∷ above t fs) (above t fs))
    go true q = (r.0, q)
    go false q = lower (above t fs) q

above_placed : (t : ℕ) (f : File) (fs : List File) → above t (placed f fs) ≡ cond (ltb t f.time) (placed f (above t fs)) (above t fs)
unfolding above placed
above_placed t f [] = refl
above_placed t f (x ∷ fs) = go (ltb t f.time) refl (ltb t x.time) refl (ltb x.time f.time) refl (above_placed t f fs)
  where
    go : (a : Bool) → ltb t f.time ≡ a → (b : Bool) → ltb t x.time ≡ b → (c : Bool) → ltb x.time f.time ≡ c
        → above t (placed f fs) ≡ cond (ltb t f.time) (placed f (above t fs)) (above t fs)
        → above t (cond c (x ∷ placed f fs) (f ∷ x ∷ fs))
        ≡ cond a (placed f (cond b (x ∷ above t fs) (above t fs))) (cond b (x ∷ above t fs) (above t fs))
    go true p true q true r ih = rw (q, r) (ap (λ (l : List File). x ∷ l) (ih ∙ rw p))
    go true p true q false r ih = rw (p, q, r)
    go true p false q true r ih = rw q (ih ∙ rw p)
    go true p false q false r ih =
        absurd (omega (arith, ltb-true t f.time p, ltb-false t x.time q, ltb-false x.time f.time r))
    go false p true q true r ih = absurd (omega (arith, ltb-false t f.time p, ltb-true t x.time q, ltb-true x.time f.time r))
    go false p true q false r ih = rw (p, q)
    go false p false q true r ih = rw q (ih ∙ rw p)
    go false p false q false r ih = rw (p, q)

pub above_by_time : (t : ℕ) (fs : List File) → by_time (above t fs) ≡ above t (by_time fs)
unfolding above by_time
above_by_time t [] = refl
above_by_time t (f ∷ fs) = go (ltb t f.time) (above_by_time t fs) ∙ sym (above_placed t f (by_time fs))
  where
    go : (b : Bool) → by_time (above t fs) ≡ above t (by_time fs)
        → by_time (cond b (f ∷ above t fs) (above t fs)) ≡ cond b (placed f (above t (by_time fs))) (above t (by_time fs))
    go true ih = ap (placed f) ih
    go false ih = ih

-- an equation that selects the complete files above t that another one selects
pub matching_above : (t : ℕ) (eq narrow : List ℕ) (fs : List File)
    → ((f : File) → In f fs → (f.time ≡ 0 → ⊥) → selects narrow (fields_of f.bytes) ≡ selects eq (fields_of f.bytes) && ltb t f.time)
    → matching narrow fs ≡ above t (matching eq fs)
unfolding matching above
matching_above t eq narrow [] h = refl
matching_above t eq narrow (x ∷ fs) h =
    go (eqb x.time 0) refl (selects eq (fields_of x.bytes)) refl (ltb t x.time) refl (matching_above t eq narrow fs (λ f m. h f (Memᴰ.tail m)))
  where
    go : (a : Bool) → eqb x.time 0 ≡ a → (b : Bool) → selects eq (fields_of x.bytes) ≡ b → (c : Bool) → ltb t x.time ≡ c
        → matching narrow fs ≡ above t (matching eq fs)
        → cond a (matching narrow fs) (cond (selects narrow (fields_of x.bytes)) (x ∷ matching narrow fs) (matching narrow fs))
        ≡ above t (cond a (matching eq fs) (cond b (x ∷ matching eq fs) (matching eq fs)))
    go true p b q c r ih = ih
    go false p b q c r ih = rw (h x (Memᴰ.head refl) (eqb-false x.time 0 p), q, r) (on b c r)
      where
        on : (b c : Bool) → ltb t x.time ≡ c
            → cond (b && c) (x ∷ matching narrow fs) (matching narrow fs) ≡ above t (cond b (x ∷ matching eq fs) (matching eq fs))
        on true true r = rw r (ap (λ (l : List File). x ∷ l) ih)
        on true false r = rw r ih
        on false c r = ih
