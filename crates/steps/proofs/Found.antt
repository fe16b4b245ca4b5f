-- Files found by number: in a sound state each file is found by its own, and a selection is of complete files. Assumes nothing.
use mathlib.Core.Path.{◌≡◌, refl, sym, ap, ap₂, subst}
use mathlib.Core.Bool.{Bool}
use mathlib.Core.List.Memᴰ
use mathlib.Core.List.{List, [], ◌∷◌, map}
use mathlib.Core.Option.{some}
use Prim.Native.Nat.{ℕ, zero, suc, ◌≤◌, ◌<◌}
use native.Mathlib.Omega.{arith}
use borrow.Author.Tests.{eq-eqb, ne_eqb}
use lib.ListN.{take, drop}
use Rattle.header.specs.Entries.{running_on}
use Rattle.model.specs.State.{File}
use Rattle.model.specs.Files.{find, matching, by_time, selection}
use Rattle.model.specs.Downlink.{entry_in, directory_of}
use Rattle.model.proofs.Order.{In, by_time_in, matching_in}
use Rattle.steps.specs.Sound.{Numbers}
use Rattle.steps.specs.Naming.{Complete, AllComplete}

pub record Within (a b t : ℕ) (f : File) : Type 0 where
  pub from : a < f.number
  pub to : f.number ≤ b
  pub time : f.time ≤ t

pub numbers_in : (a b t : ℕ) (fs : List File) (f : File) → Numbers a b t fs → In f fs → Within a b t f
numbers_in a b t [] f n x'' = elim x'' [ ]
numbers_in a b t (x ∷ fs) f n (Memᴰ.head e) = subst (Within a b t) (sym e) (record { from = n.0; to = n.1; time = n.2 })
numbers_in a b t (x ∷ fs) f n (Memᴰ.tail m) =
    let w = numbers_in x.number b t fs f n.3 m in record { from = omega (arith, n.0, w.from); to = w.to; time = w.time }

pub in_find : (a b t : ℕ) (fs : List File) (f : File) → Numbers a b t fs → In f fs → find f.number fs ≡ some f
unfolding find
in_find a b t [] f n x'' = elim x'' [ ]
in_find a b t (x ∷ fs) f n (Memᴰ.head e) = rw (eq-eqb x.number f.number (ap (λ (y : File). y.number) (sym e))) (ap some (sym e))
in_find a b t (x ∷ fs) f n (Memᴰ.tail m) =
    rw (ne_eqb x.number f.number (λ z. let w = (numbers_in x.number b t fs f n.3 m).from in omega arith)) (in_find x.number b t fs f n.3 m)

-- ---- numbers of complete files

-- in other files
pub all_stay : (fs gs : List File) → ((n : ℕ) → Complete n fs → Complete n gs) → (ns : List ℕ) → AllComplete fs ns → AllComplete gs ns
all_stay fs gs h [] a = tt
all_stay fs gs h (n ∷ ns) a = (h n a.0, all_stay fs gs h ns a.1)

-- a part of them
pub all_take : (k : ℕ) (fs : List File) (ns : List ℕ) → AllComplete fs ns → AllComplete fs (take k ns)
all_take zero fs ns a = tt
all_take (suc k) fs [] a = tt
all_take (suc k) fs (n ∷ ns) a = (a.0, all_take k fs ns a.1)

pub all_drop : (k : ℕ) (fs : List File) (ns : List ℕ) → AllComplete fs ns → AllComplete fs (drop k ns)
all_drop zero fs ns a = a
all_drop (suc k) fs [] a = tt
all_drop (suc k) fs (n ∷ ns) a = all_drop k fs ns a.1

-- their directory, in other files that have them too
pub directory_same : (long : Bool) (fs gs : List File) → ((n : ℕ) → Complete n fs → find n gs ≡ find n fs) → (ns : List ℕ) → AllComplete fs ns
    → directory_of long ns gs ≡ directory_of long ns fs
directory_same long fs gs h ns a = ap running_on (go ns a)
  where
    go : (ns : List ℕ) → AllComplete fs ns → map (λ n. entry_in long (find n gs)) ns ≡ map (λ n. entry_in long (find n fs)) ns
    go [] a = refl
    go (n ∷ ns) a = ap₂ (λ (x : List ℕ) (xs : List (List ℕ)). x ∷ xs) (ap (entry_in long) (h n a.0)) (go ns a.1)

-- those of files that are
numbers_of : (fs gs : List File) → ((f : File) → In f gs → Complete f.number fs) → AllComplete fs (map (λ f. f.number) gs)
numbers_of fs [] h = tt
numbers_of fs (g ∷ gs) h = (h g (Memᴰ.head refl), numbers_of fs gs (λ f m. h f (Memᴰ.tail m)))

take_in : (k : ℕ) (gs : List File) (f : File) → In f (take k gs) → In f gs
take_in zero gs f x' = elim x' [ ]
take_in (suc k) [] f x3 = elim x3 [ ]
take_in (suc k) (g ∷ gs) f (Memᴰ.head e) = Memᴰ.head e
take_in (suc k) (g ∷ gs) f (Memᴰ.tail m) = Memᴰ.tail (take_in k gs f m)

-- THEOREM: a selection is of complete files
pub selection_complete : (a b t maxsel : ℕ) (equation : List ℕ) (fs : List File) → Numbers a b t fs → AllComplete fs (selection maxsel equation fs)
selection_complete a b t maxsel equation fs k =
    numbers_of fs (take maxsel (by_time (matching equation fs)))
    (λ f m.
    let c = matching_in equation fs f (by_time_in (matching equation fs) f (take_in maxsel (by_time (matching equation fs)) f m)) in
    record { file = f; found = in_find a b t fs f k c.0; time = c.1.complete })
