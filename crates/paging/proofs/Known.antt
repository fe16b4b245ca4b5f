-- What holds after every history from an empty store: no two complete files have the same upload time, upload times are 32-bit numbers, and the header of
-- each complete file has its upload time and items that are not refused. And what a call may do to complete files: leave them, or complete one with a
-- time above all. Assumes nothing.
use mathlib.Core.Path.{◌≡◌, refl, sym, ap, ◌∙◌, subst}
use mathlib.Core.Bool.{Bool, true, false, cond}
use mathlib.Core.List.{List, [], ◌∷◌, ◌++◌}
use mathlib.Core.Logic.{◌⊎◌, inl, inr}
use mathlib.Core.Option.{none, some}
use Prim.Native.Nat.{ℕ, ◌+◌, ◌-◌, ◌≤◌, ◌<◌}
use native.Mathlib.Omega.{arith}
use lib.Dec.{eqb}
use borrow.Author.Tests.{eq-eqb}
use Rattle.numbers.specs.Numbers.{four}
use Rattle.header.specs.Items.{fields_of}
use Rattle.header.specs.Header.{check_items}
use Rattle.header.proofs.Set.{verdict_parts}
use Rattle.header.proofs.SetAny.{any_check}
use Rattle.equation.specs.Holds.{bytes_of}
use Rattle.calls.specs.Call.{Call, History, start, ◌▸◌}
use Rattle.model.specs.State.{File, file, receiving, Model, empty, session_at}
use Rattle.model.specs.Files.{find, changed, without}
use Rattle.model.specs.Uplink.{grown, completed}
use Rattle.model.specs.Step.{step, run}
use Rattle.model.proofs.Order.{find_in}
use Rattle.steps.specs.Parts.{session_in}
use Rattle.steps.specs.Change.{Leaves, Change, same, begins, grows, completes, drops}
use Rattle.steps.specs.Sound.{Sound}
use Rattle.steps.specs.Naming.{Partial, UpOk, Named}
use Rattle.steps.proofs.Changes.{one_change, sound_step}
use Rattle.steps.proofs.Found.{numbers_in}
use Rattle.steps.proofs.Naming.{by_eq, find_changed, find_without, not_both, named_step}
use Rattle.steps.proofs.Own.{find_away, own_file}
use Rattle.steps.proofs.Start.{sound_empty, named_empty}
use Rattle.paging.specs.Paging.{Clocked, Clocks}
use Rattle.paging.proofs.Stamp.{stamped}
use Rattle.paging.proofs.Clock.{step_small}

clash : {P : Type 0} {f : File} → none ≡ some f → P
clash e = let z : ◌≡◌ {A = ℕ} 0 1 = cc in absurd (omega arith)

-- ---- files that were found afterwards

-- a file comes behind
find_back : (n : ℕ) (fs : List File) (g f : File) → find n (fs ++ g ∷ []) ≡ some f → (find n fs ≡ some f) ⊎ (g ≡ f)
unfolding find
find_back n [] g f e = go (eqb g.number n) e
  where
    go : (b : Bool) → cond b (some g) none ≡ some f → (none ≡ some f) ⊎ (g ≡ f)
    go true e = inr cc
    go false e = clash e
find_back n (x ∷ fs) g f e = go (eqb x.number n) e (find_back n fs g f)
  where
    go : (b : Bool) → cond b (some x) (find n (fs ++ g ∷ [])) ≡ some f → (find n (fs ++ g ∷ []) ≡ some f → (find n fs ≡ some f) ⊎ (g ≡ f))
        → (cond b (some x) (find n fs) ≡ some f) ⊎ (g ≡ f)
    go true e h = inl e
    go false e h = h e

find_gone : (n : ℕ) (fs : List File) → find n (without n fs) ≡ none
unfolding find without
find_gone n [] = refl
find_gone n (x ∷ fs) = go (eqb x.number n) refl (find_gone n fs)
  where
    go : (b : Bool) → eqb x.number n ≡ b → find n (without n fs) ≡ none → find n (cond b (without n fs) (x ∷ without n fs)) ≡ none
    go true d e = e
    go false d e = rw d e

-- its header has one upload_time, with its time
abbrev pub Stamped : File → Type 0
Stamped f = bytes_of 18 (fields_of f.bytes) ≡ four f.time ∷ []

-- a file that one call completed
pub record New (m : Model) (i : ℕ) (n : ℕ) (f : File) : Type 0 where
  pub own : (session_at m i).up ≡ receiving n
  pub above : m.last_time < f.time
  pub stamp : Stamped f
  pub check : check_items f.bytes ≡ 0

module _ (m : Model) (i : ℕ) (m' : Model) (named : Named m) where
  partial : (n : ℕ) → (session_at m i).up ≡ receiving n → Partial n m.files
  partial n o = subst (UpOk m.files) o (named.up i)

  -- the file of number k is changed
  module _ (k : ℕ) (h : File → File) (u : (g : File) → (h g).number ≡ g.number) (o : (session_at m i).up ≡ receiving k) (n : ℕ) (f : File)
      (e : find n (changed k h m.files) ≡ some f) where
    by_number : ((n ≡ k) → f ≡ h (partial k o).file → (find n m.files ≡ some f) ⊎ New m i n f) → (find n m.files ≡ some f) ⊎ New m i n f
    by_number g =
        by_eq n k
        (λ z. g z
        (let a = find_changed n k h m.files (partial k o).file u (ap (λ (q : ℕ). find q m.files) z ∙ (partial k o).found) in
        let b : some f ≡ some (h (partial k o).file) =
        sym e ∙ a ∙ ap (λ (t : Bool). some (cond t (h (partial k o).file) (partial k o).file)) (eq-eqb n k z) in
        cc))
        (λ z. inl (sym (find_away n k h m.files u z) ∙ e))

  -- THEOREM: a complete file was there before, or is new
  pub complete_new : Change m i m' → (n : ℕ) (f : File) → find n m'.files ≡ some f → (f.time ≡ 0 → ⊥)
      → (find n m.files ≡ some f) ⊎ New m i n f
  complete_new (same k) n f e c = inl (ap (λ (x : Model). find n x.files) (sym k.leaves.after) ∙ e)
  complete_new (begins k) n f e c =
      go (find_back n m.files (file (m.last_number + 1) k.size [] 0) f (ap (λ (x : Model). find n x.files) (sym k.leaves.after) ∙ e))
    where
      go : (find n m.files ≡ some f) ⊎ (file (m.last_number + 1) k.size [] 0 ≡ f) → (find n m.files ≡ some f) ⊎ New m i n f
      go (inl q) = inl q
      go (inr q) = absurd (c (ap (λ (x : File). x.time) (sym q)))
  complete_new (grows k) n f e c =
      by_number k.n (grown k.bytes) (λ g. refl) k.own n f (ap (λ (x : Model). find n x.files) (sym k.leaves.after) ∙ e)
      (λ z q. absurd (c (ap (λ (x : File). x.time) q ∙ (partial k.n k.own).time)))
  complete_new (completes k) n f e c =
      by_number k.n (completed k.t) (λ g. refl) k.own n f (ap (λ (x : Model). find n x.files) (sym k.leaves.after) ∙ e)
      (λ z q.
      let a : some (partial k.n k.own).file ≡ some k.file = sym (partial k.n k.own).found ∙ k.found in
      let b : (partial k.n k.own).file ≡ k.file = cc in
      inr (subst (New m i n) (ap (completed k.t) (sym b) ∙ sym q)
      (record {
        own = k.own ∙ ap receiving (sym z);
        above = k.newer;
        stamp = stamped k.file.number k.t k.file.bytes (verdict_parts k.file.bytes k.file.size k.valid).1;
        check = any_check k.file.number k.t k.file.bytes (verdict_parts k.file.bytes k.file.size k.valid).1;
      })))
  complete_new (drops k) n f e c =
      let w = ap (λ (x : Model). find n x.files) (sym k.leaves.after) ∙ e in
      by_eq n k.n (λ z. clash (sym (ap (λ (q : ℕ). find q (without k.n m.files)) z ∙ find_gone k.n m.files) ∙ w))
      (λ z. inl (sym (find_without n k.n m.files z) ∙ w))

-- the last number and time do not fall, and MAXSEL stays
pub record Grown (m m' : Model) : Type 0 where
  pub number : m.last_number ≤ m'.last_number
  pub time : m.last_time ≤ m'.last_time
  pub maxsel : m'.maxsel ≡ m.maxsel

grown_by : (m : Model) (i : ℕ) (m' : Model) (number time : ℕ) (files : List File) → Leaves m i m' number time files → m.last_number ≤ number
    → m.last_time ≤ time → Grown m m'
grown_by m i m' number time files l a b = subst (Grown m) (sym l.after) (record { number = a; time = b; maxsel = refl })

change_grown : (m : Model) (i : ℕ) (m' : Model) → Change m i m' → Grown m m'
change_grown m i m' (same k) = grown_by m i m' _ _ _ k.leaves (omega arith) (omega arith)
change_grown m i m' (begins k) = grown_by m i m' _ _ _ k.leaves (omega arith) (omega arith)
change_grown m i m' (grows k) = grown_by m i m' _ _ _ k.leaves (omega arith) (omega arith)
change_grown m i m' (completes k) = grown_by m i m' _ _ _ k.leaves (omega arith) (omega (arith, k.newer))
change_grown m i m' (drops k) = grown_by m i m' _ _ _ k.leaves (omega arith) (omega arith)

pub step_grown : (m : Model) (c : Call) → Grown m (step m c).after
step_grown m c = change_grown m (session_in c - 1) (step m c).after (one_change m c)

-- ---- what holds

pub record Known (m : Model) : Type 0 where
  pub sound : Sound m
  pub named : Named m
  pub small : m.last_time < 4294967296
  pub apart : (n k : ℕ) (f g : File) → find n m.files ≡ some f → find k m.files ≡ some g → (f.time ≡ 0 → ⊥) → f.time ≡ g.time → n ≡ k
  pub stamped : (n : ℕ) (f : File) → find n m.files ≡ some f → (f.time ≡ 0 → ⊥) → Stamped f
  pub checked : (n : ℕ) (f : File) → find n m.files ≡ some f → (f.time ≡ 0 → ⊥) → check_items f.bytes ≡ 0

-- no number and no time is above the last one given
pub found_low : (m : Model) → Sound m → (n : ℕ) (f : File) → find n m.files ≡ some f → (n ≤ m.last_number) × (f.time ≤ m.last_time)
found_low m s n f e =
    let a = find_in n m.files f e in
    let w = numbers_in 0 m.last_number m.last_time m.files f s.numbers a.inside in
    (omega (arith, w.to, a.number), w.time)

module _ (m : Model) (k : Known m) (c : Call) where
  abbrev i : ℕ
  i = session_in c - 1

  abbrev m' : Model
  m' = (step m c).after

  pub new_file_law : (n : ℕ) (f : File) → find n m'.files ≡ some f → (f.time ≡ 0 → ⊥) → (find n m.files ≡ some f) ⊎ New m i n f
  new_file_law = complete_new m i m' k.named (one_change m c)

  -- THEOREM: a complete file stays as it is
  pub complete_kept : (n : ℕ) (f : File) → find n m.files ≡ some f → (f.time ≡ 0 → ⊥) → find n m'.files ≡ some f
  complete_kept n f e z =
      own_file m c n (λ o. not_both n m.files (partial m i m' k.named n o) (record { file = f; found = e; time = z }))
      (found_low m k.sound n f e).0
      ∙ e

  pub step_known : Clocked c → Known (step m c).after
  step_known h =
      record {
        sound = sound_step m c k.sound;
        named = named_step m k.named k.sound c;
        small = step_small m c k.small h;
        apart = λ a b f g p q z e. apart_by a b f g z e (new_file_law a f p z) (new_file_law b g q (λ y. z (e ∙ y)));
        stamped = λ n f p z. stamped_by n f z (new_file_law n f p z);
        checked = λ n f p z. checked_by n f z (new_file_law n f p z);
      }
    where
      stamped_by : (n : ℕ) (f : File) → (f.time ≡ 0 → ⊥) → (find n m.files ≡ some f) ⊎ New m i n f → Stamped f
      stamped_by n f z (inl e) = k.stamped n f e z
      stamped_by n f z (inr w) = w.stamp

      checked_by : (n : ℕ) (f : File) → (f.time ≡ 0 → ⊥) → (find n m.files ≡ some f) ⊎ New m i n f → check_items f.bytes ≡ 0
      checked_by n f z (inl e) = k.checked n f e z
      checked_by n f z (inr w) = w.check

      apart_by : (a b : ℕ) (f g : File) → (f.time ≡ 0 → ⊥) → f.time ≡ g.time → (find a m.files ≡ some f) ⊎ New m i a f
          → (find b m.files ≡ some g) ⊎ New m i b g → a ≡ b
      apart_by a b f g z e (inl p) (inl q) = k.apart a b f g p q z e
      apart_by a b f g z e (inl p) (inr q) = absurd (omega (arith, (found_low m k.sound a f p).1, q.above))
      apart_by a b f g z e (inr p) (inl q) = absurd (omega (arith, (found_low m k.sound b g q).1, p.above))
      apart_by a b f g z e (inr p) (inr q) = let w : receiving a ≡ receiving b = sym p.own ∙ q.own in cc

-- ---- after calls

module _ (blocks places sessions maxsel : ℕ) where
  abbrev m₀ : Model
  m₀ = empty blocks places sessions maxsel

  -- THEOREM
  pub known : (h : History) → Clocks h → Known (run m₀ h)
  unfolding run find
  known start c =
      record {
        sound = sound_empty blocks places sessions maxsel;
        named = named_empty blocks places sessions maxsel;
        small = omega arith;
        apart = λ n k f g p q z e. clash p;
        stamped = λ n f p z. clash p;
        checked = λ n f p z. clash p;
      }
  known (h ▸ c) k = step_known (run m₀ h) (known h k.0) c k.1

  pub run_maxsel : (h : History) → (run m₀ h).maxsel ≡ maxsel
  unfolding run
  run_maxsel start = refl
  run_maxsel (h ▸ c) = (step_grown (run m₀ h) c).maxsel ∙ run_maxsel h
