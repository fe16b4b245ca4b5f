-- How one event moves what the packets say of the files, and the files with it. Assumes nothing.
use mathlib.Core.Path.{◌≡◌, refl, sym, ap, ap₂, ◌∙◌, subst}
use mathlib.Core.Bool.{Bool, true, false, cond}
use mathlib.Core.Logic.{◌⊎◌, ⊎_elim}
use mathlib.Core.List.{List, [], ◌∷◌, ◌++◌, append-nil}
use mathlib.Core.Option.{Option, none, some}
use Prim.Native.Nat.{ℕ, suc, ◌+◌, ◌≤◌, ◌<◌}
use native.Mathlib.Omega.{arith}
use borrow.Author.Tests.{eqb-true, eq-eqb, ne_eqb, ltb-false}
use lib.Dec.{eqb}
use lib.ListN.{length, length-append}
use Rattle.header.specs.Header.{verdict}
use Rattle.header.specs.Fields.{fields_set}
use Rattle.header.proofs.Set.{verdict_parts}
use Rattle.table.specs.Given.{most_given}
use Rattle.model.specs.State.{File, file, Model}
use Rattle.model.specs.Files.{find, changed, without}
use Rattle.model.specs.Uplink.{grown, time_at, completed}
use Rattle.steps.specs.Sound.{Sound}
use Rattle.steps.specs.Naming.{Partial}
use Rattle.steps.proofs.Naming.{clash, by_eq, find_past, find_new, find_without}
use Rattle.steps.proofs.Changes.{later}
use Rattle.steps.proofs.Own.{find_away, find_behind}
use Rattle.accepted.specs.Events.{Event, nothing, given, added, finished, dropped}
use Rattle.accepted.specs.Accepted.{added_by, announced_by, given_by, from_one, Completion, completion, last_time, completed_by, times}
use Rattle.accepted.specs.Effect.{files_by, number_by, time_by, Adds, Finishes, Effect}
use Rattle.accepted.specs.Agreement.{Rising, size_of, Holds, Listed, Stands}
use Rattle.accepted.proofs.Files.{number_some, find_own, find_gone}
use Rattle.accepted.proofs.Lists.{Bounded, rising_snoc, bounded_snoc, times_snoc, last_snoc, listed_old, listed_new, listed_split}

-- ---- the file of a number

abbrev mapped : (File → File) → Option File → Option File
mapped h none = none
mapped h (some f) = some (h f)

-- what is found under a number after an event, `was` being what was found before
abbrev found_by : Event → ℕ → ℕ → Option File → Option File
found_by nothing last n was = was
found_by (given k size) last n was = cond (eqb k n) (some (file k size [] 0)) was
found_by (added k bytes) last n was = cond (eqb k n) (mapped (grown bytes) was) was
found_by (finished k clock) last n was = cond (eqb k n) (mapped (completed (time_at clock last)) was) was
found_by (dropped k) last n was = cond (eqb k n) none was

by_number : (k n : ℕ) (x a b : Option File) → (k ≡ n → x ≡ a) → ((k ≡ n → ⊥) → x ≡ b) → x ≡ cond (eqb k n) a b
by_number k n x a b f g =
    by_eq k n (λ z. f z ∙ sym (ap (λ (t : Bool). cond t a b) (eq-eqb k n z))) (λ z. g z ∙ sym (ap (λ (t : Bool). cond t a b) (ne_eqb k n z)))

find_mapped : (k n : ℕ) (h : File → File) (fs : List File) → ((g : File) → (h g).number ≡ g.number) → Partial k fs
    → find n (changed k h fs) ≡ cond (eqb k n) (mapped h (find n fs)) (find n fs)
find_mapped k n h fs u own =
    by_number k n _ _ _
    (λ z.
    ap (λ (j : ℕ). find j (changed k h fs)) (sym z) ∙ find_own k h fs own.file u own.found
    ∙ sym (ap (mapped h) (ap (λ (j : ℕ). find j fs) (sym z) ∙ own.found)))
    (λ z. find_away n k h fs u (λ w. z (sym w)))

-- the times so far: the last of them is the last one given, and they rise to it
pub record Timed (cs : List Completion) (t : ℕ) : Type 0 where
  pub last_is : last_time cs ≡ t
  pub rising : Rising (0 ∷ times cs)
  pub bounded : Bounded t (0 ∷ times cs)

-- each complete file has its completion, and the other way round
abbrev pub Own : List File → List Completion → Type 0
Own fs cs = (n : ℕ) (f : File) → find n fs ≡ some f → (f.time ≡ 0 → ⊥) → Listed (completion n f.time) cs

abbrev pub Kept : List File → List Completion → Type 0
Kept fs cs = (c : Completion) → Listed c cs → Stands fs c

module _ (m m' : Model) (sound : Sound m) where
  abbrev fs : List File
  fs = m.files

  past : (n : ℕ) → m.last_number < n → find n fs ≡ none
  past n h = find_past n 0 m.last_number m.last_time fs sound.numbers h

  -- a file that is there has a number given
  given_number_law : (n : ℕ) (f : File) → find n fs ≡ some f → n ≤ m.last_number
  given_number_law n f e = (number_some n 0 m.last_number m.last_time fs f sound.numbers e).most

  find_after : (e : Event) → Effect e m m' → (n : ℕ) → find n m'.files ≡ found_by e m.last_time n (find n fs)
  unfolding files_by
  find_after nothing x n = ap (find n) x.files
  find_after (given k size) x n =
      ap (find n) x.files
      ∙ by_number k n _ _ _
      (λ z. ap (λ (j : ℕ). find j (fs ++ file k size [] 0 ∷ [])) (sym z) ∙ find_new fs (file k size [] 0) (past k (omega (arith, x.before.next))))
      (λ z. find_behind n fs (file k size [] 0) z)
  find_after (added k bytes) x n = ap (find n) x.files ∙ find_mapped k n (grown bytes) fs (λ g. refl) x.before.own
  find_after (finished k clock) x n = ap (find n) x.files ∙ find_mapped k n (completed (time_at clock m.last_time)) fs (λ g. refl) x.before.own
  find_after (dropped k) x n =
      ap (find n) x.files
      ∙ by_number k n _ _ _ (λ z. ap (λ (j : ℕ). find j (without k fs)) (sym z) ∙ find_gone k fs) (λ z. find_without n k fs (λ w. z (sym w)))

  -- ---- what is found after an event is its own file, or one of before

  data Now (k n : ℕ) (g f : File) : Type 0 where
    its_own : k ≡ n → g ≡ f → Now k n g f
    old : eqb k n ≡ false → find n fs ≡ some f → Now k n g f

  now_some : (k n : ℕ) (g f : File) → cond (eqb k n) (some g) (find n fs) ≡ some f → Now k n g f
  now_some k n g f d = go (eqb k n) refl d
    where
      go : (b : Bool) → eqb k n ≡ b → cond b (some g) (find n fs) ≡ some f → Now k n g f
      go true t d = its_own (eqb-true k n t) cc
      go false t d = old t d

  now_mapped : (k n : ℕ) (h : File → File) (own : Partial k fs) (f : File) → cond (eqb k n) (mapped h (find n fs)) (find n fs) ≡ some f
      → Now k n (h own.file) f
  now_mapped k n h own f d =
      now_some k n (h own.file) f
      (sym (by_number k n _ _ _
      (λ z. ap (λ (b : Bool). cond b (mapped h (find n fs)) (find n fs)) (eq-eqb k n z) ∙ ap (mapped h) (ap (λ (j : ℕ). find j fs) (sym z) ∙ own.found))
      (λ z. ap (λ (b : Bool). cond b (mapped h (find n fs)) (find n fs)) (ne_eqb k n z))) ∙ d)

  now_gone : (k n : ℕ) (f : File) → cond (eqb k n) none (find n fs) ≡ some f → find n fs ≡ some f
  now_gone k n f d = go (eqb k n) d
    where
      go : (b : Bool) → cond b none (find n fs) ≡ some f → find n fs ≡ some f
      go true d = clash d
      go false d = d

  -- ---- which files there are

  pub standing_step : (sizes : ℕ → Option ℕ) → ((n : ℕ) → size_of (find n fs) ≡ sizes n) → (e : Event) → Effect e m m'
      → (n : ℕ) → size_of (find n m'.files) ≡ announced_by e n (sizes n)
  unfolding announced_by
  standing_step sizes y e x n = ap size_of (find_after e x n) ∙ go e x
    where
      pick : (b : Bool) (a c : Option File) (r : Option ℕ) → size_of a ≡ r → size_of c ≡ sizes n → size_of (cond b a c) ≡ cond b r (sizes n)
      pick true a c r p q = p
      pick false a c r p q = q

      keeps : (b : Bool) (h : File → File) → ((f : File) → (h f).size ≡ f.size) → (o : Option File) → size_of (cond b (mapped h o) o) ≡ size_of o
      keeps true h u none = refl
      keeps true h u (some f) = ap some (u f)
      keeps false h u o = refl

      go : (e : Event) → Effect e m m' → size_of (found_by e m.last_time n (find n fs)) ≡ announced_by e n (sizes n)
      go nothing x = y n
      go (given k size) x = pick (eqb k n) _ _ (some size) refl (y n)
      go (added k bytes) x = keeps (eqb k n) (grown bytes) (λ f. refl) (find n fs) ∙ y n
      go (finished k clock) x = keeps (eqb k n) (completed (time_at clock m.last_time)) (λ f. refl) (find n fs) ∙ y n
      go (dropped k) x = pick (eqb k n) _ _ none refl (y n)

  -- ---- the numbers given

  pub number_rises : (e : Event) → Effect e m m' → m.last_number ≤ m'.last_number
  unfolding number_by
  number_rises nothing x = omega (arith, x.number)
  number_rises (given n size) x = omega (arith, x.number, x.before.next)
  number_rises (added n bytes) x = omega (arith, x.number)
  number_rises (finished n clock) x = omega (arith, x.number)
  number_rises (dropped n) x = omega (arith, x.number)

  pub bound_step : m.last_number ≤ most_given → (e : Event) → Effect e m m' → m'.last_number ≤ most_given
  unfolding number_by
  bound_step h nothing x = omega (arith, x.number)
  bound_step h (given n size) x = omega (arith, x.number, x.before.few)
  bound_step h (added n bytes) x = omega (arith, x.number)
  bound_step h (finished n clock) x = omega (arith, x.number)
  bound_step h (dropped n) x = omega (arith, x.number)

  same_numbers : (xs : List ℕ) → xs ≡ from_one m.last_number → m'.last_number ≡ m.last_number → xs ++ [] ≡ from_one m'.last_number
  same_numbers xs q e = append-nil xs ∙ q ∙ ap from_one (sym e)

  one_more : (xs : List ℕ) (n : ℕ) → xs ≡ from_one m.last_number → n ≡ m.last_number + 1 → m'.last_number ≡ n → xs ++ n ∷ [] ≡ from_one m'.last_number
  unfolding from_one
  one_more xs n q e d =
      let k : n ≡ suc m.last_number = omega arith in
      let j : m'.last_number ≡ suc m.last_number = omega arith in
      rw (q, k, j)

  pub numbers_step : (xs : List ℕ) → xs ≡ from_one m.last_number → (e : Event) → Effect e m m' → xs ++ given_by e ≡ from_one m'.last_number
  unfolding given_by number_by
  numbers_step xs q nothing x = same_numbers xs q x.number
  numbers_step xs q (given n size) x = one_more xs n q x.before.next x.number
  numbers_step xs q (added n bytes) x = same_numbers xs q x.number
  numbers_step xs q (finished n clock) x = same_numbers xs q x.number
  numbers_step xs q (dropped n) x = same_numbers xs q x.number

  -- ---- the bytes accepted

  module _ (acc : ℕ → List ℕ) (fresh : (n : ℕ) → m.last_number < n → acc n ≡ []) where
    pub fresh_step : (e : Event) → Effect e m m' → (n : ℕ) → m'.last_number < n → acc n ++ added_by e n ≡ []
    unfolding added_by
    fresh_step nothing x n h = append-nil (acc n) ∙ fresh n (omega (arith, number_rises nothing x))
    fresh_step (given k size) x n h = append-nil (acc n) ∙ fresh n (omega (arith, number_rises (given k size) x))
    fresh_step (added k bytes) x n h =
        let r = number_rises (added k bytes) x in
        rw (ne_eqb k n (λ z. omega (arith, given_number_law k x.before.own.file x.before.own.found))) (append-nil (acc n) ∙ fresh n (omega arith))
    fresh_step (finished k clock) x n h = append-nil (acc n) ∙ fresh n (omega (arith, number_rises (finished k clock) x))
    fresh_step (dropped k) x n h = append-nil (acc n) ∙ fresh n (omega (arith, number_rises (dropped k) x))

    module _ (c : (n : ℕ) (f : File) → find n fs ≡ some f → Holds f (acc n)) where
      same : (n : ℕ) (f : File) → Holds f (acc n) → Holds f (acc n ++ [])
      same n f = subst (Holds f) (sym (append-nil (acc n)))

      begun : (k n size : ℕ) → k ≡ n → m.last_number < k → Holds (file k size [] 0) (acc n ++ [])
      begun k n size z h =
          let e : acc n ++ [] ≡ [] = append-nil (acc n) ∙ fresh n (omega arith) in
          record {
            partial = λ y. sym e;
            complete = λ y. absurd (y refl);
            checked = λ y. absurd (y refl);
            within = omega (arith, ap length e);
            whole = λ y. absurd (y refl);
          }

      longer : (n : ℕ) (bytes : List ℕ) (f : File) → Holds f (acc n) → f.time ≡ 0 → length f.bytes + length bytes ≤ f.size
          → Holds (grown bytes f) (acc n ++ bytes)
      longer n bytes f y t r =
          record {
            partial = λ z. ap (λ (b : List ℕ). b ++ bytes) (y.partial t);
            complete = λ z. absurd (z t);
            checked = λ z. absurd (z t);
            within = omega (arith, length-append (acc n) bytes, ap length (y.partial t));
            whole = λ z. absurd (z t);
          }

      finish : (n clock : ℕ) (f : File) → Holds f (acc n) → f.time ≡ 0 → verdict f.bytes f.size ≡ 0
          → Holds (completed (time_at clock m.last_time) f) (acc n)
      finish n clock f y t v =
          let e : f.bytes ≡ acc n = y.partial t in
          let l = later clock m.last_time in
          let size : f.size ≡ length f.bytes =
          omega (arith, ltb-false (length f.bytes) f.size (verdict_parts f.bytes f.size v).0, y.within, ap length e) in
          record {
            partial = λ z. absurd (omega (arith, l, z));
            complete = λ z. ap (fields_set f.number (time_at clock m.last_time)) e;
            checked = λ z. subst (λ (b : List ℕ). verdict b (length b) ≡ 0) e (ap (verdict f.bytes) (sym size) ∙ v);
            within = y.within;
            whole = λ z. omega (arith, size, ap length e);
          }

      pub contents_step : (e : Event) → Effect e m m' → (n : ℕ) (f : File) → find n m'.files ≡ some f → Holds f (acc n ++ added_by e n)
      unfolding added_by
      contents_step e x n f found = go e x (sym (find_after e x n) ∙ found)
        where
          holds : (k : ℕ) (own : Partial k fs) → k ≡ n → Holds own.file (acc n)
          holds k own z = c n own.file (ap (λ (j : ℕ). find j fs) (sym z) ∙ own.found)

          news : (k size : ℕ) → m.last_number < k → Now k n (file k size [] 0) f → Holds f (acc n ++ [])
          news k size h (its_own z w) = subst (λ (g : File). Holds g (acc n ++ [])) w (begun k n size z h)
          news k size h (old t d) = same n f (c n f d)

          adds : (k : ℕ) (bytes : List ℕ) (a : Adds k bytes m) → Now k n (grown bytes a.own.file) f → Holds f (acc n ++ cond (eqb k n) bytes [])
          adds k bytes a (its_own z w) =
              rw (eq-eqb k n z) (subst (λ (g : File). Holds g (acc n ++ bytes)) w (longer n bytes a.own.file (holds k a.own z) a.own.time a.room))
          adds k bytes a (old t d) = rw t (same n f (c n f d))

          ends : (k clock : ℕ) (a : Finishes k m) → Now k n (completed (time_at clock m.last_time) a.own.file) f → Holds f (acc n ++ [])
          ends k clock a (its_own z w) =
              same n f (subst (λ (g : File). Holds g (acc n)) w (finish n clock a.own.file (holds k a.own z) a.own.time a.valid))
          ends k clock a (old t d) = same n f (c n f d)

          go : (e : Event) → Effect e m m' → found_by e m.last_time n (find n fs) ≡ some f → Holds f (acc n ++ added_by e n)
          go nothing x d = same n f (c n f d)
          go (given k size) x d = news k size (omega (arith, x.before.next)) (now_some k n (file k size [] 0) f d)
          go (added k bytes) x d = adds k bytes x.before (now_mapped k n (grown bytes) x.before.own f d)
          go (finished k clock) x d = ends k clock x.before (now_mapped k n (completed (time_at clock m.last_time)) x.before.own f d)
          go (dropped k) x d = same n f (c n f (now_gone k n f d))

  -- ---- the files completed

  -- a complete file stays
  pub complete_stays : (e : Event) → Effect e m m' → (n : ℕ) (f : File) → find n fs ≡ some f → (f.time ≡ 0 → ⊥) → find n m'.files ≡ some f
  complete_stays e x n f found late = find_after e x n ∙ go e x
    where
      -- the event's own file is partial
      other : (k : ℕ) → Partial k fs → k ≡ n → ⊥
      other k own z =
          let w : some own.file ≡ some f = sym (ap (λ (j : ℕ). find j fs) (sym z) ∙ own.found) ∙ found in
          let d : own.file ≡ f = cc in
          late (ap (λ (g : File). g.time) (sym d) ∙ own.time)

      away : (k : ℕ) (o : Option File) → (k ≡ n → ⊥) → cond (eqb k n) o (find n fs) ≡ some f
      away k o z = ap (λ (b : Bool). cond b o (find n fs)) (ne_eqb k n z) ∙ found

      go : (e : Event) → Effect e m m' → found_by e m.last_time n (find n fs) ≡ some f
      go nothing x = found
      go (given k size) x = away k _ (λ z. omega (arith, given_number_law n f found, x.before.next))
      go (added k bytes) x = away k _ (other k x.before.own)
      go (finished k clock) x = away k _ (other k x.before.own)
      go (dropped k) x = away k _ (other k x.before)

  module _ (cs : List Completion) (last : last_time cs ≡ m.last_time) where
    pub own_step : Own fs cs → (e : Event) → Effect e m m' → Own m'.files (cs ++ completed_by e (last_time cs))
    unfolding completed_by
    own_step own e x n f found late = go e x (sym (find_after e x n) ∙ found)
      where
        listed : find n fs ≡ some f → Listed (completion n f.time) (cs ++ [])
        listed d = subst (Listed (completion n f.time)) (sym (append-nil cs)) (own n f d late)

        partial : (k : ℕ) (g : File) → g.time ≡ 0 → Now k n g f → Listed (completion n f.time) (cs ++ [])
        partial k g t (its_own z w) = absurd (late (ap (λ (h : File). h.time) (sym w) ∙ t))
        partial k g t (old q d) = listed d

        finishes : (k clock : ℕ) (p : Partial k fs) → Now k n (completed (time_at clock m.last_time) p.file) f
            → Listed (completion n f.time) (cs ++ completion k (time_at clock (last_time cs)) ∷ [])
        finishes k clock p (its_own z w) =
            let a : time_at clock (last_time cs) ≡ f.time = ap (time_at clock) last ∙ ap (λ (g : File). g.time) w in
            subst (λ (c : Completion). Listed c (cs ++ completion k (time_at clock (last_time cs)) ∷ [])) (ap₂ completion z a)
            (listed_new (completion k (time_at clock (last_time cs))) cs)
        finishes k clock p (old q d) = listed_old (completion n f.time) (completion k (time_at clock (last_time cs))) cs (own n f d late)

        go : (e : Event) → Effect e m m' → found_by e m.last_time n (find n fs) ≡ some f
            → Listed (completion n f.time) (cs ++ completed_by e (last_time cs))
        go nothing x d = listed d
        go (given k size) x d = partial k (file k size [] 0) refl (now_some k n (file k size [] 0) f d)
        go (added k bytes) x d =
            partial k (grown bytes x.before.own.file) x.before.own.time (now_mapped k n (grown bytes) x.before.own f d)
        go (finished k clock) x d = finishes k clock x.before.own (now_mapped k n (completed (time_at clock m.last_time)) x.before.own f d)
        go (dropped k) x d = listed (now_gone k n f d)

    pub kept_step : Kept fs cs → (e : Event) → Effect e m m' → Kept m'.files (cs ++ completed_by e (last_time cs))
    unfolding completed_by
    kept_step kept e x c l = go e x l
      where
        on : (e : Event) → Effect e m m' → Listed c cs → Stands m'.files c
        on e x l =
            let s = kept c l in
            record { file = s.file; found = complete_stays e x c.number s.file s.found s.complete; complete = s.complete; time = s.time }

        same : (e : Event) → Effect e m m' → Listed c (cs ++ []) → Stands m'.files c
        same e x l = on e x (subst (Listed c) (append-nil cs) l)

        new : (k clock : ℕ) → Effect (finished k clock) m m' → Stands m'.files (completion k (time_at clock (last_time cs)))
        new k clock x =
            let own = x.before.own in
            let h = completed (time_at clock m.last_time) in
            record {
              file = h own.file;
              found = find_after (finished k clock) x k ∙ ap (λ (b : Bool). cond b (mapped h (find k fs)) (find k fs)) (eq-eqb k k refl)
                  ∙ ap (mapped h) own.found;
              complete = λ z. omega (arith, later clock m.last_time, z);
              time = ap (time_at clock) (sym last);
            }

        go : (e : Event) → Effect e m m' → Listed c (cs ++ completed_by e (last_time cs)) → Stands m'.files c
        go nothing x l = same nothing x l
        go (given k size) x l = same (given k size) x l
        go (added k bytes) x l = same (added k bytes) x l
        go (finished k clock) x l =
            ⊎_elim (on (finished k clock) x) (λ (e : completion k (time_at clock (last_time cs)) ≡ c). subst (Stands m'.files) e (new k clock x))
            (listed_split c (completion k (time_at clock (last_time cs))) cs l)
        go (dropped k) x l = same (dropped k) x l

  same_times : (cs : List Completion) → Timed cs m.last_time → m'.last_time ≡ m.last_time → Timed (cs ++ []) m'.last_time
  same_times cs t e = rw (append-nil cs, e) t

  one_later : (cs : List Completion) (n t : ℕ) → Timed cs m.last_time → m.last_time < t → Timed (cs ++ completion n t ∷ []) t
  one_later cs n t r h =
      record {
        last_is = last_snoc 0 cs (completion n t);
        rising = rw (times_snoc cs (completion n t)) (rising_snoc m.last_time t (0 ∷ times cs) r.rising r.bounded h);
        bounded = rw (times_snoc cs (completion n t)) (bounded_snoc m.last_time t (0 ∷ times cs) r.bounded (omega arith));
      }

  pub times_step : (cs : List Completion) → Timed cs m.last_time → (e : Event) → Effect e m m' → Timed (cs ++ completed_by e (last_time cs)) m'.last_time
  unfolding completed_by time_by
  times_step cs t nothing x = same_times cs t x.time
  times_step cs t (given n size) x = same_times cs t x.time
  times_step cs t (added n bytes) x = same_times cs t x.time
  times_step cs t (finished n clock) x = rw (t.last_is, x.time) (one_later cs n (time_at clock m.last_time) t (later clock m.last_time))
  times_step cs t (dropped n) x = same_times cs t x.time
