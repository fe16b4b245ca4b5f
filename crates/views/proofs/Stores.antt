-- Two stores whose files are the same but for one place: the files by number.
use mathlib.Core.Path.{◌≡◌, refl, sym, ap, ap₂, ◌∙◌, subst}
use mathlib.Core.List.{List, [], ◌∷◌, ◌++◌}
use mathlib.Core.Option.{Option, none, some}
use Prim.Native.Nat.{ℕ, suc, ◌+◌}
use native.Mathlib.Omega.{arith}
use Rattle.std.proofs.Common.{Some, None}
use Rattle.std.specs.Prelude as std
use Rattle.table.specs.Table.{files, numbers, find_of}
use Rattle.table.specs.Fit.{Distinct}
use Rattle.table.proofs.Finding.{by_equal, find_number_law, find_none, find_absent, find_own}
use Rattle.files.specs.View.{View, record_at}
use Rattle.carry.specs.Turn.{Mem}
use Rattle.acts.proofs.Interface.{files_in}
use Rattle.model.specs.State.{File}
use Rattle.model.specs.Files.{changed, without}
use Rattle.views.specs.View.{file_of, file_in, listed, entry}
use Rattle.views.proofs.Lists.{Own, listed_same, listed_changed, listed_without}

-- the files of a store
abbrev pub files_by : Mem → ℕ → List File
files_by m last = listed last (λ n. file_in (files_in m) (find_of (files m.table) n))

-- the file with a number in a store
abbrev pub by_number : Mem → ℕ → Option File
by_number m n = file_in (files_in m) (find_of (files m.table) n)

clash : {A : Type 0} {x : A} → none ≡ some x → ⊥
clash e = let z : ◌≡◌ {A = ℕ} 0 1 = cc in omega arith

pub by_own : (m : Mem) → Own (by_number m)
by_own m n f e = go (find_of (files m.table) n) refl e
  where
    go : (r : std.Option ℕ) → find_of (files m.table) n ≡ r → file_in (files_in m) r ≡ some f → f.number ≡ n
    go None q h = absurd (clash h)
    go (Some p) q h =
        let z : file_of (files_in m p) ≡ f = cc in
        ap (λ (x : File). x.number) (sym z) ∙ find_number_law (files m.table) n p q

pub by_place : (m : Mem) → Distinct (numbers (files m.table)) → (p : ℕ) → ((record_at m.table p).number ≡ 0 → ⊥)
    → by_number m (record_at m.table p).number ≡ some (file_of (files_in m p))
by_place m one p h = ap (file_in (files_in m)) (find_own (files m.table) one p h)

module _ (m m' : Mem) (one : Distinct (numbers (files m.table))) (two : Distinct (numbers (files m'.table))) (p : ℕ)
    (others : (q : ℕ) → (q ≡ p → ⊥) → files_in m' q ≡ files_in m q) where
  same_number : (q : ℕ) → (q ≡ p → ⊥) → (record_at m'.table q).number ≡ (record_at m.table q).number
  same_number q h = ap (λ (v : View). v.file.number) (others q h)

  absent : (k : ℕ) → (k ≡ 0 → ⊥) → ((q : ℕ) → (q ≡ p → ⊥) → (record_at m.table q).number ≡ k → ⊥) → ((record_at m'.table p).number ≡ k → ⊥)
      → by_number m' k ≡ none
  absent k z a b =
      ap (file_in (files_in m'))
      (find_absent (files m'.table) k
      (λ q e. by_equal {P = ⊥} q p (λ s. b (ap (λ (x : ℕ). (record_at m'.table x).number) (sym s) ∙ e)) (λ ne. a q ne (sym (same_number q ne) ∙ e))))

  -- a file of another number is as it was
  pub elsewhere : (k : ℕ) → ((record_at m.table p).number ≡ k → ⊥) → ((record_at m'.table p).number ≡ k → ⊥) → by_number m' k ≡ by_number m k
  elsewhere k a b = by_equal k 0 (λ z. subst (λ (x : ℕ). by_number m' x ≡ by_number m x) (sym z) refl) (λ z. go z (find_of (files m.table) k) refl)
    where
      go : (k ≡ 0 → ⊥) → (r : std.Option ℕ) → find_of (files m.table) k ≡ r → by_number m' k ≡ file_in (files_in m) r
      go z None e = absent k z (λ q ne h. find_none (files m.table) k e z q h) b
      go z (Some q) e =
          let n = find_number_law (files m.table) k q e in
          let ne : q ≡ p → ⊥ = λ s. a (ap (λ (x : ℕ). (record_at m.table x).number) (sym s) ∙ n) in
          let n' = same_number q ne ∙ n in
          subst (λ (x : ℕ). by_number m' x ≡ some (file_of (files_in m q))) n'
          (by_place m' two q (λ h. z (sym n' ∙ h)) ∙ ap (λ (v : View). some (file_of v)) (others q ne))

  module _ (file : (record_at m.table p).number ≡ 0 → ⊥) where
    abbrev n : ℕ
    n = (record_at m.table p).number

    -- a file with the same number
    pub files_changed : (h : File → File) → (record_at m'.table p).number ≡ n → file_of (files_in m' p) ≡ h (file_of (files_in m p)) → (last : ℕ)
        → files_by m' last ≡ changed n h (files_by m last)
    files_changed h e f last =
        listed_changed (by_number m) (by_number m') (by_own m) n (file_of (files_in m p)) (by_place m one p file)
        (λ k ne. elsewhere k (λ z. ne (sym z)) (λ z. ne (sym z ∙ e))) h
        (subst (λ (x : ℕ). by_number m' x ≡ some (h (file_of (files_in m p)))) e
        (by_place m' two p (λ z. file (sym e ∙ z)) ∙ ap some f))
        last

    -- a file that is no more
    pub files_without : (record_at m'.table p).number ≡ 0 → (last : ℕ) → files_by m' last ≡ without n (files_by m last)
    files_without e last =
        listed_without (by_number m) (by_number m') (by_own m) n (file_of (files_in m p)) (by_place m one p file)
        (λ k ne. by_equal k 0 (λ z. subst (λ (x : ℕ). by_number m' x ≡ by_number m x) (sym z) refl)
        (λ z. elsewhere k (λ y. ne (sym y)) (λ y. z (sym y ∙ e))))
        (absent n file (λ q ne h. ne (own_place q h)) (λ z. file (sym z ∙ e)))
        last
      where
        own_place : (q : ℕ) → (record_at m.table q).number ≡ n → q ≡ p
        own_place q h =
            let a = find_own (files m.table) one q (λ z. file (sym h ∙ z)) in
            let b = find_own (files m.table) one p file in
            let c : Some q ≡ Some p = sym a ∙ ap (find_of (files m.table)) h ∙ b in
            cc

  -- a new file, whose number is above all
  pub files_added : (last : ℕ) → (record_at m.table p).number ≡ 0 → (record_at m'.table p).number ≡ last + 1
      → files_by m' (last + 1) ≡ files_by m last ++ file_of (files_in m' p) ∷ []
  unfolding listed entry
  files_added last z e =
      let s : last + 1 ≡ suc last = omega arith in
      ap (files_by m') s
      ∙ ap₂ (λ (xs : List File) (x : Option File). xs ++ entry x)
      (listed_same last (by_number m) (by_number m') (λ k a b. elsewhere k (λ y. omega arith) (λ y. omega arith)))
      (subst (λ (x : ℕ). by_number m' x ≡ some (file_of (files_in m' p))) (e ∙ s) (by_place m' two p (λ y. omega arith)))
