-- Laws of the numbers that the calls answer: of an outcome by its number, of two refusals one after the other, and of a place past the 256th.
use mathlib.Core.Path.{◌≡◌, refl, sym, ap, ◌∙◌}
use mathlib.Core.Bool.{Bool, true, false, cond, ◌&&◌}
use mathlib.Core.List.{List}
use Prim.Native.Nat.{ℕ, ◌+◌, ◌*◌, ◌≤◌, ◌<◌}
use native.Mathlib.Omega.{arith}
use lib.ListN.{length}
use lib.Dec.{eqb, ltb, leb}
use borrow.Author.Tests.{eq-eqb, ne_eqb, eqb-true, eqb-false, lt-ltb, le-ltb, ltb-true, ltb-false}
use Rattle.blocks.specs.Answers.{disk_fits}
use Rattle.equation.specs.Answer.{answer_of}
use Rattle.std.proofs.Common.{Result, Ok, Err}
use Rattle.std.specs.Result.{result_unwrap_or}
use Rattle.refusal.specs.declared.Refusal.{Refusal}
use Rattle.refusal.specs.Refusal.{numbered}
use Rattle.header.specs.Header.{header_of, refused_with}
use Rattle.stored.specs.Answers.{file_at, header_at, truth_at}
use Rattle.table.specs.declared.File.{File}
use Rattle.files.specs.View.{record_at}
use Rattle.files.specs.Uploads.{after, place_number, room_number}
use Rattle.files.specs.Completion.{destinations_said, destinations_at}
use Rattle.files.specs.Selection.{is_yes}

-- ---- by a number

pub done : {A : Type 0} (k : ℕ) (new old : A) → k ≡ 0 → cond (eqb k 0) new old ≡ new
done k new old e = rw (eq-eqb k 0 e)

pub refused : {A : Type 0} (k : ℕ) (new old : A) → (k ≡ 0 → ⊥) → cond (eqb k 0) new old ≡ old
refused k new old n = rw (ne_eqb k 0 n)

pub by_number : {P : Type 0} (k : ℕ) → (k ≡ 0 → P) → ((k ≡ 0 → ⊥) → P) → P
by_number {P} k f g = go (eqb k 0) refl
  where
    go : (t : Bool) → eqb k 0 ≡ t → P
    go true e = f (eqb-true k 0 e)
    go false e = g (eqb-false k 0 e)

-- an outcome that is new where a number is 0 and says that number where it is not, by what it says
pub outcome_done : {A : Type 0} (k : ℕ) (new old : A) (says : A → ℕ) → says old ≡ k → says (cond (eqb k 0) new old) ≡ 0
    → (k ≡ 0) × (cond (eqb k 0) new old ≡ new)
outcome_done k new old says o e =
    by_number k (λ z. (z, done k new old z)) (λ n. absurd (n (sym o ∙ sym (ap says (refused k new old n)) ∙ e)))

pub outcome_kept : {A : Type 0} (k n : ℕ) (new old : A) (says : A → ℕ) → says old ≡ k → says new ≡ 0 → says (cond (eqb k 0) new old) ≡ n → (n ≡ 0 → ⊥)
    → (k ≡ n) × (cond (eqb k 0) new old ≡ old)
outcome_kept k n new old says o w e z =
    by_number k
    (λ y. absurd (z (sym e ∙ ap says (done k new old y) ∙ w)))
    (λ y. (sym o ∙ sym (ap says (refused k new old y)) ∙ e, refused k new old y))

-- two refusals one after the other are both 0 where the first that counts is 0
pub after_first : (a b : ℕ) → after a b ≡ 0 → a ≡ 0
after_first a b e = by_number a (λ z. z) (λ n. sym (refused a b a n) ∙ e)

pub after_second : (a b : ℕ) → after a b ≡ 0 → b ≡ 0
after_second a b e = sym (done a b a (after_first a b e)) ∙ e

pub after_none : (a b : ℕ) → a ≡ 0 → b ≡ 0 → after a b ≡ 0
after_none a b x y = done a b a x ∙ y

-- ---- a file's place

pub place_held : (place : ℕ) (f : File) → place < 256 → (f.number ≡ 0 → ⊥) → place_number place f ≡ 0
unfolding place_number
place_held place f h n = rw (lt-ltb place 256 h, ne_eqb f.number 0 n)

pub record Held (place : ℕ) (f : File) : Type 0 where
  pub below : place < 256
  pub file : f.number ≡ 0 → ⊥

pub place_is : (place : ℕ) (f : File) → place_number place f ≡ 0 → Held place f
unfolding place_number
place_is place f e = go (ltb place 256) refl (eqb f.number 0) refl e
  where
    go : (t : Bool) → ltb place 256 ≡ t → (u : Bool) → eqb f.number 0 ≡ u → ◌≡◌ {A = ℕ} (cond t (cond u 35 0) 33) 0 → Held place f
    go true p true q e = absurd (omega arith)
    go true p false q e = record { below = ltb-true place 256 p; file = eqb-false f.number 0 q }
    go false p u q e = absurd (omega arith)

pub room_none : (f : File) (n : ℕ) → f.size < f.received + n → room_number f n ≡ 16
unfolding room_number
room_none f n h = rw (lt-ltb f.size (f.received + n) h)

pub room_some : (f : File) (n : ℕ) → f.received + n ≤ f.size → room_number f n ≡ 0
unfolding room_number
room_some f n h = rw (le-ltb f.size (f.received + n) h)

pub room_is : (f : File) (n : ℕ) → room_number f n ≡ 0 → f.received + n ≤ f.size
unfolding room_number
room_is f n e = go (ltb f.size (f.received + n)) refl e
  where
    go : (t : Bool) → ltb f.size (f.received + n) ≡ t → ◌≡◌ {A = ℕ} (cond t 16 0) 0 → f.received + n ≤ f.size
    go true p e = absurd (omega arith)
    go false p e = ltb-false f.size (f.received + n) p

-- ---- a place past the 256th is refused by the blocks

and_false : (a : Bool) → a && false ≡ false
and_false true = refl
and_false false = refl

disk_past : (size n place : ℕ) → 256 ≤ place → disk_fits size n place ≡ false
disk_past size n place h =
    ap (λ (t : Bool). leb 1 n && leb n 4096 && leb (256 * n) size && t) (le-ltb place 256 h)
    ∙ and_false (leb 1 n && leb n 4096 && leb (256 * n) size)

-- ---- a file's destinations

module _ (disk owner table : List ℕ) (place : ℕ) where
  abbrev check_file : File
  check_file = record_at table place

  pub destinations_past : 256 ≤ place → destinations_at disk owner table place ≡ 0
  unfolding destinations_at header_at
  destinations_past h =
      ap (λ (t : Bool). destinations_said (cond t (header_of 20 (file_at disk owner place check_file.received)) (refused_with 33))) (disk_past (length disk) (length owner) place h)

-- ---- a selection

-- an answer is true, and a refusal counts as false
pub yes_is : (r : Result Bool Refusal) → result_unwrap_or r false ≡ is_yes (numbered r)
unfolding is_yes
yes_is (Ok b) = refl
yes_is (Err refusal) = refl

none_met : (t : Bool) → is_yes (cond t (Err 33) (Err 33)) ≡ false
unfolding is_yes
none_met true = refl
none_met false = refl

pub truth_past : (eq disk owner : List ℕ) (place received : ℕ) → 256 ≤ place → is_yes (truth_at eq disk owner place received) ≡ false
unfolding truth_at
truth_past eq disk owner place received h =
    ap (λ (t : Bool). is_yes (cond (leb (length eq) 256) (cond t (answer_of eq (file_at disk owner place received)) (Err 33)) (Err 33)))
    (disk_past (length disk) (length owner) place h)
    ∙ none_met (leb (length eq) 256)
