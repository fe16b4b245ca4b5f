-- From an accepted equation to its answer: what the public function and its two helpers give. Assumes nothing.
use mathlib.Core.Path.{◌≡◌, refl, sym, ap, subst, ◌∙◌}
use mathlib.Core.Bool.{Bool, true, false, cond}
use mathlib.Core.List.{List, ◌++◌, append_assoc}
use mathlib.Core.Option.{Option, none, some}
use Rattle.std.proofs.Common.{Ok, Err, Result}
use Prim.Native.Nat.{ℕ, ◌+◌, ◌-◌, ◌≤◌, ◌<◌}
use native.Mathlib.Omega.{arith}
use lib.Dec.{ltb}
use lib.ListN.{length, get_or, take, drop, replicate, length-replicate}
use lib.Seq.{sets-eq, length-take-le, take_at, drop_at}
use borrow.Author.Tests.{lt-ltb, le-ltb, lt-leb, le-leb}
use Rattle.equation.specs.Tree.{Tree, parse}
use Rattle.equation.specs.Answer.{refusal, validity_of}
use Rattle.equation.specs.Newer.{unmarked}
use Rattle.equation.specs.Parsed.{steps_of, parses, parse_of}
use Rattle.equation.proofs.StepLaws.{symbols_by_law}
use Rattle.equation.proofs.Trees.{accepted}
use Rattle.equation.proofs.Parsing.{taken, judged}
use Rattle.grammar.specs.Formula.{Formula}
use Rattle.writing.specs.Text.{text_of, nesting}
use Rattle.writing.specs.Places.{formula_of, text_at, nesting_at}
use Rattle.writing.specs.Pieces.{Piece}
use Rattle.back.specs.Steps.{Ready, Room, Wrote, Measured, Accepted}
use Rattle.back.specs.Answer.{answers, delivered, written, written_by, written_of}
use Rattle.back.specs.declared.Place.{Place}
use Rattle.back.specs.declared.Nesting.{Nesting}
use Rattle.back.specs.declared.Answer.{Answer}
use Rattle.back.specs.declared.Answer.TheVariants as answer
use Rattle.writing.proofs.Bytes.{parsed_symbols, parsed_whole, parsed_bytes}
use Rattle.writing.proofs.Standing.{steps_stand}
use Rattle.writing.proofs.Lengths.{text_short, unmarked_short}
use Rattle.back.proofs.Formulas.{all_ready, all_room}

-- ---- an accepted equation

module _ (bytes : List ℕ) (small : (k : ℕ) → get_or bytes k 0 < 256) (h : length bytes ≤ 2047) (t : Tree) (e : parse bytes ≡ some t) where
  pub accepted_steps : Accepted bytes (steps_of bytes)
  accepted_steps =
      record {
        formula = formula_of t;
        is = symbols_by_law bytes h ∙ parsed_symbols bytes t e;
        stand = steps_stand bytes;
        short =
            λ l. omega (arith, text_short (formula_of t) (parsed_whole bytes small t e), ap length (parsed_bytes bytes small t e), unmarked_short bytes);
      }

-- ---- delivery

abbrev zeros : List ℕ
zeros = replicate 2560 0

module _ (bytes steps out : List ℕ) (w : Accepted bytes steps) (h : length bytes ≤ 256) (r : Place) (text : List ℕ)
    (q : (v : Room bytes steps (length steps) 0 2560) → Wrote (text_at 0 v.ready.formula) v.ready.before 2560 zeros r text) where
  the_text : Piece (text_of w.formula) 2560 zeros r.n text
  unfolding all_room all_ready text_at
  the_text = (q (all_room bytes steps w h)).piece

  pub start_within : r.n ≤ 2560
  start_within = omega (arith, the_text.place)

  size_is : 2560 - r.n ≡ length (text_of w.formula)
  size_is = omega (arith, the_text.place)

  slice_is : take (2560 - r.n) (drop r.n text) ≡ text_of w.formula
  slice_is =
      let l : length zeros ≡ 2560 = length-replicate {A = ℕ} 2560 0 in
      let s = sets-eq (text_of w.formula) zeros r.n (omega (arith, the_text.place)) in
      let k : length (take r.n zeros) ≡ r.n = length-take-le r.n zeros (omega (arith, start_within)) in
      let d : drop r.n text ≡ text_of w.formula ++ drop (r.n + length (text_of w.formula)) zeros =
      ap (drop r.n) (the_text.bytes ∙ s ∙ append_assoc (take r.n zeros) (text_of w.formula) (drop (r.n + length (text_of w.formula)) zeros))
      ∙ drop_at (take r.n zeros) (text_of w.formula ++ drop (r.n + length (text_of w.formula)) zeros) r.n k in
      ap (take (2560 - r.n)) d ∙ take_at (text_of w.formula) (drop (r.n + length (text_of w.formula)) zeros) (2560 - r.n) (sym size_is)

  pub deliver_short : length out < 2560 - r.n → answers (Err 33) out ≡ delivered (text_of w.formula) out
  unfolding delivered
  deliver_short l = rw (lt-leb (length (text_of w.formula)) (length out) (omega (arith, size_is)))

  pub deliver_text : 2560 - r.n ≤ length out → (now : List ℕ) → now ≡ take (2560 - r.n) (drop r.n text) ++ drop (2560 - r.n) out
      → answers (Ok (answer.Text (2560 - r.n))) now ≡ delivered (text_of w.formula) out
  unfolding delivered
  deliver_text l now e = rw (e, slice_is, size_is, le-leb (length (text_of w.formula)) (length out) (omega (arith, size_is)))

-- ---- the answer of an accepted equation

module _ (f : Formula) (n m : ℕ) (out : List ℕ) where
  pub answer_mark : m < n → answers (Ok answer.Mark) out ≡ written f n m out
  unfolding written
  answer_mark h = rw (lt-ltb m n h)

  pub answer_deeper : n ≤ m → 16 < nesting f → answers (Ok answer.Deeper) out ≡ written f n m out
  unfolding written
  answer_deeper h i = rw (le-ltb m n h, lt-ltb 16 (nesting f) i)

  pub answer_bytes : n ≤ m → nesting f ≤ 16 → 256 < n → answers (Ok answer.Bytes) out ≡ written f n m out
  unfolding written
  answer_bytes h i j = rw (le-ltb m n h, le-ltb 16 (nesting f) i, lt-ltb 256 n j)

  pub answer_text : n ≤ m → nesting f ≤ 16 → n ≤ 256 → delivered (text_of f) out ≡ written f n m out
  unfolding written
  answer_text h i j = rw (le-ltb m n h, le-ltb 16 (nesting f) i, le-ltb 256 n j)

pub whole_nesting : (bytes steps : List ℕ) (w : Accepted bytes steps) (r : Nesting)
    → ((bytes : List ℕ) (v : Ready bytes steps (length steps)) → Measured (nesting_at 0 v.formula) v.before r) → r.deep ≡ nesting w.formula
unfolding all_ready nesting_at
whole_nesting bytes steps w r q = (q bytes (all_ready bytes steps w)).deep

-- ---- the public function

module _ (bytes steps : List ℕ) (small : (k : ℕ) → get_or bytes k 0 < 256) where
  module _ (count : ℕ) (e : parses (Ok count) steps ≡ parse_of bytes (replicate 2047 0)) where
    abbrev part : List ℕ
    part = take count steps

    pub count_within : count ≤ length steps
    count_within = (taken bytes (replicate 2047 0) steps count e).fits

    pub part_accepted : Accepted bytes part
    part_accepted =
        let t = taken bytes (replicate 2047 0) steps count e in
        let a = accepted bytes t.valid in
        subst (Accepted bytes) (sym t.first) (accepted_steps bytes small t.short a.tree a.parsed)

    pub whole_answer : (r : Result Answer ℕ) (out now : List ℕ)
        → ((w : Accepted bytes part) → answers r now ≡ written w.formula (length bytes) (length (unmarked bytes)) out)
        → answers r now ≡ written_of bytes out
    unfolding written_of written_by accepted_steps
    whole_answer r out now q =
        let t = taken bytes (replicate 2047 0) steps count e in
        let a = accepted bytes t.valid in
        let s = accepted_steps bytes small t.short a.tree a.parsed in
        let f : ((w : Accepted bytes (steps_of bytes)) → answers r now ≡ written w.formula (length bytes) (length (unmarked bytes)) out) =
        subst (λ (l : List ℕ). (w : Accepted bytes l) → answers r now ≡ written w.formula (length bytes) (length (unmarked bytes)) out) t.first q in
        rw (le-ltb 2047 (length bytes) t.short, a.parsed) (f s)

  pub refused_answer : (n count : ℕ) → parses (Err (n, count)) steps ≡ parse_of bytes (replicate 2047 0) → (out : List ℕ) → answers (Err n) out ≡ written_of bytes out
  unfolding written_of written_by validity_of refusal
  refused_answer n count e out =
      let j = judged bytes (replicate 2047 0) steps n count e (λ h. omega (arith, length-replicate {A = ℕ} 2047 0)) in
      by (ltb 2047 (length bytes)) refl (parse bytes) refl j.number (λ z. j.refused (sym j.number ∙ z))
    where
      by : (x : Bool) → ltb 2047 (length bytes) ≡ x → (o : Option Tree) → parse bytes ≡ o → n ≡ cond x 33 (refusal o) → (n ≡ 0 → ⊥)
          → answers (Err n) out ≡ cond x (answers (Err 33) out) (written_by o (length bytes) (length (unmarked bytes)) out)
      by true l o q j z = rw j
      by false l none q j z = unfold written_by refusal in rw j
      by false l (some t) q j z = absurd (z (unfold refusal in j))
