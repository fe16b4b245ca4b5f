-- The machine (crates/grammar) on a text by places. Assumes nothing.
use mathlib.Core.Path.{◌≡◌, refl, sym, ap, ◌∙◌}
use mathlib.Core.Bool.{Bool, true, false, cond}
use mathlib.Core.List.{List, [], ◌∷◌}
use Prim.Native.Nat.{ℕ, suc, ◌+◌, ◌≤◌, ◌<◌}
use native.Mathlib.Omega.{arith}
use native.Mathlib.Numerals.{add-one}
use lib.Dec.{ltb, eqb}
use lib.ListN.{length, get_or, drop, length-drop, drop_of_length-le, get_or-eq_default}
use lib.Seq.{drop-cons, get_or-drop}
use borrow.Author.Tests.{ltb-true, ltb-false, eqb-true}
use Rattle.lines.specs.Numerals.{digit}
use Rattle.equation.specs.Holds.{Relation}
use Rattle.names.specs.Kinds.{is_blank}
use Rattle.grammar.specs.Meaning.{width_of, number_relation}
use Rattle.grammar.specs.Machine.{Phase, order, constant, digits, on, whole, stop, part_of, Level, State, inside, go, halt, taken, step}
use Rattle.grammar.specs.Machine.{refused, ended_in, ending, moved, run, from}
use Rattle.grammar.specs.declared.Comparison.{Comparison}
use Rattle.grammar.specs.declared.Reason.{Reason}
use Rattle.grammar.proofs.Steps as steps
use Rattle.tokens.specs.Places.{Goes, GoesIn, StopsIn, behind, Skipped}
use Rattle.tokens.specs.Tokens.{blanks_in, past_blanks}

pub ended_by : (a : Phase) (why : Reason) (p : ℕ) → part_of a 0 ≡ stop why → (l : Level) (ls : List Level) → ending (inside a l ls) p ≡ refused p why
unfolding ending ended_in
ended_by a why p n l ls = rw n

module _ (text : List ℕ) (p : ℕ) where
  -- ---- one byte

  pub byte_in : (b : ℕ) → get_or text p 0 ≡ b → 0 < b → p < length text
  byte_in b e h = by (ltb p (length text)) refl
    where
      by : (t : Bool) → ltb p (length text) ≡ t → p < length text
      by true z = ltb-true p (length text) z
      by false z = absurd (omega (arith, e, get_or-eq_default text 0 {n = p} (ltb-false p (length text) z)))

  pub ends : (st : State) → length text ≤ p → from st p text ≡ ending st p
  unfolding run
  ends st h = rw (drop_of_length-le text h)

  step_in : (st : State) → p < length text → from st p text ≡ moved (step st (get_or text p 0)) p (λ s. from s (p + 1) text)
  unfolding run
  step_in st h = rw (add-one p, drop-cons text p 0 h)

  pub goes : (b : ℕ) (st s : State) → get_or text p 0 ≡ b → 0 < b → step st b ≡ go s → Goes text st p s (p + 1)
  unfolding moved
  goes b st s e h m = step_in st (byte_in b e h) ∙ rw (e, m)

  pub halts : (st : State) (why : Reason) → p < length text → step st (get_or text p 0) ≡ halt why → from st p text ≡ refused p why
  unfolding moved
  halts st why h m = step_in st h ∙ rw m

  -- a byte that no text has there, or the text's end
  pub wrong : (st : State) (why : Reason) → step st (get_or text p 0) ≡ halt why → ending st p ≡ refused p why → from st p text ≡ refused p why
  wrong st why m z = by (ltb p (length text)) refl
    where
      by : (t : Bool) → ltb p (length text) ≡ t → from st p text ≡ refused p why
      by true y = halts st why (ltb-true p (length text) y) m
      by false y = ends st (ltb-false p (length text) y) ∙ z

  -- the same where the end has a reason of its own
  pub wrong_either : (st : State) (why because : Reason) → step st (get_or text p 0) ≡ halt why → ending st p ≡ refused p because
      → from st p text ≡ refused p (cond (ltb p (length text)) why because)
  wrong_either st why because m z = by (ltb p (length text)) refl
    where
      by : (t : Bool) → ltb p (length text) ≡ t → from st p text ≡ refused p (cond t why because)
      by true y = halts st why (ltb-true p (length text) y) m
      by false y = ends st (ltb-false p (length text) y) ∙ z

  -- ---- in a relation

  pub part_goes : (a b : Phase) (c : ℕ) → get_or text p 0 ≡ c → 0 < c → part_of a c ≡ on b → GoesIn text a p b (p + 1)
  part_goes a b c e h m l ls = goes c (inside a l ls) (inside b l ls) e h (unfold step taken in rw m)

  pub part_whole : (a : Phase) (r : Relation) (c : ℕ) → get_or text p 0 ≡ c → 0 < c → part_of a c ≡ whole r
      → (l : Level) (ls : List Level) → Goes text (inside a l ls) p (behind l ls r) (p + 1)
  part_whole a r c e h m l ls = goes c (inside a l ls) (behind l ls r) e h (unfold step taken in rw m)

  -- at the text's end byte 0 is judged
  pub part_wrong : (a : Phase) (why : Reason) → part_of a (get_or text p 0) ≡ stop why → StopsIn text a p p why
  part_wrong a why m l ls = by (ltb p (length text)) refl
    where
      by : (t : Bool) → ltb p (length text) ≡ t → from (inside a l ls) p text ≡ refused p why
      by true y = halts (inside a l ls) why (ltb-true p (length text) y) (unfold step taken in rw m)
      by false y =
          let n : part_of a 0 ≡ stop why = rw (get_or-eq_default text 0 {n = p} (ltb-false p (length text) y)) at m in
          ends (inside a l ls) (ltb-false p (length text) y) ∙ ended_by a why p n l ls

  first_byte : get_or (drop p text) 0 0 ≡ get_or text p 0
  first_byte = let z : p + 0 ≡ p = omega arith in get_or-drop p text 0 0 ∙ ap (λ (i : ℕ). get_or text i 0) z

  pub number_ends : (id : ℕ) (c : Comparison) (v : ℕ) → digit (get_or text p 0) ≡ false → (get_or text p 0 ≡ 58 → ⊥)
      → (l : Level) (ls : List Level) → Goes text (inside (digits id c v) l ls) p (behind l ls (number_relation id c (width_of id v) v)) p
  number_ends id c v h i l ls = steps.number_ends id c l ls v p (drop p text) (rw first_byte h, λ z. i (sym first_byte ∙ z))

  pub order_ends : (id : ℕ) (c : Comparison) → (get_or text p 0 ≡ 61 → ⊥) → GoesIn text (order id c) p (constant id c) p
  order_ends id c h l ls = steps.order_ends id c l ls p (drop p text) (λ z. h (sym first_byte ∙ z))

-- ---- blanks

blank_high : (b : ℕ) → is_blank b ≡ true → 0 < b
unfolding is_blank
blank_high b h = by (eqb b 32) refl h
  where
    by : (t : Bool) → eqb b 32 ≡ t → cond t true (eqb b 9) ≡ true → 0 < b
    by true e z = omega (arith, eqb-true b 32 e)
    by false e z = omega (arith, eqb-true b 9 z)

-- what a byte that stands at a place leaves of the text
pub record Next (text : List ℕ) (at b : ℕ) (bs : List ℕ) : Type 0 where
  pub inside : at < length text
  pub byte : get_or text at 0 ≡ b
  pub rest : drop (at + 1) text ≡ bs

pub next : (text : List ℕ) (at b : ℕ) (bs : List ℕ) → drop at text ≡ b ∷ bs → Next text at b bs
next text at b bs e =
    let s : length (drop at text) ≡ suc (length bs) = rw e in
    let i : at < length text = omega (arith, s, length-drop at text) in
    let d : get_or text at 0 ∷ drop (suc at) text ≡ b ∷ bs = sym (drop-cons text at 0 i) ∙ e in
    record { inside = i; byte = cc; rest = rw (add-one at) cc }

pub at_end : (text : List ℕ) (at : ℕ) → drop at text ≡ [] → length text ≤ at
at_end text at e =
    let s : length (drop at text) ≡ 0 = rw e in
    omega (arith, s, length-drop at text)

pub end_byte : (text : List ℕ) (at : ℕ) → drop at text ≡ [] → get_or text at 0 ≡ 0
end_byte text at e = get_or-eq_default text 0 {n = at} (at_end text at e)

-- the rest of a text behind a byte of it
pub rest_of : (text : List ℕ) (at b : ℕ) → get_or text at 0 ≡ b → at < length text → drop at text ≡ b ∷ drop (at + 1) text
rest_of text at b e h = drop-cons text at 0 h ∙ rw (e, add-one at)

pub no_rest : (text : List ℕ) (at : ℕ) → length text ≤ at → drop at text ≡ []
no_rest text at h = drop_of_length-le text h

pub blank_in : (text : List ℕ) (at b : ℕ) → b ≡ get_or text at 0 → is_blank b ≡ true → at < length text
blank_in text at b e h = byte_in text at b (sym e) (blank_high b h)

-- a blank more; no blank
pub blanks_more : (text : List ℕ) (at b : ℕ) → b ≡ get_or text at 0 → is_blank b ≡ true → past_blanks text at ≡ past_blanks text (at + 1)
unfolding blanks_in
blanks_more text at b e h = rw (rest_of text at b (sym e) (blank_in text at b e h), h) (omega arith)

pub blanks_end : (text : List ℕ) (at b : ℕ) → b ≡ get_or text at 0 → is_blank b ≡ false → at ≡ past_blanks text at
unfolding blanks_in
blanks_end text at b e h = by (ltb at (length text)) refl
  where
    by : (t : Bool) → ltb at (length text) ≡ t → at ≡ at + blanks_in (drop at text)
    by true z = rw (rest_of text at b (sym e) (ltb-true at (length text) z), h) (omega arith)
    by false z = rw (no_rest text at (ltb-false at (length text) z)) (omega arith)

skips : (text : List ℕ) (bs : List ℕ) (at : ℕ) → drop at text ≡ bs → at ≤ length text → Skipped text at (at + blanks_in bs)
unfolding blanks_in
skips text [] at e h =
    let z : at + 0 ≡ at = omega arith in
    rw z (record { forward = omega arith; within = h; stops = rw (end_byte text at e) (unfold is_blank in refl); runs = λ st y. refl })
skips text (b ∷ bs) at e h = by (next text at b bs e) (skips text bs (at + 1)) (is_blank b) refl
  where
    by : Next text at b bs → (drop (at + 1) text ≡ bs → at + 1 ≤ length text → Skipped text (at + 1) (at + 1 + blanks_in bs)) → (t : Bool) → is_blank b ≡ t
        → Skipped text at (at + cond t (suc (blanks_in bs)) 0)
    by n ih true z =
        let k = ih n.rest (omega (arith, n.inside)) in
        let y : at + 1 + blanks_in bs ≡ at + suc (blanks_in bs) = omega arith in
        rw (← y) (record {
          forward = omega (arith, k.forward);
          within = k.within;
          stops = k.stops;
          runs = λ st w. goes text at b st st n.byte (blank_high b z) (w b z) ∙ k.runs st w;
        })
    by n ih false z =
        let y : at + 0 ≡ at = omega arith in
        rw y (record { forward = omega arith; within = h; stops = rw n.byte z; runs = λ st w. refl })

pub skipped : (text : List ℕ) (at e : ℕ) → at ≤ length text → e ≡ past_blanks text at → Skipped text at e
skipped text at e h z = rw z (skips text (drop at text) at refl h)
