-- The first wrong place: all before it begins a text of the grammar, and nothing that goes on from it does. Assumes nothing.
use mathlib.Core.Path.{◌≡◌, refl, sym, ap, subst, ◌∙◌}
use mathlib.Core.Bool.{Bool, true, false, cond}
use mathlib.Core.List.{List, [], ◌∷◌, ◌++◌, map, append_assoc, append-nil}
use mathlib.Core.Option.{Option, none, some}
use Prim.Native.Nat.{ℕ, zero, suc, ◌+◌, ◌-◌, ◌*◌, ◌≤◌, ◌<◌}
use native.Mathlib.Omega.{arith}
use native.Mathlib.Numerals.{add-one}
use lib.Dec.{ltb, leb, eqb}
use lib.ListN.{length, take}
use borrow.Author.Tests.{lt-ltb, ne_eqb}
use Rattle.names.specs.Kinds.{is_blank, hex_of, is_hex_digit}
use Rattle.text.specs.Match.{lower}
use Rattle.lines.specs.Numerals.{digit, hex_value}
use Rattle.equation.specs.Symbols.{stars_in}
use Rattle.names.specs.Names.{id_named, starts_name}
use Rattle.grammar.specs.Formula.{Formula, relation, and_after, or_after}
use Rattle.grammar.specs.Meaning.{or_equal, is_width, number_relation, text_relation, width_of}
use Rattle.grammar.specs.Grammar.{Reads, Begins, WrongPlace}
use Rattle.grammar.specs.Machine.{Phase, name, hash, item, half, order, constant, digits, colon, string, escape, coded, code, Part, on, whole, past, stop}
use Rattle.grammar.specs.Machine.{part_of, wanted, added}
use Rattle.grammar.specs.Machine.{Level, level, fresh, State, want, inside, have, ampersand, bar, Move, go, halt, closed, after, taken, step}
use Rattle.grammar.specs.Machine.{Outcome, accepted, refused, ended, ended_in, ending, moved, run, outcome_of}
use Rattle.grammar.specs.declared.Comparison.{Comparison}
use Rattle.grammar.specs.declared.Comparison.TheVariants as comparison
use Rattle.grammar.specs.declared.Reason.{Reason}
use Rattle.grammar.specs.declared.Reason.TheVariants as reason
use Rattle.names.proofs.Tests as tests
use Rattle.names.proofs.NameLaws as names
use Rattle.grammar.proofs.Steps as steps
use Rattle.grammar.proofs.Steps.{Reach, then, one, after_relation}
use Rattle.grammar.proofs.Relations.{letters_run, inside_acts}
use Rattle.grammar.proofs.RelationSound.{HashHeld, PhaseHeld}
use Rattle.grammar.proofs.Complete.{complete}
use Rattle.grammar.proofs.Sound.{Held, MoveHeld, moved_held, phase_held, held_step, held_start, sound}

-- ---- every state that is reached can be brought to an end

-- bytes that end a text from a state on, wherever it stands
record Ends (st : State) : Type 0 where
  rest : List ℕ
  means : Formula
  runs : (p : ℕ) → run st p rest ≡ accepted means

ends_have : (t : Formula) (o : Option Formula) (ls : List Level) → Ends (have t o ls)
unfolding run step after closed moved ending ended is_blank
ends_have t o [] = record { rest = []; means = or_after o t; runs = λ p. refl }
ends_have t o (l ∷ ls) =
    let e = ends_have (and_after l.product (or_after o t)) l.sum ls in
    record { rest = 41 ∷ e.rest; means = e.means; runs = λ p. e.runs (suc p) }

-- one byte further
ends_by : (b : ℕ) (st s : State) → step st b ≡ go s → Ends s → Ends st
unfolding run moved
ends_by b st s h e = record { rest = b ∷ e.rest; means = e.means; runs = λ p. rw h (e.runs (suc p)) }

module _ (l : Level) (ls : List Level) where
  ends_on : (b : ℕ) (ph next : Phase) → part_of ph b ≡ on next → Ends (inside next l ls) → Ends (inside ph l ls)
  ends_on b ph next h e = ends_by b (inside ph l ls) (inside next l ls) (unfold step taken in rw h) e

  -- a number, which a blank ends
  ends_digits : (id : ℕ) (c : Comparison) (v : ℕ) → Ends (inside (digits id c v) l ls)
  ends_digits id c v =
      ends_by 32 (inside (digits id c v) l ls) (after_relation l ls (number_relation id c (width_of id v) v))
      (unfold step part_of digit taken after is_blank in refl)
      (ends_have (and_after l.product (relation (number_relation id c (width_of id v) v))) l.sum ls)

  -- behind ":" the width 4 holds any number
  ends_colon : (id : ℕ) (c : Comparison) (v : ℕ) → Ends (inside (colon id c v) l ls)
  ends_colon id c v =
      ends_by 52 (inside (colon id c v) l ls) (after_relation l ls (number_relation id c 4 v)) (unfold step part_of is_width taken in refl)
      (ends_have (and_after l.product (relation (number_relation id c 4 v))) l.sum ls)

  ends_constant : (id : ℕ) (c : Comparison) → Ends (inside (constant id c) l ls)
  ends_constant id c = ends_on 48 (constant id c) (digits id c 0) (unfold part_of wanted is_blank digit in refl) (ends_digits id c 0)

  ends_half : (id : ℕ) (c : Comparison) → Ends (inside (half id c) l ls)
  ends_half id c = ends_on 61 (half id c) (constant id c) (unfold part_of in refl) (ends_constant id c)

  ends_item : (id : ℕ) → Ends (inside (item id) l ls)
  ends_item id = ends_on 61 (item id) (half id comparison.Equal) (unfold part_of is_blank in refl) (ends_half id comparison.Equal)

  -- a name, by the letters that it still wants
  ends_name : (w : List ℕ) → id_named w ≡ none → starts_name w ≡ true → Ends (inside (name w) l ls)
  ends_name w n h =
      let c = names.completion w h in
      let e = ends_item c.id in
      record {
        rest = c.rest ++ e.rest;
        means = e.means;
        runs = λ p.
            (let x = letters_run l ls c.rest (inside (name w) l ls) w c.rest c.id p e.rest (inside_acts l ls w) (names.more_letters w n c)
            (names.walks_on w n c) c.is c.lowered in
            x.runs ∙ e.runs x.place);
      }

  -- hex digits "0" up to the fourth
  hash_on : (n v : ℕ) → (n ≡ 3 → ⊥) → Ends (inside (hash (suc n) (16 * v + 0)) l ls) → Ends (inside (hash n v) l ls)
  hash_on n v h e = ends_on 48 (hash n v) (hash (suc n) (16 * v + 0)) (unfold part_of lower hex_value in rw (ne_eqb n 3 h)) e

  hash_3 : (v : ℕ) → Ends (inside (hash 3 v) l ls)
  hash_3 v = ends_on 48 (hash 3 v) (item (16 * v + 0)) (unfold part_of lower hex_value in refl) (ends_item (16 * v + 0))

  hash_2 : (v : ℕ) → Ends (inside (hash 2 v) l ls)
  hash_2 v = hash_on 2 v (λ z. omega arith) (hash_3 (16 * v + 0))

  hash_1 : (v : ℕ) → Ends (inside (hash 1 v) l ls)
  hash_1 v = hash_on 1 v (λ z. omega arith) (hash_2 (16 * v + 0))

  ends_hash : (n v : ℕ) (ds : List ℕ) → HashHeld n ds v → Ends (inside (hash n v) l ls)
  unfolding HashHeld
  ends_hash n v [] h = rw h.0 (hash_on 0 v (λ z. omega arith) (hash_1 (16 * v + 0)))
  ends_hash n v (a ∷ []) h = rw h.0 (hash_1 v)
  ends_hash n v (a ∷ b ∷ []) h = rw h.0 (hash_2 v)
  ends_hash n v (a ∷ b ∷ c ∷ []) h = rw h.0 (hash_3 v)
  ends_hash n v (a ∷ b ∷ c ∷ d ∷ e) h = absurd h

  -- strings, which '"' ends
  module _ (id : ℕ) (c : Comparison) where
    ends_string : (bytes : List ℕ) → Ends (inside (string id c bytes) l ls)
    ends_string bytes =
        ends_by 34 (inside (string id c bytes) l ls) (after_relation l ls (text_relation id c bytes)) (unfold step part_of taken in refl)
        (ends_have (and_after l.product (relation (text_relation id c bytes))) l.sum ls)

    ends_escape : (bytes : List ℕ) → Ends (inside (escape id c bytes) l ls)
    ends_escape bytes = ends_on 34 (escape id c bytes) (string id c (bytes ++ 34 ∷ [])) (unfold part_of in refl) (ends_string (bytes ++ 34 ∷ []))

    -- a second digit "0" makes no star
    ends_code : (bytes : List ℕ) (d : ℕ) → length bytes < 255 → Ends (inside (code id c bytes d) l ls)
    ends_code bytes d h =
        ends_on 48 (code id c bytes d) (string id c (bytes ++ (16 * d + 0) ∷ []))
        (unfold part_of added lower hex_value in rw (ne_eqb (16 * d + 0) 42 (λ z. omega arith), lt-ltb (length bytes) 255 h))
        (ends_string (bytes ++ (16 * d + 0) ∷ []))

    ends_coded : (bytes : List ℕ) → length bytes < 255 → Ends (inside (coded id c bytes) l ls)
    ends_coded bytes h = ends_on 48 (coded id c bytes) (code id c bytes 0) (unfold part_of lower hex_value in refl) (ends_code bytes 0 h)

  ends_order : (id : ℕ) (c : Comparison) → Ends (inside (order id c) l ls)
  ends_order id c = ends_on 32 (order id c) (constant id c) (unfold part_of is_blank in refl) (ends_constant id c)

  ends_phase : (ph : Phase) (u : List ℕ) → PhaseHeld ph u → Ends (inside ph l ls)
  unfolding PhaseHeld
  ends_phase (name w) u h = ends_name w h.1 h.2
  ends_phase (hash n v) u h = ends_hash n v h.0 h.1
  ends_phase (item id) u h = ends_item id
  ends_phase (half id c) u h = ends_half id c
  ends_phase (order id c) u h = ends_order id c
  ends_phase (constant id c) u h = ends_constant id c
  ends_phase (digits id c v) u h = ends_digits id c v
  ends_phase (colon id c v) u h = ends_colon id c v
  ends_phase (string id c bytes) u h = ends_string id c bytes
  ends_phase (escape id c bytes) u h = ends_escape id c bytes
  ends_phase (coded id c bytes) u h = ends_coded id c bytes h.1
  ends_phase (code id c bytes d) u h = ends_code id c bytes d h.4

  ends_want : Ends (want l ls)
  ends_want = ends_by 35 (want l ls) (inside (hash 0 0) l ls) (steps.want_hash l ls) (ends_hash 0 0 [] (unfold HashHeld in (refl, refl)))

ends : (st : State) (s : List ℕ) → Held st s → Ends st
ends (want l ls) s h = ends_want l ls
ends (inside ph l ls) s h = let k = phase_held ph l ls s h in ends_phase l ls ph k.0 k.1
ends (have t o ls) s h = ends_have t o ls
ends (ampersand t o ls) s h = ends_by 38 (ampersand t o ls) (want (level o (some t)) ls) (steps.second_ampersand t o ls) (ends_want (level o (some t)) ls)
ends (bar t o ls) s h =
    ends_by 124 (bar t o ls) (want (level (some (or_after o t)) none) ls) (steps.second_bar t o ls) (ends_want (level (some (or_after o t)) none) ls)

-- ---- a refused text

-- from a state on: the bytes of `bs` before the place can go on to an accepted text; where the place is within them, no text goes on from it
record Wrong (st : State) (p : ℕ) (bs : List ℕ) (q : ℕ) (why : Reason) : Type 0 where
  follows : p ≤ q
  within : q ≤ p + length bs
  rest : List ℕ
  means : Formula
  begins : run st p (take (q - p) bs ++ rest) ≡ accepted means
  never : q < p + length bs → (more : List ℕ) → run st p (take (suc (q - p)) bs ++ more) ≡ refused q why

refused_place : (p q : ℕ) (why because : Reason) → refused p why ≡ refused q because → p ≡ q
refused_place p q why because e = cc

refused_why : (p q : ℕ) (why because : Reason) → refused p why ≡ refused q because → why ≡ because
refused_why p q why because e = cc

wrong_here : (st : State) (s : List ℕ) (p b : ℕ) (bs : List ℕ) (why : Reason) → Held st s → step st b ≡ halt why → Wrong st p (b ∷ bs) p why
unfolding run moved
wrong_here st s p b bs why g h =
    let e = ends st s g in
    let z : p - p ≡ 0 = omega arith in
    record { follows = omega arith; within = omega arith; rest = e.rest; means = e.means; begins = rw z (e.runs p); never = λ i more. rw (z, h) }

wrong_later : (st s : State) (p b : ℕ) (bs : List ℕ) (q : ℕ) (why : Reason) → step st b ≡ go s → Wrong s (suc p) bs q why → Wrong st p (b ∷ bs) q why
unfolding run moved
wrong_later st s p b bs q why h r =
    let z : q - p ≡ suc (q - suc p) = omega (arith, r.follows) in
    record {
      follows = omega (arith, r.follows);
      within = omega (arith, r.within);
      rest = r.rest;
      means = r.means;
      begins = rw (z, h) r.begins;
      never = λ i more. rw (z, h) (r.never (omega arith) more);
    }

wrong_end : (st : State) (s : List ℕ) (p q : ℕ) (why : Reason) → Held st s → p ≡ q → Wrong st p [] q why
wrong_end st s p q why g e =
    let x = ends st s g in
    let z : q - p ≡ 0 = omega arith in
    record { follows = omega arith; within = omega arith; rest = x.rest; means = x.means; begins = rw z (x.runs p); never = λ i more. absurd (omega arith) }

-- a text that ends too early is refused at its end
ended_place : (f : Formula) (ls : List Level) (p q : ℕ) (why : Reason) → ended f ls p ≡ refused q why → p ≡ q
unfolding ended
ended_place f [] p q why e = let z : ◌≡◌ {A = ℕ} 0 1 = cc in absurd (omega arith)
ended_place f (l ∷ ls) p q why e = refused_place p q reason.Bracket why e

part_place : (part : Part) (l : Level) (ls : List Level) (p q : ℕ) (why : Reason) → ended_in part l ls p ≡ refused q why → p ≡ q
unfolding ended_in
part_place (on ph) l ls p q why e = refused_place p q reason.Connective why e
part_place (whole r) l ls p q why e = refused_place p q reason.Connective why e
part_place (past r) l ls p q why e = ended_place (or_after l.sum (and_after l.product (relation r))) ls p q why e
part_place (stop w) l ls p q why e = refused_place p q w why e

pub end_place : (st : State) (p q : ℕ) (why : Reason) → ending st p ≡ refused q why → p ≡ q
unfolding ending
end_place (want l ls) p q why e = refused_place p q reason.Item why e
end_place (inside ph l ls) p q why e = part_place (part_of ph 0) l ls p q why e
end_place (have t o ls) p q why e = ended_place (or_after o t) ls p q why e
end_place (ampersand t o ls) p q why e = refused_place p q reason.Connective why e
end_place (bar t o ls) p q why e = refused_place p q reason.Connective why e

wrong : (bs : List ℕ) (st : State) (s : List ℕ) (p q : ℕ) (why : Reason) → Held st s → run st p bs ≡ refused q why → Wrong st p bs q why
unfolding run
wrong [] st s p q why g e = wrong_end st s p q why g (end_place st p q why e)
wrong (b ∷ bs) st s p q why g e = by (step st b) refl (held_step st b s g) e (λ r k. wrong bs r (s ++ b ∷ []) (suc p) q why k)
  where
    by : (m : Move) → step st b ≡ m → MoveHeld m (s ++ b ∷ []) → moved m p (λ r. run r (suc p) bs) ≡ refused q why
        → ((r : State) → Held r (s ++ b ∷ []) → run r (suc p) bs ≡ refused q why → Wrong r (suc p) bs q why) → Wrong st p (b ∷ bs) q why
    by (go r) h k z f = wrong_later st r p b bs q why h (f r (moved_held r (s ++ b ∷ []) k) (unfold moved in z))
    by (halt w) h k z f =
        let y : refused p w ≡ refused q why = unfold moved in z in
        rw (← refused_place p q w why y, ← refused_why p q w why y) (wrong_here st s p b bs w g h)

-- ---- the theorem

clash : (p : ℕ) (why : Reason) (f : Formula) → refused p why ≡ accepted f → ⊥
clash p why f e = let z : ◌≡◌ {A = ℕ} 0 1 = cc in omega arith

-- the place of a refused text is the first wrong one
pub first_wrong : (text : List ℕ) (q : ℕ) (why : Reason) → outcome_of text ≡ refused q why → WrongPlace text q
first_wrong text q why e =
    let r = wrong text (want fresh []) [] 0 q why held_start e in
    let z : q - 0 ≡ q = omega arith in
    let begins : outcome_of (take q text ++ r.rest) ≡ accepted r.means = rw z at r.begins in
    let never : q < length text → (more : List ℕ) → outcome_of (take (q + 1) text ++ more) ≡ refused q
    why = (λ h more. rw (add-one q) (rw z at (r.never (omega arith) more))) in
    record {
      within = omega (arith, r.within);
      begins = record { rest = r.rest; means = r.means; reads = sound (take q text ++ r.rest) r.means begins };
      never = λ h b. clash q why b.means (sym (never h b.rest) ∙ complete (take (q + 1) text ++ b.rest) b.means b.reads);
      none = λ f x. clash q why f (sym e ∙ complete text f x);
    }
