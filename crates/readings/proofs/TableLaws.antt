-- The reason of a refused text is the one of the table. Assumes nothing.
use mathlib.Core.Path.{◌≡◌, refl, sym, ap, ◌∙◌}
use mathlib.Core.Bool.{Bool, true, false, cond}
use mathlib.Core.List.{List, [], ◌∷◌, ◌++◌, append_assoc, append-nil}
use mathlib.Core.Option.{Option, none, some}
use Prim.Native.Nat.{ℕ, suc, ◌+◌, ◌-◌, ◌*◌, ◌<◌}
use native.Mathlib.Omega.{arith}
use native.Mathlib.Numerals.{add-one}
use lib.Dec.{ltb, leb, eqb}
use lib.ListN.{length, length-append}
use lib.Seq.{take_at, drop_at}
use borrow.Author.Tests.{ltb-true, eqb-true, lt-ltb}
use Rattle.text.specs.Match.{lower}
use Rattle.lines.specs.Numerals.{digit, hex_value}
use Rattle.equation.specs.Holds.{Relation}
use Rattle.equation.specs.Symbols.{stars_in}
use Rattle.names.specs.Kinds.{is_blank, is_printed, hex_of, is_hex_digit, every}
use Rattle.names.specs.Names.{items, id_named, starts_name}
use Rattle.names.proofs.Tests as tests
use Rattle.names.proofs.NameLaws as names
use Rattle.names.proofs.SearchLaws.{not_named}
use Rattle.grammar.specs.Formula.{Formula, relation, and_after, or_after}
use Rattle.grammar.specs.Meaning.{is_equality, is_width, width_of, number_relation}
use Rattle.grammar.specs.Grammar.{operator_text}
use Rattle.grammar.specs.Machine as machine
use Rattle.grammar.specs.Machine.{Phase, name, hash, item, order, colon, coded, Part, on, whole, past, stop, lettered, wanted, added, part_of}
use Rattle.grammar.specs.Machine.{Level, level, fresh, State, want, inside, have, ampersand, bar, Move, go, halt, closed, after, taken, step}
use Rattle.grammar.specs.Machine.{Outcome, accepted, refused, ended, ended_in, ending, moved, run, outcome_of}
use Rattle.grammar.specs.declared.Comparison.{Comparison}
use Rattle.grammar.specs.declared.Reason.{Reason}
use Rattle.grammar.specs.declared.Reason.TheVariants as reason
use Rattle.grammar.proofs.RelationSound.{ItemHeld, Front, NumberHeld, StringHeld, RelationHeld, HashHeld, PhaseHeld, PartHeld, held_letters, held_part}
use Rattle.grammar.proofs.Viable.{end_place}
use Rattle.readings.specs.Table.{Place, factor, in_item, operator, constant, digits, width, string, escape, code, connective, half}
use Rattle.readings.specs.Table.{standing, is_a, fifth_star, open_reason, reason_at, Wants, start, blank, opens, ands, ors, Has, related, spaced, closes}
use Rattle.readings.specs.Table.{Named, Compared, Quoted, At, at_factor, in_name, in_hash, at_operator, in_operator, at_constant, in_number, at_width}
use Rattle.readings.specs.Table.{in_string, in_escape, in_coded, in_code, at_connective, in_and, in_or, Told}

-- ---- what a state says of the bytes before it

Stood : State → List ℕ → Type 0
Stood (want l ls) s = Wants (length ls) s
Stood (inside ph l ls) s = (u : List ℕ) × (w : List ℕ) × Wants (length ls) u × PhaseHeld ph w × (s ≡ u ++ w)
Stood (have p o ls) s = Has false (length ls) s
Stood (ampersand p o ls) s = (t : Bool) × (u : List ℕ) × Has t (length ls) u × (s ≡ u ++ 38 ∷ [])
Stood (bar p o ls) s = (t : Bool) × (u : List ℕ) × Has t (length ls) u × (s ≡ u ++ 124 ∷ [])

MoveStood : Move → List ℕ → Type 0
MoveStood (go st) s = Stood st s
MoveStood (halt why) s = Unit {0}

by_test : (t : Bool) (m n : Move) (s : List ℕ) → (t ≡ true → MoveStood m s) → (t ≡ false → MoveStood n s) → MoveStood (cond t m n) s
by_test true m n s f g = f refl
by_test false m n s f g = g refl

stood_close : (t : Bool) (p : Formula) (o : Option Formula) (ls : List Level) (s : List ℕ) → Has t (length ls) s → MoveStood (closed (or_after o p) ls)
    (s ++ 41 ∷ [])
unfolding closed MoveStood Stood
stood_close t p o [] s h = tt
stood_close t p o (l ∷ ls) s h = closes t (length ls) s h

stood_after : (t : Bool) (p : Formula) (o : Option Formula) (ls : List Level) (b : ℕ) (s : List ℕ) → Has t (length ls) s → MoveStood (after p o ls b)
    (s ++ b ∷ [])
unfolding after MoveStood Stood
stood_after t p o ls b s h =
    by_test (is_blank b) _ _ (s ++ b ∷ []) (λ e. spaced t (length ls) s b h e)
    (λ e. by_test (eqb b 38) _ _ (s ++ b ∷ []) (λ f. rw (eqb-true b 38 f) (t, s, h, refl))
    (λ f. by_test (eqb b 124) _ _ (s ++ b ∷ []) (λ g. rw (eqb-true b 124 g) (t, s, h, refl))
    (λ g. by_test (eqb b 41) _ _ (s ++ b ∷ []) (λ i. rw (eqb-true b 41 i) (stood_close t p o ls s h)) (λ i. tt))))

has_relation : (t : Bool) (n : ℕ) (u w : List ℕ) (r : Relation) → Wants n u → RelationHeld t r w → Has t n (u ++ w)
has_relation t n u w r g h = rw (← h.text, ← h.more) (related n u h.written g h.good)

stood_taken : (part : Part) (l : Level) (ls : List Level) (b : ℕ) (u w s : List ℕ) → Wants (length ls) u → PartHeld part w b → s ≡ u ++ w
    → MoveStood (taken part l ls b) (s ++ b ∷ [])
unfolding taken MoveStood Stood PartHeld
stood_taken (on ph) l ls b u w s g h e = (u, w ++ b ∷ [], g, h, rw e (append_assoc u w (b ∷ [])))
stood_taken (whole r) l ls b u w s g h e = rw (e, append_assoc u w (b ∷ [])) (has_relation false (length ls) u (w ++ b ∷ []) r g h)
stood_taken (past r) l ls b u w s g h e = stood_after true (and_after l.product (relation r)) l.sum ls b s (rw e (has_relation true (length ls) u w r g h))
stood_taken (stop why) l ls b u w s g h e = tt

stood_step : (st : State) (b : ℕ) (s : List ℕ) → Stood st s → MoveStood (step st b) (s ++ b ∷ [])
unfolding step MoveStood Stood
stood_step (want l ls) b s h =
    by_test (is_blank b) _ _ (s ++ b ∷ []) (λ e. blank (length ls) s b h e)
    (λ e. by_test (eqb b 40) _ _ (s ++ b ∷ [])
    (λ f. by_test (ltb (length ls) 16) _ _ (s ++ b ∷ []) (λ g. rw (eqb-true b 40 f) (opens (length ls) s h (ltb-true (length ls) 16 g))) (λ g. tt))
    (λ f. by_test (eqb b 35) _ _ (s ++ b ∷ []) (λ g. rw (eqb-true b 35 g) hashed)
    (λ g. stood_taken (part_of (name []) b) l ls b s [] s h (held_letters [] [] b refl) (sym (append-nil s)))))
  where
    hashed : (u : List ℕ) × (w : List ℕ) × Wants (length ls) u × PhaseHeld (hash 0 0) w × (s ++ 35 ∷ [] ≡ u ++ w)
    hashed = (s, 35 ∷ [], h, unfold PhaseHeld HashHeld in ([], (refl, refl), refl), refl)
stood_step (inside ph l ls) b s h = stood_taken (part_of ph b) l ls b h.0 h.1 s h.2 (held_part ph b h.1 h.3) h.4
stood_step (have p o ls) b s h = stood_after false p o ls b s h
stood_step (ampersand p o ls) b s h =
    by_test (eqb b 38) _ _ (s ++ b ∷ [])
    (λ e. rw (eqb-true b 38 e, h.3, append_assoc h.1 (38 ∷ []) (38 ∷ [])) (ands h.0 (length ls) h.1 h.2)) (λ e. tt)
stood_step (bar p o ls) b s h =
    by_test (eqb b 124) _ _ (s ++ b ∷ [])
    (λ e. rw (eqb-true b 124 e, h.3, append_assoc h.1 (124 ∷ []) (124 ∷ [])) (ors h.0 (length ls) h.1 h.2)) (λ e. tt)

-- ---- what a refusal says

record Stop (s : List ℕ) (x : Option ℕ) (why : Reason) : Type 0 where
  wanted : Place
  at : At wanted s
  is : why ≡ reason_at wanted x

stops : (s : List ℕ) (x : Option ℕ) (why : Reason) (p : Place) → At p s → reason_at p x ≡ why → Stop s x why
stops s x why p a e = record { wanted = p; at = a; is = sym e }

no_halt : (X : Type 0) (st : State) (w : Reason) → go st ≡ halt w → X
no_halt X st w e = let z : ◌≡◌ {A = ℕ} 0 1 = cc in absurd (omega arith)

same_reason : (a w : Reason) → halt a ≡ halt w → a ≡ w
same_reason a w e = cc

halt_test : (X : Type 0) (w : Reason) (t : Bool) (m n : Move) → cond t m n ≡ halt w → (t ≡ true → m ≡ halt w → X) → (t ≡ false → n ≡ halt w → X) → X
halt_test X w true m n e f g = f refl e
halt_test X w false m n e f g = g refl e

closed_halts : (f : Formula) (ls : List Level) (w : Reason) → closed f ls ≡ halt w → reason.Connective ≡ w
unfolding closed
closed_halts f [] w e = same_reason reason.Connective w e
closed_halts f (l ∷ ls) w e = no_halt (reason.Connective ≡ w) (have (and_after l.product f) l.sum ls) w e

after_halts : (p : Formula) (o : Option Formula) (ls : List Level) (b : ℕ) (w : Reason) → after p o ls b ≡ halt w → reason.Connective ≡ w
unfolding after
after_halts p o ls b w e =
    halt_test (reason.Connective ≡ w) w (is_blank b) _ _ e (λ t z. no_halt (reason.Connective ≡ w) _ w z)
    (λ t z. halt_test (reason.Connective ≡ w) w (eqb b 38) _ _ z (λ t z. no_halt (reason.Connective ≡ w) _ w z)
    (λ t z. halt_test (reason.Connective ≡ w) w (eqb b 124) _ _ z (λ t z. no_halt (reason.Connective ≡ w) _ w z)
    (λ t z. halt_test (reason.Connective ≡ w) w (eqb b 41) _ _ z (λ t z. closed_halts (or_after o p) ls w z) (λ t z. same_reason reason.Connective w z))))

-- ---- a byte in a relation

module _ (l : Level) (ls : List Level) (b : ℕ) (w : Reason) where
  Halts : Part → Type 0
  Halts part = taken part l ls b ≡ halt w

  -- the reason, if a part halts
  Says : Part → Reason → Type 0
  Says part because = Halts part → because ≡ w

  part_test : (because : Reason) (t : Bool) (m n : Part) → (t ≡ true → Says m because) → (t ≡ false → Says n because) → Says (cond t m n) because
  unfolding Says
  part_test because true m n f g e = f refl e
  part_test because false m n f g e = g refl e

  goes_on : (because : Reason) (ph : Phase) → Says (on ph) because
  unfolding Says Halts taken
  goes_on because ph e = no_halt (because ≡ w) (inside ph l ls) w e

  is_whole : (because : Reason) (r : Relation) → Says (whole r) because
  unfolding Says Halts taken
  is_whole because r e = no_halt (because ≡ w) _ w e

  is_past : (r : Relation) → Says (past r) reason.Connective
  unfolding Says Halts taken
  is_past r e = after_halts (and_after l.product (relation r)) l.sum ls b w e

  says : (why because : Reason) → because ≡ why → Says (stop why) because
  unfolding Says Halts taken
  says why because z e = z ∙ same_reason why w e

  by_letters : (o : Option ℕ) (t : Bool) (letters : List ℕ) → Says (lettered o t letters) reason.Item
  unfolding lettered
  by_letters (some id) t letters = goes_on reason.Item (item id)
  by_letters none true letters = goes_on reason.Item (name letters)
  by_letters none false letters = says reason.Item reason.Item refl

  by_constant : (id : ℕ) (c : Comparison) → Says (wanted id c b) (cond (eqb b 34) reason.Order reason.Constant)
  unfolding wanted
  by_constant id c =
      part_test _ (digit b) _ _ (λ t. goes_on _ (machine.digits id c _))
      (λ t. part_test _ (eqb b 34) _ _ (λ q. part_test _ (is_equality c) _ _ (λ r. goes_on _ (machine.string id c [])) (λ r. says reason.Order _ (rw q)))
      (λ q. says reason.Constant _ (rw q)))

  by_added : (id : ℕ) (c : Comparison) (bytes : List ℕ) (d : ℕ) → Says (added id c bytes d) (cond (fifth_star bytes d) reason.Stars reason.Long)
  unfolding added fifth_star
  by_added id c bytes d =
      part_test _ (cond (eqb d 42) (leb 4 (stars_in bytes)) false) _ _ (λ t. says reason.Stars _ (rw t))
      (λ t. part_test _ (ltb (length bytes) 255) _ _ (λ q. goes_on _ (machine.string id c _)) (λ q. says reason.Long _ (rw t)))

  -- the same where there is room
  by_code : (id : ℕ) (c : Comparison) (bytes : List ℕ) (d : ℕ) → length bytes < 255 → Says (added id c bytes d)
      (cond (fifth_star bytes d) reason.Stars reason.String)
  unfolding added fifth_star
  by_code id c bytes d h =
      part_test _ (cond (eqb d 42) (leb 4 (stars_in bytes)) false) _ _ (λ t. says reason.Stars _ (rw t))
      (λ t. part_test _ (ltb (length bytes) 255) _ _ (λ q. goes_on _ (machine.string id c _))
      (λ q. absurd (tests.clash (ltb (length bytes) 255) (lt-ltb (length bytes) 255 h) q)))

  by_operator : (id : ℕ) → Says (part_of (item id) b) reason.Operator
  unfolding part_of
  by_operator id =
      part_test _ (is_blank b) _ _ (λ t. goes_on _ _) (λ t. part_test _ (eqb b 60) _ _ (λ t. goes_on _ _) (λ t. part_test _ (eqb b 62) _ _ (λ t. goes_on _ _)
      (λ t. part_test _ (eqb b 61) _ _ (λ t. goes_on _ _) (λ t. part_test _ (eqb b 33) _ _ (λ t. goes_on _ _) (λ t. says reason.Operator _ refl)))))

no_star : (b : ℕ) (bytes : List ℕ) → is_printed b ≡ false → fifth_star bytes b ≡ false
unfolding fifth_star
no_star b bytes h = by (eqb b 42) refl
  where
    by : (t : Bool) → eqb b 42 ≡ t → cond t (leb 4 (stars_in bytes)) false ≡ false
    by true e = absurd (tests.clash (is_printed 42) (unfold is_printed in refl) (rw (eqb-true b 42 e) at h))
    by false e = refl

-- ---- the place that a phase is at

place_of : ℕ → Phase → Place
place_of n (name letters) = in_item
place_of n (hash k v) = in_item
place_of n (item id) = operator
place_of n (machine.half id c) = operator
place_of n (order id c) = constant c
place_of n (machine.constant id c) = constant c
place_of n (machine.digits id c v) = digits n
place_of n (colon id c v) = width
place_of n (machine.string id c bytes) = string bytes
place_of n (machine.escape id c bytes) = escape
place_of n (coded id c bytes) = escape
place_of n (machine.code id c bytes d) = code d bytes

hash_digits : (n : ℕ) (ds : List ℕ) (v : ℕ) → HashHeld n ds v → (every is_hex_digit ds ≡ true) × (length ds < 4)
unfolding HashHeld every
hash_digits n [] v h = (refl, omega arith)
hash_digits n (a ∷ []) v h = (rw h.1, omega arith)
hash_digits n (a ∷ b ∷ []) v h = (rw (h.1, h.2), omega arith)
hash_digits n (a ∷ b ∷ c ∷ []) v h = (rw (h.1, h.2, h.3), omega arith)
hash_digits n (a ∷ b ∷ c ∷ d ∷ e) v h = absurd h

named : (id : ℕ) (w : List ℕ) → ItemHeld id w → Named w
named id w h = record { item = h.item; id = id; gap = h.blanks; stands = h.stands; blanks = h.are; text = h.text }

compared : (id : ℕ) (c : Comparison) (w : List ℕ) → Front id c w → Compared c w
compared id c w h =
    record {
      item = h.item;
      id = id;
      before = h.before;
      behind = h.behind;
      stands = h.stands;
      blank_before = h.blank_before;
      blank_behind = h.blank_behind;
      text = h.text;
    }

quoted : (id : ℕ) (c : Comparison) (bytes e w : List ℕ) (h : StringHeld id c bytes e w) → Quoted h.xs e w
quoted id c bytes e w h =
    record { comparison = c; front = h.u; compared = compared id c h.u h.front; equality = h.equality; good = h.good; text = h.text }

-- "<" or ">" with no blank behind it
ordered : (id : ℕ) (c : Comparison) (u w : List ℕ) → ItemHeld id u → w ≡ u ++ operator_text c → Compared c w
ordered id c u w h e =
    record {
      item = h.item;
      id = id;
      before = h.blanks;
      behind = [];
      stands = h.stands;
      blank_before = h.are;
      blank_behind = unfold every in refl;
      text = e ∙ rw h.text (simp (append_assoc, append-nil));
    }

number_held : (id : ℕ) (c : Comparison) (v : ℕ) (w : List ℕ) → NumberHeld id c v w → RelationHeld true (number_relation id c (width_of id v) v) w
number_held id c v w h =
    let k : PhaseHeld (machine.digits id c v) w = unfold PhaseHeld in h in
    unfold part_of digit PartHeld in held_part (machine.digits id c v) 0 w k

module _ (n : ℕ) (u : List ℕ) (g : Wants n u) where
  phase_at : (ph : Phase) (w : List ℕ) → PhaseHeld ph w → At (place_of n ph) (u ++ w)
  unfolding PhaseHeld place_of
  phase_at (name letters) w h = in_name n u w g (rw h.0 h.1) (rw h.0 h.2)
  phase_at (hash k v) w h =
      let d = hash_digits k h.0 v h.1 in
      rw h.2 (in_hash n u h.0 g d.0 d.1)
  phase_at (item id) w h = at_operator n u w g (named id w h)
  phase_at (machine.half id c) w h = rw h.2.2 (in_operator n u h.0 c h.2.0 g (named id h.0 h.1) h.2.1)
  phase_at (order id c) w h = at_constant n u w c g (ordered id c h.0 w h.1 h.3)
  phase_at (machine.constant id c) w h = at_constant n u w c g (compared id c w h)
  phase_at (machine.digits id c v) w h = in_number n (u ++ w) (has_relation true n u w (number_relation id c (width_of id v) v) g (number_held id c v w h))
  phase_at (colon id c v) w h = by h.0 h.1 h.2
    where
      by : (x : List ℕ) → NumberHeld id c v x → w ≡ x ++ 58 ∷ [] → At width (u ++ w)
      by x k e = rw (e, k.text) (at_width n u k.u k.ds c g (compared id c k.u k.front) k.good)
  phase_at (machine.string id c bytes) w h = rw (← h.is) (in_string n u w h.xs g (quoted id c bytes [] w h))
  phase_at (machine.escape id c bytes) w h = in_escape n u w h.0.xs g (quoted id c bytes (92 ∷ []) w h.0)
  phase_at (coded id c bytes) w h = in_coded n u w h.0.xs g (quoted id c bytes (92 ∷ 120 ∷ []) w h.0)
  phase_at (machine.code id c bytes d) w h = by h.0 h.1 h.2 h.3
    where
      by : (a : ℕ) → StringHeld id c bytes (92 ∷ 120 ∷ a ∷ []) w → is_hex_digit a ≡ true → hex_of a ≡ d → At (code d bytes) (u ++ w)
      by a k x e = rw (← e, ← k.is) (in_code n u w k.xs a g (quoted id c bytes (92 ∷ 120 ∷ a ∷ []) w k) x)

-- ---- the reason that it gives

long_escape : (b : ℕ) (bytes : List ℕ) → b ≡ 92 → cond (fifth_star bytes b) reason.Stars (cond (is_printed b) reason.Long reason.String) ≡ reason.Long
unfolding fifth_star is_printed
long_escape b bytes e = rw e

module _ (l : Level) (ls : List Level) (b : ℕ) (w : Reason) where
  phase_says : (ph : Phase) (v : List ℕ) → PhaseHeld ph v → Says l ls b w (part_of ph b) (reason_at (place_of (length ls) ph) (some b))
  unfolding part_of place_of reason_at is_a open_reason PhaseHeld
  phase_says (name letters) v h = by_letters l ls b w _ _ _
  phase_says (hash k x) v h =
      part_test l ls b w _ (is_hex_digit b) _ _ (λ t. part_test l ls b w _ (eqb k 3) _ _ (λ q. goes_on l ls b w _ _) (λ q. goes_on l ls b w _ _))
      (λ t. says l ls b w reason.Item _ refl)
  phase_says (item id) v h = by_operator l ls b w id
  phase_says (machine.half id c) v h = part_test l ls b w _ (eqb b 61) _ _ (λ t. goes_on l ls b w _ _) (λ t. says l ls b w reason.Operator _ refl)
  phase_says (order id c) v h =
      part_test l ls b w _ (eqb b 61) _ _ (λ t. goes_on l ls b w _ _)
      (λ t. part_test l ls b w _ (is_blank b) _ _ (λ q. goes_on l ls b w _ _) (λ q. by_constant l ls b w id c))
  phase_says (machine.constant id c) v h = part_test l ls b w _ (is_blank b) _ _ (λ q. goes_on l ls b w _ _) (λ q. by_constant l ls b w id c)
  phase_says (machine.digits id c x) v h =
      part_test l ls b w _ (digit b) _ _
      (λ t. part_test l ls b w _ (leb (10 * x + (b - 48)) 4294967295) _ _ (λ q. goes_on l ls b w _ _) (λ q. says l ls b w reason.Large _ (rw t)))
      (λ t. part_test l ls b w _ (eqb b 58) _ _ (λ q. goes_on l ls b w _ _) (λ q. rw t (is_past l ls b w _)))
  phase_says (colon id c x) v h = part_test l ls b w _ (is_width b x) _ _ (λ t. is_whole l ls b w _ _) (λ t. says l ls b w reason.Width _ refl)
  phase_says (machine.string id c bytes) v h =
      part_test l ls b w _ (eqb b 34) _ _ (λ t. is_whole l ls b w _ _) (λ t. part_test l ls b w _ (eqb b 92) _ _
      (λ q. part_test l ls b w _ (ltb (length bytes) 255) _ _ (λ r. goes_on l ls b w _ _)
      (λ r. says l ls b w reason.Long _ (long_escape b bytes (eqb-true b 92 q))))
      (λ q. part_test l ls b w _ (is_printed b) _ _ (λ r. rw r (by_added l ls b w id c bytes b))
      (λ r. says l ls b w reason.String _ (rw (no_star b bytes r, r)))))
  phase_says (machine.escape id c bytes) v h =
      part_test l ls b w _ (eqb b 34) _ _ (λ t. goes_on l ls b w _ _) (λ t. part_test l ls b w _ (eqb b 92) _ _ (λ q. goes_on l ls b w _ _)
      (λ q. part_test l ls b w _ (eqb b 120) _ _ (λ r. goes_on l ls b w _ _) (λ r. says l ls b w reason.String _ refl)))
  phase_says (coded id c bytes) v h = part_test l ls b w _ (is_hex_digit b) _ _ (λ t. goes_on l ls b w _ _) (λ t. says l ls b w reason.String _ refl)
  phase_says (machine.code id c bytes d) v h =
      part_test l ls b w _ (is_hex_digit b) _ _ (λ t. rw t (by_code l ls b w id c bytes (16 * d + hex_of b) h.4)) (λ t. says l ls b w reason.String _ (rw t))

-- the text's end
same_refusal : (p q : ℕ) (a w : Reason) → refused p a ≡ refused q w → a ≡ w
same_refusal p q a w e = cc

module _ (l : Level) (ls : List Level) (p q : ℕ) (w : Reason) where
  ends_by : (part : Part) (because : Reason) → part ≡ stop because → ended_in part l ls p ≡ refused q w → because ≡ w
  unfolding ended_in
  ends_by part because z e = same_refusal p q because w (rw z at e)

  ends_open : (f : Formula) (ls : List Level) → ended f ls p ≡ refused q w → open_reason (length ls) none ≡ w
  unfolding ended open_reason
  ends_open f [] e = let z : ◌≡◌ {A = ℕ} 0 1 = cc in absurd (omega arith)
  ends_open f (l ∷ ls) e = same_refusal p q reason.Bracket w e

  phase_ends : (ph : Phase) → ended_in (part_of ph 0) l ls p ≡ refused q w → reason_at (place_of (length ls) ph) none ≡ w
  unfolding place_of reason_at is_a
  phase_ends (name letters) e =
      let s = names.no_zero letters in
      ends_by (part_of (name letters) 0) reason.Item (unfold part_of lettered lower in rw (not_named items (letters ++ 0 ∷ []) s, s)) e
  phase_ends (hash k x) e = ends_by (part_of (hash k x) 0) reason.Item (unfold part_of lower hex_value in refl) e
  phase_ends (item id) e = ends_by (part_of (item id) 0) reason.Operator (unfold part_of is_blank in refl) e
  phase_ends (machine.half id c) e = ends_by (part_of (machine.half id c) 0) reason.Operator (unfold part_of in refl) e
  phase_ends (order id c) e = ends_by (part_of (order id c) 0) reason.Constant (unfold part_of wanted is_blank digit in refl) e
  phase_ends (machine.constant id c) e = ends_by (part_of (machine.constant id c) 0) reason.Constant (unfold part_of wanted is_blank digit in refl) e
  phase_ends (machine.digits id c x) e =
      ends_open (or_after l.sum (and_after l.product (relation (number_relation id c (width_of id x) x)))) ls (unfold part_of ended_in digit in e)
  phase_ends (colon id c x) e = ends_by (part_of (colon id c x) 0) reason.Width (unfold part_of is_width in refl) e
  phase_ends (machine.string id c bytes) e = ends_by (part_of (machine.string id c bytes) 0) reason.String (unfold part_of is_printed in refl) e
  phase_ends (machine.escape id c bytes) e = ends_by (part_of (machine.escape id c bytes) 0) reason.String (unfold part_of in refl) e
  phase_ends (coded id c bytes) e = ends_by (part_of (coded id c bytes) 0) reason.String (unfold part_of lower hex_value in refl) e
  phase_ends (machine.code id c bytes d) e = ends_by (part_of (machine.code id c bytes d) 0) reason.String (unfold part_of lower hex_value in refl) e

-- ---- a byte at which a text is wrong, and the text's end

half_halts : (t : Bool) (st : State) (w : Reason) → cond t (go st) (halt reason.Connective) ≡ halt w → reason.Connective ≡ w
half_halts true st w e = no_halt (reason.Connective ≡ w) st w e
half_halts false st w e = same_reason reason.Connective w e

first_byte : (l : Level) (ls : List Level) (b : ℕ) (w : Reason) → step (want l ls) b ≡ halt w → cond (eqb b 40) reason.Deeper reason.Item ≡ w
unfolding step
first_byte l ls b w e =
    halt_test _ w (is_blank b) _ _ e (λ t z. no_halt _ _ w z)
    (λ t z. halt_test _ w (eqb b 40) _ _ z
    (λ q y. halt_test _ w (ltb (length ls) 16) _ _ y (λ r x. no_halt _ _ w x) (λ r x. rw q (same_reason reason.Deeper w x)))
    (λ q y. halt_test _ w (eqb b 35) _ _ y (λ r x. no_halt _ _ w x) (λ r x. rw q (unnamed x))))
  where
    unnamed : taken (part_of (name []) b) l ls b ≡ halt w → reason.Item ≡ w
    unnamed x = unfold Says Halts part_of in by_letters l ls b w (id_named (lower b ∷ [])) (starts_name (lower b ∷ [])) (lower b ∷ []) x

stop_at : (st : State) (s : List ℕ) (b : ℕ) (w : Reason) → Stood st s → step st b ≡ halt w → Stop s (some b) w
unfolding Stood
stop_at (want l ls) s b w h e = stops s (some b) w (factor (length ls)) (at_factor (length ls) s h) (unfold reason_at is_a in first_byte l ls b w e)
stop_at (inside ph l ls) s b w h e =
    rw h.4 (stops (h.0 ++ h.1) (some b) w (place_of (length ls) ph) (phase_at (length ls) h.0 h.2 ph h.1 h.3)
    (unfold Says Halts in phase_says l ls b w ph h.1 h.3 (unfold step in e)))
stop_at (have p o ls) s b w h e =
    stops s (some b) w (connective (length ls)) (at_connective (length ls) s h) (unfold reason_at open_reason in after_halts p o ls b w (unfold step in e))
stop_at (ampersand p o ls) s b w h e =
    rw h.3 (stops (h.1 ++ 38 ∷ []) (some b) w half (in_and h.0 (length ls) h.1 h.2)
    (unfold reason_at in half_halts (eqb b 38) (want (level o (some p)) ls) w (unfold step in e)))
stop_at (bar p o ls) s b w h e =
    rw h.3 (stops (h.1 ++ 124 ∷ []) (some b) w half (in_or h.0 (length ls) h.1 h.2)
    (unfold reason_at in half_halts (eqb b 124) (want (level (some (or_after o p)) none) ls) w (unfold step in e)))

stop_end : (st : State) (s : List ℕ) (p q : ℕ) (w : Reason) → Stood st s → ending st p ≡ refused q w → Stop s none w
unfolding Stood ending
stop_end (want l ls) s p q w h e =
    stops s none w (factor (length ls)) (at_factor (length ls) s h) (unfold reason_at is_a in same_refusal p q reason.Item w e)
stop_end (inside ph l ls) s p q w h e =
    rw h.4 (stops (h.0 ++ h.1) none w (place_of (length ls) ph) (phase_at (length ls) h.0 h.2 ph h.1 h.3) (phase_ends l ls p q w ph e))
stop_end (have f o ls) s p q w h e =
    stops s none w (connective (length ls)) (at_connective (length ls) s h) (unfold reason_at in ends_open fresh ls p q w (or_after o f) ls e)
stop_end (ampersand f o ls) s p q w h e =
    rw h.3 (stops (h.1 ++ 38 ∷ []) none w half (in_and h.0 (length ls) h.1 h.2) (unfold reason_at in same_refusal p q reason.Connective w e))
stop_end (bar f o ls) s p q w h e =
    rw h.3 (stops (h.1 ++ 124 ∷ []) none w half (in_or h.0 (length ls) h.1 h.2) (unfold reason_at in same_refusal p q reason.Connective w e))

-- ---- the theorem

told_here : (s bs : List ℕ) (q : ℕ) (w : Reason) → q ≡ length s → Stop s (standing bs) w → Told (s ++ bs) q w
told_here s bs q w e h =
    record {
      wanted = h.wanted;
      at = rw (take_at s bs q (sym e)) h.at;
      is = rw (drop_at s bs q (sym e)) h.is;
    }

told_byte : (s : List ℕ) (b : ℕ) (bs : List ℕ) (q : ℕ) (w : Reason) → q ≡ length s → Stop s (some b) w → Told (s ++ b ∷ bs) q w
unfolding standing
told_byte s b bs q w e h = told_here s (b ∷ bs) q w e h

told_end : (s : List ℕ) (q : ℕ) (w : Reason) → q ≡ length s → Stop s none w → Told (s ++ []) q w
unfolding standing
told_end s q w e h = told_here s [] q w e h

same_place : (p q : ℕ) (a w : Reason) → refused p a ≡ refused q w → q ≡ p
same_place p q a w e = cc

told_from : (bs : List ℕ) (st : State) (s : List ℕ) (p q : ℕ) (w : Reason) → Stood st s → p ≡ length s → run st p bs ≡ refused q w → Told (s ++ bs) q w
unfolding run
told_from [] st s p q w h e z = told_end s q w (sym (end_place st p q w z) ∙ e) (stop_end st s p q w h z)
told_from (b ∷ bs) st s p q w h e z =
    by (step st b) refl (stood_step st b s h) z (λ r k. told_from bs r (s ++ b ∷ []) (suc p) q w k (rw e (sym (length-append s (b ∷ []) ∙ add-one (length s)))))
  where
    by : (m : Move) → step st b ≡ m → MoveStood m (s ++ b ∷ []) → moved m p (λ r. run r (suc p) bs) ≡ refused q w
        → ((r : State) → Stood r (s ++ b ∷ []) → run r (suc p) bs ≡ refused q w → Told ((s ++ b ∷ []) ++ bs) q w) → Told (s ++ b ∷ bs) q w
    by (go r) y k x f = rw append_assoc at (f r (unfold MoveStood in k) (unfold moved in x))
    by (halt a) y k x f =
        let i : refused p a ≡ refused q w = unfold moved in x in
        told_byte s b bs q w (same_place p q a w i ∙ e) (stop_at st s b w h (y ∙ ap (λ (r : Reason). halt r) (same_refusal p q a w i)))

-- the reason of a refused text is the one of the table
pub told : (text : List ℕ) (q : ℕ) (why : Reason) → outcome_of text ≡ refused q why → Told text q why
told text q why e = told_from text (want fresh []) [] 0 q why (unfold Stood in start) refl e
