-- The steps of a formula from their end: the last one, the operands before it, and what is written and counted of them. Assumes nothing.
use mathlib.Core.Path.{◌≡◌, refl, sym, ap, ◌∙◌}
use mathlib.Core.Bool.{cond}
use mathlib.Core.List.{List, [], ◌∷◌, ◌++◌, append_assoc, append-nil}
use Prim.Native.Nat.{ℕ, zero, suc, ◌+◌, ◌-◌, ◌*◌, ◌≤◌, ◌<◌, max}
use native.Mathlib.Omega.{arith}
use lib.Dec.{ltb, eqb}
use lib.ListN.{length, get_or, take, length-append, length-map}
use lib.Seq.{length-take-le, take-suc, take-take, take_at, take-length}
use borrow.Author.Tests.{lt-ltb, le-ltb}
use Rattle.equation.specs.Symbols.{Symbol}
use Rattle.equation.specs.Parsed.{relation_from, symbol_at, symbols_by}
use Rattle.grammar.specs.Formula.{Formula, relation, symbols_of}
use Rattle.writing.specs.Text.{relation_text}
use Rattle.writing.specs.Places.{text_at, nesting_at, connective_text, opening, closing, Stands}
use Rattle.writing.proofs.Operands.{binds, join_text, join_nesting, connective_length, relation_text_law, relation_nesting, few_at, last_of, init_of, split}
use Rattle.writing.proofs.Operands.{snoc_same, is_relation, Joined, is_join, join_init}
use Rattle.writing.specs.Pieces.{Piece}
use Rattle.back.specs.Steps.{binding_of, Ready, Room, Wrote, Measured, Accepted}
use Rattle.back.specs.declared.Place.{Place}
use Rattle.back.specs.declared.Nesting.{Nesting}
use Rattle.writing.proofs.Pieces.{before}

-- ---- the last step

map_snoc : (bytes xs : List ℕ) (s : ℕ) → symbols_by bytes (xs ++ s ∷ []) ≡ symbols_by bytes xs ++ symbol_at bytes s ∷ []
map_snoc bytes [] s = refl
map_snoc bytes (x ∷ xs) s = ap (λ (l : List Symbol). symbol_at bytes x ∷ l) (map_snoc bytes xs s)

map_take : (bytes : List ℕ) (m : ℕ) (l : List ℕ) → symbols_by bytes (take m l) ≡ take m (symbols_by bytes l)
map_take bytes zero l = refl
map_take bytes (suc m) [] = refl
map_take bytes (suc m) (x ∷ l) = ap (λ (k : List Symbol). symbol_at bytes x ∷ k) (map_take bytes m l)

record Last (bytes steps : List ℕ) (e : ℕ) (xs : List Symbol) (s : Symbol) : Type 0 where
  at : e ≡ suc (length xs)
  is : symbol_at bytes (get_or steps (e - 1) 0) ≡ s
  rest : symbols_by bytes (take (e - 1) steps) ≡ xs

last_step : (bytes steps : List ℕ) (e : ℕ) (xs : List Symbol) (s : Symbol) → e ≤ length steps → symbols_by bytes (take e steps) ≡ xs ++ s ∷ []
    → Last bytes steps e xs s
last_step bytes steps e xs s h z =
    let l : e ≡ length xs + 1 = sym (length-take-le e steps h) ∙ sym (length-map (take e steps) (symbol_at bytes)) ∙ ap length z ∙ length-append xs (s ∷ []) in
    let k : e ≡ suc (e - 1) = omega arith in
    let t : take e steps ≡ take (e - 1) steps ++ get_or steps (e - 1) 0 ∷ [] = ap (λ (i : ℕ). take i steps) k ∙ take-suc steps (e - 1) 0 (omega arith) in
    let p = snoc_same (symbols_by bytes (take (e - 1) steps)) xs (symbol_at bytes (get_or steps (e - 1) 0)) s
    (sym (map_snoc bytes (take (e - 1) steps) (get_or steps (e - 1) 0)) ∙ sym (ap (symbols_by bytes) t) ∙ z) in
    record { at = omega arith; is = p.1; rest = p.0 }

module _ (bytes steps : List ℕ) (e : ℕ) (w : Ready bytes steps e) where
  the_last : Last bytes steps e (w.before ++ init_of w.formula) (last_of w.formula)
  the_last =
      last_step bytes steps e (w.before ++ init_of w.formula) (last_of w.formula) w.fits
      (w.is ∙ ap (λ (l : List Symbol). w.before ++ l) (split w.formula) ∙ sym (append_assoc w.before (init_of w.formula) (last_of w.formula ∷ [])))

  pub some_step : 1 ≤ e
  some_step = omega (arith, the_last.at)

  pub step_in : e - 1 < length steps
  step_in = omega (arith, the_last.at, w.fits)

  -- a relation
  module _ (s : ℕ) (hs : s ≡ get_or steps (e - 1) 0) (h : s < 2048) where
    relation_here : w.formula ≡ relation (relation_from bytes s)
    unfolding symbol_at
    relation_here = is_relation w.formula (relation_from bytes s) (sym the_last.is ∙ rw (← hs, lt-ltb s 2048 h))

    relation_before : e - 1 ≡ length w.before
    unfolding init_of
    relation_before =
        let z : w.before ++ init_of w.formula ≡ w.before = rw relation_here (append-nil w.before) in
        omega (arith, the_last.at, ap length z)

    pub relation_deep : (level : ℕ) → Measured (nesting_at level w.formula) w.before (record { at = e - 1; deep = 0 })
    relation_deep level = record { at = relation_before; deep = rw relation_here (sym (relation_nesting level (relation_from bytes s))) }

  -- AND or OR
  module _ (s : ℕ) (hs : s ≡ get_or steps (e - 1) 0) (h : 2048 ≤ s) where
    pub operands : Joined (eqb s 2048) w.formula
    unfolding symbol_at
    operands = is_join w.formula (eqb s 2048) (eqb s 2049) (sym the_last.is ∙ rw (← hs, le-ltb s 2048 h))

    both_before : symbols_by bytes (take (e - 1) steps) ≡ (w.before ++ symbols_of operands.a) ++ symbols_of operands.b
    both_before =
        the_last.rest
        ∙ ap (λ (f : Formula). w.before ++ init_of f) operands.is
        ∙ ap (λ (l : List Symbol). w.before ++ l) (join_init (eqb s 2048) operands.a operands.b)
        ∙ sym (append_assoc w.before (symbols_of operands.a) (symbols_of operands.b))

    both_length : e - 1 ≡ length (w.before ++ symbols_of operands.a) + length (symbols_of operands.b)
    both_length =
        sym (length-take-le (e - 1) steps (omega (arith, w.fits))) ∙ sym (length-map (take (e - 1) steps) (symbol_at bytes)) ∙ ap length both_before
        ∙ length-append (w.before ++ symbols_of operands.a) (symbols_of operands.b)

    pub right : Ready bytes steps (e - 1)
    right = record { formula = operands.b; before = w.before ++ symbols_of operands.a; fits = omega (arith, w.fits); is = both_before }

    module _ (m : ℕ) (hm : m ≡ length (w.before ++ symbols_of operands.a)) where
      pub left_below : m ≤ e - 1
      left_below = omega (arith, both_length)

      pub left : Ready bytes steps m
      left =
          record {
            formula = operands.a;
            before = w.before;
            fits = omega (arith, left_below, w.fits);
            is =
                ap (symbols_by bytes) (sym (take-take m (e - 1) steps left_below)) ∙ map_take bytes m (take (e - 1) steps) ∙ ap (take m) both_before
                ∙ take_at (w.before ++ symbols_of operands.a) (symbols_of operands.b) m (sym hm);
          }

-- ---- how deep brackets are nested

module _ (bytes steps : List ℕ) (e : ℕ) (w : Ready bytes steps e) (s : ℕ) (hs : s ≡ get_or steps (e - 1) 0) (h : 2048 ≤ s) (p : ℕ) (hp : p ≡ binding_of s) where
  binding_is : p ≡ binds (eqb s 2048)
  unfolding binding_of
  binding_is = hp

  module _ (rb : Nesting) (qb : (bytes : List ℕ) (v : Ready bytes steps (e - 1)) → Measured (nesting_at (p + 1) v.formula) v.before rb) where
    pub right_at : rb.at ≡ length (w.before ++ symbols_of (operands bytes steps e w s hs h).a)
    unfolding right
    right_at = (qb bytes (right bytes steps e w s hs h)).at

    pub left_fall : rb.at < e
    left_fall = omega (arith, left_below bytes steps e w s hs h rb.at right_at, some_step bytes steps e w)

    pub left_ready : Ready bytes steps rb.at
    left_ready = left bytes steps e w s hs h rb.at right_at

    module _ (ra : Nesting) (qa : (bytes : List ℕ) (v : Ready bytes steps rb.at) → Measured (nesting_at p v.formula) v.before ra) where
      left_deep : ra.deep ≡ nesting_at p (operands bytes steps e w s hs h).a
      unfolding left_ready left
      left_deep = (qa bytes left_ready).deep

      right_deep : rb.deep ≡ nesting_at (p + 1) (operands bytes steps e w s hs h).b
      unfolding right
      right_deep = (qb bytes (right bytes steps e w s hs h)).deep

      pub both_at : ra.at ≡ length w.before
      unfolding left_ready left
      both_at = (qa bytes left_ready).at

      pub deep_small : (most : ℕ) → most ≡ max ra.deep rb.deep → most ≤ 2 * length steps
      deep_small most hm =
          let o = operands bytes steps e w s hs h in
          omega (
            arith,
            hm,
            left_deep,
            right_deep,
            few_at p o.a,
            few_at (p + 1) o.b,
            both_length bytes steps e w s hs h,
            length-append w.before (symbols_of o.a),
            w.fits,
          )

      both_deep : (level : ℕ) → nesting_at level w.formula ≡ cond (ltb p level) (max ra.deep rb.deep + 1) (max ra.deep rb.deep)
      both_deep level =
          let o = operands bytes steps e w s hs h in
          ap (nesting_at level) o.is ∙ join_nesting (eqb s 2048) level o.a o.b ∙ rw (← binding_is, ← left_deep, ← right_deep)

      pub deeper : (level most : ℕ) → most ≡ max ra.deep rb.deep → p < level
          → Measured (nesting_at level w.formula) w.before (record { at = ra.at; deep = most + 1 })
      deeper level most hm l = record { at = both_at; deep = sym (both_deep level ∙ rw (lt-ltb p level l, ← hm)) }

      pub as_deep : (level most : ℕ) → most ≡ max ra.deep rb.deep → level ≤ p
          → Measured (nesting_at level w.formula) w.before (record { at = ra.at; deep = most })
      as_deep level most hm l = record { at = both_at; deep = sym (both_deep level ∙ rw (le-ltb p level l, ← hm)) }

-- ---- the text

module _ (bytes steps : List ℕ) (e level n : ℕ) (w : Room bytes steps e level n) where
  -- a relation
  module _ (s : ℕ) (hs : s ≡ get_or steps (e - 1) 0) (h : s < 2048) where
    pub relation_stands : Stands bytes s
    relation_stands = rw hs (w.stand (e - 1) (step_in bytes steps e w.ready) (rw (← hs) h))

    text_here : text_at level w.ready.formula ≡ relation_text (relation_from bytes s)
    text_here = ap (text_at level) (relation_here bytes steps e w.ready s hs h) ∙ relation_text_law level (relation_from bytes s)

    pub relation_room : length (relation_text (relation_from bytes s)) ≤ n
    relation_room = omega (arith, w.room, ap length text_here)

    pub relation_wrote : (out : List ℕ) (m : ℕ) (now : List ℕ) → Piece (relation_text (relation_from bytes s)) n out m now
        → Wrote (text_at level w.ready.formula) w.ready.before n out (record { at = e - 1; n = m }) now
    relation_wrote out m now q = record { at = relation_before bytes steps e w.ready s hs h; piece = rw text_here q }

  -- AND or OR
  module _ (s : ℕ) (hs : s ≡ get_or steps (e - 1) 0) (h : 2048 ≤ s) (p : ℕ) (hp : p ≡ binding_of s) where
    abbrev fst : Formula
    fst = (operands bytes steps e w.ready s hs h).a

    abbrev snd : Formula
    snd = (operands bytes steps e w.ready s hs h).b

    text_both : text_at level w.ready.formula ≡ opening p level ++ (text_at p fst ++ (connective_text p ++ (text_at (p + 1) snd ++ closing p level)))
    text_both =
        ap (text_at level) (operands bytes steps e w.ready s hs h).is ∙ join_text (eqb s 2048) level fst snd
        ∙ rw (← binding_is bytes steps e w.ready s hs h p hp)

    four_long : length (connective_text p) ≡ 4
    four_long = rw (binding_is bytes steps e w.ready s hs h p hp) (connective_length (eqb s 2048))

    total : length (opening p level) + (length (text_at p fst) + (4 + (length (text_at (p + 1) snd) + length (closing p level)))) ≤ n
    total =
        omega (
          arith,
          w.room,
          ap length text_both,
          four_long,
          length-append (opening p level) (text_at p fst ++ (connective_text p ++ (text_at (p + 1) snd ++ closing p level))),
          length-append (text_at p fst) (connective_text p ++ (text_at (p + 1) snd ++ closing p level)),
          length-append (connective_text p) (text_at (p + 1) snd ++ closing p level),
          length-append (text_at (p + 1) snd) (closing p level),
        )

    pub closing_room : length (closing p level) ≤ n
    closing_room = omega (arith, total)

    module _ (out : List ℕ) (m : ℕ) (m1 : List ℕ) (q1 : Piece (closing p level) n out m m1) where
      pub right_room : Room bytes steps (e - 1) (p + 1) m
      unfolding right
      right_room = record { ready = right bytes steps e w.ready s hs h; stand = w.stand; room = omega (arith, total, q1.place) }

      module _ (rb : Place) (m2 : List ℕ)
          (qb : (v : Room bytes steps (e - 1) (p + 1) m) → Wrote (text_at (p + 1) v.ready.formula) v.ready.before m m1 rb m2) where
        wrote_right : Wrote (text_at (p + 1) snd) (w.ready.before ++ symbols_of fst) m m1 rb m2
        unfolding right_room right
        wrote_right = qb right_room

        pub connective_room : 4 ≤ rb.n
        connective_room = omega (arith, total, q1.place, wrote_right.piece.place)

        module _ (k : ℕ) (m3 : List ℕ) (q3 : Piece (connective_text p) rb.n m2 k m3) where
          pub left_step : rb.at < e
          left_step = omega (arith, left_below bytes steps e w.ready s hs h rb.at wrote_right.at, some_step bytes steps e w.ready)

          pub left_room : Room bytes steps rb.at p k
          unfolding left
          left_room =
              record {
                ready = left bytes steps e w.ready s hs h rb.at wrote_right.at;
                stand = w.stand;
                room = omega (arith, total, q1.place, wrote_right.piece.place, q3.place, four_long);
              }

          module _ (ra : Place) (m4 : List ℕ) (qa : (v : Room bytes steps rb.at p k) → Wrote (text_at p v.ready.formula) v.ready.before k m3 ra m4)
            where
              wrote_left : Wrote (text_at p fst) w.ready.before k m3 ra m4
              unfolding left_room left
              wrote_left = qa left_room

              pub opening_room : length (opening p level) ≤ ra.n
              opening_room = omega (arith, total, q1.place, wrote_right.piece.place, q3.place, four_long, wrote_left.piece.place)

              pub both_wrote : (r : ℕ) (now : List ℕ) → Piece (opening p level) ra.n m4 r now
                  → Wrote (text_at level w.ready.formula) w.ready.before n out (record { at = ra.at; n = r }) now
              both_wrote r now q =
                  let b = before (text_at (p + 1) snd) (closing p level) n m rb.n out m1 m2 q1 wrote_right.piece in
                  let c = before (connective_text p) (text_at (p + 1) snd ++ closing p level) n rb.n k out m2 m3 b q3 in
                  let a = before (text_at p fst) (connective_text p ++ (text_at (p + 1) snd ++ closing p level)) n k ra.n out m3 m4 c wrote_left.piece in
                  record {
                    at = wrote_left.at;
                    piece = rw text_both
                        (before (opening p level) (text_at p fst ++ (connective_text p ++ (text_at (p + 1) snd ++ closing p level))) n ra.n r out m4 now a q);
                  }

-- ---- a whole equation

module _ (bytes steps : List ℕ) (w : Accepted bytes steps) where
  unfoldable pub all_ready : Ready bytes steps (length steps)
  all_ready = record { formula = w.formula; before = []; fits = omega arith; is = ap (symbols_by bytes) (take-length steps) ∙ w.is }

  unfoldable pub all_room : length bytes ≤ 256 → Room bytes steps (length steps) 0 2560
  unfolding text_at all_ready
  all_room h = record { ready = all_ready; stand = w.stand; room = w.short h }
