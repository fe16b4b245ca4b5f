-- THE THEOREMS: what specs/Promised.antt promises holds of every call.
use mathlib.Core.Path.{◌≡◌, refl, sym, ap, ◌∙◌, subst}
use mathlib.Core.Bool.{Bool, true, false, not, ◌&&◌, cond}
use mathlib.Core.List.Memᴰ
use mathlib.Core.List.{List, [], ◌∷◌, ◌++◌}
use mathlib.Core.Logic.{◌⊎◌, inl, inr, ⊎_elim}
use mathlib.Core.Option.{Option, none, some}
use Prim.Native.Nat.{ℕ, suc, ◌+◌, ◌-◌, ◌≤◌, ◌<◌}
use native.Mathlib.Omega.{arith}
use native.Mathlib.Numerals.{add-one}
use lib.Dec.{leb, eqb}
use lib.ListN.{length, get_or, take, drop}
use lib.Seq.{drop-drop, get_or-drop, take_at, drop_at}
use borrow.Author.Tests.{leb-true, leb-false, lt-leb, eqb-false, eq-eqb, ne_eqb}
use Rattle.header.specs.Items.{Field}
use Rattle.equation.specs.Holds.{Relation, relation_of, holds}
use Rattle.equation.specs.Symbols.{symbols}
use Rattle.equation.specs.Tree.{Tree, parse, truth_on}
use Rattle.equation.specs.Marks.{relations_of}
use Rattle.equation.specs.Answer.{selects}
use Rattle.equation.proofs.Trees.{map_o, Agree, run_same, answer_truth}
use Rattle.equation.proofs.Selects.{selects_truth}
use Rattle.std.proofs.Common.{Some, None, Ok}
use Rattle.std.specs.Prelude as std
use Rattle.table.specs.Table.{files, numbers, times, find_of}
use Rattle.table.specs.Fit.{Distinct}
use Rattle.table.proofs.Finding.{find_number_law}
use Rattle.files.specs.View.{record_at}
use Rattle.files.specs.Selection.{numbers_at, chosen}
use Rattle.why.specs.declared.Explained.{Explained}
use Rattle.why.specs.Run.{Result, join_of}
use Rattle.why.specs.Answer.{Whys, whys, refused_by, sizes_fit, items_at, time_at, older_of, told, deliver, reasons_on, file_why, found_why, tree_why, why_of}
use Rattle.reasons.specs.Promised.{In, shown, outcome_with, truth_of, Decides, Listed, list_of, Promised, Promises}
use Rattle.why.proofs.Reasoned.{reasoned, leaf_with, reasoned_run, leaves_agree}
use Rattle.why.proofs.Answers.{Fit, fit_of, store_of}
use Rattle.reasons.proofs.Numbers.{size, parse_numbers, rising_length, reasons_rise, reasons_one}
use Rattle.reasons.proofs.Deciding.{T, R, reasons_truth, reasons_enough, reasons_needed}
use Rattle.reasons.proofs.Listing.{chosen_in, chosen_back, number_in, number_back, select_short, list_is}

-- ---- the relations of an equation by their numbers

-- whether a number stands in a list
elem : ℕ → List ℕ → Bool
elem n [] = false
elem n (m ∷ ms) = cond (eqb n m) true (elem n ms)

in_elem : (n : ℕ) (ns : List ℕ) → In n ns → elem n ns ≡ true
unfolding elem
in_elem n [] m = absurd (Memᴰ.not-nil m)
in_elem n (x ∷ ns) m = go (eqb n x) refl (in_elem n ns)
  where
    go : (t : Bool) → eqb n x ≡ t → (In n ns → elem n ns ≡ true) → cond t true (elem n ns) ≡ true
    go true e ih = refl
    go false e ih = ⊎_elim (λ (d : n ≡ x). absurd (eqb-false n x e d)) ih (Memᴰ.cases_cons m)

not_elem : (n : ℕ) (ns : List ℕ) → (In n ns → ⊥) → elem n ns ≡ false
unfolding elem
not_elem n [] h = refl
not_elem n (x ∷ ns) h = rw (ne_eqb n x (λ e. h (Memᴰ.head e))) (not_elem n ns (λ m. h (Memᴰ.tail m)))

module _ (fields : List Field) (all : List Relation) where
  by_number : (k : ℕ) (rs : List Relation) → rs ≡ drop k all
      → Agree (λ j r. holds r fields) (λ j r. holds (get_or all (j + 1 - 1) (relation_of 0 0 [])) fields) k rs
  by_number k [] e = tt
  by_number k (r ∷ rs) e =
      let z : k + 1 - 1 ≡ k = omega arith in
      let y : k + 0 ≡ k = omega arith in
      let first : get_or all k (relation_of 0 0 []) ≡ r =
      rw y at (sym (get_or-drop k all 0 (relation_of 0 0 [])) ∙ ap (λ (l : List Relation). get_or l 0 (relation_of 0 0 [])) (sym e)) in
      let others : rs ≡ drop (suc k) all = rw (add-one k) at (ap (λ (l : List Relation). drop 1 l) e ∙ drop-drop 1 k all) in
      (rw (z, first), by_number (suc k) rs others)

module _ (eq : List ℕ) (t : Tree) (e : parse eq ≡ some t) (short : length eq ≤ 2047) (fields : List Field) where
  abbrev g : ℕ → Bool
  g n = shown eq fields n

  -- on the items of a header the relations have the truths shown
  same : reasoned (λ k r. holds r fields) t ≡ reasoned (λ k r. g (k + 1)) t
  same =
      some_is _ _
      (sym (ap (map_o (reasoned (λ k r. holds r fields))) e) ∙ reasoned_run (λ k r. holds r fields) eq
      ∙ run_same (leaf_with (λ k r. holds r fields)) (leaf_with (λ k r. g (k + 1))) (join_of true) (join_of false) 0 (symbols eq) []
      (leaves_agree (λ k r. holds r fields) (λ k r. g (k + 1)) 0 (relations_of eq) (by_number fields (relations_of eq) 0 (relations_of eq) refl))
      ∙ sym (reasoned_run (λ k r. g (k + 1)) eq) ∙ ap (map_o (reasoned (λ k r. g (k + 1)))) e)
    where
      some_is : (a b : Result) → some a ≡ some b → a ≡ b
      some_is a b e = cc

  truth_same : truth_on fields t ≡ T g t
  truth_same = ap (λ (x : Result). x.truth) same

  reasons_same : reasons_on fields t ≡ R g t
  reasons_same = ap (λ (x : Result). x.reasons) same

  with_truths : (h : ℕ → Bool) → outcome_with h eq ≡ truth_of (T h t)
  with_truths h = answer_truth eq short (λ k r. h (k + 1)) t e

  -- all named ones but one as they are, and all others turned
  module _ (n : ℕ) where
    turned : ℕ → Bool
    turned m = cond (elem m (R g t) && not (eqb m n)) (T g t) (not (T g t))

    kept : (m : ℕ) → In m (R g t) → (m ≡ n → ⊥) → turned m ≡ g m
    unfolding turned
    kept m i ne = rw (in_elem m (R g t) i, ne_eqb m n ne) (sym (reasons_truth g m t i))

    itself : In n (R g t) → turned n ≡ not (T g t)
    unfolding turned
    itself i = rw (in_elem n (R g t) i, eq-eqb n n refl)

    unnamed : (m : ℕ) → (In m (R g t) → ⊥) → turned m ≡ not (T g t)
    unfolding turned
    unnamed m h = rw (not_elem m (R g t) h)

    changes : In n (R g t) → outcome_with turned eq ≡ truth_of (not (T g t))
    changes i =
        with_truths turned
        ∙ ap truth_of (reasons_needed g turned n 0 t (parse_numbers eq t e).numbered i (itself i) unnamed)

  decides_shown : Decides eq fields (T g t) (R g t)
  decides_shown =
      record {
        outcome = answer_truth eq short (λ k r. holds r fields) t e ∙ ap truth_of truth_same;
        rising =
            let p = parse_numbers eq t e in
            let z : 0 + size t ≡ length (relations_of eq) = omega (arith, p.all) in
            rw z at (reasons_rise (λ k r. g (k + 1)) 0 t p.numbered);
        one = reasons_one (λ k r. g (k + 1)) t;
        truths = λ n i. reasons_truth g n t i;
        enough = λ h s. with_truths h ∙ ap truth_of (reasons_enough g h t s);
        needed = λ n i. (turned n, kept n, changes n i);
      }

  -- THE THEOREM on the relations named
  pub decides : Decides eq fields (truth_on fields t) (reasons_on fields t)
  decides = rw (truth_same, reasons_same) decides_shown

-- ---- the answer of a call

module _ (eq : List ℕ) (number : ℕ) (disk owner table : List ℕ) (most : ℕ) (named : List ℕ) where
  abbrev W : Whys
  W = why_of eq number disk owner table most named

  -- what 33 is for
  abbrev For33 : Type 0
  For33 = (sizes_fit (length eq) (length disk) (length owner) (length table) most ≡ false) ⊎ (length named < length (relations_of eq))

  -- refused, with nothing else told and nothing written
  record Refuses : Type 0 where
    by : ℕ
    some_number : by ≡ 0 → ⊥
    for_33 : by ≡ 33 → For33
    is : W ≡ whys (refused_by by) named

  -- or answered on a complete file
  record Answers : Type 0 where
    tree : Tree
    parsed : parse eq ≡ some tree
    fit : Fit (length eq) (length disk) (length owner) (length table) most
    place : ℕ
    found : find_of (files table) number ≡ Some place
    complete : time_at table place ≡ 0 → ⊥
    room : length (reasons_on (items_at disk owner table place) tree) ≤ length named
    is : W ≡ whys (Ok (told (truth_on (items_at disk owner table place) tree) (older_of eq disk owner table (time_at table place)) most
        (length (reasons_on (items_at disk owner table place) tree))))
        (reasons_on (items_at disk owner table place) tree ++ drop (length (reasons_on (items_at disk owner table place) tree)) named)

  data Case : Type 0 where
    refuses : Refuses → Case
    answers : Answers → Case

  abbrev rs : Tree → ℕ → List ℕ
  rs t p = reasons_on (items_at disk owner table p) t

  case : Case
  unfolding why_of tree_why found_why file_why deliver
  case = sizes (sizes_fit (length eq) (length disk) (length owner) (length table) most) refl
    where
      no : (n : ℕ) → (n ≡ 0 → ⊥) → (n ≡ 33 → For33) → W ≡ whys (refused_by n) named → Case
      no n z w e = refuses (record { by = n; some_number = z; for_33 = w; is = e })

      few : (t : Tree) → parse eq ≡ some t → length eq ≤ 2047 → (place : ℕ) → length (rs t place) ≤ length (relations_of eq)
      few t p h place =
          let k = rising_length 0 (length (relations_of eq)) (rs t place) (omega arith) (decides eq t p h (items_at disk owner table place)).rising in
          omega arith

      room : (f : sizes_fit (length eq) (length disk) (length owner) (length table) most ≡ true) (t : Tree) (p : parse eq ≡ some t) (place : ℕ)
          → find_of (files table) number ≡ Some place → eqb (time_at table place) 0 ≡ false → (b : Bool) → leb (length (rs t place)) (length named) ≡ b → Case
      room f t p place d c true h =
          answers (record {
            tree = t;
            parsed = p;
            fit = fit_of (length eq) (length disk) (length owner) (length table) most f;
            place = place;
            found = d;
            complete = eqb-false (time_at table place) 0 c;
            room = leb-true (length (rs t place)) (length named) h;
            is = rw (f, p, d, c, h);
          })
      room f t p place d c false h =
          let k = few t p (fit_of (length eq) (length disk) (length owner) (length table) most f).short place in
          let l = leb-false (length (rs t place)) (length named) h in
          no 33 (λ z. omega arith) (λ z. inr (omega arith)) (rw (f, p, d, c, h))

      time : (f : sizes_fit (length eq) (length disk) (length owner) (length table) most ≡ true) (t : Tree) (p : parse eq ≡ some t) (place : ℕ)
          → find_of (files table) number ≡ Some place → (b : Bool) → eqb (time_at table place) 0 ≡ b → Case
      time f t p place d true c = no 11 (λ z. omega arith) (λ z. absurd (omega arith)) (rw (f, p, d, c))
      time f t p place d false c = room f t p place d c (leb (length (rs t place)) (length named)) refl

      found : (f : sizes_fit (length eq) (length disk) (length owner) (length table) most ≡ true) (t : Tree) (p : parse eq ≡ some t)
          → (o : std.Option ℕ) → find_of (files table) number ≡ o → Case
      found f t p None d = no 4 (λ z. omega arith) (λ z. absurd (omega arith)) (rw (f, p, d))
      found f t p (Some place) d = time f t p place d (eqb (time_at table place) 0) refl

      tree : sizes_fit (length eq) (length disk) (length owner) (length table) most ≡ true → (o : Option Tree) → parse eq ≡ o → Case
      tree f none p = no 8 (λ z. omega arith) (λ z. absurd (omega arith)) (rw (f, p))
      tree f (some t) p = found f t p (find_of (files table) number) refl

      sizes : (b : Bool) → sizes_fit (length eq) (length disk) (length owner) (length table) most ≡ b → Case
      sizes true f = tree f (parse eq) refl
      sizes false f = no 33 (λ z. omega arith) (λ z. inl f) (rw f)

  -- ---- what a refusal promises

  abbrev P : Whys → Type 0
  P w = Promised eq number disk owner table most named w.answer w.named

  refused_same : (n m : ℕ) → refused_by n ≡ refused_by m → n ≡ m
  refused_same n m e = cc

  refused_not_told : (n : ℕ) (t : Explained) → refused_by n ≡ Ok t → ⊥
  refused_not_told n t e = let z : ◌≡◌ {A = ℕ} 0 1 = cc in omega arith

  told_same : (s t : Explained) → ◌≡◌ {A = std.Result Explained ℕ} (Ok s) (Ok t) → s ≡ t
  told_same s t e = cc

  refused_promised : (n : ℕ) → (n ≡ 0 → ⊥) → (n ≡ 33 → For33) → P (whys (refused_by n) named)
  refused_promised n z w =
      record {
        refusal = λ m y. ((λ i. z (refused_same n m y ∙ i)), refl);
        room = λ y. w (refused_same n 33 y);
        decided = λ t y. absurd (refused_not_told n t y);
        listed = λ t y. absurd (refused_not_told n t y);
      }

  -- ---- what an answer promises

  module _ (a : Answers) where
    abbrev items : List Field
    items = items_at disk owner table a.place

    abbrev reasons_of : List ℕ
    reasons_of = reasons_on items a.tree

    abbrev m : Bool
    m = truth_on items a.tree

    abbrev older : ℕ
    older = older_of eq disk owner table (time_at table a.place)

    abbrev E : Explained
    E = told m older most (length reasons_of)

    abbrev named' : List ℕ
    named' = reasons_of ++ drop (length reasons_of) named

    -- what is told
    record Tells : Type 0 where
      matched : E.matched ≡ m
      beyond : E.beyond ≡ cond m (leb most older) false
      count : E.count ≡ length reasons_of

    tells : Tells
    unfolding told
    tells = record { matched = refl; beyond = refl; count = refl }

    abbrev Decided : Explained → Type 0
    Decided t = (place : ℕ) × (find_of (files table) number ≡ Some place) × (0 < time_at table place)
        × Decides eq (items_at disk owner table place) t.matched (take t.count named')
        × (t.count ≤ length named) × (drop t.count named' ≡ drop t.count named)

    answered_decided : Decided E
    unfolding told
    answered_decided = (
      a.place,
      a.found,
      (let k = a.complete in omega arith),
      rw (take_at reasons_of (drop (length reasons_of) named) (length reasons_of) refl) (decides eq a.tree a.parsed a.fit.short items),
      a.room,
      drop_at reasons_of (drop (length reasons_of) named) (length reasons_of) refl,
    )

    module _ (dn : Distinct (numbers (files table))) (dt : Distinct (times (files table))) (short : length eq ≤ 256) where
      matches : selects eq items ≡ m
      matches = selects_truth eq a.tree items a.fit.short a.parsed

      number_is : (record_at table a.place).number ≡ number
      number_is = find_number_law (files table) number a.place a.found

      here : m ≡ true → cond m (leb most older) false ≡ false → In number (numbers_at table (chosen most eq disk owner table))
      here e b =
          let l : leb most older ≡ false = rw e at b in
          subst (λ (n : ℕ). In n (numbers_at table (chosen most eq disk owner table))) number_is
          (number_back table (chosen most eq disk owner table) a.place
          (chosen_back eq disk owner table (store_of disk owner (length eq) (length table) most a.fit) a.fit.most_places short dt a.place most
          (let k = a.complete in omega arith) (matches ∙ e) (leb-false most older l)))

      there : In number (numbers_at table (chosen most eq disk owner table)) → (m ≡ true) × (cond m (leb most older) false ≡ false)
      there i =
          let c = chosen_in eq disk owner table (store_of disk owner (length eq) (length table) most a.fit) a.fit.most_places short dt a.place most
          (number_in table (chosen most eq disk owner table) number a.place dn a.found i) in
          let e : m ≡ true = sym matches ∙ c.0 in
          (e, rw e (lt-leb most older c.1))

      is_listed : Listed number E (numbers_at table (chosen most eq disk owner table))
      is_listed =
          record {
            given = λ e b. here (sym tells.matched ∙ e) (sym tells.beyond ∙ b);
            only = λ i. (tells.matched ∙ (there i).0, tells.beyond ∙ (there i).1);
          }

    answered_promised : P (whys (Ok E) named')
    answered_promised =
        record {
          refusal = λ n z. absurd (refused_not_told n E (sym z));
          room = λ z. absurd (refused_not_told 33 E (sym z));
          decided = λ t z. subst Decided (told_same E t z) answered_decided;
          listed = λ t z dn dt selected s.
              subst (λ (x : Explained). Listed number x (list_of eq disk owner table selected most)) (told_same E t z) (subst (Listed number E) (sym (list_is eq disk owner table selected most s)) (is_listed dn dt (select_short eq (length selected) most s)));
        }

  promised : P W
  promised = go case
    where
      go : Case → P W
      go (refuses r) = subst P (sym r.is) (refused_promised r.by r.some_number r.for_33)
      go (answers a) = subst P (sym a.is) (answered_promised a)

-- THE THEOREM: all of it, of every call
pub promises : Promises
promises eq number disk owner table most named = promised eq number disk owner table most named
