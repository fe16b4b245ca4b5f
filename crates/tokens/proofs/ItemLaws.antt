-- The name that is found at a place is the one that the machine reads there; where none is, the machine stops where the search says. Assumes nothing.
use Rattle.std.proofs.Common.{Result, Ok, Err}
use mathlib.Core.Path.{◌≡◌, refl, sym, ap, ◌∙◌}
use mathlib.Core.Bool.{Bool, true, false, cond}
use mathlib.Core.List.{List, [], ◌∷◌, ◌++◌, map, append_assoc}
use Prim.Native.Nat.{ℕ, suc, ◌+◌, ◌≤◌, ◌<◌}
use native.Mathlib.Omega.{arith}
use lib.Dec.{ltb, eqb}
use lib.ListN.{length, get_or, take, drop, take-append-drop, length-drop}
use lib.Seq.{drop-drop, length-take-le, take-suc, get_or-drop, split_at}
use borrow.Author.Tests.{ltb-true, ltb-false, eqb-true, eqb-false, eq-eqb, ne_eqb}
use Rattle.packet.specs.Names.{bytes_of}
use Rattle.text.specs.Match.{lower}
use Rattle.names.specs.Kinds.{is_blank}
use Rattle.names.specs.Names.{items, small, starts_name}
use Rattle.names.specs.Rows.{shared, found_in, found}
use Rattle.names.proofs.NameLaws as names
use Rattle.names.proofs.SearchLaws.{shared_within, map_append_one, shared_letters, Best, no_letter, some_letters, UnknownAt, found_known, found_unknown}
use Rattle.names.proofs.SearchLaws.{not_named}
use Rattle.grammar.specs.Machine.{name, item, hash, lettered, part_of, Level, State, want, inside, halt, taken, step, refused, ending, from}
use Rattle.grammar.specs.declared.Reason.TheVariants as reason
use Rattle.grammar.proofs.Steps as steps
use Rattle.grammar.proofs.Steps.{Reach, then, one}
use Rattle.grammar.proofs.Relations.{Acts, want_acts, inside_acts, letters_run, next_letter, lower_high}
use Rattle.tokens.specs.Tokens.{hash_from, named_at, item_at}
use Rattle.tokens.specs.Places.{Goes}
use Rattle.tokens.proofs.Places as places
use Rattle.tokens.proofs.TokenLaws.{HashRead, hash_read}

-- ---- what is read

pub record ItemIs (text : List ℕ) (at id e : ℕ) : Type 0 where
  pub forward : at + 5 ≤ e
  pub within : e ≤ length text
  pub runs : (l : Level) (ls : List Level) → Goes text (want l ls) at (inside (item id) l ls) e

abbrev pub ItemRead : List ℕ → ℕ → Result (ℕ × ℕ) ℕ → Type 0
ItemRead text at (Ok (id, e)) = ItemIs text at id e
ItemRead text at (Err p) = (l : Level) (ls : List Level) → from (want l ls) at text ≡ refused p reason.Item

-- ---- the machine

-- a letter with which no name goes on
no_name : (l : Level) (ls : List Level) (w : List ℕ) (b : ℕ) → starts_name (w ++ lower b ∷ []) ≡ false → taken (part_of (name w) b) l ls b ≡ halt reason.Item
unfolding part_of lettered taken
no_name l ls w b s = rw (not_named items (w ++ lower b ∷ []) s, s)

-- the text's end in a name
end_name : (w : List ℕ) (p : ℕ) (l : Level) (ls : List Level) → ending (inside (name w) l ls) p ≡ refused p reason.Item
end_name w p l ls =
    let s = names.no_zero w in
    places.ended_by (name w) reason.Item p (unfold part_of lettered lower in rw (not_named items (w ++ 0 ∷ []) s, s)) l ls

module _ (l : Level) (ls : List Level) where
  -- letters that begin a name, with d and r still to come
  prefix_run : (w : List ℕ) (st : State) (x s : List ℕ) (d : ℕ) (r : List ℕ) (p : ℕ) (bs : List ℕ) → Acts st x l ls → 0 < length w → names.walks x
      (w ++ d ∷ r) ≡ true → map lower s ≡ w
      → Reach st p (s ++ bs) (inside (name (x ++ w)) l ls) bs
  prefix_run [] st x s d r p bs a n h e = absurd (omega arith)
  prefix_run (c ∷ w) st x [] d r p bs a n h e = let z : ◌≡◌ {A = ℕ} 0 1 = cc in absurd (omega arith)
  prefix_run (c ∷ []) st x (b ∷ y ∷ s) d r p bs a n h e = let z : ◌≡◌ {A = ℕ} 0 1 = cc in absurd (omega arith)
  prefix_run (c ∷ []) st x (b ∷ []) d r p bs a n h e =
      let f : lower b ≡ c = cc in
      let k = names.walk x c d r h in
      one st (inside (name (x ++ c ∷ [])) l ls) p b bs (a b (lower_high b c f k.high) ∙ next_letter l ls x b c f k.no_id k.starts)
  prefix_run (c ∷ c2 ∷ w) st x (b ∷ s) d r p bs a n h e =
      let f : lower b ≡ c = cc in
      let g : map lower s ≡ c2 ∷ w = cc in
      let k = names.walk x c c2 (w ++ d ∷ r) h in
      let j : (x ++ c ∷ []) ++ c2 ∷ w ≡ x ++ c ∷ c2 ∷ w = append_assoc x (c ∷ []) (c2 ∷ w) in
      then (one st (inside (name (x ++ c ∷ [])) l ls) p b (s ++ bs) (a b (lower_high b c f k.high) ∙ next_letter l ls x b c f k.no_id k.starts))
      (λ q. rw (← j) (prefix_run (c2 ∷ w) (inside (name (x ++ c ∷ [])) l ls) (x ++ c ∷ []) s d r q bs (inside_acts l ls (x ++ c ∷ [])) (omega arith)
      k.further g))

walks_full : (cs ds : List ℕ) → cs ≡ ds → names.walks [] cs ≡ true → names.walks [] ds ≡ true
walks_full cs ds e h = rw (← e) h

split_place : (p q n : ℕ) (bs rest : List ℕ) → q + length rest ≡ p + length bs → length bs ≡ n + length rest → q ≡ p + n
split_place p q n bs rest h i = omega arith

-- the first n bytes, and the others
parts : (n : ℕ) (bs : List ℕ) → n ≤ length bs → length bs ≡ n + length (drop n bs)
parts n bs h = omega (arith, length-drop n bs)

module _ (text : List ℕ) (at : ℕ) (within : at ≤ length text) (blank : is_blank (get_or text at 0) ≡ false) (no_open : get_or text at 0 ≡ 40 → ⊥)
    (no-hash : get_or text at 0 ≡ 35 → ⊥) where
  rest : List ℕ
  rest = drop at text

  -- from a place on, the same from a later one
  later : (st s : State) (n : ℕ) → n ≤ length (drop at text) → Reach st at (take n (drop at text) ++ drop n (drop at text)) s (drop n (drop at text))
      → Goes text st at s (at + n)
  later st s n h r =
      let e : take n (drop at text) ++ drop n (drop at text) ≡ drop at text = take-append-drop n (drop at text) in
      let q : r.place ≡ at + n = split_place at r.place n (drop at text) (drop n (drop at text)) (rw e at r.moves) (parts n (drop at text) h) in
      (rw e at r.runs) ∙ rw (q, drop-drop n at text)

  pub name_known : (id n : ℕ) → found (drop at text) ≡ Ok (id, n) → ItemIs text at id (at + n)
  name_known id n e =
      let k = found_known items 0 (drop at text) id n names.all_listed e in
      record {
        forward = omega (arith, k.five);
        within = omega (arith, k.within, length-drop at text);
        runs = λ l ls. later (want l ls) (inside (item id) l ls) n k.within
            (letters_run l ls k.letters (want l ls) [] (take n (drop at text)) id at (drop n (drop at text)) (want_acts l ls)
            (omega (arith, k.five, k.size)) k.walks k.named k.spelled);
      }

  -- no name goes on with the next byte
  stops_at : (l : Level) (ls : List Level) (st : State) (w : List ℕ) (p : ℕ) → ending st p ≡ refused p reason.Item
      → ((b : ℕ) → b ≡ get_or text p 0 → step st b ≡ taken (part_of (name w) b) l ls b)
      → (p < length text → starts_name (w ++ lower (get_or text p 0) ∷ []) ≡ false) → from st p text ≡ refused p reason.Item
  stops_at l ls st w p e a h = by (ltb p (length text)) refl
    where
      by : (t : Bool) → ltb p (length text) ≡ t → from st p text ≡ refused p reason.Item
      by true z =
          let s = h (ltb-true p (length text) z) in
          places.halts text p st reason.Item (ltb-true p (length text) z)
          (a (get_or text p 0) refl ∙ no_name l ls w (get_or text p 0) s)
      by false z = places.ends text p st (ltb-false p (length text) z) ∙ e

  next_letters : (n : ℕ) → n < length (drop at text) → map lower (take (suc n) (drop at text)) ≡ map lower (take n (drop at text)) ++ lower
      (get_or text (at + n) 0) ∷ []
  next_letters n h = rw (take-suc (drop at text) n 0 h, get_or-drop at text n 0) (map_append_one (take n (drop at text)) (get_or text (at + n) 0))

  module _ (l : Level) (ls : List Level) (n : ℕ) (u : UnknownAt items 0 (drop at text) n) where
    no_more_law : at + n < length text → starts_name (map lower (take n (drop at text)) ++ lower (get_or text (at + n) 0) ∷ []) ≡ false
    no_more_law h =
        let i : n < length (drop at text) = omega (arith, length-drop at text) in
        rw (← next_letters n i) (u.no_more_law i)

    unknown_first : n ≡ 0 → from (want l ls) at text ≡ refused (at + n) reason.Item
    unknown_first e =
        let z : at + n ≡ at = omega arith in
        let y : at + 0 ≡ at = omega arith in
        let g : at < length text → starts_name ([] ++ lower (get_or text at 0) ∷ []) ≡ false = (λ h. rw (e, y) at (no_more_law (omega arith))) in
        rw z (stops_at l ls (want l ls) [] at (unfold ending in refl)
        (λ b q. steps.want_name l ls b (rw q blank) (λ y. no_open (sym q ∙ y)) (λ y. no-hash (sym q ∙ y))) g)

    unknown_later : 0 < n → (cs : List ℕ) → names.walks [] cs ≡ true → shared cs (drop at text) ≡ n → n < length cs → from (want l ls) at text ≡ refused
        (at + n) reason.Item
    unknown_later i cs w s m =
        let k : n ≤ length (drop at text) = omega (arith, shared_within cs (drop at text)) in
        let v : map lower (take n (drop at text)) ≡ take n cs = rw s at (shared_letters cs (drop at text)) in
        let full : cs ≡ take n cs ++ get_or cs n 0 ∷ drop (suc n) cs = split_at cs n 0 m in
        let wk : names.walks [] (take n cs ++ get_or cs n 0 ∷ drop (suc n) cs) ≡ true = walks_full cs (take n cs ++ get_or cs n 0 ∷ drop (suc n) cs) full w in
        let some : 0 < length (take n cs) = omega (arith, length-take-le n cs (omega arith)) in
        let r = prefix_run l ls (take n cs) (want l ls) [] (take n (drop at text)) (get_or cs n 0) (drop (suc n) cs) at (drop n (drop at text))
        (want_acts l ls) some wk v in
        later (want l ls) (inside (name (take n cs)) l ls) n k r
        ∙ stops_at l ls (inside (name (take n cs)) l ls) (take n cs) (at + n) (end_name (take n cs) (at + n) l ls) (λ b q. unfold step in refl)
        (λ h. rw v at (no_more_law h))

    unknown_from : Best (drop at text) n → from (want l ls) at text ≡ refused (at + n) reason.Item
    unknown_from (no_letter e) = unknown_first e
    unknown_from (some_letters cs w s m) = by (ltb 0 n) refl
      where
        by : (t : Bool) → ltb 0 n ≡ t → from (want l ls) at text ≡ refused (at + n) reason.Item
        by true z = unknown_later (ltb-true 0 n z) cs w s m
        by false z = unknown_first (omega (arith, ltb-false 0 n z))

  pub name_unknown : (n : ℕ) → found (drop at text) ≡ Err n → ItemRead text at (Err (at + n))
  name_unknown n e l ls =
      let u = found_unknown items 0 (drop at text) n names.all_listed (no_letter refl) e in
      unknown_from l ls n u u.best

pub unknown_within : (text : List ℕ) (at : ℕ) → at ≤ length text → (n : ℕ) → found (drop at text) ≡ Err n → at + n ≤ length text
unknown_within text at h n e = by (found_unknown items 0 (drop at text) n names.all_listed (no_letter refl) e).best
  where
    by : Best (drop at text) n → at + n ≤ length text
    by (no_letter z) = omega arith
    by (some_letters cs w s m) = omega (arith, s, shared_within cs (drop at text), length-drop at text)

-- ---- any item

-- at the text's end no name stands
nothing_found : found [] ≡ Err 0
unfolding found_in shared items small bytes_of lower
nothing_found = refl

module _ (text : List ℕ) (at : ℕ) where
  pub item_end : length text ≤ at → Err at ≡ item_at text at
  unfolding item_at named_at
  item_end h =
      let z : at + 0 ≡ at = omega arith in
      rw (places.no_rest text at h, places.end_byte text at (places.no_rest text at h), nothing_found, z)

  module _ (b : ℕ) (hb : b ≡ get_or text at 0) where
    pub item_hash : b ≡ 35 → (r : Result (ℕ × ℕ) ℕ) → r ≡ hash_from 4 0 (at + 1) (drop (at + 1) text) → r ≡ item_at text at
    unfolding item_at
    item_hash h r e = e ∙ rw (eq-eqb (get_or text at 0) 35 (sym hb ∙ h))

    module _ (h : b ≡ 35 → ⊥) (f : Result (ℕ × ℕ) ℕ) (rest : List ℕ) (hr : rest ≡ drop at text) (e : f ≡ found rest) where
      named : item_at text at ≡ named_at at f
      unfolding item_at
      named = rw (ne_eqb (get_or text at 0) 35 (λ z. h (hb ∙ z)), ← hr, ← e)

      pub item_known : (id n : ℕ) → f ≡ Ok (id, n) → Ok (id, at + n) ≡ item_at text at
      unfolding named_at
      item_known id n k = sym (named ∙ rw k)

      pub item_unknown : (n : ℕ) → f ≡ Err n → Err (at + n) ≡ item_at text at
      unfolding named_at
      item_unknown n k = sym (named ∙ rw k)

  -- both stay within the text
  module _ (within : at ≤ length text) (f : Result (ℕ × ℕ) ℕ) (rest : List ℕ) (hr : rest ≡ drop at text) (e : f ≡ found rest) where
    pub known_in : (id n : ℕ) → f ≡ Ok (id, n) → at + n ≤ length text
    known_in id n k =
        let r = found_known items 0 (drop at text) id n names.all_listed (ap found (sym hr) ∙ sym e ∙ k) in
        omega (arith, r.within, length-drop at text)

    pub unknown_in : (n : ℕ) → f ≡ Err n → at + n ≤ length text
    unknown_in n k = unknown_within text at within n (ap found (sym hr) ∙ sym e ∙ k)

module _ (text : List ℕ) (at : ℕ) (within : at ≤ length text) (blank : is_blank (get_or text at 0) ≡ false) (no_open : get_or text at 0 ≡ 40 → ⊥) where
  hash_item : get_or text at 0 ≡ 35 → (r : Result (ℕ × ℕ) ℕ) → HashRead text (at + 1) r → ItemRead text at r
  hash_item h (Ok (id, e)) k =
      record {
        forward = omega (arith, k.0);
        within = k.1;
        runs = λ l ls. places.goes text at 35 (want l ls) (inside (hash 0 0) l ls) h (omega arith) (steps.want_hash l ls) ∙ k.2 l ls;
      }
  hash_item h (Err p) k = λ l ls.
      places.goes text at 35 (want l ls) (inside (hash 0 0) l ls) h (omega arith) (steps.want_hash l ls) ∙ k l ls

  named_item : (get_or text at 0 ≡ 35 → ⊥) → (f : Result (ℕ × ℕ) ℕ) → found (drop at text) ≡ f → ItemRead text at (named_at at f)
  unfolding named_at
  named_item h (Ok (id, n)) e = name_known text at within blank no_open h id n e
  named_item h (Err n) e = name_unknown text at within blank no_open h n e

  pub reads_item : ItemRead text at (item_at text at)
  unfolding item_at
  reads_item = by (eqb (get_or text at 0) 35) refl
    where
      by : (t : Bool) → eqb (get_or text at 0) 35 ≡ t → ItemRead text at (cond t (hash_from 4 0 (at + 1) (drop (at + 1) text)) (named_at at (found (drop at text))))
      by true z = hash_item (eqb-true (get_or text at 0) 35 z) (hash_from 4 0 (at + 1) (drop (at + 1) text)) (hash_read text (at + 1))
      by false z = named_item (eqb-false (get_or text at 0) 35 z) (found (drop at text)) refl
