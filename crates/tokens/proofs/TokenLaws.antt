-- The readers of single tokens: what they find at a place is what the machine does there. Assumes nothing.
use Rattle.std.proofs.Common.{Result, Ok, Err}
use mathlib.Core.Path.{◌≡◌, refl, sym, subst, ◌∙◌}
use mathlib.Core.Bool.{Bool, true, false, cond}
use mathlib.Core.List.{List, [], ◌∷◌, ◌++◌}
use Prim.Native.Nat.{ℕ, zero, suc, ◌+◌, ◌-◌, ◌*◌, ◌≤◌, ◌<◌}
use native.Mathlib.Omega.{arith}
use native.Mathlib.Numerals.{add-one}
use lib.Dec.{ltb, leb, eqb}
use lib.ListN.{length, get_or, drop}
use borrow.Author.Tests.{ltb-true, ltb-false, leb-true, leb-false, eqb-true, eqb-false, ne_eqb, lt-ltb, eq-eqb, le-ltb, le-leb, lt-leb}
use Rattle.text.specs.Match.{lower}
use Rattle.lines.specs.Numerals.{digit, hex_value}
use Rattle.equation.specs.Relation.{width}
use Rattle.equation.specs.Symbols.{stars_in}
use Rattle.names.specs.Kinds.{is_blank, is_printed, hex_of, is_hex_digit}
use Rattle.names.proofs.Tests as tests
use Rattle.grammar.specs.Meaning.{or_equal, width_of, is_width, number_relation}
use Rattle.grammar.specs.Machine.{Phase, hash, item, half, order, constant, digits, colon, string, escape, coded, code, on, stop, added, part_of, Level, inside}
use Rattle.grammar.specs.declared.Comparison.{Comparison}
use Rattle.grammar.specs.declared.Comparison.TheVariants.{Equal, Greater, Less, NotEqual, GreaterOrEqual, LessOrEqual}
use Rattle.grammar.specs.declared.Reason.{Reason}
use Rattle.grammar.specs.declared.Reason.TheVariants as reason
use Rattle.grammar.proofs.Steps as steps
use Rattle.grammar.proofs.Bytes.{digit_width, width_good}
use Rattle.tokens.specs.Tokens.{hash_from, order_at, second_at, sign_at, amount_from, sized_at, wrong_at, number_of, sized_from, number_at}
use Rattle.tokens.specs.Tokens.{added_at, code_at, escape_at, character_at}
use Rattle.tokens.specs.Places.{Goes, GoesIn, StopsIn, behind}
use Rattle.tokens.specs.declared.Wrong.{Wrong}
use Rattle.tokens.specs.declared.strings.Character.{Character}
use Rattle.tokens.specs.declared.strings.Character.TheVariants as character
use Rattle.tokens.proofs.Places as places

-- ---- hex digits behind "#"

-- the code, n digits further
pub record Hashing (text : List ℕ) (at n v : ℕ) : Type 0 where
  pub most : n ≤ 4
  pub small_0 : n ≤ 0 → v < 1
  pub small_1 : n ≤ 1 → v < 16
  pub small_2 : n ≤ 2 → v < 256
  pub small_3 : n ≤ 3 → v < 4096
  pub small : v < 65536
  pub within : at + n ≤ length text
  pub same : hash_from (4 - n) v (at + n) (drop (at + n) text) ≡ hash_from 4 0 at (drop at text)

pub hashing_none : (text : List ℕ) (at : ℕ) → at ≤ length text → Hashing text at 0 0
hashing_none text at h =
    let z : at + 0 ≡ at = omega arith in
    record {
      most = omega arith;
      small_0 = λ y. omega arith;
      small_1 = λ y. omega arith;
      small_2 = λ y. omega arith;
      small_3 = λ y. omega arith;
      small = omega arith;
      within = omega arith;
      same = rw z;
    }

module _ (text : List ℕ) (at n v : ℕ) (h : Hashing text at n v) (b d : ℕ) (hb : b ≡ get_or text (at + n) 0) (hd : d ≡ hex_of b) (less : n < 4) where
  is_hex_law : d < 16 → is_hex_digit b ≡ true
  is_hex_law i = lt-ltb (hex_of b) 16 (omega (arith, hd))

  no_hex : 16 ≤ d → is_hex_digit b ≡ false
  no_hex i = le-ltb (hex_of b) 16 (omega (arith, hd))

  pub hashing_in : d < 16 → at + n < length text
  hashing_in i = places.byte_in text (at + n) b (sym hb) (tests.hex_high b (is_hex_law i))

  pub hashing_more : d < 16 → Hashing text at (n + 1) (16 * v + d)
  unfolding hash_from
  hashing_more i =
      let z : at + n + 1 ≡ at + (n + 1) = omega arith in
      let s : suc (at + n) ≡ at + (n + 1) = omega arith in
      let m : 4 - n ≡ suc (4 - (n + 1)) = omega arith in
      let r : drop (at + n) text ≡ b ∷ drop (at + (n + 1)) text = rw z at (places.rest_of text (at + n) b (sym hb) (hashing_in i)) in
      let g : hash_from (4 - n) v (at + n) (drop (at + n) text) ≡ hash_from (4 - (n + 1)) (16 * v + d) (at + (n + 1)) (drop (at + (n + 1)) text) =
      rw (m, r, is_hex_law i, hd, s) in
      record {
        most = omega arith;
        small_0 = λ x. absurd (omega arith);
        small_1 = λ x. omega (arith, h.small_0 (omega arith));
        small_2 = λ x. omega (arith, h.small_1 (omega arith));
        small_3 = λ x. omega (arith, h.small_2 (omega arith));
        small = omega (arith, h.small_3 (omega arith));
        within = omega (arith, hashing_in i);
        same = sym g ∙ h.same;
      }

  pub hashing_wrong : 16 ≤ d → Err (at + n) ≡ hash_from 4 0 at (drop at text)
  hashing_wrong i = wrong ∙ h.same
    where
      m : 4 - n ≡ suc (4 - (n + 1))
      m = omega arith

      by : (t : Bool) → ltb (at + n) (length text) ≡ t → Err (at + n) ≡ hash_from (suc (4 - (n + 1))) v (at + n) (drop (at + n) text)
      by true z = unfold hash_from in rw (places.rest_of text (at + n) b (sym hb) (ltb-true (at + n) (length text) z), no_hex i)
      by false z = unfold hash_from in rw (places.no_rest text (at + n) (ltb-false (at + n) (length text) z))

      wrong : Err (at + n) ≡ hash_from (4 - n) v (at + n) (drop (at + n) text)
      wrong = rw m (by (ltb (at + n) (length text)) refl)

pub hashing_done : (text : List ℕ) (at n v : ℕ) → Hashing text at n v → 4 ≤ n → Ok (v, at + n) ≡ hash_from 4 0 at (drop at text)
unfolding hash_from
hashing_done text at n v h i = let z : 4 - n ≡ 0 = omega arith in (rw z at h.same)

-- the machine behind "#" and k digits of the value v, where m + 1 digits more are wanted
HashGoes : List ℕ → ℕ → ℕ → ℕ → ℕ → Result (ℕ × ℕ) ℕ → Type 0
HashGoes text m k v at (Ok (id, e)) = (at + suc m ≡ e) × (e ≤ length text) × GoesIn text (hash k v) at (item id) e
HashGoes text m k v at (Err p) = StopsIn text (hash k v) at p reason.Item

hash_later : (text : List ℕ) (m k v at w : ℕ) → at < length text → GoesIn text (hash k v) at (hash (suc k) w) (at + 1)
    → (r : Result (ℕ × ℕ) ℕ) → HashGoes text m (suc k) w (at + 1) r → HashGoes text (suc m) k v at r
unfolding HashGoes
hash_later text m k v at w i g (Ok (id, e)) h = (omega (arith, h.0), h.1, λ l ls. g l ls ∙ h.2 l ls)
hash_later text m k v at w i g (Err p) h = λ l ls. g l ls ∙ h l ls

hash_goes : (text : List ℕ) (m k v : ℕ) (bs : List ℕ) (at : ℕ) → k + suc m ≡ 4 → drop at text ≡ bs → HashGoes text m k v at (hash_from (suc m) v at bs)
unfolding hash_from HashGoes
hash_goes text m k v [] at h e = places.part_wrong text at (hash k v) reason.Item (rw (places.end_byte text at e) (unfold part_of lower hex_value in refl))
hash_goes text m k v (b ∷ bs) at h e = by (places.next text at b bs e) (λ m j d. hash_goes text m (suc k) (16 * v + hex_of b) bs (at + 1) j d)
    (is_hex_digit b) refl
  where
    Later : Type 0
    Later = (m : ℕ) → suc k + suc m ≡ 4 → drop (at + 1) text ≡ bs → HashGoes text m (suc k) (16 * v + hex_of b) (at + 1)
        (hash_from (suc m) (16 * v + hex_of b) (at + 1) bs)

    hex-part : is_hex_digit b ≡ true → part_of (hash k v) b ≡ cond (eqb k 3) (on (item (16 * v + hex_of b))) (on (hash (suc k) (16 * v + hex_of b)))
    hex-part z = unfold part_of in rw z

    more : places.Next text at b bs → Later → is_hex_digit b ≡ true → (m : ℕ) → k + suc m ≡ 4 → HashGoes text m k v at (hash_from m (16 * v + hex_of b) (suc at) bs)
    more n ih z zero h = (
      omega arith,
      omega (arith, n.inside),
      λ l ls. rw (← add-one at) (places.part_goes text at (hash k v) (item (16 * v + hex_of b)) b n.byte (tests.hex_high b z)
          (hex-part z ∙ rw (eq-eqb k 3 (omega arith))) l ls),
    )
    more n ih z (suc m) h =
        hash_later text m k v at (16 * v + hex_of b) n.inside
        (places.part_goes text at (hash k v) (hash (suc k) (16 * v + hex_of b)) b n.byte (tests.hex_high b z)
        (hex-part z ∙ rw (ne_eqb k 3 (λ y. omega arith))))
        (hash_from (suc m) (16 * v + hex_of b) (suc at) bs)
        (rw (← add-one at) (ih m (omega arith) n.rest))

    by : places.Next text at b bs → Later → (t : Bool) → is_hex_digit b ≡ t → HashGoes text m k v at
        (cond t (hash_from m (16 * v + hex_of b) (suc at) bs) (Err at))
    by n ih true z = more n ih z m h
    by n ih false z = places.part_wrong text at (hash k v) reason.Item (rw n.byte (unfold part_of in rw z))

abbrev pub HashRead : List ℕ → ℕ → Result (ℕ × ℕ) ℕ → Type 0
HashRead text at (Ok (id, e)) = (at + 4 ≡ e) × (e ≤ length text) × GoesIn text (hash 0 0) at (item id) e
HashRead text at (Err p) = StopsIn text (hash 0 0) at p reason.Item

pub hash_read : (text : List ℕ) (at : ℕ) → HashRead text at (hash_from 4 0 at (drop at text))
hash_read text at = by (hash_from 4 0 at (drop at text)) (hash_goes text 3 0 0 (drop at text) at refl refl)
  where
    by : (r : Result (ℕ × ℕ) ℕ) → HashGoes text 3 0 0 at r → HashRead text at r
    by (Ok (id, e)) h = unfold HashGoes in h
    by (Err p) h = unfold HashGoes in h

-- ---- operators

pub record SignIs (text : List ℕ) (at : ℕ) (c : Comparison) (e : ℕ) : Type 0 where
  pub forward : at < e
  pub within : e ≤ length text
  pub runs : (id : ℕ) → GoesIn text (item id) at (constant id c) e

abbrev pub SignRead : List ℕ → ℕ → Result (Comparison × ℕ) ℕ → Type 0
SignRead text at (Ok (c, e)) = SignIs text at c e
SignRead text at (Err p) = (id : ℕ) → StopsIn text (item id) at p reason.Operator

module _ (text : List ℕ) (at b : ℕ) (hb : get_or text at 0 ≡ b) (high : 0 < b) where
  inside_text : at + 1 ≤ length text
  inside_text = omega (arith, places.byte_in text at b hb high)

  order_read : (c : Comparison) → ((id : ℕ) → part_of (item id) b ≡ on (order id c)) → (t : Bool) → eqb (get_or text (at + 1) 0) 61 ≡ t
      → SignRead text at (cond t (Ok (or_equal c, at + 1 + 1)) (Ok (c, at + 1)))
  order_read c h true z =
      let y : get_or text (at + 1) 0 ≡ 61 = eqb-true (get_or text (at + 1) 0) 61 z in
      record {
        forward = omega arith;
        within = omega (arith, places.byte_in text (at + 1) 61 y (omega arith));
        runs = λ id l ls. places.part_goes text at (item id) (order id c) b hb high (h id) l ls
            ∙ places.part_goes text (at + 1) (order id c) (constant id (or_equal c)) 61 y (omega arith) (unfold part_of in refl) l ls;
      }
  order_read c h false z =
      record {
        forward = omega arith;
        within = inside_text;
        runs = λ id l ls. places.part_goes text at (item id) (order id c) b hb high (h id) l ls
            ∙ places.order_ends text (at + 1) id c (eqb-false (get_or text (at + 1) 0) 61 z) l ls;
      }

  second_read : (c : Comparison) → ((id : ℕ) → part_of (item id) b ≡ on (half id c)) → (t : Bool) → eqb (get_or text (at + 1) 0) 61 ≡ t
      → SignRead text at (cond t (Ok (c, at + 1 + 1)) (Err (at + 1)))
  second_read c h true z =
      let y : get_or text (at + 1) 0 ≡ 61 = eqb-true (get_or text (at + 1) 0) 61 z in
      record {
        forward = omega arith;
        within = omega (arith, places.byte_in text (at + 1) 61 y (omega arith));
        runs = λ id l ls. places.part_goes text at (item id) (half id c) b hb high (h id) l ls
            ∙ places.part_goes text (at + 1) (half id c) (constant id c) 61 y (omega arith) (unfold part_of in refl) l ls;
      }
  second_read c h false z = λ id l ls.
      places.part_goes text at (item id) (half id c) b hb high (h id) l ls
      ∙ places.part_wrong text (at + 1) (half id c) reason.Operator
      (unfold part_of in rw (ne_eqb (get_or text (at + 1) 0) 61 (eqb-false (get_or text (at + 1) 0) 61 z))) l ls

pub sign_read : (text : List ℕ) (at : ℕ) → is_blank (get_or text at 0) ≡ false → SignRead text at (sign_at text at)
unfolding sign_at order_at second_at or_equal
sign_read text at blank = by1 (eqb (get_or text at 0) 60) refl
  where
    by4 : eqb (get_or text at 0) 60 ≡ false → eqb (get_or text at 0) 62 ≡ false → eqb (get_or text at 0) 61 ≡ false → (t : Bool) → eqb (get_or text at 0) 33 ≡ t
        → SignRead text at (cond t (cond (eqb (get_or text (at + 1) 0) 61) (Ok (NotEqual, at + 1 + 1)) (Err (at + 1))) (Err at))
    by4 x y z true e =
        second_read text at 33 (eqb-true (get_or text at 0) 33 e) (omega arith) NotEqual (λ id. unfold part_of is_blank in refl)
        (eqb (get_or text (at + 1) 0) 61) refl
    by4 x y z false e = λ id l ls. places.part_wrong text at (item id) reason.Operator (unfold part_of in rw (blank, x, y, z, e)) l ls

    by3 : eqb (get_or text at 0) 60 ≡ false → eqb (get_or text at 0) 62 ≡ false → (t : Bool) → eqb (get_or text at 0) 61 ≡ t
        → SignRead text at (cond t (cond (eqb (get_or text (at + 1) 0) 61) (Ok (Equal, at + 1 + 1)) (Err (at + 1)))
        (cond (eqb (get_or text at 0) 33) (cond (eqb (get_or text (at + 1) 0) 61) (Ok (NotEqual, at + 1 + 1)) (Err (at + 1))) (Err at)))
    by3 x y true e =
        second_read text at 61 (eqb-true (get_or text at 0) 61 e) (omega arith) Equal (λ id. unfold part_of is_blank in refl) (eqb (get_or text (at + 1) 0) 61) refl
    by3 x y false e = by4 x y e (eqb (get_or text at 0) 33) refl

    by2 : eqb (get_or text at 0) 60 ≡ false → (t : Bool) → eqb (get_or text at 0) 62 ≡ t
        → SignRead text at (cond t (cond (eqb (get_or text (at + 1) 0) 61) (Ok (GreaterOrEqual, at + 1 + 1)) (Ok (Greater, at + 1)))
        (cond (eqb (get_or text at 0) 61) (cond (eqb (get_or text (at + 1) 0) 61) (Ok (Equal, at + 1 + 1)) (Err (at + 1)))
        (cond (eqb (get_or text at 0) 33) (cond (eqb (get_or text (at + 1) 0) 61) (Ok (NotEqual, at + 1 + 1)) (Err (at + 1))) (Err at))))
    by2 x true e =
        order_read text at 62 (eqb-true (get_or text at 0) 62 e) (omega arith) Greater (λ id. unfold part_of is_blank in refl) (eqb (get_or text (at + 1) 0) 61) refl
    by2 x false e = by3 x e (eqb (get_or text at 0) 61) refl

    by1 : (t : Bool) → eqb (get_or text at 0) 60 ≡ t
        → SignRead text at (cond t (cond (eqb (get_or text (at + 1) 0) 61) (Ok (LessOrEqual, at + 1 + 1)) (Ok (Less, at + 1)))
        (cond (eqb (get_or text at 0) 62) (cond (eqb (get_or text (at + 1) 0) 61) (Ok (GreaterOrEqual, at + 1 + 1)) (Ok (Greater, at + 1)))
        (cond (eqb (get_or text at 0) 61) (cond (eqb (get_or text (at + 1) 0) 61) (Ok (Equal, at + 1 + 1)) (Err (at + 1)))
        (cond (eqb (get_or text at 0) 33) (cond (eqb (get_or text (at + 1) 0) 61) (Ok (NotEqual, at + 1 + 1)) (Err (at + 1))) (Err at)))))
    by1 true e =
        order_read text at 60 (eqb-true (get_or text at 0) 60 e) (omega arith) Less (λ id. unfold part_of is_blank in refl) (eqb (get_or text (at + 1) 0) 61) refl
    by1 false e = by2 e (eqb (get_or text at 0) 62) refl

-- ---- numbers

-- the code, at a further digit
pub record Counting (text : List ℕ) (at first e v : ℕ) : Type 0 where
  pub within : e ≤ length text
  pub small : v < 4294967296
  pub same : amount_from v e (drop e text) ≡ amount_from first at (drop at text)

module _ (text : List ℕ) (at first : ℕ) where
  pub counting_none : at ≤ length text → first < 4294967296 → Counting text at first at first
  counting_none h s = record { within = h; small = s; same = refl }

  module _ (e v : ℕ) (r : Counting text at first e v) (b : ℕ) (hb : b ≡ get_or text e 0) where
    module _ (d : digit b ≡ true) where
      pub counting_in : e < length text
      counting_in = places.byte_in text e b (sym hb) (omega (arith, tests.digit_least b d))

      pub counting_more : 10 * v + (b - 48) ≤ 4294967295 → Counting text at first (e + 1) (10 * v + (b - 48))
      unfolding amount_from
      counting_more h =
          let g : amount_from v e (drop e text) ≡ amount_from (10 * v + (b - 48)) (e + 1) (drop (e + 1) text) =
          rw (places.rest_of text e b (sym hb) counting_in, d, le-leb (10 * v + (b - 48)) 4294967295 h, add-one e) in
          record { within = omega (arith, counting_in); small = omega arith; same = sym g ∙ r.same }

      pub counting_large : 4294967295 < 10 * v + (b - 48) → Err e ≡ amount_from first at (drop at text)
      unfolding amount_from
      counting_large h = rw (places.rest_of text e b (sym hb) counting_in, d, lt-leb (10 * v + (b - 48)) 4294967295 h) at r.same

    pub counting_done : digit b ≡ false → Ok (v, e) ≡ amount_from first at (drop at text)
    counting_done d = by (ltb e (length text)) refl ∙ r.same
      where
        by : (t : Bool) → ltb e (length text) ≡ t → Ok (v, e) ≡ amount_from v e (drop e text)
        by true z = unfold amount_from in rw (places.rest_of text e b (sym hb) (ltb-true e (length text) z), d)
        by false z = unfold amount_from in rw (places.no_rest text e (ltb-false e (length text) z))

pub record AmountIs (text : List ℕ) (at first v e : ℕ) : Type 0 where
  pub forward : at ≤ e
  pub within : e ≤ length text
  pub stops : digit (get_or text e 0) ≡ false
  pub runs : (id : ℕ) (c : Comparison) → GoesIn text (digits id c first) at (digits id c v) e

abbrev pub AmountRead : List ℕ → ℕ → ℕ → Result (ℕ × ℕ) ℕ → Type 0
AmountRead text at first (Ok (v, e)) = AmountIs text at first v e
AmountRead text at first (Err p) = (id : ℕ) (c : Comparison) → StopsIn text (digits id c first) at p reason.Large

amount_later : (text : List ℕ) (at v w : ℕ) → ((id : ℕ) (c : Comparison) → GoesIn text (digits id c v) at (digits id c w) (at + 1))
    → (r : Result (ℕ × ℕ) ℕ) → AmountRead text (at + 1) w r → AmountRead text at v r
amount_later text at v w g (Ok (x, e)) h =
    record { forward = omega (arith, h.forward); within = h.within; stops = h.stops; runs = λ id c l ls. g id c l ls ∙ h.runs id c l ls }
amount_later text at v w g (Err p) h = λ id c l ls. g id c l ls ∙ h id c l ls

pub amount_read : (text : List ℕ) (bs : List ℕ) (v at : ℕ) → drop at text ≡ bs → at ≤ length text → AmountRead text at v (amount_from v at bs)
unfolding amount_from
amount_read text [] v at e h =
    record { forward = omega arith; within = h; stops = rw (places.end_byte text at e) (unfold digit in refl); runs = λ id c l ls. refl }
amount_read text (b ∷ bs) v at e h =
    by (places.next text at b bs e) (λ d i. amount_read text bs (10 * v + (b - 48)) (at + 1) d i) (digit b) refl
  where
    Later : Type 0
    Later = drop (at + 1) text ≡ bs → at + 1 ≤ length text → AmountRead text (at + 1) (10 * v + (b - 48)) (amount_from (10 * v + (b - 48)) (at + 1) bs)

    more : places.Next text at b bs → Later → digit b ≡ true → (t : Bool) → leb (10 * v + (b - 48)) 4294967295 ≡ t
        → AmountRead text at v (cond t (amount_from (10 * v + (b - 48)) (suc at) bs) (Err at))
    more n ih d true z =
        amount_later text at v (10 * v + (b - 48)) (λ id c. places.part_goes text at (digits id c v) (digits id c (10 * v + (b - 48))) b n.byte
        (omega (arith, tests.digit_least b d)) (steps.digit_more id c v b d (leb-true (10 * v + (b - 48)) 4294967295 z)))
        (amount_from (10 * v + (b - 48)) (suc at) bs) (rw (← add-one at) (ih n.rest (omega (arith, n.inside))))
    more n ih d false z = λ id c. places.part_wrong text at (digits id c v) reason.Large
        (rw n.byte (steps.digit_large id c v b d (leb-false (10 * v + (b - 48)) 4294967295 z)))

    by : places.Next text at b bs → Later → (t : Bool) → digit b ≡ t
        → AmountRead text at v (cond t (cond (leb (10 * v + (b - 48)) 4294967295) (amount_from (10 * v + (b - 48)) (suc at) bs) (Err at))
        (Ok (v, at)))
    by n ih true d = more n ih d (leb (10 * v + (b - 48)) 4294967295) refl
    by n ih false d = record { forward = omega arith; within = h; stops = rw n.byte d; runs = λ id c l ls. refl }

-- the width

pub width_least : (b v : ℕ) → is_width b v ≡ true → 48 ≤ b
unfolding is_width
width_least b v h = by (eqb b 49) refl h
  where
    by2 : (t : Bool) → eqb b 50 ≡ t → cond t (ltb v 65536) (eqb b 52) ≡ true → 48 ≤ b
    by2 true f y = omega (arith, eqb-true b 50 f)
    by2 false f y = omega (arith, eqb-true b 52 y)

    by : (t : Bool) → eqb b 49 ≡ t → cond t (ltb v 256) (cond (eqb b 50) (ltb v 65536) (eqb b 52)) ≡ true → 48 ≤ b
    by true e z = omega (arith, eqb-true b 49 e)
    by false e z = by2 (eqb b 50) refl z

pub record SizeIs (text : List ℕ) (at id v w e : ℕ) : Type 0 where
  pub forward : at ≤ e
  pub within : e ≤ length text
  pub good : width w ≡ true
  pub runs : (c : Comparison) (l : Level) (ls : List Level) → Goes text (inside (digits id c v) l ls) at (behind l ls (number_relation id c w v)) e

abbrev pub SizeRead : List ℕ → ℕ → ℕ → ℕ → Result (ℕ × ℕ) ℕ → Type 0
SizeRead text at id v (Ok (w, e)) = SizeIs text at id v w e
SizeRead text at id v (Err p) = (c : Comparison) → StopsIn text (digits id c v) at p reason.Width

pub size_read : (text : List ℕ) (at id v : ℕ) → at ≤ length text → digit (get_or text at 0) ≡ false → SizeRead text at id v (sized_at text at id v)
unfolding sized_at
size_read text at id v within h = by (eqb (get_or text at 0) 58) refl
  where
    colon-read : get_or text at 0 ≡ 58 → (t : Bool) → is_width (get_or text (at + 1) 0) v ≡ t
        → SizeRead text at id v (cond t (Ok (get_or text (at + 1) 0 - 48, at + 2)) (Err (at + 1)))
    colon-read e true z =
        let y : at + 1 + 1 ≡ at + 2 = omega arith in
        let u : 0 < get_or text (at + 1) 0 = omega (arith, width_least (get_or text (at + 1) 0) v z) in
        record {
          forward = omega arith;
          within = omega (arith, places.byte_in text (at + 1) (get_or text (at + 1) 0) refl u);
          good = digit_width (get_or text (at + 1) 0) v z;
          runs = λ c l ls. places.part_goes text at (digits id c v) (colon id c v) 58 e (omega arith) (steps.digits_colon id c v) l ls
              ∙ (rw y at (places.part_whole text (at + 1) (colon id c v) (number_relation id c (get_or text (at + 1) 0 - 48) v) (get_or text (at + 1) 0) refl u
              (steps.colon_width id c v (get_or text (at + 1) 0) z) l ls));
        }
    colon-read e false z = λ c l ls.
        places.part_goes text at (digits id c v) (colon id c v) 58 e (omega arith) (steps.digits_colon id c v) l ls
        ∙ places.part_wrong text (at + 1) (colon id c v) reason.Width (unfold part_of in rw z) l ls

    by : (t : Bool) → eqb (get_or text at 0) 58 ≡ t
        → SizeRead text at id v (cond t (cond (is_width (get_or text (at + 1) 0) v) (Ok (get_or text (at + 1) 0 - 48, at + 2)) (Err (at + 1)))
        (Ok (width_of id v, at)))
    by true e = colon-read (eqb-true (get_or text at 0) 58 e) (is_width (get_or text (at + 1) 0) v) refl
    by false e =
        record {
          forward = omega arith;
          within = within;
          good = width_good id v;
          runs = λ c l ls. places.number_ends text at id c v h (eqb-false (get_or text at 0) 58 e) l ls;
        }

-- a whole number

pub record NumberIs (text : List ℕ) (at id v w e : ℕ) : Type 0 where
  pub forward : at < e
  pub within : e ≤ length text
  pub good : width w ≡ true
  pub runs : (c : Comparison) (l : Level) (ls : List Level) → Goes text (inside (constant id c) l ls) at (behind l ls (number_relation id c w v)) e

abbrev pub NumberRead : List ℕ → ℕ → ℕ → Result (ℕ × ℕ × ℕ) Wrong → Type 0
NumberRead text at id (Ok (v, w, e)) = NumberIs text at id v w e
NumberRead text at id (Err w) = (c : Comparison) → StopsIn text (constant id c) at w.at w.reason

module _ (text : List ℕ) (at id : ℕ) (d : digit (get_or text at 0) ≡ true) where
  high : 0 < get_or text at 0
  high = omega (arith, tests.digit_least (get_or text at 0) d)

  pub digit_in : at + 1 ≤ length text
  digit_in = omega (arith, places.byte_in text at (get_or text at 0) refl high)

  to_digits : (c : Comparison) → GoesIn text (constant id c) at (digits id c (get_or text at 0 - 48)) (at + 1)
  to_digits c =
      places.part_goes text at (constant id c) (digits id c (get_or text at 0 - 48)) (get_or text at 0) refl high (steps.wants_digit id c (get_or text at 0) d)

  by_size : (v e : ℕ) → AmountIs text (at + 1) (get_or text at 0 - 48) v e → (s : Result (ℕ × ℕ) ℕ) → SizeRead text e id v s → NumberRead text at id (number_of v s)
  unfolding number_of
  by_size v e a (Ok (w, q)) h =
      record {
        forward = omega (arith, a.forward, h.forward);
        within = h.within;
        good = h.good;
        runs = λ c l ls. to_digits c l ls ∙ a.runs id c l ls ∙ h.runs c l ls;
      }
  by_size v e a (Err p) h = λ c l ls. to_digits c l ls ∙ a.runs id c l ls ∙ h c l ls

  by_amount : (r : Result (ℕ × ℕ) ℕ) → AmountRead text (at + 1) (get_or text at 0 - 48) r → NumberRead text at id (sized_from text id r)
  unfolding sized_from
  by_amount (Ok (v, e)) a = by_size v e a (sized_at text e id v) (size_read text e id v a.within a.stops)
  by_amount (Err p) a = λ c l ls. to_digits c l ls ∙ a id c l ls

  pub number_read : NumberRead text at id (number_at text at id)
  unfolding number_at
  number_read =
      rw d (by_amount (amount_from (get_or text at 0 - 48) (at + 1) (drop (at + 1) text))
      (amount_read text (drop (at + 1) text) (get_or text at 0 - 48) (at + 1) refl digit_in))

-- the code, at its returns
module _ (text : List ℕ) (at id b : ℕ) (hb : b ≡ get_or text at 0) where
  pub number_none : digit b ≡ false → Err (wrong_at at reason.Constant) ≡ number_at text at id
  unfolding number_at
  number_none d = rw (← hb, d)

  module _ (d : digit b ≡ true) (r : Result (ℕ × ℕ) ℕ) (ha : r ≡ amount_from (b - 48) (at + 1) (drop (at + 1) text)) where
    by_digits : number_at text at id ≡ sized_from text id r
    unfolding number_at
    by_digits = rw (← hb, d, ← ha)

    pub number_large : (p : ℕ) → r ≡ Err p → Err (wrong_at p reason.Large) ≡ number_at text at id
    unfolding sized_from
    number_large p z = sym (by_digits ∙ rw z)

    module _ (v e : ℕ) (z : r ≡ Ok (v, e)) where
      pub amount_in : e ≤ length text
      amount_in =
          let h = digit_in text at id (rw (← hb) d) in
          let a = amount_read text (drop (at + 1) text) (b - 48) (at + 1) refl h in
          (subst (λ (x : Result (ℕ × ℕ) ℕ). AmountRead text (at + 1) (b - 48) x) (sym ha ∙ z) a).within

      module _ (s : Result (ℕ × ℕ) ℕ) (hs : s ≡ sized_at text e id v) where
        by_width : number_at text at id ≡ number_of v s
        unfolding sized_from
        by_width = by_digits ∙ rw (z, hs)

        pub number_width : (p : ℕ) → s ≡ Err p → Err (wrong_at p reason.Width) ≡ number_at text at id
        unfolding number_of
        number_width p y = sym (by_width ∙ rw y)

        pub number_is : (w q : ℕ) → s ≡ Ok (w, q) → Ok (v, w, q) ≡ number_at text at id
        unfolding number_of
        number_is w q y = sym (by_width ∙ rw y)

-- ---- characters of a string

pub record CharacterIs (text : List ℕ) (at : ℕ) (bytes : List ℕ) (b e : ℕ) : Type 0 where
  pub forward : at < e
  pub within : e ≤ length text
  pub room : length bytes < 255
  pub runs : (id : ℕ) (c : Comparison) → GoesIn text (string id c bytes) at (string id c (bytes ++ b ∷ [])) e

abbrev pub CharacterRead : List ℕ → ℕ → List ℕ → Character → Type 0
CharacterRead text at bytes (character.Is b e) = CharacterIs text at bytes b e
CharacterRead text at bytes character.End = get_or text at 0 ≡ 34
CharacterRead text at bytes (character.Wrong p why) = (id : ℕ) (c : Comparison) → StopsIn text (string id c bytes) at p why

-- a string's bytes, and what stands behind them, to a phase in which a byte completes one
module _ (text : List ℕ) (at : ℕ) (bytes : List ℕ) (p : ℕ) (phase : ℕ → Comparison → Phase) (d : ℕ) (forward : at ≤ p)
    (runs : (id : ℕ) (c : Comparison) → GoesIn text (string id c bytes) at (phase id c) p)
    (parts : (id : ℕ) (c : Comparison) → part_of (phase id c) (get_or text p 0) ≡ added id c bytes d) (high : 0 < get_or text p 0) where
  added_yes : length bytes < 255 → ((id : ℕ) (c : Comparison) → added id c bytes d ≡ on (string id c (bytes ++ d ∷ []))) → CharacterIs text at bytes d (p + 1)
  added_yes h g =
      record {
        forward = omega arith;
        within = omega (arith, places.byte_in text p (get_or text p 0) refl high);
        room = h;
        runs = λ id c l ls. runs id c l ls
            ∙ places.part_goes text p (phase id c) (string id c (bytes ++ d ∷ [])) (get_or text p 0) refl high (parts id c ∙ g id c) l ls;
      }

  added_no : (why : Reason) → ((id : ℕ) (c : Comparison) → added id c bytes d ≡ stop why) → (id : ℕ) (c : Comparison) → StopsIn text
      (string id c bytes) at p why
  added_no why g id c l ls = runs id c l ls ∙ places.part_wrong text p (phase id c) why (parts id c ∙ g id c) l ls

  added_read : CharacterRead text at bytes (added_at p d (length bytes) (stars_in bytes))
  unfolding added_at added
  added_read = by (cond (eqb d 42) (leb 4 (stars_in bytes)) false) refl
    where
      room : cond (eqb d 42) (leb 4 (stars_in bytes)) false ≡ false → (t : Bool) → ltb (length bytes) 255 ≡ t
          → CharacterRead text at bytes (cond t (character.Is d (p + 1)) (character.Wrong p reason.Long))
      room e true z = added_yes (ltb-true (length bytes) 255 z) (λ id c. rw (e, z))
      room e false z = added_no reason.Long (λ id c. rw (e, z))

      by : (t : Bool) → cond (eqb d 42) (leb 4 (stars_in bytes)) false ≡ t
          → CharacterRead text at bytes (cond t (character.Wrong p reason.Stars)
          (cond (ltb (length bytes) 255) (character.Is d (p + 1)) (character.Wrong p reason.Long)))
      by true e = added_no reason.Stars (λ id c. rw e)
      by false e = room e (ltb (length bytes) 255) refl

module _ (text : List ℕ) (at : ℕ) (bytes : List ℕ) where
  module _ (e : get_or text at 0 ≡ 92) (room : length bytes < 255) where
    to_escape : (id : ℕ) (c : Comparison) → GoesIn text (string id c bytes) at (escape id c bytes) (at + 1)
    to_escape id c = places.part_goes text at (string id c bytes) (escape id c bytes) 92 e (omega arith) (steps.string_escape id c bytes room)

    quoted : (b : ℕ) → get_or text (at + 1) 0 ≡ b → 0 < b → ((id : ℕ) (c : Comparison) → part_of (escape id c bytes) b ≡ on (string id c (bytes ++ b ∷ [])))
        → CharacterIs text at bytes b (at + 1 + 1)
    quoted b h i g =
        record {
          forward = omega arith;
          within = omega (arith, places.byte_in text (at + 1) b h i);
          room = room;
          runs = λ id c l ls. to_escape id c l ls ∙ places.part_goes text (at + 1) (escape id c bytes) (string id c (bytes ++ b ∷ [])) b h i (g id c) l ls;
        }

    escape_wrong : (b : ℕ) → get_or text (at + 1) 0 ≡ b → ((id : ℕ) (c : Comparison) → part_of (escape id c bytes) b ≡ stop reason.String)
        → CharacterRead text at bytes (character.Wrong (at + 1) reason.String)
    escape_wrong b h g id c l ls = to_escape id c l ls ∙ places.part_wrong text (at + 1) (escape id c bytes) reason.String (rw h (g id c)) l ls

    module _ (x : get_or text (at + 1) 0 ≡ 120) where
      to_coded : (id : ℕ) (c : Comparison) → GoesIn text (string id c bytes) at (coded id c bytes) (at + 1 + 1)
      to_coded id c l ls =
          to_escape id c l ls ∙ places.part_goes text (at + 1) (escape id c bytes) (coded id c bytes) 120 x (omega arith) (unfold part_of in refl) l ls

      first_hex : is_hex_digit (get_or text (at + 1 + 1) 0) ≡ true → (id : ℕ) (c : Comparison)
          → GoesIn text (string id c bytes) at (code id c bytes (hex_of (get_or text (at + 1 + 1) 0))) (at + 1 + 1 + 1)
      first_hex h id c l ls =
          to_coded id c l ls
          ∙ places.part_goes text (at + 1 + 1) (coded id c bytes) (code id c bytes (hex_of (get_or text (at + 1 + 1) 0))) (get_or text (at + 1 + 1) 0) refl
          (tests.hex_high (get_or text (at + 1 + 1) 0) h) (unfold part_of in rw h) l ls

      code_read : CharacterRead text at bytes (code_at text (at + 1 + 1) (length bytes) (stars_in bytes))
      unfolding code_at
      code_read = by (is_hex_digit (get_or text (at + 1 + 1) 0)) refl
        where
          second : is_hex_digit (get_or text (at + 1 + 1) 0) ≡ true → (t : Bool) → is_hex_digit (get_or text (at + 1 + 1 + 1) 0) ≡ t
              → CharacterRead text at bytes (cond t
              (added_at (at + 1 + 1 + 1) (16 * hex_of (get_or text (at + 1 + 1) 0) + hex_of (get_or text (at + 1 + 1 + 1) 0)) (length bytes) (stars_in bytes))
              (character.Wrong (at + 1 + 1 + 1) reason.String))
          second h true z =
              added_read text at bytes (at + 1 + 1 + 1) (λ id c. code id c bytes (hex_of (get_or text (at + 1 + 1) 0)))
              (16 * hex_of (get_or text (at + 1 + 1) 0) + hex_of (get_or text (at + 1 + 1 + 1) 0)) (omega arith) (first_hex h) (λ id c. unfold part_of in rw z)
              (tests.hex_high (get_or text (at + 1 + 1 + 1) 0) z)
          second h false z = λ id c l ls.
              first_hex h id c l ls
              ∙ places.part_wrong text (at + 1 + 1 + 1) (code id c bytes (hex_of (get_or text (at + 1 + 1) 0))) reason.String (unfold part_of in rw z) l ls

          by : (t : Bool) → is_hex_digit (get_or text (at + 1 + 1) 0) ≡ t
              → CharacterRead text at bytes (cond t
              (cond (is_hex_digit (get_or text (at + 1 + 1 + 1) 0))
              (added_at (at + 1 + 1 + 1) (16 * hex_of (get_or text (at + 1 + 1) 0) + hex_of (get_or text (at + 1 + 1 + 1) 0)) (length bytes) (stars_in bytes))
              (character.Wrong (at + 1 + 1 + 1) reason.String))
              (character.Wrong (at + 1 + 1) reason.String))
          by true z = second z (is_hex_digit (get_or text (at + 1 + 1 + 1) 0)) refl
          by false z = λ id c l ls. to_coded id c l ls ∙ places.part_wrong text (at + 1 + 1) (coded id c bytes) reason.String (unfold part_of in rw z) l ls

    escape_read : CharacterRead text at bytes (escape_at text (at + 1) (length bytes) (stars_in bytes))
    unfolding escape_at
    escape_read = by1 (eqb (get_or text (at + 1) 0) 34) refl
      where
        by3 : eqb (get_or text (at + 1) 0) 34 ≡ false → eqb (get_or text (at + 1) 0) 92 ≡ false → (t : Bool) → eqb (get_or text (at + 1) 0) 120 ≡ t
            → CharacterRead text at bytes (cond t (code_at text (at + 1 + 1) (length bytes) (stars_in bytes)) (character.Wrong (at + 1) reason.String))
        by3 x y true z = code_read (eqb-true (get_or text (at + 1) 0) 120 z)
        by3 x y false z = escape_wrong (get_or text (at + 1) 0) refl (λ id c. unfold part_of in rw (x, y, z))

        by2 : eqb (get_or text (at + 1) 0) 34 ≡ false → (t : Bool) → eqb (get_or text (at + 1) 0) 92 ≡ t
            → CharacterRead text at bytes (cond t (character.Is 92 (at + 1 + 1))
            (cond (eqb (get_or text (at + 1) 0) 120) (code_at text (at + 1 + 1) (length bytes) (stars_in bytes)) (character.Wrong (at + 1) reason.String)))
        by2 x true z = quoted 92 (eqb-true (get_or text (at + 1) 0) 92 z) (omega arith) (λ id c. unfold part_of in refl)
        by2 x false z = by3 x z (eqb (get_or text (at + 1) 0) 120) refl

        by1 : (t : Bool) → eqb (get_or text (at + 1) 0) 34 ≡ t
            → CharacterRead text at bytes (cond t (character.Is 34 (at + 1 + 1)) (cond (eqb (get_or text (at + 1) 0) 92) (character.Is 92 (at + 1 + 1))
            (cond (eqb (get_or text (at + 1) 0) 120) (code_at text (at + 1 + 1) (length bytes) (stars_in bytes)) (character.Wrong (at + 1) reason.String))))
        by1 true z = quoted 34 (eqb-true (get_or text (at + 1) 0) 34 z) (omega arith) (λ id c. unfold part_of in refl)
        by1 false z = by2 z (eqb (get_or text (at + 1) 0) 92) refl

  pub character_read : CharacterRead text at bytes (character_at text at (length bytes) (stars_in bytes))
  unfolding character_at
  character_read = by1 (eqb (get_or text at 0) 34) refl
    where
      by3 : eqb (get_or text at 0) 34 ≡ false → eqb (get_or text at 0) 92 ≡ false → (t : Bool) → is_printed (get_or text at 0) ≡ t
          → CharacterRead text at bytes (cond t (added_at at (get_or text at 0) (length bytes) (stars_in bytes)) (character.Wrong at reason.String))
      by3 x y true z =
          added_read text at bytes at (λ id c. string id c bytes) (get_or text at 0) (omega arith) (λ id c l ls. refl) (λ id c. unfold part_of in rw (x, y, z))
          (omega (arith, tests.printed_least (get_or text at 0) z))
      by3 x y false z = λ id c. places.part_wrong text at (string id c bytes) reason.String (unfold part_of in rw (x, y, z))

      escape_or_long : get_or text at 0 ≡ 92 → (t : Bool) → ltb (length bytes) 255 ≡ t
          → CharacterRead text at bytes (cond t (escape_at text (at + 1) (length bytes) (stars_in bytes)) (character.Wrong at reason.Long))
      escape_or_long e true z = escape_read e (ltb-true (length bytes) 255 z)
      escape_or_long e false z = λ id c. places.part_wrong text at (string id c bytes) reason.Long (unfold part_of in rw (e, z))

      by2 : eqb (get_or text at 0) 34 ≡ false → (t : Bool) → eqb (get_or text at 0) 92 ≡ t
          → CharacterRead text at bytes (cond t (cond (ltb (length bytes) 255) (escape_at text (at + 1) (length bytes) (stars_in bytes))
          (character.Wrong at reason.Long))
          (cond (is_printed (get_or text at 0)) (added_at at (get_or text at 0) (length bytes) (stars_in bytes)) (character.Wrong at reason.String)))
      by2 x true z = escape_or_long (eqb-true (get_or text at 0) 92 z) (ltb (length bytes) 255) refl
      by2 x false z = by3 x z (is_printed (get_or text at 0)) refl

      by1 : (t : Bool) → eqb (get_or text at 0) 34 ≡ t
          → CharacterRead text at bytes (cond t character.End
          (cond (eqb (get_or text at 0) 92) (cond (ltb (length bytes) 255) (escape_at text (at + 1) (length bytes) (stars_in bytes))
          (character.Wrong at reason.Long))
          (cond (is_printed (get_or text at 0)) (added_at at (get_or text at 0) (length bytes) (stars_in bytes)) (character.Wrong at reason.String))))
      by1 true z = eqb-true (get_or text at 0) 34 z
      by1 false z = by2 z (eqb (get_or text at 0) 92) refl
