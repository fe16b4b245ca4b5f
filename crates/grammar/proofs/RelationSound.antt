-- Only relations of the grammar are read: what each phase says of the bytes before it. Assumes nothing.
use mathlib.Core.Path.{◌≡◌, refl, sym, ap, subst, ◌∙◌}
use mathlib.Core.Bool.{Bool, true, false, cond}
use mathlib.Core.List.{List, [], ◌∷◌, ◌++◌, map, append_assoc, append-nil}
use mathlib.Core.Option.{Option, none, some}
use Prim.Native.Nat.{ℕ, zero, suc, ◌+◌, ◌-◌, ◌*◌, ◌≤◌, ◌<◌}
use native.Mathlib.Omega.{arith}
use lib.Dec.{ltb, leb, eqb}
use lib.ListN.{length, length-append}
use borrow.Author.Tests.{ltb-true, leb-true, leb-false, eqb-true, eqb-false, ne_eqb}
use Rattle.names.specs.Kinds.{is_blank, is_printed, hex_of, is_hex_digit, every}
use Rattle.packet.specs.Names.{bytes_of}
use Rattle.text.specs.Match.{lower}
use Rattle.lines.specs.Numerals.{digit, value_from}
use Rattle.equation.specs.Holds.{Relation}
use Rattle.equation.specs.Symbols.{stars_in}
use Rattle.names.specs.Names.{id_named, starts_name}
use Rattle.grammar.specs.Meaning.{is_equality, or_equal, width_of, is_width, number_relation, text_relation}
use Rattle.grammar.specs.Grammar as grammar
use Rattle.grammar.specs.Grammar.{Blanks, Item, item_text, Stands, operator_text, Character, character_text, character_byte, good_character}
use Rattle.grammar.specs.Grammar.{characters_text, characters_bytes, good_characters, Constant, unsized, constant_text, Digits, Characters, GoodConstant}
use Rattle.grammar.specs.Grammar.{meant}
use Rattle.grammar.specs.Grammar.{Written, written_text, relation_of, GoodWritten}
use Rattle.grammar.specs.Machine.{Phase, name, hash, item, half, order, constant, digits, colon, string, escape, coded, code, Part, on, whole, past, stop}
use Rattle.grammar.specs.Machine.{lettered, wanted, added, part_of}
use Rattle.grammar.specs.declared.Comparison.{Comparison}
use Rattle.grammar.specs.declared.Comparison.TheVariants.{Equal, Greater, Less, NotEqual, GreaterOrEqual, LessOrEqual}
use Rattle.grammar.specs.declared.Reason.{Reason}
use Rattle.names.proofs.Tests as tests
use Rattle.grammar.proofs.Steps as steps

-- ---- parts of a relation with their texts

pub record ItemHeld (id : ℕ) (s : List ℕ) : Type 0 where
  pub item : Item
  pub blanks : List ℕ
  pub stands : Stands item id
  pub are : Blanks blanks
  pub text : s ≡ item_text item ++ blanks

-- an item, blanks and an operator, and perhaps blanks
pub record Front (id : ℕ) (c : Comparison) (s : List ℕ) : Type 0 where
  pub item : Item
  pub before : List ℕ
  pub behind : List ℕ
  pub stands : Stands item id
  pub blank_before : Blanks before
  pub blank_behind : Blanks behind
  pub text : s ≡ item_text item ++ (before ++ (operator_text c ++ behind))

-- a front, and digits so far
pub record NumberHeld (id : ℕ) (c : Comparison) (v : ℕ) (s : List ℕ) : Type 0 where
  pub u : List ℕ
  pub front : Front id c u
  pub ds : List ℕ
  pub good : Digits ds
  pub value : value_from 0 ds ≡ v
  pub text : s ≡ u ++ ds

-- a front, '"' and characters so far, with w behind them
pub record StringHeld (id : ℕ) (c : Comparison) (bytes w s : List ℕ) : Type 0 where
  pub u : List ℕ
  pub front : Front id c u
  pub equality : is_equality c ≡ true
  pub xs : List Character
  pub good : Characters xs
  pub is : characters_bytes xs ≡ bytes
  pub text : s ≡ u ++ (34 ∷ (characters_text xs ++ w))

-- a whole relation, which further digits may follow or not
pub record RelationHeld (t : Bool) (r : Relation) (s : List ℕ) : Type 0 where
  pub written : Written
  pub good : GoodWritten written
  pub text : written_text written ≡ s
  pub is : relation_of written ≡ r
  pub more : unsized written.constant ≡ t

-- the hex digits behind "#", with their value
unfoldable pub HashHeld : ℕ → List ℕ → ℕ → Type 0
HashHeld n [] v = (n ≡ 0) × (v ≡ 0)
HashHeld n (a ∷ []) v = (n ≡ 1) × (is_hex_digit a ≡ true) × (v ≡ 16 * 0 + hex_of a)
HashHeld n (a ∷ b ∷ []) v = (n ≡ 2) × (is_hex_digit a ≡ true) × (is_hex_digit b ≡ true) × (v ≡ 16 * (16 * 0 + hex_of a) + hex_of b)
HashHeld n (a ∷ b ∷ c ∷ []) v =
    (n ≡ 3) × (is_hex_digit a ≡ true) × (is_hex_digit b ≡ true) × (is_hex_digit c ≡ true) × (v ≡ 16 * (16 * (16 * 0 + hex_of a) + hex_of b) + hex_of c)
HashHeld n (a ∷ b ∷ c ∷ d ∷ e) v = ⊥

-- what a phase says of the bytes of the relation so far
unfoldable pub PhaseHeld : Phase → List ℕ → Type 0
PhaseHeld (name letters) s = (map lower s ≡ letters) × (id_named letters ≡ none) × (starts_name letters ≡ true)
PhaseHeld (hash n v) s = (ds : List ℕ) × HashHeld n ds v × (s ≡ 35 ∷ ds)
PhaseHeld (item id) s = ItemHeld id s
PhaseHeld (half id c) s = (u : List ℕ) × ItemHeld id u × ((b : ℕ) × (operator_text c ≡ b ∷ 61 ∷ []) × (s ≡ u ++ b ∷ []))
PhaseHeld (order id c) s = (u : List ℕ) × ItemHeld id u × (operator_text (or_equal c) ≡ operator_text c ++ 61 ∷ []) × (s ≡ u ++ operator_text c)
PhaseHeld (constant id c) s = Front id c s
PhaseHeld (digits id c v) s = NumberHeld id c v s
PhaseHeld (colon id c v) s = (u : List ℕ) × NumberHeld id c v u × (s ≡ u ++ 58 ∷ [])
PhaseHeld (string id c bytes) s = StringHeld id c bytes [] s
PhaseHeld (escape id c bytes) s = StringHeld id c bytes (92 ∷ []) s × (length bytes < 255)
PhaseHeld (coded id c bytes) s = StringHeld id c bytes (92 ∷ 120 ∷ []) s × (length bytes < 255)
PhaseHeld (code id c bytes d) s = (a : ℕ) × StringHeld id c bytes (92 ∷ 120 ∷ a ∷ []) s × (is_hex_digit a ≡ true) × (hex_of a ≡ d) × (length bytes < 255)

-- what a byte b behind s leaves
unfoldable pub PartHeld : Part → List ℕ → ℕ → Type 0
PartHeld (on phase) s b = PhaseHeld phase (s ++ b ∷ [])
PartHeld (whole r) s b = RelationHeld false r (s ++ b ∷ [])
PartHeld (past r) s b = RelationHeld true r s
PartHeld (stop why) s b = Unit {0}

stopped : (why : Reason) (s : List ℕ) (b : ℕ) → PartHeld (stop why) s b
unfolding PartHeld
stopped why s b = tt

by_test : (t : Bool) (m n : Part) (s : List ℕ) (b : ℕ) → (t ≡ true → PartHeld m s b) → (t ≡ false → PartHeld n s b) → PartHeld (cond t m n) s b
by_test true m n s b f g = f refl
by_test false m n s b f g = g refl

-- ---- items

map_snoc : (s : List ℕ) (b : ℕ) → map lower (s ++ b ∷ []) ≡ map lower s ++ lower b ∷ []
map_snoc [] b = refl
map_snoc (x ∷ s) b = ap (λ (l : List ℕ). lower x ∷ l) (map_snoc s b)

held_lettered : (o : Option ℕ) (t : Bool) (w s : List ℕ) (b : ℕ) → map lower (s ++ b ∷ []) ≡ w → id_named w ≡ o → starts_name w ≡ t → PartHeld
    (lettered o t w) s b
unfolding lettered PartHeld PhaseHeld
held_lettered (some id) t w s b e h i =
    record {
      item = grammar.name (s ++ b ∷ []);
      blanks = [];
      stands = unfold Stands in rw (e, h);
      are = unfold every in refl;
      text = unfold
          item_text in simp append-nil;
    }
held_lettered none true w s b e h i = (e, h, i)
held_lettered none false w s b e h i = tt

-- letters behind others; the first letter stands behind none
pub held_letters : (w s : List ℕ) (b : ℕ) → map lower s ≡ w → PartHeld (part_of (name w) b) s b
unfolding part_of
held_letters w s b e = held_lettered (id_named (w ++ lower b ∷ [])) (starts_name (w ++ lower b ∷ [])) (w ++ lower b ∷ []) s b
    (map_snoc s b ∙ ap (λ (l : List ℕ). l ++ lower b ∷ []) e) refl refl

held_hash : (n v : ℕ) (ds : List ℕ) (b : ℕ) → HashHeld n ds v → is_hex_digit b ≡ true
    → PartHeld (cond (eqb n 3) (on (item (16 * v + hex_of b))) (on (hash (suc n) (16 * v + hex_of b)))) (35 ∷ ds) b
unfolding HashHeld PartHeld PhaseHeld
held_hash n v [] b h i = rw (h.0, h.1) ((b ∷ []), (refl, i, refl), refl)
held_hash n v (a ∷ []) b h i = rw (h.0, h.2) ((a ∷ b ∷ []), (refl, h.1, i, refl), refl)
held_hash n v (a ∷ c ∷ []) b h i = rw (h.0, h.3) ((a ∷ c ∷ b ∷ []), (refl, h.1, h.2, i, refl), refl)
held_hash n v (a ∷ c ∷ d ∷ []) b h i =
    rw (h.0, h.4)
    (record {
      item = grammar.number a c d b;
      blanks = [];
      stands = unfold Stands every in (rw (h.1, h.2, h.3, i), omega arith);
      are = unfold every in refl;
      text = unfold item_text in refl;
    })
held_hash n v (a ∷ c ∷ d ∷ e ∷ f) b h i = absurd h

blank_more : (x : List ℕ) (b : ℕ) → Blanks x → is_blank b ≡ true → Blanks (x ++ b ∷ [])
blank_more x b h i = tests.every_append is_blank x (b ∷ []) h (tests.every_one is_blank b i)

item_blank : (id : ℕ) (s : List ℕ) (b : ℕ) → ItemHeld id s → is_blank b ≡ true → ItemHeld id (s ++ b ∷ [])
item_blank id s b h i =
    record {
      item = h.item;
      blanks = h.blanks ++ b ∷ [];
      stands = h.stands;
      are = blank_more h.blanks b h.are i;
      text = rw h.text
          (simp append_assoc);
    }

-- ---- fronts

front_of : (id : ℕ) (c : Comparison) (u s : List ℕ) → ItemHeld id u → s ≡ u ++ operator_text c → Front id c s
front_of id c u s h e =
    record {
      item = h.item;
      before = h.blanks;
      behind = [];
      stands = h.stands;
      blank_before = h.are;
      blank_behind = unfold every in refl;
      text = rw (e, h.text) (simp (append_assoc, append-nil));
    }

front_blank : (id : ℕ) (c : Comparison) (s : List ℕ) (b : ℕ) → Front id c s → is_blank b ≡ true → Front id c (s ++ b ∷ [])
front_blank id c s b h i =
    record {
      item = h.item;
      before = h.before;
      behind = h.behind ++ b ∷ [];
      stands = h.stands;
      blank_before = h.blank_before;
      blank_behind = blank_more h.behind b h.blank_behind i;
      text = rw h.text (simp append_assoc);
    }

-- a front and a constant are a relation
relation_of_law : (id : ℕ) (c : Comparison) (u s : List ℕ) (k : Constant) → Front id c u → GoodConstant c k → s ≡ u ++ constant_text k → RelationHeld (unsized k)
    (meant id c k) s
relation_of_law id c u s k h g e =
    record {
      written = record { item = h.item; id = id; before = h.before; comparison = c; behind = h.behind; constant = k };
      good = record { stands = h.stands; before = h.blank_before; behind = h.blank_behind; constant = g };
      text = unfold written_text in rw (e, h.text) (simp append_assoc);
      is = refl;
      more = refl;
    }

-- ---- constants

one_digit : (b : ℕ) → digit b ≡ true → Digits (b ∷ [])
one_digit b h = record { some = omega arith; are = tests.every_one digit b h; fits = unfold value_from in omega (arith, tests.digit_most b h) }

opened : (id : ℕ) (c : Comparison) (s : List ℕ) (b : ℕ) → Front id c s → eqb b 34 ≡ true → is_equality c ≡ true → PartHeld (on (string id c [])) s b
unfolding PartHeld PhaseHeld
opened id c s b h f g =
    rw (eqb-true b 34 f)
    (record {
      u = s;
      front = h;
      equality = g;
      xs = [];
      good = record {
        are = unfold good_characters in refl;
        short = unfold characters_bytes in omega arith;
        stars = unfold characters_bytes stars_in in omega arith;
      };
      is = unfold characters_bytes in refl;
      text = unfold characters_text in refl;
    })

first_digit : (id : ℕ) (c : Comparison) (s : List ℕ) (b : ℕ) → Front id c s → digit b ≡ true → PartHeld (on (digits id c (b - 48))) s b
unfolding PartHeld PhaseHeld
first_digit id c s b h e = record { u = s; front = h; ds = b ∷ []; good = one_digit b e; value = unfold value_from in omega arith; text = refl }

held_wanted : (id : ℕ) (c : Comparison) (s : List ℕ) (b : ℕ) → Front id c s → PartHeld (wanted id c b) s b
unfolding wanted
held_wanted id c s b h =
    by_test (digit b) _ _ s b (first_digit id c s b h)
    (λ e. by_test (eqb b 34) _ _ s b (λ f. by_test (is_equality c) _ _ s b (opened id c s b h f) (λ g. stopped _ s b)) (λ f. stopped _ s b))

held_number : (id : ℕ) (c : Comparison) (v : ℕ) (s : List ℕ) (b : ℕ) → NumberHeld id c v s → PartHeld (part_of (digits id c v) b) s b
unfolding part_of PartHeld PhaseHeld
held_number id c v s b h =
    by_test (digit b) _ _ s b
    (λ e. by_test (leb (10 * v + (b - 48)) 4294967295) _ _ s b (λ f. more e (leb-true (10 * v + (b - 48)) 4294967295 f)) (λ f. tt))
    (λ e. by_test (eqb b 58) _ _ s b (λ f. rw (eqb-true b 58 f) (s, h, refl)) (λ f. whole_number))
  where
    more : digit b ≡ true → 10 * v + (b - 48) ≤ 4294967295 → NumberHeld id c (10 * v + (b - 48)) (s ++ b ∷ [])
    more e f =
        let z : value_from 0 (h.ds ++ b ∷ []) ≡ 10 * v + (b - 48) = rw (tests.value_snoc 0 h.ds b, h.value) in
        record {
          u = h.u;
          front = h.front;
          ds = h.ds ++ b ∷ [];
          good = record {
            some = omega (arith, length-append h.ds (b ∷ []));
            are = tests.every_append digit h.ds (b ∷ []) h.good.are
                (tests.every_one digit b e);
            fits = rw z f;
          };
          value = z;
          text = rw h.text (simp append_assoc);
        }

    whole_number : RelationHeld true (number_relation id c (width_of id v) v) s
    whole_number = rw (← h.value) (unfold meant constant_text GoodConstant unsized in relation_of_law id c h.u s (grammar.number h.ds) h.front h.good
        h.text)

held_width : (id : ℕ) (c : Comparison) (v : ℕ) (u : List ℕ) (b : ℕ) → NumberHeld id c v u → is_width b v ≡ true → RelationHeld false
    (number_relation id c (b - 48) v) ((u ++ 58 ∷ []) ++ b ∷ [])
unfolding meant constant_text GoodConstant unsized
held_width id c v u b h i =
    rw (← h.value)
    (relation_of_law id c h.u ((u ++ 58 ∷ []) ++ b ∷ []) (grammar.sized h.ds b) h.front (h.good, rw h.value i) (rw h.text (simp append_assoc)))

-- ---- strings

text_snoc : (xs : List Character) (x : Character) → characters_text (xs ++ x ∷ []) ≡ characters_text xs ++ character_text x
unfolding characters_text
text_snoc [] x = append-nil (character_text x)
text_snoc (y ∷ xs) x = rw (text_snoc xs x) (simp append_assoc)

bytes_snoc : (xs : List Character) (x : Character) → characters_bytes (xs ++ x ∷ []) ≡ characters_bytes xs ++ character_byte x ∷ []
unfolding characters_bytes
bytes_snoc [] x = refl
bytes_snoc (y ∷ xs) x = ap (λ (l : List ℕ). character_byte y ∷ l) (bytes_snoc xs x)

good_snoc : (xs : List Character) (x : Character) → good_characters xs ≡ true → good_character x ≡ true → good_characters (xs ++ x ∷ []) ≡ true
unfolding good_characters
good_snoc [] x h i = rw i
good_snoc (y ∷ xs) x h i = tests.both_true (good_character y) _ (tests.first_true (good_character y) _ h)
    (good_snoc xs x (tests.second_true (good_character y) _ h) i)

-- a character more
string_more : (id : ℕ) (c : Comparison) (bytes w s t : List ℕ) (x : Character) (b : ℕ) → StringHeld id c bytes w s → good_character x ≡ true
    → character_byte x ≡ b → w ++ t ≡ character_text x
    → length bytes < 255 → stars_in (bytes ++ b ∷ []) ≤ 4 → StringHeld id c (bytes ++ b ∷ []) [] (s ++ t)
string_more id c bytes w s t x b h g e f i j =
    let z : characters_bytes (h.xs ++ x ∷ []) ≡ bytes ++ b ∷ [] = rw (bytes_snoc h.xs x, h.is, e) in
    record {
      u = h.u;
      front = h.front;
      equality = h.equality;
      xs = h.xs ++ x ∷ [];
      good = record { are = good_snoc h.xs x h.good.are g; short = rw z (omega (arith, length-append bytes (b ∷ []))); stars = rw z j };
      is = z;
      text = rw (h.text, text_snoc h.xs x, ← f) (simp (append_assoc, append-nil));
    }

string_behind : (id : ℕ) (c : Comparison) (bytes w s t : List ℕ) → StringHeld id c bytes w s → StringHeld id c bytes (w ++ t) (s ++ t)
string_behind id c bytes w s t h =
    record { u = h.u; front = h.front; equality = h.equality; xs = h.xs; good = h.good; is = h.is; text = rw h.text (simp append_assoc) }

-- a star more is at most the fourth
stars_kept : (bytes : List ℕ) (b : ℕ) → stars_in bytes ≤ 4 → cond (eqb b 42) (leb 4 (stars_in bytes)) false ≡ false → stars_in (bytes ++ b ∷ []) ≤ 4
unfolding stars_in
stars_kept bytes b h = by (eqb b 42) refl
  where
    by : (t : Bool) → eqb b 42 ≡ t → cond t (leb 4 (stars_in bytes)) false ≡ false → stars_in (bytes ++ b ∷ []) ≤ 4
    by true e z = let y : stars_in (b ∷ []) ≡ 1 = rw e in omega (arith, steps.stars_append bytes (b ∷ []), leb-false 4 (stars_in bytes) z)
    by false e z = let y : stars_in (b ∷ []) ≡ 0 = rw e in omega (arith, steps.stars_append bytes (b ∷ []))

stars_now : (id : ℕ) (c : Comparison) (bytes w s : List ℕ) → StringHeld id c bytes w s → stars_in bytes ≤ 4
stars_now id c bytes w s h = rw h.is at h.good.stars

held_added : (id : ℕ) (c : Comparison) (bytes w s : List ℕ) (x : Character) (b d : ℕ) → StringHeld id c bytes w s → good_character x ≡ true → character_byte x ≡ d
    → w ++ b ∷ [] ≡ character_text x
    → PartHeld (added id c bytes d) s b
unfolding added PartHeld PhaseHeld
held_added id c bytes w s x b d h g e f =
    by_test (cond (eqb d 42) (leb 4 (stars_in bytes)) false) _ _ s b (λ z. tt)
    (λ z. by_test (ltb (length bytes) 255) _ _ s b
    (λ y. string_more id c bytes w s (b ∷ []) x d h g e f (ltb-true (length bytes) 255 y) (stars_kept bytes d (stars_now id c bytes w s h) z)) (λ y. tt))

held_string : (id : ℕ) (c : Comparison) (bytes s : List ℕ) (b : ℕ) → StringHeld id c bytes [] s → PartHeld (part_of (string id c bytes) b) s b
unfolding part_of PartHeld PhaseHeld
held_string id c bytes s b h =
    by_test (eqb b 34) _ _ s b (λ e. rw (eqb-true b 34 e) closed)
    (λ e. by_test (eqb b 92) _ _ s b
    (λ f. by_test (ltb (length bytes) 255) _ _ s b (λ g. rw (eqb-true b 92 f) (string_behind id c bytes [] s (92 ∷ []) h, ltb-true (length bytes) 255 g))
    (λ g. tt))
    (λ f. by_test (is_printed b) _ _ s b (λ g. held_added id c bytes [] s (grammar.plain b) b b h (unfold good_character in rw (e, f, g))
    (unfold character_byte in refl) (unfold character_text in refl)) (λ g. tt)))
  where
    closed : RelationHeld false (text_relation id c bytes) (s ++ 34 ∷ [])
    closed = rw (← h.is) (unfold meant constant_text GoodConstant unsized in relation_of_law id c h.u (s ++ 34 ∷ []) (grammar.string h.xs) h.front
        (h.good, h.equality) (rw h.text (simp (append_assoc, append-nil))))

held_escape : (id : ℕ) (c : Comparison) (bytes s : List ℕ) (b : ℕ) → StringHeld id c bytes (92 ∷ []) s → length bytes < 255 → PartHeld
    (part_of (escape id c bytes) b) s b
unfolding part_of PartHeld PhaseHeld
held_escape id c bytes s b h i =
    by_test (eqb b 34) _ _ s b (λ e. rw (eqb-true b 34 e) (quoted 34 (unfold good_character in refl) (unfold stars_in in refl)))
    (λ e. by_test (eqb b 92) _ _ s b (λ f. rw (eqb-true b 92 f) (quoted 92 (unfold good_character in refl) (unfold stars_in in refl)))
    (λ f. by_test (eqb b 120) _ _ s b (λ g. rw (eqb-true b 120 g) (string_behind id c bytes (92 ∷ []) s (120 ∷ []) h, i)) (λ g. tt)))
  where
    quoted : (d : ℕ) → good_character (grammar.escaped d) ≡ true → stars_in (d ∷ []) ≡ 0 → StringHeld id c (bytes ++ d ∷ []) [] (s ++ d ∷ [])
    quoted d g z =
        string_more id c bytes (92 ∷ []) s (d ∷ []) (grammar.escaped d) d h g (unfold character_byte in refl) (unfold character_text in refl) i
        (omega (arith, steps.stars_append bytes (d ∷ []), stars_now id c bytes (92 ∷ []) s h))

-- ---- every phase

pub held_part : (ph : Phase) (b : ℕ) (s : List ℕ) → PhaseHeld ph s → PartHeld (part_of ph b) s b
unfolding part_of PartHeld PhaseHeld
held_part (name w) b s h = held_letters w s b h.0
held_part (hash n v) b s h = rw h.2 (by_test (is_hex_digit b) _ _ (35 ∷ h.0) b (held_hash n v h.0 b h.1) (λ e. tt))
held_part (item id) b s h =
    by_test (is_blank b) _ _ s b (item_blank id s b h)
    (λ e. by_test (eqb b 60) _ _ s b (λ f. rw (eqb-true b 60 f) (s, h, unfold or_equal operator_text bytes_of in refl, unfold operator_text bytes_of in refl))
    (λ e1. by_test (eqb b 62) _ _ s b (λ f. rw (eqb-true b 62 f) (s, h, unfold or_equal operator_text bytes_of in refl, unfold operator_text bytes_of in refl))
    (λ e2. by_test (eqb b 61) _ _ s b (λ f. rw (eqb-true b 61 f) (s, h, (61, unfold operator_text bytes_of in refl, refl)))
    (λ e3. by_test (eqb b 33) _ _ s b (λ f. rw (eqb-true b 33 f) (s, h, (33, unfold operator_text bytes_of in refl, refl))) (λ f. tt)))))
held_part (half id c) b s h =
    by_test (eqb b 61) _ _ s b (λ f. rw (eqb-true b 61 f) (front_of id c h.0 (s ++ 61 ∷ []) h.1 (rw (h.2.2, h.2.1) (simp append_assoc)))) (λ f. tt)
held_part (order id c) b s h =
    let k : Front id c s = front_of id c h.0 s h.1 h.3 in
    by_test (eqb b 61) _ _ s b (λ f. rw (eqb-true b 61 f) (front_of id (or_equal c) h.0 (s ++ 61 ∷ []) h.1 (rw (h.3, h.2) (simp append_assoc))))
    (λ f. by_test (is_blank b) _ _ s b (front_blank id c s b k) (λ g. held_wanted id c s b k))
held_part (constant id c) b s h = by_test (is_blank b) _ _ s b (front_blank id c s b h) (λ g. held_wanted id c s b h)
held_part (digits id c v) b s h = held_number id c v s b h
held_part (colon id c v) b s h = rw h.2 (by_test (is_width b v) _ _ (h.0 ++ 58 ∷ []) b (held_width id c v h.0 b h.1) (λ e. tt))
held_part (string id c bytes) b s h = held_string id c bytes s b h
held_part (escape id c bytes) b s h = held_escape id c bytes s b h.0 h.1
held_part (coded id c bytes) b s h =
    by_test (is_hex_digit b) _ _ s b (λ e. (b, string_behind id c bytes (92 ∷ 120 ∷ []) s (b ∷ []) h.0, e, refl, h.1)) (λ e. tt)
held_part (code id c bytes d) b s h =
    by_test (is_hex_digit b) _ _ s b
    (λ e. held_added id c bytes (92 ∷ 120 ∷ h.0 ∷ []) s (grammar.coded h.0 b) b (16 * d + hex_of b) h.1 (unfold good_character in rw (h.2, e))
    (unfold character_byte in rw h.3) (unfold character_text in refl))
    (λ e. tt)
