-- Every relation of the grammar is read as what it means. Assumes nothing.
use mathlib.Core.Path.{◌≡◌, refl, sym, ap, subst, ◌∙◌}
use mathlib.Core.Bool.{Bool, true, false, cond}
use mathlib.Core.List.{List, [], ◌∷◌, ◌++◌, map, append_assoc, append-nil}
use mathlib.Core.Option.{Option, none, some}
use Prim.Native.Nat.{ℕ, zero, suc, ◌+◌, ◌-◌, ◌*◌, ◌≤◌, ◌<◌}
use native.Mathlib.Omega.{arith}
use lib.Dec.{ltb, leb, eqb}
use lib.ListN.{length, get_or, length-append}
use borrow.Author.Tests.{leb-true, eqb-true, eqb-false, ne_eqb}
use Rattle.names.specs.Kinds.{is_blank, is_printed, hex_of, is_hex_digit, every}
use Rattle.packet.specs.Names.{bytes_of}
use Rattle.text.specs.Match.{lower}
use Rattle.lines.specs.Numerals.{digit, value_from}
use Rattle.equation.specs.Symbols.{stars_in}
use Rattle.names.specs.Names.{id_named, starts_name}
use Rattle.grammar.specs.Meaning.{is_equality, or_equal, number_relation, text_relation}
use Rattle.grammar.specs.Grammar as grammar
use Rattle.grammar.specs.Grammar.{Item, item_text, Stands, operator_text, Character, plain, escaped, coded, character_text, character_byte, good_character}
use Rattle.grammar.specs.Grammar.{characters_text, characters_bytes, good_characters, Constant, constant_text, Digits, Characters, GoodConstant, meant}
use Rattle.grammar.specs.Grammar.{Written, written_text, relation_of, GoodWritten}
use Rattle.grammar.specs.Machine as machine
use Rattle.grammar.specs.Machine.{Phase, name, hash, item, half, order, constant, digits, colon, string, escape, code, on, lettered, part_of}
use Rattle.grammar.specs.Machine.{Level, fresh, State, want, inside, go, taken, step, run}
use Rattle.grammar.specs.declared.Comparison.{Comparison}
use Rattle.grammar.specs.declared.Comparison.TheVariants.{Equal, Greater, Less, NotEqual, GreaterOrEqual, LessOrEqual}
use Rattle.names.proofs.Tests as tests
use Rattle.names.proofs.NameLaws as names
use Rattle.grammar.proofs.Steps.{Reach, stay, then, one, after_relation, part_on, part_whole, over_blanks, item_still, constant_still, Closes}
use Rattle.grammar.proofs.Steps as steps

-- ---- items

pub lower_high : (b c : ℕ) → lower b ≡ c → 48 ≤ c → 48 ≤ b
unfolding lower
lower_high b c e h = by (leb 65 b) refl e
  where
    by : (t : Bool) → leb 65 b ≡ t → cond t (cond (leb b 90) (b + 32) b) b ≡ c → 48 ≤ b
    by true f z = omega (arith, leb-true 65 b f)
    by false f z = omega arith

hex_digits : (a b c d : ℕ) → every is_hex_digit (a ∷ b ∷ c ∷ d ∷ []) ≡ true
    → (is_hex_digit a ≡ true) × (is_hex_digit b ≡ true) × (is_hex_digit c ≡ true) × (is_hex_digit d ≡ true)
unfolding every
hex_digits a b c d h =
    let i = tests.second_true (is_hex_digit a) _ h in
    let j = tests.second_true (is_hex_digit b) _ i in (
      tests.first_true (is_hex_digit a) _ h,
      tests.first_true (is_hex_digit b) _ i,
      tests.first_true (is_hex_digit c) _ j,
      tests.first_true (is_hex_digit d) _
          (tests.second_true (is_hex_digit c) _ j),
    )

-- a state in which letters are read as after the letters w: `want`, before any, or one inside a name
abbrev pub Acts : State → List ℕ → Level → List Level → Type 0
Acts st w l ls = (b : ℕ) → 48 ≤ b → step st b ≡ taken (part_of (name w) b) l ls b

module _ (l : Level) (ls : List Level) where
  pub want_acts : Acts (want l ls) [] l ls
  want_acts b h = steps.want_name l ls b (tests.not_blank b (omega arith)) (λ z. omega arith) (λ z. omega arith)

  pub inside_acts : (w : List ℕ) → Acts (inside (name w) l ls) w l ls
  unfolding step
  inside_acts w b h = refl

  -- the last letter, and one before the last
  last_letter : (w : List ℕ) (b c id : ℕ) → lower b ≡ c → id_named (w ++ c ∷ []) ≡ some id → taken (part_of (name w) b) l ls b ≡ go (inside (item id) l ls)
  unfolding part_of lettered taken
  last_letter w b c id e h = rw (e, h)

  pub next_letter : (w : List ℕ) (b c : ℕ) → lower b ≡ c → id_named (w ++ c ∷ []) ≡ none → starts_name (w ++ c ∷ []) ≡ true
      → taken (part_of (name w) b) l ls b ≡ go (inside (name (w ++ c ∷ [])) l ls)
  unfolding part_of lettered taken
  next_letter w b c e h i = rw (e, h, i)

  -- the letters r behind w, spelled s
  pub letters_run : (r : List ℕ) (st : State) (w s : List ℕ) (id p : ℕ) (bs : List ℕ) → Acts st w l ls → 0 < length r → names.walks w r ≡ true → id_named
      (w ++ r) ≡ some id → map lower s ≡ r
      → Reach st p (s ++ bs) (inside (item id) l ls) bs
  letters_run [] st w s id p bs a n h i e = absurd (omega arith)
  letters_run (c ∷ r) st w [] id p bs a n h i e = let z : ◌≡◌ {A = ℕ} 0 1 = cc in absurd (omega arith)
  letters_run (c ∷ []) st w (b ∷ x ∷ s) id p bs a n h i e = let z : ◌≡◌ {A = ℕ} 0 1 = cc in absurd (omega arith)
  letters_run (c ∷ []) st w (b ∷ []) id p bs a n h i e =
      let f : lower b ≡ c = cc in
      one st (inside (item id) l ls) p b bs (a b (lower_high b c f (names.last_high w c h)) ∙ last_letter w b c id f i)
  letters_run (c ∷ d ∷ r) st w (b ∷ s) id p bs a n h i e =
      let f : lower b ≡ c = cc in
      let g : map lower s ≡ d ∷ r = cc in
      let k = names.walk w c d r h in
      let j : id_named ((w ++ c ∷ []) ++ d ∷ r) ≡ some id = rw (append_assoc w (c ∷ []) (d ∷ r)) i in
      then (one st (inside (name (w ++ c ∷ [])) l ls) p b (s ++ bs) (a b (lower_high b c f k.high) ∙ next_letter w b c f k.no_id k.starts))
      (λ q. letters_run (d ∷ r) (inside (name (w ++ c ∷ [])) l ls) (w ++ c ∷ []) s id q bs (inside_acts (w ++ c ∷ [])) (omega arith) k.further j g)

  -- a hex digit behind "#"
  hash_digit : (n v b p : ℕ) (bs : List ℕ) → n < 3 → is_hex_digit b ≡ true → Reach (inside (hash n v) l ls) p (b ∷ bs)
      (inside (hash (suc n) (16 * v + hex_of b)) l ls) bs
  hash_digit n v b p bs h i = part_on l ls (hash n v) (hash (suc n) (16 * v + hex_of b)) p b bs (unfold part_of in rw (i, ne_eqb n 3 (λ z. omega arith)))

  hash_last : (v b p : ℕ) (bs : List ℕ) → is_hex_digit b ≡ true → Reach (inside (hash 3 v) l ls) p (b ∷ bs) (inside (item (16 * v + hex_of b)) l ls) bs
  hash_last v b p bs i = part_on l ls (hash 3 v) (item (16 * v + hex_of b)) p b bs (unfold part_of in rw i)

  pub item_runs : (i : Item) (id p : ℕ) (bs : List ℕ) → Stands i id → Reach (want l ls) p (item_text i ++ bs) (inside (item id) l ls) bs
  unfolding Stands item_text
  item_runs (grammar.name letters) id p bs h =
      letters_run (map lower letters) (want l ls) [] letters id p bs want_acts (some_letter (map lower letters) h)
      (names.name_walks (map lower letters) id h) h refl
    where
      no_letters : id_named [] ≡ some id → ⊥
      no_letters z = names.not_empty id z

      some_letter : (w : List ℕ) → id_named w ≡ some id → 0 < length w
      some_letter [] z = absurd (no_letters z)
      some_letter (c ∷ w) z = omega arith
  item_runs (grammar.number a b c d) id p bs h =
      let g = hex_digits a b c d h.0 in
      let e : 16 * (16 * (16 * (16 * 0 + hex_of a) + hex_of b) + hex_of c) + hex_of d ≡ id = omega (arith, h.1) in
      then (one (want l ls) (inside (hash 0 0) l ls) p 35 (a ∷ b ∷ c ∷ d ∷ bs) (steps.want_hash l ls))
      (λ p1. then (hash_digit 0 0 a p1 (b ∷ c ∷ d ∷ bs) (omega arith) g.0)
      (λ p2. then (hash_digit 1 (16 * 0 + hex_of a) b p2 (c ∷ d ∷ bs) (omega arith) g.1)
      (λ p3. then (hash_digit 2 (16 * (16 * 0 + hex_of a) + hex_of b) c p3 (d ∷ bs) (omega arith) g.2)
      (λ p4. rw (← e) (hash_last (16 * (16 * (16 * 0 + hex_of a) + hex_of b) + hex_of c) d p4 bs g.3)))))

-- ---- operators

-- what follows an operator does not begin with "="
abbrev NotEqualSign : List ℕ → Type 0
NotEqualSign bs = get_or bs 0 0 ≡ 61 → ⊥

module _ (id : ℕ) (l : Level) (ls : List Level) where
  half_runs : (c : Comparison) (b p : ℕ) (bs : List ℕ) → part_of (item id) b ≡ on (half id c) → Reach (inside (item id) l ls) p (b ∷ 61 ∷ bs)
      (inside (constant id c) l ls) bs
  half_runs c b p bs h =
      then (part_on l ls (item id) (half id c) p b (61 ∷ bs) h) (λ q. part_on l ls (half id c) (constant id c) q 61 bs (unfold part_of in refl))

  order_runs : (c : Comparison) (b p : ℕ) (bs : List ℕ) → part_of (item id) b ≡ on (order id c) → NotEqualSign bs → Reach (inside (item id) l ls) p (b ∷ bs)
      (inside (constant id c) l ls) bs
  order_runs c b p bs h n =
      then (part_on l ls (item id) (order id c) p b bs h) (λ q. record { place = q; moves = refl; runs = steps.order_ends id c l ls q bs n })

  or_equal_runs : (c : Comparison) (b p : ℕ) (bs : List ℕ) → part_of (item id) b ≡ on (order id c) → Reach (inside (item id) l ls) p (b ∷ 61 ∷ bs)
      (inside (constant id (or_equal c)) l ls) bs
  or_equal_runs c b p bs h =
      then (part_on l ls (item id) (order id c) p b (61 ∷ bs) h) (λ q. part_on l ls (order id c) (constant id (or_equal c)) q 61 bs (unfold part_of in refl))

  pub operator_runs : (c : Comparison) (p : ℕ) (bs : List ℕ) → NotEqualSign bs → Reach (inside (item id) l ls) p (operator_text c ++ bs)
      (inside (constant id c) l ls) bs
  unfolding operator_text bytes_of
  operator_runs Equal p bs n = half_runs Equal 61 p bs (unfold part_of is_blank in refl)
  operator_runs Greater p bs n = order_runs Greater 62 p bs (unfold part_of is_blank in refl) n
  operator_runs Less p bs n = order_runs Less 60 p bs (unfold part_of is_blank in refl) n
  operator_runs NotEqual p bs n = half_runs NotEqual 33 p bs (unfold part_of is_blank in refl)
  operator_runs GreaterOrEqual p bs n = unfold or_equal in or_equal_runs Greater 62 p bs (unfold part_of is_blank in refl)
  operator_runs LessOrEqual p bs n = unfold or_equal in or_equal_runs Less 60 p bs (unfold part_of is_blank in refl)

-- ---- constants

module _ (id : ℕ) (c : Comparison) (l : Level) (ls : List Level) where
  digits_run : (ds : List ℕ) (v p : ℕ) (bs : List ℕ) → every digit ds ≡ true → value_from v ds ≤ 4294967295
      → Reach (inside (digits id c v) l ls) p (ds ++ bs) (inside (digits id c (value_from v ds)) l ls) bs
  unfolding every value_from
  digits_run [] v p bs h i = stay (inside (digits id c v) l ls) p bs
  digits_run (d ∷ ds) v p bs h i =
      let least : 10 * v + (d - 48) ≤ value_from (10 * v + (d - 48)) ds = tests.value_least (10 * v + (d - 48)) ds in
      then (part_on l ls (digits id c v) (digits id c (10 * v + (d - 48))) p d (ds ++ bs)
      (steps.digit_more id c v d (tests.first_true (digit d) _ h) (omega arith)))
      (λ q. digits_run ds (10 * v + (d - 48)) q bs (tests.second_true (digit d) _ h) i)

  number_runs : (ds : List ℕ) (p : ℕ) (bs : List ℕ) → Digits ds → Reach (inside (constant id c) l ls) p (ds ++ bs)
      (inside (digits id c (value_from 0 ds)) l ls) bs
  unfolding every value_from
  number_runs [] p bs h = absurd (omega (arith, h.some))
  number_runs (d ∷ ds) p bs h =
      let z : 10 * 0 + (d - 48) ≡ d - 48 = omega arith in
      let f : value_from (d - 48) ds ≤ 4294967295 = rw z at h.fits in
      rw z (then (part_on l ls (constant id c) (digits id c (d - 48)) p d (ds ++ bs) (steps.wants_digit id c d (tests.first_true (digit d) _ h.are)))
      (λ q. digits_run ds (d - 48) q bs (tests.second_true (digit d) _ h.are) f))

  -- one character of a string
  character_runs : (x : Character) (bytes : List ℕ) (p : ℕ) (bs : List ℕ) → good_character x ≡ true → length bytes < 255 → stars_in
      (bytes ++ character_byte x ∷ []) ≤ 4
      → Reach (inside (string id c bytes) l ls) p (character_text x ++ bs) (inside (string id c (bytes ++ character_byte x ∷ [])) l ls) bs
  unfolding good_character character_text character_byte
  character_runs (plain b) bytes p bs g h i = part_on l ls (string id c bytes) (string id c (bytes ++ b ∷ [])) p b bs (plain_part (eqb b 34) refl g)
    where
      plain_part : (t : Bool) → eqb b 34 ≡ t → cond t false (cond (eqb b 92) false (is_printed b)) ≡ true → part_of (string id c bytes) b ≡ on
          (string id c (bytes ++ b ∷ []))
      plain_part true e z = absurd (tests.clash false z refl)
      plain_part false e z = not_escape (eqb b 92) refl z
        where
          not_escape : (t : Bool) → eqb b 92 ≡ t → cond t false (is_printed b) ≡ true → part_of (string id c bytes) b ≡ on (string id c (bytes ++ b ∷ []))
          not_escape true f y = absurd (tests.clash false y refl)
          not_escape false f y = steps.string_plain id c bytes b (eqb-false b 34 e) (eqb-false b 92 f) y ∙ steps.adds id c bytes b h i
  character_runs (escaped b) bytes p bs g h i =
      then (part_on l ls (string id c bytes) (escape id c bytes) p 92 (b ∷ bs) (steps.string_escape id c bytes h))
      (λ q. part_on l ls (escape id c bytes) (string id c (bytes ++ b ∷ [])) q b bs (by (eqb b 34) refl g))
    where
      by : (t : Bool) → eqb b 34 ≡ t → cond t true (eqb b 92) ≡ true → part_of (escape id c bytes) b ≡ on (string id c (bytes ++ b ∷ []))
      by true e z = rw (eqb-true b 34 e) (unfold part_of in refl)
      by false e z = rw (eqb-true b 92 z) (unfold part_of in refl)
  character_runs (coded a b) bytes p bs g h i =
      then (part_on l ls (string id c bytes) (escape id c bytes) p 92 (120 ∷ a ∷ b ∷ bs) (steps.string_escape id c bytes h))
      (λ p1. then (part_on l ls (escape id c bytes) (machine.coded id c bytes) p1 120 (a ∷ b ∷ bs) (unfold part_of in refl))
      (λ p2. then (part_on l ls (machine.coded id c bytes) (code id c bytes (hex_of a)) p2 a (b ∷ bs)
      (unfold part_of in rw (tests.first_true (is_hex_digit a) _ g)))
      (λ p3. part_on l ls (code id c bytes (hex_of a)) (string id c (bytes ++ (16 * hex_of a + hex_of b) ∷ [])) p3 b bs
      (unfold part_of in rw (tests.second_true (is_hex_digit a) _ g) (steps.adds id c bytes (16 * hex_of a + hex_of b) h i)))))

  characters_run : (xs : List Character) (bytes : List ℕ) (p : ℕ) (bs : List ℕ) → good_characters xs ≡ true → length (bytes ++ characters_bytes xs) ≤ 255
      → stars_in (bytes ++ characters_bytes xs) ≤ 4
      → Reach (inside (string id c bytes) l ls) p (characters_text xs ++ bs) (inside (string id c (bytes ++ characters_bytes xs)) l ls) bs
  unfolding good_characters characters_text characters_bytes
  characters_run [] bytes p bs g h i = rw append-nil (stay (inside (string id c bytes) l ls) p bs)
  characters_run (x ∷ xs) bytes p bs g h i =
      let split : bytes ++ character_byte x ∷ characters_bytes xs ≡ (bytes ++ character_byte x ∷ []) ++ characters_bytes
      xs = sym (append_assoc bytes (character_byte x ∷ []) (characters_bytes xs)) in
      let h' : length ((bytes ++ character_byte x ∷ []) ++ characters_bytes xs) ≤ 255 = rw split at h in
      let i' : stars_in ((bytes ++ character_byte x ∷ []) ++ characters_bytes xs) ≤ 4 = rw split at i in
      rw (split, append_assoc (character_text x) (characters_text xs) bs)
      (then (character_runs x bytes p (characters_text xs ++ bs) (tests.first_true (good_character x) _ g)
      (omega (arith, h', length-append (bytes ++ character_byte x ∷ []) (characters_bytes xs), length-append bytes (character_byte x ∷ [])))
      (omega (arith, i', steps.stars_append (bytes ++ character_byte x ∷ []) (characters_bytes xs))))
      (λ q. characters_run xs (bytes ++ character_byte x ∷ []) q bs (tests.second_true (good_character x) _ g) h' i'))

  pub constant_runs : (k : Constant) (p : ℕ) (bs : List ℕ) → GoodConstant c k → Closes bs → Reach (inside (constant id c) l ls) p (constant_text k ++ bs)
      (after_relation l ls (meant id c k)) bs
  unfolding GoodConstant constant_text meant
  constant_runs (grammar.number ds) p bs g h =
      then (number_runs ds p bs g) (λ q. record { place = q; moves = refl; runs = steps.number_ends id c l ls (value_from 0 ds) q bs h })
  constant_runs (grammar.sized ds w) p bs g h =
      rw (append_assoc ds (58 ∷ w ∷ []) bs)
      (then (number_runs ds p (58 ∷ w ∷ bs) g.0)
      (λ p1. then (part_on l ls (digits id c (value_from 0 ds)) (colon id c (value_from 0 ds)) p1 58 (w ∷ bs) (steps.digits_colon id c (value_from 0 ds)))
      (λ p2. part_whole l ls (colon id c (value_from 0 ds)) (number_relation id c (w - 48) (value_from 0 ds)) p2 w bs
      (steps.colon_width id c (value_from 0 ds) w g.1))))
  constant_runs (grammar.string xs) p bs g h =
      rw (append_assoc (characters_text xs) (34 ∷ []) bs)
      (then (part_on l ls (constant id c) (string id c []) p 34 (characters_text xs ++ 34 ∷ bs) (steps.wants_string id c g.1))
      (λ p1. then (characters_run xs [] p1 (34 ∷ bs) g.0.are g.0.short g.0.stars)
      (λ p2. part_whole l ls (string id c (characters_bytes xs)) (text_relation id c (characters_bytes xs)) p2 34 bs
      (steps.string_end id c (characters_bytes xs)))))

-- ---- relations

constant_first : (c : Comparison) (k : Constant) (bs : List ℕ) → GoodConstant c k → NotEqualSign (constant_text k ++ bs)
unfolding GoodConstant constant_text every
constant_first c (grammar.number []) bs g z = omega (arith, g.some)
constant_first c (grammar.number (d ∷ ds)) bs g z = omega (arith, tests.digit_most d (tests.first_true (digit d) _ g.are))
constant_first c (grammar.sized [] w) bs g z = omega (arith, g.0.some)
constant_first c (grammar.sized (d ∷ ds) w) bs g z = omega (arith, tests.digit_most d (tests.first_true (digit d) _ g.0.are))
constant_first c (grammar.string xs) bs g z = omega arith

behind_first : (x bs : List ℕ) → grammar.Blanks x → NotEqualSign bs → NotEqualSign (x ++ bs)
unfolding every
behind_first [] bs g n z = n z
behind_first (b ∷ x) bs g n z = omega (arith, tests.blank_below b (tests.first_true (is_blank b) _ g))

-- a relation, wherever it stands
pub relation_runs : (r : Written) → GoodWritten r → (l : Level) (ls : List Level) (p : ℕ) (bs : List ℕ) → Closes bs → Reach (want l ls) p (written_text r ++ bs)
    (after_relation l ls (relation_of r)) bs
unfolding written_text
relation_runs r g l ls p bs h =
    let k : List ℕ = constant_text r.constant ++ bs in
    simp append_assoc
    (then (item_runs l ls r.item r.id p (r.before ++ (operator_text r.comparison ++ (r.behind ++ k))) g.stands)
    (λ p1. then (over_blanks (inside (item r.id) l ls) (item_still r.id l ls) r.before g.before p1
    (operator_text r.comparison ++ (r.behind ++ k)))
    (λ p2. then (operator_runs r.id l ls r.comparison p2 (r.behind ++ k)
    (behind_first r.behind k g.behind (constant_first r.comparison r.constant bs g.constant)))
    (λ p3. then (over_blanks (inside (constant r.id r.comparison) l ls) (constant_still r.id r.comparison l ls) r.behind g.behind p3 k)
    (λ p4. constant_runs r.id r.comparison l ls r.constant p4 bs g.constant h)))))
