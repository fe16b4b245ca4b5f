-- Constants and whole relations: where the machine goes, and what the output then has. Assumes nothing.
use Rattle.std.proofs.Common.{Result, Ok, Err}
use mathlib.Core.Path.{◌≡◌, refl, sym, subst, ◌∙◌}
use mathlib.Core.Bool.{Bool, true, false, cond}
use mathlib.Core.List.{List, [], ◌∷◌, ◌++◌}
use Prim.Native.Nat.{ℕ, suc, ◌+◌, ◌-◌, ◌*◌, ◌≤◌}
use native.Mathlib.Omega.{arith}
use lib.Dec.{eqb}
use lib.ListN.{length, get_or, set, take, length-append}
use lib.Seq.{sets, set-set}
use borrow.Author.Tests.{ne_eqb}
use Rattle.numbers.specs.Numbers.{two, four}
use Rattle.lines.specs.Numerals.{digit}
use Rattle.lines.proofs.Writing.{joined}
use Rattle.equation.specs.Relation.{width}
use Rattle.equation.specs.Symbols.{stars_in}
use Rattle.names.specs.Kinds.{is_blank}
use Rattle.grammar.specs.Formula.{relation_bytes}
use Rattle.grammar.specs.Meaning.{operator_number, is_equality, number_relation, text_relation}
use Rattle.grammar.specs.Machine.{item, constant, string, wanted, stop, part_of, Level, want, inside}
use Rattle.grammar.specs.declared.Comparison.{Comparison}
use Rattle.grammar.specs.declared.Comparison.TheVariants.{Equal, Greater, Less, NotEqual, GreaterOrEqual, LessOrEqual}
use Rattle.grammar.specs.declared.Reason.{Reason}
use Rattle.grammar.specs.declared.Reason.TheVariants as reason
use Rattle.grammar.proofs.Steps as steps
use Rattle.grammar.proofs.Bytes.{width_cases}
use Rattle.tokens.specs.Tokens.{item_at, sign_at, wrong_at, number_at, character_at}
use Rattle.tokens.specs.declared.Wrong.{Wrong}
use Rattle.tokens.specs.Places.{Goes, GoesIn, Skipped}
use Rattle.tokens.specs.declared.strings.Character.{Character}
use Rattle.tokens.specs.declared.strings.Character.TheVariants as character
use Rattle.tokens.proofs.Places as places
use Rattle.tokens.proofs.TokenLaws as tokens
use Rattle.tokens.proofs.ItemLaws.{ItemIs, ItemRead, reads_item}
use Rattle.readings.specs.Contract.{Reading, StringIs, StringRead, ConstantIs, ConstantRead, StringConstantRead, RelationRead}
use Rattle.readings.proofs.PutLaws as output

pub operator_small : (c : Comparison) → operator_number c ≤ 5
unfolding operator_number
operator_small Equal = omega arith
operator_small Greater = omega arith
operator_small Less = omega arith
operator_small NotEqual = omega arith
operator_small GreaterOrEqual = omega arith
operator_small LessOrEqual = omega arith

-- ---- numbers

pub was_number : (text : List ℕ) (at id : ℕ) → digit (get_or text at 0) ≡ true → (r x : Result (ℕ × ℕ × ℕ) Wrong) → r ≡ number_at text at id → r ≡ x → tokens.NumberRead text at id x
was_number text at id d r x e z = rw (← z, e) (tokens.number_read text at id d)

taken_length : (w v : ℕ) → width w ≡ true → length (take w (four v)) ≡ w
taken_length w v h = width_cases w h (λ w. length (take w (four v)) ≡ w) refl refl refl

width_most : (w : ℕ) → width w ≡ true → w ≤ 4
width_most w h = width_cases w h (λ w. w ≤ 4) (omega arith) (omega arith) (omega arith)

-- the bytes of a relation, the constant put behind its head
head_bytes : (code id size : ℕ) (content out mid now : List ℕ) (n m : ℕ) → size ≡ length content → m ≡ n + 4 → mid ≡ sets out n (code ∷ (two id ++ (size ∷ [])))
    → now ≡ sets mid m content
    → now ≡ sets out n (code ∷ (two id ++ (length content ∷ content)))
head_bytes code id size content out mid now n m hs hm e f =
    output.put_all out mid now n m (code ∷ (two id ++ (size ∷ []))) content e hm f ∙ rw hs

module _ (text : List ℕ) (at id : ℕ) (c : Comparison) (out : List ℕ) (n : ℕ) where
  pub number_wrong : (p : ℕ) (why : Reason) (now : List ℕ) → tokens.NumberRead text at id (Err (wrong_at p why)) → ConstantRead text at id c out n
      (Err (wrong_at p why)) now
  number_wrong p why now h = h c

  pub number_is : (v w q m k : ℕ) (mid now : List ℕ) → tokens.NumberRead text at id (Ok (v, w, q)) → m ≡ n + 4 → k ≡ m + w
      → mid ≡ sets out n ((128 + 16 * operator_number c) ∷ (two id ++ (w ∷ []))) → now ≡ sets mid m (take w (four v)) → ConstantIs text
      (constant id c) at out n q k now
  unfolding relation_bytes number_relation
  number_is v w q m k mid now h hm hk e1 e2 =
      let t : length (take w (four v)) ≡ w = taken_length w v h.good in
      record {
        relation = number_relation id c w v;
        few = omega (arith, t, width_most w h.good, h.forward);
        within = h.within;
        count = omega (arith, t);
        bytes = head_bytes (128 + 16 * operator_number c) id w (take w (four v)) out mid now n m (sym t) hm e1 e2;
        runs = λ l ls. h.runs c l ls;
      }

-- ---- strings

pub record Spelling (text : List ℕ) (at n : ℕ) (out₀ : List ℕ) (p m stars : ℕ) (out : List ℕ) : Type 0 where
  pub content : List ℕ
  pub short : length content ≤ 255
  pub few : length content + at ≤ p
  pub within : p ≤ length text
  pub count : m ≡ n + length content
  pub bytes : out ≡ sets out₀ n content
  pub starred : stars ≡ stars_in content
  pub runs : (id : ℕ) (c : Comparison) → GoesIn text (string id c []) at (string id c content) p

pub spelling_none : (text : List ℕ) (at n : ℕ) (out : List ℕ) → at ≤ length text → Spelling text at n out at n 0 out
spelling_none text at n out h =
    record {
      content = [];
      short = omega arith;
      few = omega arith;
      within = h;
      count = omega arith;
      bytes = refl;
      starred = unfold stars_in in refl;
      runs = λ id c l ls. refl;
    }

stars_few : (bs : List ℕ) → stars_in bs ≤ length bs
unfolding stars_in
stars_few [] = omega arith
stars_few (b ∷ bs) = by (stars_few bs) (eqb b 42)
  where
    by : stars_in bs ≤ length bs → (t : Bool) → cond t (suc (stars_in bs)) (stars_in bs) ≤ suc (length bs)
    by ih true = omega arith
    by ih false = omega arith

module _ (text : List ℕ) (at n : ℕ) (out₀ : List ℕ) (p m stars : ℕ) (out : List ℕ) (s : Spelling text at n out₀ p m stars out) where
  pub few_stars : stars ≤ 255
  few_stars = omega (arith, s.starred, stars_few s.content, s.short)

  -- what stands at the place
  pub was_character : (r x : Character) → r ≡ character_at text p (m - n) stars → r ≡ x → tokens.CharacterRead text p s.content x
  was_character r x e z =
      let k : m - n ≡ length s.content = omega (arith, s.count) in
      rw (← z, e, k, s.starred) (tokens.character_read text p s.content)

  pub string_ends : get_or text p 0 ≡ 34 → StringIs text at out₀ n (p + 1) m out
  string_ends h =
      record {
        content = s.content;
        short = s.short;
        few = omega (arith, s.few);
        within = omega (arith, places.byte_in text p 34 h (omega arith));
        count = s.count;
        bytes = s.bytes;
        runs = λ id c l ls. s.runs id c l ls ∙ places.part_whole text p (string id c s.content) (text_relation id c s.content) 34 h (omega arith)
            (steps.string_end id c s.content) l ls;
      }

  pub string_wrong : (q : ℕ) (why : Reason) (now : List ℕ) → tokens.CharacterRead text p s.content (character.Wrong q why) → StringRead text at out₀ n
      (Err (wrong_at q why)) now
  string_wrong q why now h id c l ls = s.runs id c l ls ∙ h id c l ls

  pub spelling_more : (b e k t : ℕ) (now : List ℕ) → tokens.CharacterRead text p s.content (character.Is b e) → k ≡ m + 1 → now ≡ set out m b
      → t ≡ stars + stars_in (b ∷ [])
      → Spelling text at n out₀ e k t now
  spelling_more b e k t now h hk hn ht =
      let len : length (s.content ++ b ∷ []) ≡ length s.content + 1 = length-append s.content (b ∷ []) in
      record {
        content = s.content ++ b ∷ [];
        short = omega (arith, len, h.room);
        few = omega (arith, len, s.few, h.forward);
        within = h.within;
        count = omega (arith, len, s.count);
        bytes = output.put_more out₀ out now n m s.content b s.bytes s.count hn;
        starred = ht ∙ rw s.starred (sym (steps.stars_append s.content (b ∷ [])));
        runs = λ id c l ls. s.runs id c l ls ∙ h.runs id c l ls;
      }

pub was_string : (text : List ℕ) (at : ℕ) (out : List ℕ) (n : ℕ) (r x : Reading) (now : List ℕ) → StringRead text at out n r now → r ≡ x
    → StringRead text at out n x now
was_string text at out n r x now h z = subst (λ (y : Reading). StringRead text at out n y now) z h

-- the length is put behind the constant's bytes
length_last : (code id size : ℕ) (content out mid late now : List ℕ) (n m : ℕ) → m ≡ n + 4 → mid ≡ sets out n (code ∷ (two id ++ (0 ∷ [])))
    → late ≡ sets mid m content
    → now ≡ set late (n + 3) size → size ≡ length content → now ≡ sets out n (code ∷ (two id ++ (length content ∷ content)))
length_last code id size content out mid late now n m hm e1 e2 e3 hs =
    let front : List ℕ = code ∷ two id in
    let m3 : mid ≡ set (sets out n front) (n + 3) 0 = e1 ∙ sym (joined out n front (0 ∷ [])) in
    let moved : set late (n + 3) size ≡ sets (set mid (n + 3) size) m content = rw e2 (output.put_before mid (n + 3) m size content (omega arith)) in
    let again : set mid (n + 3) size ≡ sets out n (code ∷ (two id ++ (size ∷ []))) = rw m3 (set-set (sets out n front) (n + 3) 0 size) ∙ joined out n front
    (size ∷ []) in
    e3 ∙ moved ∙ head_bytes code id size content out (set mid (n + 3) size) (sets (set mid (n + 3) size) m content) n m hs hm again refl

module _ (text : List ℕ) (at id : ℕ) (c : Comparison) (out : List ℕ) (n m : ℕ) (mid : List ℕ) where
  pub string_constant_wrong : (p : ℕ) (why : Reason) (late now : List ℕ) → StringRead text at mid m (Err (wrong_at p why)) late → StringConstantRead text at id c out n
      (Err (wrong_at p why)) now
  string_constant_wrong p why late now h = h id c

  pub string_constant : (e k : ℕ) (late now : List ℕ) → StringRead text at mid m (Ok (e, k)) late → m ≡ n + 4 → mid ≡ sets out n
      ((131 + 16 * operator_number c) ∷ (two id ++ (0 ∷ [])))
      → now ≡ set late (n + 3) (k - m) → StringConstantRead text at id c out n (Ok (e, k)) now
  unfolding relation_bytes text_relation
  string_constant e k late now h hm e1 e2 =
      let size : k - m ≡ length h.content = omega (arith, h.count) in
      record {
        relation = text_relation id c h.content;
        few = omega (arith, h.few);
        within = h.within;
        count = omega (arith, h.count);
        bytes = length_last (131 + 16 * operator_number c) id (k - m) h.content out mid late now n m hm e1 h.bytes e2 size;
        runs = λ l ls. h.runs id c l ls;
      }

-- ---- constants

module _ (text : List ℕ) (at id : ℕ) (c : Comparison) (out : List ℕ) (n : ℕ) (blank : is_blank (get_or text at 0) ≡ false) (b : ℕ) (hb : b ≡ get_or text at 0) where
  pub string_from : b ≡ 34 → is_equality c ≡ true → (r : Reading) (now : List ℕ) → StringConstantRead text (at + 1) id c out n r now
      → ConstantRead text at id c out n r now
  string_from h i (Ok (e, m)) now k =
      record {
        relation = k.relation;
        few = omega (arith, k.few);
        within = k.within;
        count = k.count;
        bytes = k.bytes;
        runs = λ l ls. places.part_goes text at (constant id c) (string id c []) 34 (sym hb ∙ h) (omega arith) (steps.wants_string id c i) l ls ∙ k.runs l ls;
      }
  string_from h i (Err w) now k = λ l ls.
      places.part_goes text at (constant id c) (string id c []) 34 (sym hb ∙ h) (omega arith) (steps.wants_string id c i) l ls ∙ k l ls

  pub string_in : b ≡ 34 → at + 1 ≤ length text
  string_in h = omega (arith, places.byte_in text at 34 (sym hb ∙ h) (omega arith))

  pub no_order : b ≡ 34 → is_equality c ≡ false → (now : List ℕ) → ConstantRead text at id c out n (Err (wrong_at at reason.Order)) now
  no_order h i now = places.part_wrong text at (constant id c) reason.Order (rw (← hb, h) (order_part i))
    where
      order_part : is_equality c ≡ false → part_of (constant id c) 34 ≡ stop reason.Order
      order_part i = unfold part_of wanted is_blank digit in rw i

  pub no_constant : digit b ≡ false → (b ≡ 34 → ⊥) → (now : List ℕ) → ConstantRead text at id c out n (Err (wrong_at at reason.Constant)) now
  no_constant h i now = places.part_wrong text at (constant id c) reason.Constant
      (rw (← hb) (unfold part_of wanted in rw (rw (← hb) at blank, h, ne_eqb b 34 i)))

-- ---- relations

pub was_item : (text : List ℕ) (at : ℕ) → at ≤ length text → is_blank (get_or text at 0) ≡ false → (get_or text at 0 ≡ 40 → ⊥) → (r x : Result (ℕ × ℕ) ℕ) → r ≡ item_at text at
    → r ≡ x
    → ItemRead text at x
was_item text at h blank no_open r x e z = rw (← z, e) (reads_item text at h blank no_open)

pub was_sign : (text : List ℕ) (at : ℕ) (r x : Result (Comparison × ℕ) ℕ) → is_blank (get_or text at 0) ≡ false → r ≡ sign_at text at → r ≡ x → tokens.SignRead text at x
was_sign text at r x b e z = rw (← z, e) (tokens.sign_read text at b)

module _ (text : List ℕ) (at : ℕ) (out : List ℕ) (n id e : ℕ) (i : ItemIs text at id e) (q : ℕ) (s : Skipped text e q) where
  to_sign : (l : Level) (ls : List Level) → Goes text (want l ls) at (inside (item id) l ls) q
  to_sign l ls = i.runs l ls ∙ s.runs (inside (item id) l ls) (steps.item_still id l ls)

  pub no_sign : (p : ℕ) (now : List ℕ) → tokens.SignRead text q (Err p) → RelationRead text at out n (Err (wrong_at p reason.Operator)) now
  no_sign p now h l ls = to_sign l ls ∙ h id l ls

  module _ (c : Comparison) (k : ℕ) (g : tokens.SignRead text q (Ok (c, k))) (d : ℕ) (t : Skipped text k d) where
    to_constant : (l : Level) (ls : List Level) → Goes text (want l ls) at (inside (constant id c) l ls) d
    to_constant l ls = to_sign l ls ∙ g.runs id l ls ∙ t.runs (inside (constant id c) l ls) (steps.constant_still id c l ls)

    pub far : at + 6 ≤ d
    far = omega (arith, i.forward, s.forward, g.forward, t.forward)

    pub relation_read : (r : Reading) (now : List ℕ) → ConstantRead text d id c out n r now → RelationRead text at out n r now
    relation_read (Ok (x, m)) now h =
        record {
          relation = h.relation;
          few = omega (arith, h.few, far);
          within = h.within;
          count = h.count;
          bytes = h.bytes;
          runs = λ l ls. to_constant l ls ∙ h.runs l ls;
        }
    relation_read (Err w) now h = λ l ls. to_constant l ls ∙ h l ls
