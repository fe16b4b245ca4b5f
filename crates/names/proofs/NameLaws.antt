-- Laws on the names: no name is the beginning of another, so a name is known as soon as its last letter is read. Assumes nothing.
use mathlib.Core.Path.{◌≡◌, refl, sym, ap, ◌∙◌}
use mathlib.Core.Bool.{Bool, true, false, ◌||◌, cond}
use mathlib.Core.List.{List, [], ◌∷◌, ◌++◌, map, append_assoc, append-nil}
use mathlib.Core.Option.{Option, none, some}
use Prim.Native.Nat.{ℕ, ◌+◌, ◌≤◌, ◌<◌}
use native.Mathlib.Omega.{arith}
use lib.Dec.{leb, eqb}
use lib.ListN.{length}
use borrow.Author.Tests.{leb-true, le-leb, lt-leb, eqb-true}
use Rattle.packet.specs.Names.{bytes_of}
use Rattle.text.specs.Match.{lower}
use Rattle.lines.specs.Commands.{same}
use Rattle.lines.proofs.FieldLaws.{same_equal}
use Rattle.names.specs.Kinds.{every}
use Rattle.names.specs.Names.{Named, items, small, begins_with, id_in, id_named, starts_in, starts_name}
use Rattle.names.proofs.Tests.{first_true, second_true, clash, no}

unknown : Option ℕ → Bool
unknown none = true
unknown (some id) = false

-- the letters w, and then each further one but the last: no name yet, but the beginning of one. The first letter is no blank, bracket or "#".
pub walks : List ℕ → List ℕ → Bool
walks w [] = true
walks w (c ∷ []) = leb 48 c
walks w (c ∷ d ∷ r) =
    cond (leb 48 c) (cond (unknown (id_named (w ++ c ∷ []))) (cond (starts_name (w ++ c ∷ [])) (walks (w ++ c ∷ []) (d ∷ r)) false) false) false

walk_all : List Named → Bool
walk_all [] = true
walk_all (x ∷ xs) = cond (walks [] (small x)) (walk_all xs) false

all_walk : walk_all items ≡ true
unfolding walk_all walks unknown items small bytes_of lower id_in starts_in begins_with same
all_walk = refl

-- the letters of a name
known_walks : (xs : List Named) (letters : List ℕ) (id : ℕ) → walk_all xs ≡ true → id_in xs letters ≡ some id → walks [] letters ≡ true
unfolding walk_all id_in
known_walks [] letters id a h = let z : ◌≡◌ {A = ℕ} 0 1 = cc in absurd (omega arith)
known_walks (x ∷ xs) letters id a h = by (known_walks xs letters id (second_true (walks [] (small x)) _ a)) (same (small x) letters) refl h
  where
    by : (id_in xs letters ≡ some id → walks [] letters ≡ true) → (t : Bool) → same (small x) letters ≡ t → cond t (some x.id) (id_in xs letters) ≡ some id → walks [] letters ≡ true
    by ih true e z = rw (← same_equal (small x) letters e) (first_true (walks [] (small x)) _ a)
    by ih false e z = ih z

pub record Walk (w : List ℕ) (c d : ℕ) (r : List ℕ) : Type 0 where
  pub high : 48 ≤ c
  pub no_id : id_named (w ++ c ∷ []) ≡ none
  pub starts : starts_name (w ++ c ∷ []) ≡ true
  pub further : walks (w ++ c ∷ []) (d ∷ r) ≡ true

no_name : (o : Option ℕ) → unknown o ≡ true → o ≡ none
unfolding unknown
no_name none h = refl
no_name (some id) h = let z : ◌≡◌ {A = ℕ} 0 1 = cc in absurd (omega arith)

pub walk : (w : List ℕ) (c d : ℕ) (r : List ℕ) → walks w (c ∷ d ∷ r) ≡ true → Walk w c d r
unfolding walks
walk w c d r h =
    let h1 = second_true (leb 48 c) _ h in
    let h2 = second_true (unknown (id_named (w ++ c ∷ []))) _ h1 in
    record {
      high = leb-true 48 c (first_true (leb 48 c) _ h);
      no_id = no_name (id_named (w ++ c ∷ [])) (first_true (unknown (id_named (w ++ c ∷ []))) _ h1);
      starts = first_true (starts_name (w ++ c ∷ [])) _ h2;
      further = second_true (starts_name (w ++ c ∷ [])) _ h2;
    }

pub last_high : (w : List ℕ) (c : ℕ) → walks w (c ∷ []) ≡ true → 48 ≤ c
unfolding walks
last_high w c h = leb-true 48 c h

pub name_walks : (letters : List ℕ) (id : ℕ) → id_named letters ≡ some id → walks [] letters ≡ true
name_walks letters id h = known_walks items letters id all_walk h

-- ---- a beginning of a name, and the rest of it

pub record Completion (w : List ℕ) : Type 0 where
  pub rest : List ℕ
  pub id : ℕ
  pub is : id_named (w ++ rest) ≡ some id
  pub lowered : map lower rest ≡ rest

lower_again : (b : ℕ) → lower (lower b) ≡ lower b
unfolding lower
lower_again b = by (leb 65 b) (leb b 90) refl refl
  where
    by : (s t : Bool) → leb 65 b ≡ s → leb b 90 ≡ t → lower (cond s (cond t (b + 32) b) b) ≡ cond s (cond t (b + 32) b) b
    by true true e f = rw (le-leb 65 (b + 32) (omega (arith, leb-true 65 b e)), lt-leb (b + 32) 90 (omega (arith, leb-true 65 b e)))
    by true false e f = rw (e, f)
    by false t e f = rw e

lowered_again : (bs : List ℕ) → map lower (map lower bs) ≡ map lower bs
lowered_again [] = refl
lowered_again (b ∷ bs) = rw (lower_again b, lowered_again bs)

lowered_rest : (w rest : List ℕ) → map lower (w ++ rest) ≡ w ++ rest → map lower rest ≡ rest
lowered_rest [] rest h = h
lowered_rest (b ∷ w) rest h = lowered_rest w rest cc

-- every name of the table is found in it
found_all : List Named → Bool
found_all [] = true
found_all (x ∷ xs) = cond (unknown (id_named (small x))) false (found_all xs)

all_found : found_all items ≡ true
unfolding found_all unknown items small bytes_of lower id_in same
all_found = refl

record Rest (w text : List ℕ) : Type 0 where
  rest : List ℕ
  is : text ≡ w ++ rest

begins_rest : (w text : List ℕ) → begins_with w text ≡ true → Rest w text
unfolding begins_with
begins_rest [] text h = record { rest = text; is = refl }
begins_rest (b ∷ w) [] h = let z : ◌≡◌ {A = ℕ} 0 1 = cc in absurd (omega arith)
begins_rest (b ∷ w) (c ∷ text) h =
    let y = begins_rest w text (second_true (eqb b c) _ h) in
    record { rest = y.rest; is = rw (← y.is, eqb-true b c (first_true (eqb b c) _ h)) }

lowered_again_small : (x : Named) → map lower (small x) ≡ small x
unfolding small
lowered_again_small x = lowered_again (bytes_of x.name)

some_id : (w : List ℕ) (x : Named) (o : Option ℕ) → id_named (small x) ≡ o → unknown o ≡ false → Rest w (small x) → Completion w
unfolding unknown
some_id w x none e h r = let z : ◌≡◌ {A = ℕ} 0 1 = cc in absurd (omega arith)
some_id w x (some id) e h r =
    record { rest = r.rest; id = id; is = rw (← r.is) e; lowered = lowered_rest w r.rest (rw r.is at (lowered_again_small x)) }

completes : (xs : List Named) (w : List ℕ) → found_all xs ≡ true → starts_in xs w ≡ true → Completion w
unfolding found_all starts_in
completes [] w a h = let z : ◌≡◌ {A = ℕ} 0 1 = cc in absurd (omega arith)
completes (x ∷ xs) w a h = by (unknown (id_named (small x))) refl a (λ b. completes xs w b) (begins_with w (small x)) refl h
  where
    by : (t : Bool) → unknown (id_named (small x)) ≡ t → cond t false (found_all xs) ≡ true → (found_all xs ≡ true → starts_in xs w ≡ true → Completion w)
        → (s : Bool) → begins_with w (small x) ≡ s → s || starts_in xs w ≡ true → Completion w
    by true e b ih s f z = absurd (clash false b refl)
    by false e b ih true f z = some_id w x (id_named (small x)) refl e (begins_rest w (small x) f)
    by false e b ih false f z = ih b z

pub completion : (w : List ℕ) → starts_name w ≡ true → Completion w
completion w h = completes items w all_found h

-- the empty text is no name
pub not_empty : (id : ℕ) → id_named [] ≡ some id → ⊥
unfolding id_in items small bytes_of lower same
not_empty id h = let z : ◌≡◌ {A = ℕ} 0 1 = cc in omega arith

-- ---- from letters that begin a name on

no_rest : (w r : List ℕ) (id : ℕ) → id_named w ≡ none → id_named (w ++ r) ≡ some id → 0 < length r
no_rest w [] id n h = let z : none ≡ some id = sym n ∙ (rw append-nil at h) in let y : ◌≡◌ {A = ℕ} 0 1 = cc in absurd (omega arith)
no_rest w (c ∷ r) id n h = omega arith

walks_from : (x w r : List ℕ) → 0 < length r → walks x (w ++ r) ≡ true → walks (x ++ w) r ≡ true
walks_from x [] r n h = rw append-nil h
walks_from x (c ∷ []) [] n h = absurd (omega arith)
walks_from x (c ∷ []) (d ∷ r) n h = (walk x c d r h).further
walks_from x (c ∷ d ∷ w) r n h =
    let k = walks_from (x ++ c ∷ []) (d ∷ w) r n (walk x c d (w ++ r) h).further in
    rw append_assoc at k

module _ (w : List ℕ) (n : id_named w ≡ none) (c : Completion w) where
  pub more_letters : 0 < length c.rest
  more_letters = no_rest w c.rest c.id n c.is

  pub walks_on : walks w c.rest ≡ true
  walks_on = walks_from [] w c.rest more_letters (name_walks (w ++ c.rest) c.id c.is)

-- ---- every name of the table

pub record Listed (x : Named) : Type 0 where
  pub walks : walks [] (small x) ≡ true
  pub found : id_named (small x) ≡ some x.id
  pub five : 5 ≤ length (small x)
  pub high : every (leb 48) (small x) ≡ true

unfoldable pub AllListed : List Named → Type 0
AllListed [] = Unit {0}
AllListed (x ∷ xs) = Listed x × AllListed xs

knows : Option ℕ → ℕ → Bool
knows none id = false
knows (some i) id = eqb i id

known_is : (o : Option ℕ) (id : ℕ) → knows o id ≡ true → o ≡ some id
unfolding knows
known_is none id h = absurd (clash false h refl)
known_is (some i) id h = ap some (eqb-true i id h)

listed_all : List Named → Bool
listed_all [] = true
listed_all (x ∷ xs) = cond (walks [] (small x)) (cond (knows (id_named (small x)) x.id) (cond (leb 5 (length (small x))) (cond (every (leb 48) (small x)) (listed_all xs) false) false) false) false

are_listed : (xs : List Named) → listed_all xs ≡ true → AllListed xs
unfolding listed_all AllListed
are_listed [] h = tt
are_listed (x ∷ xs) h =
    let h1 = second_true (walks [] (small x)) _ h in
    let h2 = second_true (knows (id_named (small x)) x.id) _ h1 in
    let h3 = second_true (leb 5 (length (small x))) _ h2 in (
      record {
        walks = first_true (walks [] (small x)) _ h;
        found = known_is (id_named (small x)) x.id (first_true (knows (id_named (small x)) x.id) _ h1);
        five = leb-true 5 (length (small x)) (first_true (leb 5 (length (small x))) _ h2);
        high = first_true (every (leb 48) (small x)) _ h3;
      },
      are_listed xs (second_true (every (leb 48) (small x)) _ h3),
    )

listed_test : listed_all items ≡ true
unfolding listed_all every knows walks unknown items small bytes_of lower id_in starts_in begins_with same
listed_test = refl

pub all_listed : AllListed items
all_listed = are_listed items listed_test

-- byte 0 is no letter
begins_zero : (w cs : List ℕ) → every (leb 48) cs ≡ true → begins_with (w ++ 0 ∷ []) cs ≡ true → ⊥
unfolding every begins_with
begins_zero [] [] h i = clash false i refl
begins_zero [] (c ∷ cs) h i =
    let a : 48 ≤ c = leb-true 48 c (first_true (leb 48 c) _ h) in
    let b : 0 ≡ c = eqb-true 0 c (first_true (eqb 0 c) _ i) in
    omega arith
begins_zero (x ∷ w) [] h i = clash false i refl
begins_zero (x ∷ w) (c ∷ cs) h i = begins_zero w cs (second_true (leb 48 c) _ h) (second_true (eqb x c) _ i)

starts_zero : (xs : List Named) (w : List ℕ) → AllListed xs → starts_in xs (w ++ 0 ∷ []) ≡ false
unfolding AllListed starts_in
starts_zero [] w h = refl
starts_zero (x ∷ xs) w h = rw (no (begins_with (w ++ 0 ∷ []) (small x)) (begins_zero w (small x) h.0.high), starts_zero xs w h.1)

pub no_zero : (w : List ℕ) → starts_name (w ++ 0 ∷ []) ≡ false
no_zero w = starts_zero items w all_listed
