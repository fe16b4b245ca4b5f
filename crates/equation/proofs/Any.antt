-- A relation holds where any item of its id meets it (02, A2), and "upload_time greater than t" on a header. Assumes nothing.
use mathlib.Core.Path.{◌≡◌, refl, sym, ap, ◌∙◌}
use mathlib.Core.Bool.{Bool, true, false, ◌||◌, cond, or-true, or-false}
use mathlib.Core.List.{List, [], ◌∷◌, ◌++◌, Memᴰ}
use Prim.Native.Nat.{ℕ, ◌<◌}
use native.Mathlib.Omega.{arith}
use lib.Dec.{eqb, ltb}
use borrow.Author.Tests.{eq-eqb, eqb-true}
use Rattle.numbers.specs.Numbers.{four}
use Rattle.numbers.proofs.NumberLaws.{number_four}
use Rattle.header.specs.Items.{Field}
use Rattle.equation.specs.Relation.{width, compare, number_meets, meets}
use Rattle.equation.specs.Holds.{Relation, met_by, holds, bytes_of}
use Rattle.equation.specs.Newer.{newer}

-- ---- any item

-- an item of the header has the relation's id and meets it
pub record Met (r : Relation) (xs : List Field) : Type 0 where
  pub item : Field
  pub there : Memᴰ item xs
  pub same_id : item.id ≡ r.id
  pub met : meets r.code r.constant item.bytes ≡ true

-- THE LAW, both ways: a relation holds exactly where there is such an item, whatever the other items are
pub holds_met : (r : Relation) (xs : List Field) → holds r xs ≡ true → Met r xs
unfolding holds
holds_met r [] h = let z : ◌≡◌ {A = ℕ} 0 1 = cc in absurd (omega arith)
holds_met r (x ∷ xs) h = go (eqb x.id r.id) refl (meets r.code r.constant x.bytes) refl h (holds_met r xs)
  where
    later : Met r xs → Met r (x ∷ xs)
    later m = record { item = m.item; there = Memᴰ.tail m.there; same_id = m.same_id; met = m.met }

    go : (same : Bool) → eqb x.id r.id ≡ same
        → (met : Bool) → meets r.code r.constant x.bytes ≡ met
        → cond same met false || holds r xs ≡ true
        → (holds r xs ≡ true → Met r xs)
        → Met r (x ∷ xs)
    go true e true f h ih = record { item = x; there = Memᴰ.head refl; same_id = eqb-true x.id r.id e; met = f }
    go true e false f h ih = later (ih h)
    go false e met f h ih = later (ih h)

member_holds : (r : Relation) (y : Field) → met_by r y ≡ true → (xs : List Field) → Memᴰ y xs → holds r xs ≡ true
unfolding holds
member_holds r y h (x ∷ xs) (Memᴰ.head e) = ap (λ (b : Bool). b || holds r xs) (ap (met_by r) (sym e) ∙ h)
member_holds r y h (x ∷ xs) (Memᴰ.tail m) = ap (λ (b : Bool). met_by r x || b) (member_holds r y h xs m) ∙ or-true (met_by r x)
member_holds r y h [] x' = elim x' [ ]

pub met_holds : (r : Relation) (xs : List Field) → Met r xs → holds r xs ≡ true
met_holds r xs m =
    member_holds r m.item
    (ap (λ (b : Bool). cond b (meets r.code r.constant m.item.bytes) false) (eq-eqb m.item.id r.id m.same_id) ∙ m.met)
    xs m.there

-- items in two parts, so that neither their order nor an item that does not meet the relation matters
pub holds_append : (r : Relation) (xs ys : List Field) → holds r (xs ++ ys) ≡ holds r xs || holds r ys
unfolding holds
holds_append r [] ys = refl
holds_append r (x ∷ xs) ys = go (met_by r x) (holds_append r xs ys)
  where
    go : (met : Bool) → holds r (xs ++ ys) ≡ holds r xs || holds r ys → met || holds r (xs ++ ys) ≡ (met || holds r xs) || holds r ys
    go true ih = refl
    go false ih = ih

-- ---- by the bytes of the items with the id

-- some of the bytes meet a relation
abbrev pub any_meets : Relation → List (List ℕ) → Bool
any_meets r [] = false
any_meets r (b ∷ bs) = meets r.code r.constant b || any_meets r bs

pub holds_any : (r : Relation) (xs : List Field) → holds r xs ≡ any_meets r (bytes_of r.id xs)
unfolding holds bytes_of
holds_any r [] = refl
holds_any r (x ∷ xs) = go (holds_any r xs) (eqb x.id r.id)
  where
    go : holds r xs ≡ any_meets r (bytes_of r.id xs)
        → (same : Bool)
        → cond same (meets r.code r.constant x.bytes) false || holds r xs
        ≡ any_meets r (cond same (x.bytes ∷ bytes_of r.id xs) (bytes_of r.id xs))
    go ih true = ap (λ (b : Bool). meets r.code r.constant x.bytes || b) ih
    go ih false = ih

-- ---- the condition for newer files

-- an item whose time is u is newer than t exactly when t is below u
meets_newer : (t u : ℕ) → t < 4294967296 → u < 4294967296 → meets 144 (four t) (four u) ≡ ltb t u
unfolding meets number_meets width compare
meets_newer t u h i = rw (number_four t h, number_four u i)

-- a header with one upload_time, as every complete file's is, is newer than t exactly when that time is
pub newer_holds : (t u : ℕ) (xs : List Field)
    → t < 4294967296
    → u < 4294967296
    → bytes_of 18 xs ≡ four u ∷ []
    → holds (newer t) xs ≡ ltb t u
newer_holds t u xs h i e =
    holds_any (newer t) xs ∙ (ap (any_meets (newer t)) e ∙ (or-false (meets 144 (four t) (four u)) ∙ meets_newer t u h i))

-- a header without upload_time is newer than nothing
pub newer_absent : (t : ℕ) (xs : List Field) → bytes_of 18 xs ≡ [] → holds (newer t) xs ≡ false
newer_absent t xs e = holds_any (newer t) xs ∙ ap (any_meets (newer t)) e
