-- THEOREM: a line is right exactly when its answer fields equal the server's, in order, none over (specs/Promises.antt). Assumes nothing.
use native.Mathlib.Omega.{arith}
use mathlib.Core.Path.{◌≡◌, refl, sym, ◌∙◌, ap}
use mathlib.Core.Bool.{Bool, true, false, cond}
use mathlib.Core.List.{List, [], ◌∷◌, ◌++◌}
use Prim.Native.Nat.{ℕ, zero, suc}
use lib.Dec.{eqb}
use lib.ListN.{length, take, drop}
use borrow.Author.Tests.{eqb-true}
use Rattle.lines.specs.Commands.{onto, fields_of, same}
use Rattle.lines.proofs.FieldLaws.{same_equal, same_itself}
use Rattle.marking.specs.declared.Kind.TheVariants as kind
use Rattle.marking.specs.Fields.{fields_end, is_rx, script_end, answer_part, less_first, less_session}
use Rattle.marking.specs.Desk.{row_for, is_right, server_fields}
use Rattle.rows.proofs.Shape.{Tabbed, empty, tab, less_tabbed}
use Rattle.fullmarks.specs.Promises.{fields_behind, RightExactly}

-- ---- fields joined by TABs again

unfoldable join : List (List ℕ) → List ℕ
join [] = []
join (f ∷ []) = f
join (f ∷ g ∷ fs) = f ++ 9 ∷ join (g ∷ fs)

-- there is always a first field
record Some (l : List ℕ) : Type 0 where
  one : List ℕ
  others : List (List ℕ)
  are : fields_of l ≡ one ∷ others

some_none : Some []
unfolding fields_of
some_none = record { one = []; others = []; are = refl }

some_tab : (b : ℕ) (bs : List ℕ) → eqb b 9 ≡ true → Some (b ∷ bs)
unfolding fields_of
some_tab b bs e = record { one = []; others = fields_of bs; are = rw e refl }

some_byte : (b : ℕ) (bs : List ℕ) → eqb b 9 ≡ false → Some bs → Some (b ∷ bs)
unfolding fields_of onto
some_byte b bs e s = record { one = b ∷ s.one; others = s.others; are = rw (e, s.are) refl }

some_field : (l : List ℕ) → Some l
some_field [] = some_none
some_field (b ∷ bs) = go (eqb b 9) refl (some_field bs)
  where
    go : (t : Bool) → eqb b 9 ≡ t → Some bs → Some (b ∷ bs)
    go true e s = some_tab b bs e
    go false e s = some_byte b bs e s

join_onto : (b : ℕ) (one : List ℕ) (others : List (List ℕ)) → join ((b ∷ one) ∷ others) ≡ b ∷ join (one ∷ others)
unfolding join
join_onto b one [] = refl
join_onto b one (g ∷ fs) = refl

join_tab : (one : List ℕ) (others : List (List ℕ)) → join ([] ∷ one ∷ others) ≡ 9 ∷ join (one ∷ others)
unfolding join
join_tab one others = refl

tab_fields : (b : ℕ) (bs : List ℕ) → eqb b 9 ≡ true → fields_of (b ∷ bs) ≡ [] ∷ fields_of bs
unfolding fields_of
tab_fields b bs e = rw e refl

byte_fields : (b : ℕ) (bs one : List ℕ) (others : List (List ℕ)) → eqb b 9 ≡ false → fields_of bs ≡ one ∷ others → fields_of (b ∷ bs) ≡ (b ∷ one) ∷ others
unfolding fields_of onto
byte_fields b bs one others e f = rw (e, f) refl

join_none : join (fields_of []) ≡ []
unfolding join fields_of
join_none = refl

joined : (l : List ℕ) → join (fields_of l) ≡ l
joined [] = join_none
joined (b ∷ bs) = go (eqb b 9) refl (some_field bs) (joined bs)
  where
    go : (t : Bool) → eqb b 9 ≡ t → Some bs → join (fields_of bs) ≡ bs → join (fields_of (b ∷ bs)) ≡ b ∷ bs
    go true e s h =
        ap join (tab_fields b bs e ∙ ap (λ (x : List (List ℕ)). [] ∷ x) s.are)
        ∙ join_tab s.one s.others
        ∙ ap (λ (x : List (List ℕ)). 9 ∷ join x) (sym s.are)
        ∙ ap (λ (x : List ℕ). 9 ∷ x) h
        ∙ ap (λ (x : ℕ). x ∷ bs) (sym (eqb-true b 9 e))
    go false e s h =
        ap join (byte_fields b bs s.one s.others e s.are)
        ∙ join_onto b s.one s.others
        ∙ ap (λ (x : List (List ℕ)). b ∷ join x) (sym s.are)
        ∙ ap (λ (x : List ℕ). b ∷ x) h

-- ---- behind a line's own fields

some_is : (l : List ℕ) → fields_of l ≡ [] → ⊥
some_is l e = let s = some_field l in none s.one s.others (sym s.are ∙ e)
  where
    none : (one : List ℕ) (others : List (List ℕ)) → one ∷ others ≡ [] → ⊥
    none one others x = let z : ◌≡◌ {A = ℕ} 0 1 = cc in omega arith

same_fields : (a b : List ℕ) → Tabbed a → Tabbed b → fields_behind a ≡ fields_behind b → a ≡ b
unfolding fields_behind
same_fields a b (empty e) (empty f) h = e ∙ sym f
same_fields a b (empty e) (tab y f) h = absurd (some_is y (sym (sym (ap fields_behind e) ∙ h ∙ ap fields_behind f)))
same_fields a b (tab x e) (empty f) h = absurd (some_is x (sym (ap fields_behind e) ∙ h ∙ ap fields_behind f))
same_fields a b (tab x e) (tab y f) h =
    e ∙ ap (λ (l : List ℕ). 9 ∷ l) (sym (joined x) ∙ ap join (sym (ap fields_behind e) ∙ h ∙ ap fields_behind f) ∙ joined y) ∙ sym f

-- an answer begins with its TAB, if there is any of it
behind_none : (further : ℕ) → Tabbed (drop (fields_end further []) [])
unfolding fields_end
behind_none zero = empty refl
behind_none (suc further) = empty refl

behind_byte : (further b : ℕ) (bs : List ℕ) → eqb b 9 ≡ false → Tabbed (drop (fields_end further bs) bs) → Tabbed (drop (fields_end further (b ∷ bs)) (b ∷ bs))
unfolding fields_end
behind_byte zero b bs e h = rw e h
behind_byte (suc further) b bs e h = rw e h

behind_last : (b : ℕ) (bs : List ℕ) → eqb b 9 ≡ true → Tabbed (drop (fields_end zero (b ∷ bs)) (b ∷ bs))
unfolding fields_end
behind_last b bs e = rw e (tab bs (ap (λ (x : ℕ). x ∷ bs) (eqb-true b 9 e)))

behind_tab : (further b : ℕ) (bs : List ℕ) → eqb b 9 ≡ true → Tabbed (drop (fields_end further bs) bs) → Tabbed (drop (fields_end (suc further) (b ∷ bs)) (b ∷ bs))
unfolding fields_end
behind_tab further b bs e h = rw e h

behind_fields : (further : ℕ) (line : List ℕ) → Tabbed (drop (fields_end further line) line)
behind_fields further [] = behind_none further
behind_fields zero (b ∷ bs) = go (eqb b 9) refl (behind_fields zero bs)
  where
    go : (t : Bool) → eqb b 9 ≡ t → Tabbed (drop (fields_end zero bs) bs) → Tabbed (drop (fields_end zero (b ∷ bs)) (b ∷ bs))
    go true e h = behind_last b bs e
    go false e h = behind_byte zero b bs e h
behind_fields (suc further) (b ∷ bs) = go (eqb b 9) refl (behind_fields further bs) (behind_fields (suc further) bs)
  where
    go : (t : Bool) → eqb b 9 ≡ t → Tabbed (drop (fields_end further bs) bs) → Tabbed (drop (fields_end (suc further) bs) bs)
        → Tabbed (drop (fields_end (suc further) (b ∷ bs)) (b ∷ bs))
    go true e h k = behind_tab further b bs e h
    go false e h k = behind_byte (suc further) b bs e k

answer_begins : (line : List ℕ) → Tabbed (answer_part kind.Desk line)
unfolding script_end
answer_begins line = behind_fields (cond (is_rx line) 2 1) line

server_begins : (printed : List ℕ) → Tabbed (less_session printed)
unfolding less_session
server_begins printed = less_tabbed printed

pub right_exactly : RightExactly
unfolding is_right
right_exactly line printed =
    record {
      equal = λ e. ap fields_behind (same_equal (answer_part kind.Desk line) (less_session printed) e);
      right = λ e. ap (λ (x : List ℕ). same (answer_part kind.Desk line) x)
          (sym (same_fields (answer_part kind.Desk line) (less_session printed) (answer_begins line) (server_begins printed) e))
          ∙ same_itself (answer_part kind.Desk line);
    }
