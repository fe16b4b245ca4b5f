-- Laws on the fields of a line, byte by byte. Assumes nothing.
use Rattle.std.proofs.Common.{◌≡◌, ℕ, zero, suc, ◌≤◌, Bool, true, false, cond, eqb, List, [], ◌∷◌, length, take, refl, ap, ◌∙◌, arith}
use Rattle.packet.specs.Names.{bytes_of}
use Rattle.lines.specs.Commands.{same}
use Rattle.lines.specs.Reading.{field}
use Rattle.lines.proofs.FieldLaws.{field_front}
use Rattle.marking.specs.declared.Kind.{Kind}
use Rattle.marking.specs.declared.Kind.TheVariants as kind
use Rattle.marking.specs.Fields.{fields_end, is_rx, script_end}

pub end_most : (left : ℕ) (line : List ℕ) → fields_end left line ≤ length line
unfolding fields_end
end_most zero [] = omega arith
end_most (suc left) [] = omega arith
end_most zero (b ∷ bs) = go (eqb b 9) (end_most zero bs)
  where
    go : (t : Bool) → fields_end zero bs ≤ length bs → cond t 0 (suc (fields_end zero bs)) ≤ suc (length bs)
    go true h = omega arith
    go false h = omega (arith, h)
end_most (suc left) (b ∷ bs) = go (eqb b 9) (end_most left bs) (end_most (suc left) bs)
  where
    go : (t : Bool) → fields_end left bs ≤ length bs → fields_end (suc left) bs ≤ length bs
        → cond t (suc (fields_end left bs)) (suc (fields_end (suc left) bs)) ≤ suc (length bs)
    go true h k = omega (arith, h)
    go false h k = omega (arith, k)

-- the first field
pub first_end : (line : List ℕ) → fields_end 0 line ≡ length (field line)
unfolding fields_end field
first_end [] = refl
first_end (b ∷ bs) = go (eqb b 9) (first_end bs)
  where
    go : (t : Bool) → fields_end 0 bs ≡ length (field bs) → cond t 0 (suc (fields_end 0 bs)) ≡ length (cond t [] (b ∷ field bs))
    go true h = refl
    go false h = ap suc h

-- ---- the code's tests

pub first_field : (line : List ℕ) (end : ℕ) (r : Bool) → end ≡ fields_end 0 line → r ≡ same (take end line) (bytes_of "rx") → r ≡ is_rx line
unfolding is_rx
first_field line end r e f = f ∙ ap (λ (l : List ℕ). same l (bytes_of "rx")) (rw (e, first_end line) (field_front line))

pub script_rx : (k : Kind) (line : List ℕ) (n : ℕ) (r : Bool) → k ≡ kind.Desk → r ≡ is_rx line → r ≡ true → n ≡ fields_end 2 line → n ≡ script_end k line
unfolding script_end
script_rx k line n r e f g h = rw (e, ← f, g) h

pub script_other : (k : Kind) (line : List ℕ) (n : ℕ) (r : Bool) → k ≡ kind.Desk → r ≡ is_rx line → r ≡ false → n ≡ fields_end 1 line → n ≡ script_end k line
unfolding script_end
script_other k line n r e f g h = rw (e, ← f, g) h

pub script_all : (k : Kind) (line : List ℕ) → k ≡ kind.Sheet → length line ≡ script_end k line
unfolding script_end
script_all k line e = rw e

pub script_most : (k : Kind) (line : List ℕ) → script_end k line ≤ length line
unfolding script_end
script_most kind.Desk line = end_most (cond (is_rx line) 2 1) line
script_most kind.Sheet line = omega arith
