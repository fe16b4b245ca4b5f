-- Laws on parts between two places. Assumes nothing.
use Rattle.std.proofs.Common.{◌≡◌, ℕ, ◌+◌, ◌-◌, ◌<◌, ◌≤◌, Bool, true, false, cond, ltb, List, length, take, drop, sym, refl, ap, ◌∙◌, arith, length-drop, drop_of_length-le, length-take-le, take_all, ltb-false, ltb-true}
use lib.Seq.{take-nil, drop-length}
use Rattle.input.specs.Parts.{rest_of, bytes_from}

-- a part of the rest ends before the line's bytes do
pub rest_size : (at n size taken r : ℕ) → r ≡ rest_of at n size → taken < r → at + taken < n
unfolding rest_of
rest_size at n size taken r f p = go (ltb n size) refl f
  where
    go : (t : Bool) → ltb n size ≡ t → r ≡ cond t (n - at) (size - at) → at + taken < n
    go true e q = omega (arith, p)
    go false e q = omega (arith, p, ltb-false n size e)

-- numbers of bytes that are past the end take the same
take_past : (k m at : ℕ) (bytes : List ℕ) → length bytes ≤ at + k → length bytes ≤ at + m → take k (drop at bytes) ≡ take m (drop at bytes)
take_past k m at bytes p q =
    take_all k (drop at bytes) (omega (arith, length-drop at bytes, p)) ∙ sym (take_all m (drop at bytes) (omega (arith, length-drop at bytes, q)))

-- from the last byte on there are none
past_end : (k m at : ℕ) (bytes : List ℕ) → length bytes ≤ at → take k (drop (length bytes) bytes) ≡ take m (drop at bytes)
past_end k m at bytes p = rw (drop_of_length-le bytes p, drop-length bytes, take-nil k, take-nil m)

none_of : (k m a at : ℕ) (bytes : List ℕ) → k ≡ 0 → m ≡ 0 → take k (drop a bytes) ≡ take m (drop at bytes)
none_of k m a at bytes e f = rw (e, f)

-- the part from a to e, with both cut to what is lent, is the line's
pub bytes_part : (bytes : List ℕ) (at n e a : ℕ) → e ≡ cond (ltb n (length bytes)) n (length bytes) → a ≡ cond (ltb at e) at e
    → take (e - a) (drop a bytes) ≡ bytes_from at n bytes
bytes_part bytes at n e a p q = go (ltb n (length bytes)) refl p (ltb at e) refl q
  where
    go : (t : Bool) → ltb n (length bytes) ≡ t → e ≡ cond t n (length bytes) → (u : Bool) → ltb at e ≡ u → a ≡ cond u at e
        → take (e - a) (drop a bytes) ≡ bytes_from at n bytes
    go true f g true i j = rw (g, j)
    go true f g false i j = none_of (e - a) (n - at) a at bytes (omega arith) (omega (arith, ltb-false at e i))
    go false f g true i j =
        rw (j) (take_past (e - at) (n - at) at bytes (omega (arith, ltb-true at e i)) (omega (arith, ltb-false n (length bytes) f)))
    go false f g false i j = rw (j, g) (past_end (length bytes - length bytes) (n - at) at bytes (omega (arith, ltb-false at e i, g)))

-- the same part by its beginning and its size
pub rest_room : (bytes : List ℕ) (at end r a : ℕ) → r ≡ rest_of at end (length bytes) → a ≡ cond (ltb at (length bytes)) at (length bytes)
    → a + r ≤ length bytes
unfolding rest_of
rest_room bytes at end r a p q = go (ltb end (length bytes)) refl p (ltb at (length bytes)) refl q
  where
    go : (t : Bool) → ltb end (length bytes) ≡ t → r ≡ cond t (end - at) (length bytes - at) → (u : Bool) → ltb at (length bytes) ≡ u
        → a ≡ cond u at (length bytes) → a + r ≤ length bytes
    go true f g true i j = omega (arith, ltb-true end (length bytes) f, ltb-true at (length bytes) i)
    go true f g false i j = omega (arith, ltb-true end (length bytes) f, ltb-false at (length bytes) i)
    go false f g true i j = omega (arith, ltb-false end (length bytes) f, ltb-true at (length bytes) i)
    go false f g false i j = omega (arith, ltb-false end (length bytes) f, ltb-false at (length bytes) i)

pub rest_part : (bytes : List ℕ) (at end r a : ℕ) → r ≡ rest_of at end (length bytes) → a ≡ cond (ltb at (length bytes)) at (length bytes)
    → take r (drop a bytes) ≡ bytes_from at end bytes
unfolding rest_of
rest_part bytes at end r a p q = go (ltb end (length bytes)) refl p (ltb at (length bytes)) refl q
  where
    go : (t : Bool) → ltb end (length bytes) ≡ t → r ≡ cond t (end - at) (length bytes - at) → (u : Bool) → ltb at (length bytes) ≡ u
        → a ≡ cond u at (length bytes) → take r (drop a bytes) ≡ bytes_from at end bytes
    go true f g true i j = rw (g, j)
    go true f g false i j = rw j (past_end r (end - at) at bytes (ltb-false at (length bytes) i))
    go false f g true i j =
        rw j (take_past r (end - at) at bytes (omega (arith, ltb-true at (length bytes) i)) (omega (arith, ltb-false end (length bytes) f)))
    go false f g false i j = rw j (past_end r (end - at) at bytes (ltb-false at (length bytes) i))

pub rest_length : (bytes : List ℕ) (at end r a : ℕ) → r ≡ rest_of at end (length bytes) → a ≡ cond (ltb at (length bytes)) at (length bytes)
    → length (bytes_from at end bytes) ≡ r
rest_length bytes at end r a p q =
    ap (λ (l : List ℕ). length l) (sym (rest_part bytes at end r a p q))
    ∙ length-take-le r (drop a bytes) (omega (arith, length-drop a bytes, rest_room bytes at end r a p q))

-- the size of a part whose places are cut to what is lent
pub part_length : (bytes : List ℕ) (at n e a : ℕ) → e ≡ cond (ltb n (length bytes)) n (length bytes) → a ≡ cond (ltb at e) at e
    → e - a ≡ length (bytes_from at n bytes)
part_length bytes at n e a p q =
    sym (length-take-le (e - a) (drop a bytes) (omega (arith, length-drop a bytes, ends (ltb n (length bytes)) refl p)))
    ∙ ap (λ (l : List ℕ). length l) (bytes_part bytes at n e a p q)
  where
    ends : (t : Bool) → ltb n (length bytes) ≡ t → e ≡ cond t n (length bytes) → e ≤ length bytes
    ends true f g = omega (arith, ltb-true n (length bytes) f)
    ends false f g = omega arith
