-- The items of a file header (document 01, "Header at DATA_END"): "AA 55, then items of id (2 bytes), length (1), data; the end is 00 00 00."
-- Over any bytes. Assumes nothing.
use Rattle.std.specs.Prelude.{ℕ, zero, suc, ◌+◌, ◌*◌, Bool, false, cond, List, [], ◌∷◌, length, take, drop, ◌==◌, nat_le}
use Rattle.header.specs.declared.items.Head.{Head}
use Rattle.header.specs.declared.items.Head.TheVariants.{Broken, End, Item}

pub record Field : Type 0 where
  pub id : ℕ
  pub bytes : List ℕ

-- what stands at the front of bytes: the end mark; an item's id and length; or neither, where the bytes run out or id 0 has a length
unfoldable pub head_of : List ℕ → Head
head_of [] = Broken
head_of (a ∷ []) = Broken
head_of (a ∷ b ∷ []) = Broken
head_of (a ∷ b ∷ n ∷ bs) =
    cond (a + 256 * b == 0) (cond (n == 0) End Broken) (cond (nat_le n (length bs)) (Item (a + 256 * b) n) Broken)

-- document 01's number for a head: 14, "items that run out, id 0 with a length"
abbrev pub head_number : Head → ℕ
head_number Broken = 14
head_number End = 0
head_number (Item i n) = 0

-- the items read, whether the end mark was reached, and how many bytes the items and the end mark take
pub record Walk : Type 0 where
  pub items : List Field
  pub whole : Bool
  pub size : ℕ

-- the walk ends at a head of so many bytes; it is whole where the head has no refusal's number
abbrev pub ended_at : Head → ℕ → Walk
ended_at head size = record { items = []; whole = (head_number head == 0); size = size }

-- what a head gives, with the bytes from it on and the walk past so many further bytes
unfoldable pub after : Head → List ℕ → (ℕ → Walk) → Walk
after Broken bs k = ended_at Broken 0
after End bs k = ended_at End 3
after (Item i n) bs k =
    record
    { items = record { id = i; bytes = take n (drop 3 bs) } ∷ (k (2 + n)).items; whole = (k (2 + n)).whole; size = 3 + n + (k (2 + n)).size }

-- past the first bytes, as many as the number says, the items
unfoldable pub walk : ℕ → List ℕ → Walk
walk n [] = ended_at Broken 0
walk zero (b ∷ bs) = after (head_of (b ∷ bs)) (b ∷ bs) (λ n. walk n bs)
walk (suc n) (b ∷ bs) = walk n bs

-- the file begins AA 55
unfoldable pub marked : List ℕ → Bool
marked [] = false
marked (a ∷ []) = false
marked (a ∷ b ∷ bs) = cond (a == 170) (b == 85) false

-- the items of a file; none where it does not begin AA 55
unfoldable pub fields_of : List ℕ → List Field
fields_of file = cond (marked file) (walk 0 (drop 2 file)).items []
