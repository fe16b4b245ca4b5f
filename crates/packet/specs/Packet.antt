-- Packets (document 01, "Packets"; document 001, section 2). Assumes nothing.
use Rattle.std.specs.Prelude.{cond, List, [], ◌∷◌, ◌++◌, ℕ, ◌+◌, ◌*◌, ◌/◌, ◌%◌, ltb, length, drop, Result, Ok, Err}

-- "A packet is the low 8 bits of the information length, then a byte with the type in bits 0 to 4 and the length's three high bits in
-- bits 5 to 7, then the information."
unfoldable pub packet_of : ℕ → List ℕ → List ℕ
packet_of kind info = length info % 256 ∷ (kind + 32 * (length info / 256)) ∷ info

-- what the first two bytes of a packet say
abbrev pub announced : ℕ → ℕ → ℕ
announced first second = first + 256 * (second / 32)

abbrev pub kind_in : ℕ → ℕ
kind_in second = second % 32

-- ---- the plain writer: types 0 to 17, up to 2,047 information bytes

-- "33 local: a size or length outside the table, a type above 17 in the plain pair"; "32 local: output shorter .. for the plain writer than its
-- packet"; else the packet's length
unfoldable pub write_answer : ℕ → List ℕ → List ℕ → Result ℕ ℕ
write_answer kind info out =
    cond (ltb 17 kind) (Err 33)
    (cond (ltb 2047 (length info)) (Err 33)
    (cond (ltb (length out) (2 + length info)) (Err 32)
    (Ok (2 + length info))))

-- "32 to 35 change nothing .. and write nothing. Output beyond the packet is untouched."
unfoldable pub left_in : Result ℕ ℕ → ℕ → List ℕ → List ℕ → List ℕ
left_in (Err n) kind info out = out
left_in (Ok n) kind info out = packet_of kind info ++ drop (2 + length info) out

-- ---- the plain reader: the packet at the front of the bytes; further bytes are not looked at

-- 33 for "a type above 17 in the plain pair, or a lent buffer too short"; else the type and the information's length
unfoldable pub read_answer : List ℕ → Result (ℕ × ℕ) ℕ
read_answer [] = Err 33
read_answer (a ∷ []) = Err 33
read_answer (a ∷ b ∷ bs) =
    cond (ltb 17 (kind_in b)) (Err 33)
    (cond (ltb (length bs) (announced a b)) (Err 33)
    (Ok (kind_in b, announced a b)))
