-- What the server gives: file numbers, upload times, and blocks for a length.
use Rattle.std.specs.Prelude.{ℕ, ◌+◌, ◌/◌, cond, eqb, ltb, Option, Some, None}

-- the largest number of 32 bits
abbrev pub most_given : ℕ
most_given = 4294967295

-- "gets the number after the last one given, from 1"
abbrev pub next_number : ℕ → Option ℕ
next_number last = cond (eqb last most_given) None (Some (last + 1))

-- "Upload time is the clock, or the last one given plus 1 if that is larger; the last one starts at 0. At 4,294,967,295 given, they
-- are used up."
abbrev pub upload_time : ℕ → ℕ → Option ℕ
upload_time clock last = cond (eqb last most_given) None (Some (cond (ltb clock (last + 1)) (last + 1) clock))

-- the refusal: 3 "file numbers, or at DATA_END upload times, are used up"
abbrev pub given_number : Option ℕ → ℕ
given_number None = 3
given_number (Some given) = 0

-- "its length divided by 256, rounded up, in blocks"
abbrev pub blocks_for : ℕ → ℕ
blocks_for size = (size + 255) / 256
