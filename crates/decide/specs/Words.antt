-- Numbers in a packet's information. Assumes nothing.
use Rattle.std.specs.Prelude.{List, ℕ, take, drop}
use Rattle.numbers.specs.Numbers.{number}

-- the four bytes from a place on, least significant first
abbrev pub word_at : List ℕ → ℕ → ℕ
word_at info at = number (take 4 (drop at info))
