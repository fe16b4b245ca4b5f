-- Parts of a list between two places. Assumes nothing.
use Rattle.std.specs.Prelude.{ℕ, ◌-◌, ◌%◌, ◌^◌, cond, List, take, drop, nat_lt}

-- the bytes from a place to another, in a list that may be shorter
abbrev pub bytes_from : ℕ → ℕ → List ℕ → List ℕ
bytes_from at end bytes = take (end - at) (drop at bytes)

-- how many these are, of `size` bytes
unfoldable pub rest_of : ℕ → ℕ → ℕ → ℕ
rest_of at end size = cond (nat_lt end size) (end - at) (size - at)

-- the smaller of two numbers
abbrev pub least_of : ℕ → ℕ → ℕ
least_of a b = cond (nat_lt a b) a b

-- numbers of the machine
abbrev pub wrapped : ℕ → ℕ
wrapped n = n % 2 ^ 64
