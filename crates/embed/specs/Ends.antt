-- How a call ends: it answers 0, 1 or 2, or it is refused by 32 to 35 with all as it was. Assumes nothing.
use Rattle.std.specs.Prelude.{◌≡◌, ℕ, ◌≤◌}

-- the local refusals of the table
abbrev pub Local : ℕ → Type 0
Local n = (32 ≤ n) × (n ≤ 35)

-- `code_of` is the number in what a call leaves, and `same n` is the number n with all that was lent as it was
pub data Ends {R : Type 0} (code_of : R → ℕ) (same : ℕ → R) (r : R) : Type 0 where
  answered : code_of r ≤ 2 → Ends code_of same r
  unchanged : (n : ℕ) → Local n → r ≡ same n → Ends code_of same r

-- "A receive call takes bytes up to the end of one packet, or all it was lent": of n bytes at least one, where there is any, and no more than n
pub record Takes (n taken : ℕ) : Type 0 where
  pub within : taken ≤ n
  pub some : 1 ≤ n → 1 ≤ taken
