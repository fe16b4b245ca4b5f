-- The four calls of a driver, and a history of them. Assumes nothing.
use Rattle.std.specs.Prelude.{List, ℕ}

-- Any session number, any clock reading, any bytes and any output lent, also a short one. Sessions are "numbered from 1".
pub data Call : Type 0 where
  login : ℕ → ℕ → List ℕ → Call  -- session, clock, output
  receive : ℕ → ℕ → List ℕ → List ℕ → Call  -- session, clock, bytes of the link, output
  request : ℕ → List ℕ → Call  -- session, output
  lose : ℕ → Call  -- session

-- "after any calls": `h ▸ c` is the history h and then the call c
infixl 20 ◌▸◌
pub data History : Type 0 where
  start : History
  ◌▸◌ : History → Call → History
