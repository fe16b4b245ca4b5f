-- A program that reads and writes by turns, over any states and any turns of them. Assumes nothing.
use Rattle.std.specs.Prelude.{◌≡◌, ℕ, ◌+◌, Bool, true, false, ◌⊎◌, List, [], ◌++◌}

-- a turn from one state to another, with what it read and what it wrote
pub record Turned {S : Type 0} (Turn : S → List ℕ → List ℕ → S → Type 0) (before after : S) : Type 0 where
  pub read : List ℕ
  pub wrote : List ℕ
  pub turn : Turn before read wrote after

-- the turns up to now: how many, all that was read, all that was written, and where the program stands; there is no turn after the last
pub data Run {S : Type 0} (over : S → Bool) (Turn : S → List ℕ → List ℕ → S → Type 0) (first : S) : ℕ → List ℕ → List ℕ → S → Type 0 where
  begun : Run over Turn first 0 [] [] first
  turned : (turns : ℕ) (read wrote more text : List ℕ) (before after : S)
      → Run over Turn first turns read wrote before
      → over before ≡ false
      → Turn before more text after
      → Run over Turn first (turns + 1) (read ++ more) (wrote ++ text) after

-- turns until the program is over, or 2^64 - 1 of them, since nothing says that the input ends
pub record Played {S : Type 0} (over : S → Bool) (Turn : S → List ℕ → List ℕ → S → Type 0) (first after : S) : Type 0 where
  pub turns : ℕ
  pub read : List ℕ
  pub wrote : List ℕ
  pub run : Run over Turn first turns read wrote after
  pub ends : (over after ≡ true) ⊎ (turns ≡ 18446744073709551615)

-- one list is the front of another
pub record Front (front whole : List ℕ) : Type 0 where
  pub back : List ℕ
  pub is : front ++ back ≡ whole
