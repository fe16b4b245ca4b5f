-- The facts of refusal 35 on numbers, upload times and lengths, as tests and as what the tests stand for: "demand 3's facts on
-- blocks, numbers or upload times are broken, or a length .. points at what the store lacks".
use Rattle.std.specs.Prelude.{ℕ, suc, ◌+◌, ◌≤◌, ◌<◌, ◌≡◌, Bool, true, false, cond, ◌&&◌, List, [], ◌∷◌, length, get_or, eqb, leb}
use Rattle.table.specs.declared.File.{File}
use Rattle.table.specs.Table.{file_at, numbers, times}
use Rattle.table.specs.Given.{blocks_for}

-- ---- the tests

-- a file whose place holds `held` blocks: its number was given, no more bytes were received than announced, its blocks are those
-- of the announced length, its upload time was given, and with an upload time it has all its bytes
unfoldable pub file_fits : ℕ → ℕ → ℕ → File → Bool
file_fits last_number last_time held f =
    leb f.number last_number && (leb f.received f.size && (eqb held (blocks_for f.size)
    && (leb f.time last_time && cond (eqb f.time 0) true (eqb f.received f.size))))

-- a place with no file holds no block
unfoldable pub record_fits : ℕ → ℕ → ℕ → File → Bool
record_fits last_number last_time held f = cond (eqb f.number 0) (eqb held 0) (file_fits last_number last_time held f)

-- the records from place p on; entry p + 1 of the counts is the number of blocks of place p, 0 where the entry is missing
unfoldable pub records_fit_from : ℕ → ℕ → ℕ → List ℕ → List File → Bool
records_fit_from p last_number last_time counts [] = true
records_fit_from p last_number last_time counts (f ∷ fs) =
    record_fits last_number last_time (get_or counts (suc p) 0) f && records_fit_from (suc p) last_number last_time counts fs

abbrev pub records_fit : ℕ → ℕ → List ℕ → List File → Bool
records_fit last_number last_time counts fs = records_fit_from 0 last_number last_time counts fs

-- the same value, where 0 is none
abbrev pub same : ℕ → ℕ → Bool
same a b = cond (eqb a 0) false (eqb a b)

-- a value that is not 0 stands among others
unfoldable pub among : ℕ → List ℕ → Bool
among v [] = false
among v (x ∷ xs) = cond (same v x) true (among v xs)

-- no value but 0 stands twice
unfoldable pub apart : List ℕ → Bool
apart [] = true
apart (x ∷ xs) = cond (among x xs) false (apart xs)

-- no two places have the same file number, and no two complete files the same upload time; a table has at most 256 places
unfoldable pub distinct_of : List File → Bool
distinct_of fs = cond (leb (length fs) 256) (cond (apart (numbers fs)) (apart (times fs)) false) false

-- ---- the facts

pub record FileFits (last_number last_time held : ℕ) (f : File) : Type 0 where
  pub number : f.number ≤ last_number
  pub received : f.received ≤ f.size
  pub blocks : held ≡ blocks_for f.size
  pub time : f.time ≤ last_time
  pub whole : (f.time ≡ 0 → ⊥) → f.received ≡ f.size

pub record Fits (last_number last_time held : ℕ) (f : File) : Type 0 where
  pub free : f.number ≡ 0 → held ≡ 0
  pub file : (f.number ≡ 0 → ⊥) → FileFits last_number last_time held f

-- no two places have the same value but for 0
abbrev pub Distinct : List ℕ → Type 0
Distinct xs = (p q : ℕ) → (get_or xs p 0 ≡ 0 → ⊥) → get_or xs p 0 ≡ get_or xs q 0 → p ≡ q

-- Each record fits, "no file number is given twice", and no two complete files have the same upload time.
pub record Sound (last_number last_time : ℕ) (counts : List ℕ) (fs : List File) : Type 0 where
  pub records : (p : ℕ) → p < length fs → Fits last_number last_time (get_or counts (p + 1) 0) (file_at fs p)
  pub numbers : Distinct (numbers fs)
  pub times : Distinct (times fs)
