-- The lines of a script in the bytes read so far (document 01, "The script program"). Assumes nothing.
use Rattle.std.specs.Prelude.{◌≡◌, ℕ, suc, ◌+◌, ◌≤◌, Bool, cond, List, [], ◌∷◌, ◌++◌, length, take, drop, ◌==◌, nat_lt}
use Rattle.input.specs.declared.Found.{Found}
use Rattle.input.specs.declared.Found.TheVariants as found
use Rattle.input.specs.Parts.{bytes_from}

-- the bytes before the first newline, 10, or all
unfoldable pub line_length : List ℕ → ℕ
line_length [] = 0
line_length (b ∷ bs) = cond (b == 10) 0 (suc (line_length bs))

-- no newline stands before byte n
pub record Passed (bytes : List ℕ) (n : ℕ) : Type 0 where
  pub within : n ≤ length bytes
  pub count : line_length bytes ≡ n + line_length (drop n bytes)

-- a first line of n bytes, of `size` in the input: 131,072 bytes at most can be read; a newline ends it; where the input has ended, a last line
-- without newline counts, and after a final newline there is none
unfoldable pub found_of : ℕ → ℕ → Bool → Found
found_of n size ended =
    cond (nat_lt 131072 n) found.TooLong
    (cond (nat_lt n size) (found.Line n)
    (cond ended (cond (n == 0) found.Nothing (found.Line n)) found.Part))

unfoldable pub find_of : List ℕ → Bool → Found
find_of bytes ended = found_of (line_length bytes) (length bytes) ended

-- by what stands first where the input has ended: nothing more, a line that is too long to be read, or a line of n bytes
unfoldable pub by_first : Found → List ℕ → List ℕ → (ℕ → List ℕ) → List ℕ
by_first found.Part last error go = last
by_first (found.Line n) last error go = go n
by_first found.TooLong last error go = error
by_first found.Nothing last error go = last

-- ---- moving what is left to the front

pub record Shifted : Type 0 where
  pub size : ℕ
  pub input : List ℕ

abbrev pub shifted : ℕ → List ℕ → Shifted
shifted n input = record { size = n; input = input }

-- n bytes from a place on stand at the front as well
unfoldable pub moved_of : ℕ → ℕ → List ℕ → List ℕ
moved_of from n input = take n (drop from input) ++ drop n input

unfoldable pub shift_of : ℕ → ℕ → List ℕ → Shifted
shift_of from end input =
    shifted (length (bytes_from from end input)) (bytes_from from end input ++ drop (length (bytes_from from end input)) input)
