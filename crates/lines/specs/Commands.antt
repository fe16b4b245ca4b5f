-- The lines of a script (document 01, "The script program": "`passday` reads tab-parted lines .. : `time` and a decimal clock, `open` and a
-- session, `drop` and a session, `rx`, session and hex bytes. Hex is lower-case"). Assumes nothing.
use Rattle.std.specs.Prelude.{ℕ, Bool, true, false, cond, List, [], ◌∷◌, ◌++◌, length, drop, ◌==◌, nat_le, slice_index_or, Option, Some, None}
use Rattle.packet.specs.Names.{bytes_of}
use Rattle.lines.specs.declared.commands.Command.{Command}
use Rattle.lines.specs.declared.commands.Command.TheVariants.{Unreadable, Time, Open, Drop, Rx}
use Rattle.lines.specs.Numerals.{decimal_at, is_hex, bytes_in}

-- ---- "tab-parted lines"; TAB is 9

unfoldable pub onto : ℕ → List (List ℕ) → List (List ℕ)
onto b [] = (b ∷ []) ∷ []
onto b (f ∷ fs) = (b ∷ f) ∷ fs

unfoldable pub fields_of : List ℕ → List (List ℕ)
fields_of [] = [] ∷ []
fields_of (b ∷ bs) = cond (b == 9) ([] ∷ fields_of bs) (onto b (fields_of bs))

-- ---- a line's command

-- two texts are the same
unfoldable pub same : List ℕ → List ℕ → Bool
same [] [] = true
same [] (y ∷ ys) = false
same (x ∷ xs) [] = false
same (x ∷ xs) (y ∷ ys) = cond (x == y) (same xs ys) false

-- a number that ends where the field ends
unfoldable pub ends_at : Option (ℕ × ℕ) → ℕ → Option ℕ
ends_at None end = None
ends_at (Some (v, next)) end = cond (next == end) (Some v) None

unfoldable pub number_in : List ℕ → Option ℕ
number_in field = ends_at (decimal_at field 0) (length field)

-- "`time` and a decimal clock, `open` and a session, `drop` and a session"
unfoldable pub command_of_two : List ℕ → Option ℕ → Command
command_of_two name None = Unreadable
command_of_two name (Some v) =
    cond (same name (bytes_of "time")) (Time v)
    (cond (same name (bytes_of "open")) (Open v)
    (cond (same name (bytes_of "drop")) (Drop v) Unreadable))

-- "`rx`, session and hex bytes"
unfoldable pub command_of_three : List ℕ → Option ℕ → List ℕ → Command
command_of_three name None hex = Unreadable
command_of_three name (Some v) hex =
    cond (same name (bytes_of "rx")) (cond (is_hex hex) (Rx v (length (bytes_in hex))) Unreadable) Unreadable

unfoldable pub command_of_fields : List (List ℕ) → Command
command_of_fields [] = Unreadable
command_of_fields (name ∷ []) = Unreadable
command_of_fields (name ∷ field ∷ []) = command_of_two name (number_in field)
command_of_fields (name ∷ field ∷ hex ∷ []) = command_of_three name (number_in field) hex
command_of_fields (name ∷ field ∷ hex ∷ more ∷ rest) = Unreadable

unfoldable pub command_of : List ℕ → Command
command_of line = command_of_fields (fields_of line)

-- the bytes of an `rx` line
unfoldable pub rx_bytes : List ℕ → List ℕ
rx_bytes line = bytes_in (slice_index_or (fields_of line) 2 [])

-- ---- reading a line

-- what reading answers, and what it leaves in the bytes lent to it
pub record Reads : Type 0 where
  pub command : Command
  pub bytes : List ℕ

abbrev pub reads : Command → List ℕ → Reads
reads command bytes = record { command = command; bytes = bytes }

-- the bytes of an `rx` line at the front of those lent; where they do not fit the line can't be read, and nothing changes
unfoldable pub read_by : Command → List ℕ → List ℕ → Reads
read_by Unreadable new bytes = reads Unreadable bytes
read_by (Time clock) new bytes = reads (Time clock) bytes
read_by (Open session) new bytes = reads (Open session) bytes
read_by (Drop session) new bytes = reads (Drop session) bytes
read_by (Rx session n) new bytes = cond (nat_le n (length bytes)) (reads (Rx session n) (new ++ drop n bytes)) (reads Unreadable bytes)

unfoldable pub read_of : List ℕ → List ℕ → Reads
read_of line bytes = read_by (command_of line) (rx_bytes line) bytes
