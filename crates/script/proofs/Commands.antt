-- What a line of the script says of its command: the session numbers have 32 bits, and a line of 131,072 bytes has at most 65,536 hex pairs. Assumes
-- nothing.
use Rattle.std.proofs.Common.{Option, None, Some}
use native.Mathlib.Omega.{arith}
use mathlib.Core.Path.{◌≡◌, refl, sym, ◌∙◌}
use mathlib.Core.Bool.{Bool, true, false, cond}
use mathlib.Core.List.{List, [], ◌∷◌, ◌++◌}
use Prim.Native.Nat.{ℕ, zero, suc, ◌+◌, ◌≤◌, ◌<◌}
use lib.Dec.{eqb, ltb, leb}
use lib.ListN.{length, drop, get_or, length-append, length-drop}
use lib.Seq.{take-length, take-append_seam}
use borrow.Author.Tests.{leb-true, le-leb}
use Rattle.packet.specs.Names.{bytes_of}
use Rattle.lines.specs.declared.commands.Command.{Command}
use Rattle.lines.specs.declared.commands.Command.TheVariants.{Unreadable, Time, Open, Drop, Rx}
use Rattle.lines.specs.Numerals.{digits, value_from, decimal_by, decimal_at, is_hex, bytes_in}
use Rattle.lines.specs.Commands.{onto, fields_of, same, ends_at, number_in, command_of_two, command_of_three, command_of_fields, command_of}
use Rattle.lines.specs.Commands.{rx_bytes, Reads, read_by, read_of}
use Rattle.lines.proofs.NumeralLaws.{bytes_count}
use Rattle.script.specs.declared.Day.{Day}
use Rattle.script.specs.Doing.{session_of}
use Rattle.script.specs.Day.{begin_of}
use Rattle.script.proofs.Agreeing.{Alike, Agree}

-- ---- a decimal number has 32 bits

unfoldable SmallDigits : Option (ℕ × ℕ) → Type 0
SmallDigits None = Unit {0}
SmallDigits (Some (v, next)) = v < 4294967296

unfoldable SmallNumber : Option ℕ → Type 0
SmallNumber None = Unit {0}
SmallNumber (Some v) = v < 4294967296

by_small : (v at : ℕ) (ds : List ℕ) → SmallDigits (decimal_by v at ds)
unfolding decimal_by SmallDigits
by_small v at ds = go (leb (value_from v ds) 4294967295) refl
  where
    go : (t : Bool) → leb (value_from v ds) 4294967295 ≡ t → SmallDigits (cond t (Some (value_from v ds, at + length ds)) None)
    go true e = omega (arith, leb-true (value_from v ds) 4294967295 e)
    go false e = tt

decimal_small : (line : List ℕ) (at : ℕ) → SmallDigits (decimal_at line at)
unfolding decimal_at SmallDigits
decimal_small line at = go (ltb 0 (length (digits (drop at line))))
  where
    go : (t : Bool) → SmallDigits (cond t (decimal_by 0 at (digits (drop at line))) None)
    go true = by_small 0 at (digits (drop at line))
    go false = tt

ends_small : (d : Option (ℕ × ℕ)) (end : ℕ) → SmallDigits d → SmallNumber (ends_at d end)
unfolding ends_at SmallDigits SmallNumber
ends_small None end p = tt
ends_small (Some (v, next)) end p = go (eqb next end)
  where
    go : (t : Bool) → SmallNumber (cond t (Some v) None)
    go true = p
    go false = tt

number_small : (field : List ℕ) → SmallNumber (number_in field)
unfolding number_in
number_small field = ends_small (decimal_at field 0) (length field) (decimal_small field 0)

-- ---- so has a command's session

unfoldable SmallSession : Command → Type 0
SmallSession Unreadable = Unit {0}
SmallSession (Time clock) = Unit {0}
SmallSession (Open session) = session < 4294967296
SmallSession (Drop session) = session < 4294967296
SmallSession (Rx session n) = session < 4294967296

two_small : (name : List ℕ) (n : Option ℕ) → SmallNumber n → SmallSession (command_of_two name n)
unfolding command_of_two SmallNumber SmallSession
two_small name None p = tt
two_small name (Some v) p = go (same name (bytes_of "time")) (same name (bytes_of "open")) (same name (bytes_of "drop"))
  where
    go : (t u w : Bool) → SmallSession (cond t (Time v) (cond u (Open v) (cond w (Drop v) Unreadable)))
    go true u w = tt
    go false true w = p
    go false false true = p
    go false false false = tt

three_small : (name : List ℕ) (n : Option ℕ) (hex : List ℕ) → SmallNumber n → SmallSession (command_of_three name n hex)
unfolding command_of_three SmallNumber SmallSession
three_small name None hex p = tt
three_small name (Some v) hex p = go (same name (bytes_of "rx")) (is_hex hex)
  where
    go : (t u : Bool) → SmallSession (cond t (cond u (Rx v (length (bytes_in hex))) Unreadable) Unreadable)
    go true true = p
    go true false = tt
    go false u = tt

fields_small : (fs : List (List ℕ)) → SmallSession (command_of_fields fs)
unfolding command_of_fields SmallSession
fields_small [] = tt
fields_small (name ∷ []) = tt
fields_small (name ∷ field ∷ []) = two_small name (number_in field) (number_small field)
fields_small (name ∷ field ∷ hex ∷ []) = three_small name (number_in field) hex (number_small field)
fields_small (name ∷ field ∷ hex ∷ more ∷ rest) = tt

command_small : (line : List ℕ) → SmallSession (command_of line)
unfolding command_of
command_small line = fields_small (fields_of line)

begin_small : (day : Day) (c : Command) → SmallSession c → session_of day.doing < 4294967296 → session_of (begin_of day c).doing < 4294967296
unfolding begin_of session_of SmallSession
begin_small day Unreadable p q = q
begin_small day (Time clock) p q = omega arith
begin_small day (Open session) p q = p
begin_small day (Drop session) p q = p
begin_small day (Rx session n) p q = p

-- a line that is begun leaves a session number of 32 bits
pub begin_session : (day : Day) (line : List ℕ) → session_of day.doing < 4294967296 → session_of (begin_of day (command_of line)).doing < 4294967296
begin_session day line q = begin_small day (command_of line) (command_small line) q

-- ---- the bytes of an `rx` line

-- their number stands in the command
unfoldable Counts : Command → ℕ → Type 0
Counts Unreadable n = Unit {0}
Counts (Time clock) n = Unit {0}
Counts (Open session) n = Unit {0}
Counts (Drop session) n = Unit {0}
Counts (Rx session m) n = m ≡ n

two_counts : (name : List ℕ) (n : Option ℕ) (k : ℕ) → Counts (command_of_two name n) k
unfolding command_of_two Counts
two_counts name None k = tt
two_counts name (Some v) k = go (same name (bytes_of "time")) (same name (bytes_of "open")) (same name (bytes_of "drop"))
  where
    go : (t u w : Bool) → Counts (cond t (Time v) (cond u (Open v) (cond w (Drop v) Unreadable))) k
    go true u w = tt
    go false true w = tt
    go false false true = tt
    go false false false = tt

three_counts : (name : List ℕ) (n : Option ℕ) (hex : List ℕ) → Counts (command_of_three name n hex) (length (bytes_in hex))
unfolding command_of_three Counts
three_counts name None hex = tt
three_counts name (Some v) hex = go (same name (bytes_of "rx")) (is_hex hex)
  where
    go : (t u : Bool) → Counts (cond t (cond u (Rx v (length (bytes_in hex))) Unreadable) Unreadable) (length (bytes_in hex))
    go true true = refl
    go true false = tt
    go false u = tt

fields_count : (fs : List (List ℕ)) → Counts (command_of_fields fs) (length (bytes_in (get_or fs 2 [])))
unfolding command_of_fields Counts
fields_count [] = tt
fields_count (name ∷ []) = tt
fields_count (name ∷ field ∷ []) = two_counts name (number_in field) _
fields_count (name ∷ field ∷ hex ∷ []) = three_counts name (number_in field) hex
fields_count (name ∷ field ∷ hex ∷ more ∷ rest) = tt

command_counts : (line : List ℕ) → Counts (command_of line) (length (rx_bytes line))
unfolding command_of rx_bytes
command_counts line = fields_count (fields_of line)

-- a field is no longer than its line
onto_size : (b k n : ℕ) (fs : List (List ℕ)) → ((j : ℕ) → length (get_or fs j []) ≤ n) → length (get_or (onto b fs) k []) ≤ suc n
unfolding onto
onto_size b zero n [] h = omega arith
onto_size b (suc k) n [] h = omega arith
onto_size b zero n (f ∷ fs) h = omega (arith, h 0)
onto_size b (suc k) n (f ∷ fs) h = omega (arith, h (suc k))

empty_size : (k n : ℕ) (fs : List (List ℕ)) → ((j : ℕ) → length (get_or fs j []) ≤ n) → length (get_or ([] ∷ fs) k []) ≤ suc n
empty_size zero n fs h = omega arith
empty_size (suc k) n fs h = omega (arith, h k)

field_size : (line : List ℕ) (k : ℕ) → length (get_or (fields_of line) k []) ≤ length line
unfolding fields_of
field_size [] zero = omega arith
field_size [] (suc k) = omega arith
field_size (b ∷ bs) k = go (eqb b 9) (field_size bs)
  where
    go : (t : Bool) → ((j : ℕ) → length (get_or (fields_of bs) j []) ≤ length bs)
        → length (get_or (cond t ([] ∷ fields_of bs) (onto b (fields_of bs))) k []) ≤ suc (length bs)
    go true h = empty_size k (length bs) (fields_of bs) h
    go false h = onto_size b k (length bs) (fields_of bs) h

rx_most : (line : List ℕ) → length line ≤ 131072 → length (rx_bytes line) ≤ 65536
unfolding rx_bytes
rx_most line p = omega (arith, p, field_size line 2, bytes_count (get_or (fields_of line) 2 []))

-- ---- reading a line that is no longer than a script's lines are

-- the command is the line's, as many bytes are lent as before, and they begin with the line's own
pub record ReadsLine (day : Day) (line bytes : List ℕ) (c : Command) (r : Reads) : Type 0 where
  pub command : r.command ≡ c
  pub size : length r.bytes ≡ length bytes
  pub agree : Agree day.doing (rx_bytes line) r.bytes → Agree (begin_of day c).doing (rx_bytes line) r.bytes

front_alike : (new : List ℕ) (rest : List ℕ) (n : ℕ) → n ≡ length new → Alike n new (new ++ rest)
front_alike new rest n e =
    record {
      left = omega (arith, e);
      right = omega (arith, e, length-append new rest);
      same = rw e (take-length new ∙ sym (take-append_seam new rest));
    }

rx_reads : (day : Day) (line bytes : List ℕ) (session n : ℕ) → n ≡ length (rx_bytes line) → n ≤ length bytes
    → ReadsLine day line bytes (Rx session n) (read_by (Rx session n) (rx_bytes line) bytes)
unfolding read_by begin_of Agree
rx_reads day line bytes session n e p =
    rw (le-leb n (length bytes) p)
    (record {
      command = refl;
      size = omega (arith, e, p, length-append (rx_bytes line) (drop n bytes), length-drop n bytes);
      agree = λ w. front_alike (rx_bytes line) (drop n bytes) n e;
    })

by_reads : (day : Day) (line bytes : List ℕ) (c : Command) → Counts c (length (rx_bytes line)) → length (rx_bytes line) ≤ length bytes
    → ReadsLine day line bytes c (read_by c (rx_bytes line) bytes)
unfolding Counts read_by begin_of Agree
by_reads day line bytes Unreadable e p = record { command = refl; size = refl; agree = λ w. w }
by_reads day line bytes (Time clock) e p = record { command = refl; size = refl; agree = λ w. tt }
by_reads day line bytes (Open session) e p = record { command = refl; size = refl; agree = λ w. tt }
by_reads day line bytes (Drop session) e p = record { command = refl; size = refl; agree = λ w. tt }
by_reads day line bytes (Rx session n) e p = rx_reads day line bytes session n e (omega (arith, e, p))

pub reads_line : (day : Day) (line bytes : List ℕ) → length line ≤ 131072 → 65536 ≤ length bytes
    → ReadsLine day line bytes (command_of line) (read_of line bytes)
unfolding read_of
reads_line day line bytes p q = by_reads day line bytes (command_of line) (command_counts line) (omega (arith, q, rx_most line p))
