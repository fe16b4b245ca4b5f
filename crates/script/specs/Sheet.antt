-- All that the script program prints for a script (document 01, "The script program"): the first line, what the script's lines print, and the last
-- line. The script is all its bytes; nothing is said of how they are read in pieces. Assumes nothing.
use Rattle.std.specs.Prelude.{true, List, [], ◌∷◌, ◌++◌, ℕ, zero, suc, ◌+◌, ◌<◌, ◌^◌, length, take, drop}
use Rattle.packet.specs.Names.{bytes_of}
use Rattle.blocks.specs.FreeMap.{free_count}
use Rattle.blocks.specs.Owners.{held_count}
use Rattle.server.specs.State.{Lent}
use Rattle.history.specs.Calls.{Start, made}
use Rattle.lines.specs.declared.commands.Command.{Command}
use Rattle.lines.specs.declared.commands.Command.TheVariants as command
use Rattle.lines.specs.Commands.{command_of, rx_bytes}
use Rattle.lines.specs.Lines.{error_line, blocks_line}
use Rattle.script.specs.declared.Day.{Day}
use Rattle.script.specs.declared.doing.Doing.TheVariants as doing
use Rattle.input.specs.Input.{find_of, by_first}
use Rattle.script.specs.Day.{day_of, begin_of}
use Rattle.script.specs.Line.{Ran, line_of}

-- "session packet information", parted by TAB
unfoldable pub first_line : List ℕ
first_line = bytes_of "session" ++ (9 ∷ bytes_of "packet" ++ (9 ∷ bytes_of "information" ++ 10 ∷ []))

-- "The last line is free and held."
abbrev pub last_line : Lent → List ℕ
last_line l = blocks_line (free_count (take 64 l.map)) (held_count l.owner)

-- its two numbers, of a map and of owners in a machine's memory, are numbers of the machine
pub record Counted (map owner : List ℕ) : Type 0 where
  pub free : free_count (take 64 map) < 2 ^ 64
  pub held : held_count owner < 2 ^ 64

-- "A line it can't read prints `error`, the line's number, and then the last line."
abbrev pub error_then_last : ℕ → Lent → List ℕ
error_then_last number l = error_line number ++ last_line l

-- a line run to its end: it rests after at most its bytes and 1,048,580 steps (`line_ends`, proofs/Ending.antt)
abbrev pub run_of : Day → Lent → List ℕ → Ran
run_of day l line = line_of (length (rx_bytes line) + 1048580) (begin_of day (command_of line)) l (rx_bytes line)

-- by the line's command: one that can't be read ends the script
unfoldable pub by_command : Command → List ℕ → List ℕ → List ℕ
by_command command.Unreadable error printed = error
by_command (command.Time clock) error printed = printed
by_command (command.Open session) error printed = printed
by_command (command.Drop session) error printed = printed
by_command (command.Rx session n) error printed = printed

-- The lines from one on, which has this number; the first argument bounds how many there are. Behind a line stands its newline.
unfoldable pub lines_from : ℕ → Day → Lent → ℕ → List ℕ → List ℕ
lines_from zero day l number script = last_line l
lines_from (suc k) day l number script =
    by_first (find_of script true) (last_line l) (error_then_last number l)
    (λ n. by_command (command_of (take n script)) (error_then_last number l)
    ((run_of day l (take n script)).printed
    ++ lines_from k (run_of day l (take n script)).day (run_of day l (take n script)).lent (number + 1) (drop (n + 1) script)))

-- THE SHEET: from a server just made, "the clock starts at 0"; there are no more lines than bytes
unfoldable pub sheet_of : Start → List ℕ → List ℕ
sheet_of s script = first_line ++ lines_from (length script) (day_of (made s).server 0 doing.Rest) (made s).lent 1 script
