-- The steps of reading a line: where a field ends, and what the third field of an `rx` line gives. Assumes nothing.
use Rattle.std.specs.Prelude.{ℕ, ◌+◌, cond, List, [], ◌∷◌, length, drop, ◌==◌, Option, Some, None}
use Rattle.packet.specs.Names.{bytes_of}
use Rattle.lines.specs.declared.commands.Command.TheVariants.{Unreadable, Rx}
use Rattle.lines.specs.Numerals.{hex_in}
use Rattle.lines.specs.Commands.{same, Reads, reads}

-- the bytes up to the first TAB
unfoldable pub field : List ℕ → List ℕ
field [] = []
field (b ∷ bs) = cond (b == 9) [] (b ∷ field bs)

-- the place of the first TAB from a place on, or the line's end
unfoldable pub field_end : List ℕ → ℕ → ℕ
field_end line at = at + length (field (drop at line))

-- hex that was read, with the session
unfoldable pub rx_by : ℕ → Option ℕ → List ℕ → Reads
rx_by session None left = reads Unreadable left
rx_by session (Some n) left = reads (Rx session n) left

unfoldable pub rx_read : List ℕ → ℕ → List ℕ → List ℕ → Reads
rx_read name session rest bytes =
    cond (same name (bytes_of "rx")) (rx_by session (hex_in rest bytes).answer (hex_in rest bytes).left) (reads Unreadable bytes)
