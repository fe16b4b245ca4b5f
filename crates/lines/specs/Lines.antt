-- The printed lines (document 01, "The script program"), each with its newline, 10; fields are parted by TAB, 9. Assumes nothing.
use Rattle.std.specs.Prelude.{ℕ, ◌%◌, cond, List, [], ◌∷◌, ◌++◌, length, drop, nat_le, slice_index}
use Rattle.packet.specs.Names.{bytes_of, name_of}
use Rattle.lines.specs.Text.{decimal_of, hex_of}

-- session, packet type and information, the line of a packet: "1 UL_GO_RESP 0100000000000000"
unfoldable pub sent_line : ℕ → ℕ → List ℕ → List ℕ
sent_line session kind info = decimal_of session ++ (9 ∷ name_of kind ++ (9 ∷ hex_of info ++ (10 ∷ [])))

-- a packet's line: two bytes, the type in bits 0 to 4 of the second, then the information, of up to 256 bytes. Other bytes have no line
unfoldable pub packet_line : ℕ → List ℕ → List ℕ
packet_line session packet =
    cond (nat_le 2 (length packet))
    (cond (nat_le (length packet) 258)
    (cond (nat_le (slice_index packet 1 % 32) 17) (sent_line session (slice_index packet 1 % 32) (drop 2 packet)) [])
    [])
    []

-- "A link that the server closes prints the session and `closed`"
unfoldable pub closed_line : ℕ → List ℕ
closed_line session = decimal_of session ++ (9 ∷ bytes_of "closed" ++ (10 ∷ []))

-- "a local refusal the session, `refused` and its number"
unfoldable pub refused_line : ℕ → ℕ → List ℕ
refused_line session number = decimal_of session ++ (9 ∷ bytes_of "refused" ++ (9 ∷ decimal_of number ++ (10 ∷ [])))

-- "A line it can't read prints `error`, the line's number"
unfoldable pub error_line : ℕ → List ℕ
error_line number = bytes_of "error" ++ (9 ∷ decimal_of number ++ (10 ∷ []))

-- "blocks 127 1": "The last line is free and held."
unfoldable pub blocks_line : ℕ → ℕ → List ℕ
blocks_line free held = bytes_of "blocks" ++ (9 ∷ decimal_of free ++ (9 ∷ decimal_of held ++ (10 ∷ [])))

-- what writing a line answers, the number of bytes written, and what it leaves in the text lent to it
pub record Printed : Type 0 where
  pub size : ℕ
  pub text : List ℕ

abbrev pub printed : ℕ → List ℕ → Printed
printed size text = record { size = size; text = text }

-- the line at the front of the text, and what stands behind it untouched; nothing is written where it does not fit
unfoldable pub printed_in : List ℕ → List ℕ → Printed
printed_in line text = cond (nat_le (length line) (length text)) (printed (length line) (line ++ drop (length line) text)) (printed 0 text)
