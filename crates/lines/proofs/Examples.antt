-- Computed examples: document 01's lines, and lines that can't be read. Assumes nothing.
use Rattle.std.proofs.Common.{◌≡◌, ℕ, List, [], ◌∷◌, ◌++◌, map, replicate, refl}
use Prim.Native.String.{String}
use Rattle.packet.specs.Names.{bytes_of, name_of, names}
use Rattle.lines.specs.declared.commands.Command.{Command}
use Rattle.lines.specs.declared.commands.Command.TheVariants.{Unreadable, Time, Open, Drop, Rx}
use Rattle.numbers.specs.Hex.{hex_digit}
use Rattle.lines.specs.Text.{digits_within, decimal_of, hex_of}
use Rattle.lines.specs.Lines.{sent_line, packet_line, closed_line, refused_line, error_line, blocks_line, printed, printed_in}
use Rattle.lines.specs.Numerals.{digit, digits, value_from, decimal_by, decimal_at, hex_value, is_hex, bytes_in}
use Rattle.lines.specs.Commands.{onto, fields_of, same, ends_at, number_in, command_of_two, command_of_three, command_of_fields}
use Rattle.lines.specs.Commands.{command_of, rx_bytes, reads, read_by, read_of}

-- ---- lines read

pub record Line : Type 0 where
  pub text : List ℕ
  pub means : Command

abbrev pub line : String → Command → Line
line text means = record { text = bytes_of text; means = means }

unfoldable pub lines : List Line
lines =
    line "time\t0" (Time 0)
    ∷ line "open\t1" (Open 1)
    ∷ line "rx\t1\t08030000000050000000" (Rx 1 10)
    ∷ line "drop\t4" (Drop 4)
    -- leading zeros are accepted, 32 bits are not passed
    ∷ line "time\t0004294967295" (Time 4294967295)
    ∷ line "time\t4294967296" Unreadable
    ∷ line "time\t18446744073709551616" Unreadable
    ∷ line "open\t0" (Open 0)
    -- no bytes are hex too, but a third field there is
    ∷ line "rx\t1\t" (Rx 1 0)
    ∷ line "rx\t1" Unreadable
    -- an odd number of digits, upper case, other bytes
    ∷ line "rx\t1\t080" Unreadable
    ∷ line "rx\t1\t0A" Unreadable
    ∷ line "rx\t1\t0g" Unreadable
    ∷ line "rx\t1\t00 11" Unreadable
    -- a field too many, too few, none
    ∷ line "rx\t1\t00\t" Unreadable
    ∷ line "rx\t1\t00\t11" Unreadable
    ∷ line "open\t1\t" Unreadable
    ∷ line "open\t" Unreadable
    ∷ line "open" Unreadable
    ∷ line "" Unreadable
    -- numbers are digits only, names are lower-case and whole
    ∷ line "open\t+1" Unreadable
    ∷ line "open\t1 " Unreadable
    ∷ line "open\t1\r" Unreadable
    ∷ line "open 1" Unreadable
    ∷ line "Open\t1" Unreadable
    ∷ line "opens\t1" Unreadable
    ∷ line "ope\t1" Unreadable
    ∷ line "\topen\t1" Unreadable
    ∷ []

pub lines_read : map (λ (l : Line). command_of l.text) lines ≡ map (λ (l : Line). l.means) lines
unfolding lines command_of command_of_fields fields_of bytes_of onto command_of_two command_of_three number_in ends_at decimal_at digits digit
    decimal_by value_from same is_hex hex_value bytes_in
lines_read = refl

-- the bytes of an `rx` line stand at the front, and where they do not fit nothing changes
pub bytes_read : read_of (bytes_of "rx\t2\t0a10ff") (1 ∷ 2 ∷ 3 ∷ 4 ∷ []) ≡ reads (Rx 2 3) (10 ∷ 16 ∷ 255 ∷ 4 ∷ [])
unfolding read_of read_by rx_bytes command_of command_of_fields fields_of bytes_of onto command_of_two command_of_three number_in ends_at decimal_at
    digits digit decimal_by value_from same is_hex hex_value bytes_in
bytes_read = refl

pub bytes_short : read_of (bytes_of "rx\t2\t0a10ff") (1 ∷ 2 ∷ []) ≡ reads Unreadable (1 ∷ 2 ∷ [])
unfolding read_of read_by rx_bytes command_of command_of_fields fields_of bytes_of onto command_of_two command_of_three number_in ends_at decimal_at
    digits digit decimal_by value_from same is_hex hex_value bytes_in
bytes_short = refl

pub bytes_kept : read_of (bytes_of "open\t3") (1 ∷ 2 ∷ []) ≡ reads (Open 3) (1 ∷ 2 ∷ [])
unfolding read_of read_by rx_bytes command_of command_of_fields fields_of bytes_of onto command_of_two command_of_three number_in ends_at decimal_at
    digits digit decimal_by value_from same is_hex hex_value bytes_in
bytes_kept = refl

-- ---- lines printed

pub record Row : Type 0 where
  pub got : List ℕ
  pub want : List ℕ

abbrev pub row : List ℕ → String → Row
row got want = record { got = got; want = bytes_of want }

unfoldable pub rows : List Row
rows =
    -- document 01's output
    row (packet_line 1 (5 ∷ 2 ∷ 0 ∷ 0 ∷ 0 ∷ 0 ∷ 4 ∷ [])) "1\tLOGIN_RESP\t0000000004\n"
    ∷ row (packet_line 1 (8 ∷ 4 ∷ 1 ∷ 0 ∷ 0 ∷ 0 ∷ 0 ∷ 0 ∷ 0 ∷ 0 ∷ [])) "1\tUL_GO_RESP\t0100000000000000\n"
    ∷ row (blocks_line 127 1) "blocks\t127\t1\n"
    -- without information the third field is empty
    ∷ row (packet_line 2 (0 ∷ 6 ∷ [])) "2\tUL_ACK_RESP\t\n"
    -- the type stands in the low five bits, here of a packet of 256 bytes; 18 has no name
    ∷ row (packet_line 4294967295 (0 ∷ 33 ∷ 171 ∷ [])) "4294967295\tDATA_END\tab\n"
    ∷ row (packet_line 1 (0 ∷ 18 ∷ [])) ""
    ∷ row (packet_line 1 (0 ∷ [])) ""
    ∷ row (packet_line 1 (0 ∷ 0 ∷ replicate 257 0)) ""
    ∷ row (closed_line 1) "1\tclosed\n"
    ∷ row (refused_line 4294967295 34) "4294967295\trefused\t34\n"
    ∷ row (error_line 18446744073709551615) "error\t18446744073709551615\n"
    ∷ row (blocks_line 0 4096) "blocks\t0\t4096\n"
    ∷ row (decimal_of 100) "100"
    ∷ row (hex_of (0 ∷ 9 ∷ 10 ∷ 159 ∷ 255 ∷ [])) "00090a9fff"
    ∷ []

pub lines_printed : map (λ (r : Row). r.got) rows ≡ map (λ (r : Row). r.want) rows
unfolding rows bytes_of packet_line blocks_line closed_line refused_line error_line decimal_of hex_of sent_line digits_within hex_digit name_of names
lines_printed = refl

-- a line at the front of a text, and in one that is too short
pub line_fits : printed_in (closed_line 3) (replicate 11 0) ≡ printed 9 (bytes_of "3\tclosed\n" ++ (0 ∷ 0 ∷ []))
unfolding printed_in closed_line decimal_of digits_within bytes_of
line_fits = refl

pub line_short : printed_in (closed_line 3) (replicate 8 0) ≡ printed 0 (replicate 8 0)
unfolding printed_in closed_line decimal_of digits_within bytes_of
line_short = refl
