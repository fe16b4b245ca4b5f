-- Files and packets of a client. Assumes nothing.
use Rattle.std.specs.Prelude.{List, [], ◌∷◌, ◌++◌, ℕ, ◌+◌, length}
use Rattle.numbers.specs.Numbers.{two, four}
use Rattle.packet.specs.Packet.{packet_of}

-- ---- files

-- a file with only the mandatory items, zero but for the sizes and sums; then further items and a body that sums to 0. Its body_offset and
-- header_checksum are given.
unfoldable pub file_with : ℕ → ℕ → List ℕ → List ℕ → List ℕ
file_with offset sum items body =
    170 ∷ 85 ∷ 1 ∷ 0 ∷ 4 ∷ 0 ∷ 0 ∷ 0 ∷ 0 ∷ 2 ∷ 0 ∷ 8 ∷ 0 ∷ 0 ∷ 0 ∷ 0 ∷ 0 ∷ 0 ∷ 0 ∷ 0 ∷ 3 ∷ 0 ∷ 3 ∷ 0 ∷ 0 ∷ 0
    ∷ 4 ∷ 0 ∷ 4 ∷ four (offset + length body)
    ++ 5 ∷ 0 ∷ 4 ∷ 0 ∷ 0 ∷ 0 ∷ 0 ∷ 6 ∷ 0 ∷ 4 ∷ 0 ∷ 0 ∷ 0 ∷ 0 ∷ 7 ∷ 0 ∷ 1 ∷ 0 ∷ 8 ∷ 0 ∷ 1 ∷ 0 ∷ 9 ∷ 0 ∷ 2 ∷ 0 ∷ 0 ∷ 10 ∷ 0 ∷ 2 ∷ two sum
    ++ 11 ∷ 0 ∷ 2 ∷ two offset ++ 18 ∷ 0 ∷ 4 ∷ 0 ∷ 0 ∷ 0 ∷ 0 ∷ items ++ 0 ∷ 0 ∷ 0 ∷ body

-- "an 80-byte file with only the mandatory items, sums and sizes right, and no body"
abbrev pub smallest : List ℕ
smallest = file_with 80 538 [] []

-- AA 55 and the mandatory items of such a file when it is complete and has no body: its length (below 256), the sum of its header, a number, an upload
-- time (both below 10), and the name that the time makes
abbrev pub mandatory_as : ℕ → ℕ → ℕ → ℕ → List ℕ
mandatory_as size sum number time =
    170 ∷ 85 ∷ 1 ∷ 0 ∷ 4 ∷ number ∷ 0 ∷ 0 ∷ 0 ∷ 2 ∷ 0 ∷ 8 ∷ 48 ∷ 48 ∷ 48 ∷ 48 ∷ 48 ∷ 48 ∷ 48 ∷ (48 + time) ∷ 3 ∷ 0 ∷ 3 ∷ 0 ∷ 0 ∷ 0
    ∷ 4 ∷ 0 ∷ 4 ∷ size ∷ 0 ∷ 0 ∷ 0 ∷ 5 ∷ 0 ∷ 4 ∷ 0 ∷ 0 ∷ 0 ∷ 0 ∷ 6 ∷ 0 ∷ 4 ∷ time ∷ 0 ∷ 0 ∷ 0 ∷ 7 ∷ 0 ∷ 1 ∷ 0 ∷ 8 ∷ 0 ∷ 1 ∷ 0
    ∷ 9 ∷ 0 ∷ 2 ∷ 0 ∷ 0 ∷ 10 ∷ 0 ∷ 2 ∷ two sum
    ++ 11 ∷ 0 ∷ 2 ∷ size ∷ 0 ∷ 18 ∷ 0 ∷ 4 ∷ time ∷ 0 ∷ 0 ∷ 0 ∷ []

-- the smallest file when it is complete, with the sum that its number and time make
unfoldable pub complete_as : ℕ → ℕ → List ℕ
complete_as number time = mandatory_as 80 (922 + number + time + time + time) number time ++ 0 ∷ 0 ∷ 0 ∷ []

-- a title (22h), and the file of 92 bytes with the title "Landrover" and that of 83 bytes with an empty one
abbrev pub titled : List ℕ → List ℕ
titled text = 34 ∷ 0 ∷ length text ∷ text

abbrev pub landrover : List ℕ
landrover = file_with 92 1546 (titled (76 ∷ 97 ∷ 110 ∷ 100 ∷ 114 ∷ 111 ∷ 118 ∷ 101 ∷ 114 ∷ [])) []

abbrev pub untitled : List ℕ
untitled = file_with 83 578 (titled []) []

-- a destination (14h), and the file of 88 bytes with the destinations "A" and "B", in this order
abbrev pub addressed : List ℕ → List ℕ
addressed station = 20 ∷ 0 ∷ length station ∷ station

abbrev pub letter : List ℕ
letter = file_with 88 727 (addressed (65 ∷ []) ++ addressed (66 ∷ [])) []

-- the file with the title "Landrover" when it is complete, and its short directory entry: the mandatory items as stored, and the end mark
unfoldable pub landrover_as : ℕ → ℕ → List ℕ
landrover_as number time =
    mandatory_as 92 (1930 + number + time + time + time) number time ++ titled (76 ∷ 97 ∷ 110 ∷ 100 ∷ 114 ∷ 111 ∷ 118 ∷ 101 ∷ 114 ∷ []) ++ 0 ∷ 0 ∷ 0 ∷ []

unfoldable pub landrover_short : ℕ → ℕ → List ℕ
landrover_short number time = mandatory_as 92 (1930 + number + time + time + time) number time ++ 0 ∷ 0 ∷ 0 ∷ []

-- ---- packets

-- UPLOAD_CMD: the number to continue, or 0, and the length
abbrev pub upload : ℕ → ℕ → List ℕ
upload number size = packet_of 3 (four number ++ four size)

abbrev pub data' : List ℕ → List ℕ
data' bytes = packet_of 0 bytes

abbrev pub data_end : List ℕ
data_end = packet_of 1 []

-- DOWNLOAD_CMD: number, offset, lock destination
abbrev pub download : ℕ → ℕ → ℕ → List ℕ
download number offset lock = packet_of 8 (four number ++ four offset ++ lock ∷ [])

-- DL_ACK_CMD: a destination; DL_NAK_CMD
abbrev pub ack : ℕ → List ℕ
ack destination = packet_of 12 (destination ∷ [])

abbrev pub nak : List ℕ
nak = packet_of 13 []

-- DIR_SHORT_CMD, DIR_LONG_CMD: a file number, or 0 for the next files selected
abbrev pub dir_short : ℕ → List ℕ
dir_short number = packet_of 14 (four number)

abbrev pub dir_long : ℕ → List ℕ
dir_long number = packet_of 15 (four number)

-- SELECT_CMD: an equation
abbrev pub select : List ℕ → List ℕ
select equation = packet_of 16 equation

-- file_size (04) equal to a number; upload_time (12h) greater than one; a title (22h) equal to a text, and greater than one
abbrev pub sized : ℕ → List ℕ
sized size = 128 ∷ 4 ∷ 0 ∷ 4 ∷ four size

abbrev pub newer : ℕ → List ℕ
newer time = 144 ∷ 18 ∷ 0 ∷ 4 ∷ four time

abbrev pub title_is : List ℕ → List ℕ
title_is text = 131 ∷ titled text

abbrev pub title_above : List ℕ → List ℕ
title_above text = 147 ∷ titled text

-- a destination (14h) equal to a text, and not equal to one
abbrev pub addressed_to : List ℕ → List ℕ
addressed_to station = 131 ∷ addressed station

abbrev pub addressed_elsewhere : List ℕ → List ℕ
addressed_elsewhere station = 179 ∷ addressed station
