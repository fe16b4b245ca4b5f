-- Small passes of calls: of one link, and of two at once. The file is document 01's smallest one of 80 bytes. Assumes nothing.
use mathlib.Core.List.{List, [], ◌∷◌, ◌++◌}
use Prim.Native.Nat.{ℕ}
use lib.ListN.{replicate, take, drop}
use Rattle.header.proofs.Examples.{smallest}
use Rattle.calls.specs.Call.{Call, login, receive, lose, History, start, ◌▸◌}

-- the output that the driver lends
abbrev pub output : List ℕ
output = replicate 258 0

-- bytes of the link of a session at a clock reading, and of that of session 1
abbrev pub of : ℕ → ℕ → List ℕ → Call
of session clock bytes = receive session clock bytes output

abbrev pub rx : ℕ → List ℕ → Call
rx clock bytes = of 1 clock bytes

abbrev pub on : ℕ → Call
on clock = login 1 clock output

-- UPLOAD_CMD for a file of 80 bytes, new (0) or continued
abbrev pub upload : ℕ → List ℕ
upload number = 8 ∷ 3 ∷ number ∷ 0 ∷ 0 ∷ 0 ∷ 80 ∷ 0 ∷ 0 ∷ 0 ∷ []

abbrev pub data_end : List ℕ
data_end = 0 ∷ 1 ∷ []

-- ---- one link

-- the link is made
unfoldable pub opened : History
opened = start ▸ on 5

-- 40 bytes of a file of 80 are received
unfoldable pub halfway : History
halfway = opened ▸ rx 6 (upload 0) ▸ rx 7 (40 ∷ 0 ∷ take 40 smallest)

-- the second DATA packet comes up to its eleventh byte
unfoldable pub torn : History
torn = halfway ▸ rx 8 (40 ∷ 0 ∷ take 9 (drop 40 smallest))

-- there the link is lost, and made again
unfoldable pub before_upload : History
before_upload = torn ▸ lose 1 ▸ on 9

-- the file is continued and completed, and the clock runs backwards
unfoldable pub continued : History
continued = before_upload ▸ rx 10 (upload 1)

abbrev pub rest : Call
rest = rx 11 (40 ∷ 0 ∷ drop 40 smallest)

unfoldable pub lost_once : History
lost_once = continued ▸ rest ▸ rx 4 data_end

-- DATA_END comes too early, so the file is discarded; the next one gets the next number, and the same block
unfoldable pub too_early : History
too_early = halfway ▸ rx 8 data_end ▸ rx 9 (upload 0)

-- the other bytes of the second DATA packet come with DATA_END behind them, which is not taken
unfoldable pub mended : History
mended = torn ▸ rx 8 (drop 49 smallest ++ data_end)

-- ---- two links at once

-- both sessions upload the file, DATA of the first before that of the second
unfoldable pub uploads : History
uploads =
    start ▸ login 1 5 output ▸ login 2 5 output ▸ of 1 6 (upload 0) ▸ of 2 6 (upload 0) ▸ of 1 6 (80 ∷ 0 ∷ smallest) ▸ of 2 6 (80 ∷ 0 ∷ smallest)

-- both files are completed in the same second, 7
unfoldable pub both : History
both = uploads ▸ of 1 7 data_end ▸ of 2 7 data_end
