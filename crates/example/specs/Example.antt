-- Document 01's example of a script, "The script program", and what it prints, with fewer blocks. Assumes nothing.
use Rattle.std.specs.Prelude.{List, [], ◌∷◌, ◌++◌, ℕ, replicate}
use Rattle.packet.specs.Names.{bytes_of}
use Rattle.server.specs.State.{lent}
use Rattle.history.specs.Calls.{Start}

-- "The program uses 128 blocks, 32 files, 4 sessions, MAXSEL 50." Here it is 8 blocks: with more of them the last line can't be computed, because the
-- definition of a word's one bits (`ones`, in the kit's logic) looks at as many digits as the word's value.
abbrev pub server : Start
server =
    record {
      blocks = 8;
      files = 32;
      sessions = 4;
      most = 50;
      lent = lent (replicate 2048 0) (replicate 1 0) (replicate 8 0) (replicate 128 0) (replicate 200 0) (replicate 1032 0);
    }

-- fields are parted by TAB, 9, and a newline, 10, ends a line
abbrev pub line : List ℕ → List ℕ
line fields = fields ++ 10 ∷ []

abbrev pub then : List ℕ → List ℕ → List ℕ
then first second = first ++ 9 ∷ second

abbrev pub script : List ℕ
script =
    line (then (bytes_of "time") (bytes_of "0"))
    ++ (line (then (bytes_of "open") (bytes_of "1"))
    ++ line (then (bytes_of "rx") (then (bytes_of "1") (bytes_of "08030000000050000000"))))

-- with 128 blocks the last line is `blocks`, 127, 1
abbrev pub printed : List ℕ
printed =
    line (then (bytes_of "session") (then (bytes_of "packet") (bytes_of "information")))
    ++ (line (then (bytes_of "1") (then (bytes_of "LOGIN_RESP") (bytes_of "0000000004")))
    ++ (line (then (bytes_of "1") (then (bytes_of "UL_GO_RESP") (bytes_of "0100000000000000")))
    ++ line (then (bytes_of "blocks") (then (bytes_of "7") (bytes_of "1")))))
