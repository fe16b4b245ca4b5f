-- An answer sheet with the exam's question, a SELECT for titles greater than "m", and what the desk prints for it. The pupil says 8, and is wrong on the
-- number of the file that she uploads. Assumes nothing.
use Rattle.std.specs.Prelude.{List, [], ◌∷◌, ◌++◌, ℕ}
use Rattle.packet.specs.Names.{bytes_of}
use Rattle.example.specs.Example.{line, then}

abbrev pub sheet : List ℕ
sheet =
    line (then (bytes_of "time") (bytes_of "0"))
    ++ (line (then (bytes_of "open") (then (bytes_of "1") (then (bytes_of "LOGIN_RESP") (bytes_of "0000000004"))))
    ++ (line (then (bytes_of "rx") (then (bytes_of "1") (then (bytes_of "0510932200016d") (then (bytes_of "DL_ERROR_RESP") (bytes_of "08")))))
    ++ line (then (bytes_of "rx") (then (bytes_of "1") (then (bytes_of "08030000000050000000") (then (bytes_of "UL_GO_RESP") (bytes_of "0200000000000000")))))))

abbrev pub marked : List ℕ
marked =
    line (bytes_of "right")
    ++ (line (then (bytes_of "right") (then (bytes_of "LOGIN_RESP") (bytes_of "0000000004")))
    ++ (line (then (bytes_of "right") (then (bytes_of "DL_ERROR_RESP") (bytes_of "08")))
    ++ (line (then (bytes_of "wrong") (then (bytes_of "UL_GO_RESP") (bytes_of "0100000000000000")))
    ++ line (then (bytes_of "marks") (bytes_of "3")))))
