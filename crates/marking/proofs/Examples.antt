-- Worked examples of the fields of a line and of what is printed less the session, computed. Assumes nothing.
use Rattle.std.proofs.Common.{◌≡◌, ℕ, List, [], ◌∷◌, ◌++◌, map, take, drop, refl}
use Rattle.packet.specs.Names.{bytes_of}
use Rattle.lines.specs.Commands.{same}
use Rattle.lines.specs.Reading.{field}
use Rattle.lines.specs.Text.{digits_within, decimal_of}
use Rattle.server.specs.State.{Lent}
use Rattle.marking.specs.declared.Kind.TheVariants as kind
use Rattle.marking.specs.Desk.{Row, ended, unreadable, row, is_right, verdict_word, row_text, marks_line, last_text, refused_line, stop_text, right_after, print_rows}
use Rattle.marking.specs.Fields.{fields_end, is_rx, script_end, script_part, answer_part, less_first, less_session}

-- fields joined by TAB
abbrev pub then : List ℕ → List ℕ → List ℕ
then first second = first ++ 9 ∷ second

pub record Line : Type 0 where
  pub line : List ℕ
  pub script : List ℕ
  pub answer : List ℕ

abbrev pub split : List ℕ → List ℕ → Line
split script answer = record { line = script ++ answer; script = script; answer = answer }

unfoldable pub table : List Line
table =
    split (then (bytes_of "time") (bytes_of "7")) []
    ∷ split (then (bytes_of "open") (bytes_of "1")) (9 ∷ then (bytes_of "LOGIN_RESP") (bytes_of "0000000004"))
    ∷ split (then (bytes_of "rx") (then (bytes_of "1") (bytes_of "0010"))) (9 ∷ then (bytes_of "DL_ERROR_RESP") (bytes_of "08"))
    -- an `rx` without bytes; nothing is answered
    ∷ split (then (bytes_of "rx") (then (bytes_of "1") [])) []
    -- one empty field more is an answer of one empty field
    ∷ split (then (bytes_of "drop") (bytes_of "1")) (9 ∷ [])
    -- too few fields
    ∷ split (then (bytes_of "rx") (bytes_of "1")) []
    ∷ split (bytes_of "time") []
    ∷ split [] []
    ∷ []

pub scripts : map (λ (l : Line). script_part kind.Desk l.line) table ≡ map (λ (l : Line). l.script) table
unfolding table bytes_of script_end is_rx fields_end same field
scripts = refl

pub answers : map (λ (l : Line). answer_part kind.Desk l.line) table ≡ map (λ (l : Line). l.answer) table
unfolding table bytes_of script_end is_rx fields_end same field
answers = refl

-- two packets, the second without information, and a link that is closed
pub less : less_session
    (then (bytes_of "1") (then (bytes_of "DATA") (bytes_of "aa55")) ++ (10 ∷ then (bytes_of "1") (then (bytes_of "DATA_END") [])
    ++ (10 ∷ then (bytes_of "1") (bytes_of "closed") ++ 10 ∷ [])))
    ≡ 9 ∷ then (bytes_of "DATA") (then (bytes_of "aa55") (then (bytes_of "DATA_END") (then [] (bytes_of "closed"))))
unfolding less_session less_first bytes_of
less = refl

-- two lines, of which the first is right and the second has a field over; then one that can't be read
abbrev pub closing : List ℕ → Row
closing answer =
    record {
      line = then (bytes_of "rx") (then (bytes_of "1") (bytes_of "0120")) ++ answer;
      script = then (bytes_of "rx") (then (bytes_of "1") (bytes_of "0120"));
      answer = answer;
      printed = then (bytes_of "1") (bytes_of "closed") ++ 10 ∷ [];
    }

pub printed : (l : Lent) → print_rows kind.Desk 1 0 (row (closing (9 ∷ bytes_of "closed")) (row (closing (9 ∷ then (bytes_of "closed") [])) (unreadable l)))
    ≡ then (bytes_of "right") (bytes_of "closed") ++ (10 ∷ then (bytes_of "wrong") (bytes_of "closed")
    ++ (10 ∷ then (bytes_of "refused") (then (bytes_of "37") (bytes_of "3")) ++ (10 ∷ then (bytes_of "marks") (bytes_of "1") ++ 10 ∷ [])))
unfolding print_rows row_text is_right verdict_word right_after last_text marks_line stop_text refused_line less_session less_first same bytes_of decimal_of digits_within
printed l = refl

-- on the right sheet of the same lines the answer does not matter, and nothing is counted
pub sheet : (l : Lent) → print_rows kind.Sheet 1 0 (row (closing []) (ended l))
    ≡ then (bytes_of "rx") (then (bytes_of "1") (then (bytes_of "0120") (bytes_of "closed"))) ++ 10 ∷ []
unfolding print_rows row_text right_after last_text less_session less_first bytes_of
sheet l = refl
