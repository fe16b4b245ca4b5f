-- The fields of an answer sheet's line (document 02, A13: "a script line's fields, then all that `passday` should print for it, less the session").
-- A field's bytes stand between TABs, 9; newline is 10. Assumes nothing.
use Rattle.std.specs.Prelude.{◌≡◌, ℕ, zero, suc, ◌+◌, ◌≤◌, Bool, true, false, cond, List, [], ◌∷◌, length, take, drop, ◌==◌}
use Rattle.packet.specs.Names.{bytes_of}
use Rattle.lines.specs.Commands.{same}
use Rattle.lines.specs.Reading.{field}
use Rattle.marking.specs.declared.Kind.{Kind}
use Rattle.marking.specs.declared.Kind.TheVariants as kind

-- ---- a pupil's line

-- how many bytes the first field and so many further ones have, with the TABs between them; all, where there are no more fields
unfoldable pub fields_end : ℕ → List ℕ → ℕ
fields_end zero [] = 0
fields_end (suc further) [] = 0
fields_end zero (b ∷ bs) = cond (b == 9) 0 (suc (fields_end zero bs))
fields_end (suc further) (b ∷ bs) = cond (b == 9) (suc (fields_end further bs)) (suc (fields_end (suc further) bs))

-- no TAB stands before byte n
pub record InField (line : List ℕ) (n : ℕ) : Type 0 where
  pub within : n ≤ length line
  pub count : fields_end 0 line ≡ n + fields_end 0 (drop n line)

unfoldable pub is_rx : List ℕ → Bool
is_rx line = same (field line) (bytes_of "rx")

-- "`time` and a decimal clock, `open` and a session, `drop` and a session, `rx`, session and hex bytes": an `rx` has two fields more, the others one.
-- A script's own line is all script.
unfoldable pub script_end : Kind → List ℕ → ℕ
script_end kind.Desk line = fields_end (cond (is_rx line) 2 1) line
script_end kind.Sheet line = length line

-- "a script line's fields"
abbrev pub script_part : Kind → List ℕ → List ℕ
script_part k line = take (script_end k line) line

-- what stands behind them, each field behind its TAB; nothing, where there is no further field
abbrev pub answer_part : Kind → List ℕ → List ℕ
answer_part k line = drop (script_end k line) line

-- ---- "all that `passday` should print for it, less the session"

-- Of each printed line what stands behind its first field, from the TAB on and without the newline. `inside` says that the first field is passed.
unfoldable pub less_first : Bool → List ℕ → List ℕ
less_first inside [] = []
less_first inside (b ∷ bs) =
    cond (b == 10) (less_first false bs) (cond inside (b ∷ less_first true bs) (cond (b == 9) (9 ∷ less_first true bs) (less_first false bs)))

-- the first field is the session
unfoldable pub less_session : List ℕ → List ℕ
less_session printed = less_first false printed
