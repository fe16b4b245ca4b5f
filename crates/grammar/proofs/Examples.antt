-- Worked texts, computed: what they mean in bytes, or the first wrong place, counted from 1, and the reason. Assumes nothing.
use mathlib.Core.Path.{◌≡◌, refl}
use mathlib.Core.List.{List, [], ◌∷◌, ◌++◌, map}
use Prim.Native.Nat.{ℕ, suc, ◌+◌, ◌*◌}
use lib.ListN.{length, replicate}
use Rattle.names.specs.Kinds.{is_blank, is_printed}
use Rattle.packet.specs.Names.{bytes_of}
use Rattle.text.specs.Match.{lower}
use Rattle.lines.specs.Commands.{same}
use Rattle.lines.specs.Numerals.{digit, hex_value}
use Rattle.equation.specs.Symbols.{stars_in}
use Rattle.names.specs.Names.{items, small, begins_with, id_in, starts_in, width_in}
use Rattle.grammar.specs.Formula.{relation_bytes, postfix}
use Rattle.grammar.specs.Meaning.{operator_number, is_equality, or_equal, least_width, is_width, number_relation, text_relation}
use Rattle.grammar.specs.Machine.{lettered, wanted, added, part_of, closed, after, taken, step, Outcome, accepted, refused, ended, ended_in, ending, moved}
use Rattle.grammar.specs.Machine.{run, outcome_of}
use Rattle.grammar.specs.declared.Reason.{Reason}
use Rattle.grammar.specs.declared.Reason.TheVariants as reason

-- an answer as it is told
data Told : Type 0 where
  bytes : List ℕ → Told
  wrong : ℕ → Reason → Told

told : Outcome → Told
told (accepted f) = bytes (postfix f)
told (refused p why) = wrong (suc p) why

record Row : Type 0 where
  text : List ℕ
  says : Told

row : List ℕ → Told → Row
row text says = record { text = text; says = says }

said : Row → Told
said r = told (outcome_of r.text)

want : Row → Told
want r = r.says

a : List ℕ
a = bytes_of "TITLE==\"a\""

opened : ℕ → List ℕ
opened n = replicate n 40 ++ (a ++ replicate n 41)

quoted : List ℕ → List ℕ
quoted s = bytes_of "TITLE==\"" ++ (s ++ (34 ∷ []))

rows : List Row
rows =
    row (bytes_of "FILE_SIZE < 8000") (bytes (160 ∷ 4 ∷ 0 ∷ 4 ∷ 64 ∷ 31 ∷ 0 ∷ 0 ∷ []))
    ∷ row (bytes_of "(FILE_SIZE < 8000) && (KEYWORDS == \"*rover*\" || PRIORITY > 2)")
    (bytes (160 ∷ 4 ∷ 0 ∷ 4 ∷ 64 ∷ 31 ∷ 0 ∷ 0 ∷ 131 ∷ 35 ∷ 0 ∷ 7 ∷ (bytes_of "*rover*" ++ 144 ∷ 24 ∷ 0 ∷ 1 ∷ 2 ∷ 2 ∷ 1 ∷ [])))
    ∷ row (bytes_of "#0004!=1:2") (bytes (176 ∷ 4 ∷ 0 ∷ 2 ∷ 1 ∷ 0 ∷ []))
    ∷ row (bytes_of "priority>=4294967295") (bytes (192 ∷ 24 ∷ 0 ∷ 4 ∷ 255 ∷ 255 ∷ 255 ∷ 255 ∷ []))
    ∷ row (bytes_of "priority>=4294967296") (wrong 20 reason.Large)
    ∷ row (bytes_of "PRIORITY==256:1") (wrong 15 reason.Width)
    ∷ row (bytes_of "PRIORITY==255:1") (bytes (128 ∷ 24 ∷ 0 ∷ 1 ∷ 255 ∷ []))
    ∷ row (bytes_of "TITLE > \"m\"") (wrong 9 reason.Order)
    ∷ row (bytes_of "TITLE < m") (wrong 9 reason.Constant)
    ∷ row (bytes_of "TITLE = 1") (wrong 8 reason.Operator)
    ∷ row (bytes_of "TITEL == 1") (wrong 4 reason.Item)
    ∷ row (bytes_of "#00g4 == 1") (wrong 4 reason.Item)
    ∷ row [] (wrong 1 reason.Item)
    ∷ row (opened 16) (bytes (131 ∷ 34 ∷ 0 ∷ 1 ∷ 97 ∷ []))
    ∷ row (opened 17) (wrong 17 reason.Deeper)
    ∷ row (quoted (replicate 4 42)) (bytes (131 ∷ 34 ∷ 0 ∷ 4 ∷ replicate 4 42))
    ∷ row (quoted (replicate 5 42)) (wrong 13 reason.Stars)
    ∷ row (quoted (bytes_of "****\\x2A")) (wrong 16 reason.Stars)
    ∷ row (quoted (bytes_of "\\x00\\\"\\\\")) (bytes (131 ∷ 34 ∷ 0 ∷ 3 ∷ 0 ∷ 34 ∷ 92 ∷ []))
    ∷ row (quoted (replicate 255 97)) (bytes (131 ∷ 34 ∷ 0 ∷ 255 ∷ replicate 255 97))
    ∷ row (quoted (replicate 256 97)) (wrong 264 reason.Long)
    ∷ row (quoted (replicate 255 97 ++ bytes_of "\\n")) (wrong 264 reason.Long)
    ∷ row (bytes_of "TITLE==\"\\n\"") (wrong 10 reason.String)
    ∷ row (bytes_of "TITLE==\"a") (wrong 10 reason.String)
    ∷ row (bytes_of "PRIORITY > 2 & PRIORITY < 4") (wrong 15 reason.Connective)
    ∷ row (bytes_of "PRIORITY > 2)") (wrong 13 reason.Connective)
    ∷ row (bytes_of "(PRIORITY > 2") (wrong 14 reason.Bracket)
    ∷ []

computed : map said rows ≡ map want rows
unfolding
    want said told rows row opened quoted a bytes_of lower same digit hex_value stars_in items small begins_with id_in starts_in width_in relation_bytes postfix
    is_blank is_printed operator_number is_equality or_equal least_width is_width number_relation text_relation lettered wanted added part_of closed after taken step
    ended ended_in ending moved run
computed = refl
