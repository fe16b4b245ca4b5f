-- Worked texts at the limits of the result, computed: 256 bytes are given, 257 are refused, and 256 are not written where there is room for 255. What texts
-- mean, and where and why they are wrong, is computed in crates/grammar/proofs/Examples.antt. Assumes nothing.
use Rattle.std.proofs.Common.{Ok, Err}
use mathlib.Core.Path.{◌≡◌, refl}
use mathlib.Core.List.{List, [], ◌∷◌, ◌++◌, map}
use Prim.Native.Nat.{ℕ}
use lib.ListN.{replicate}
use Rattle.packet.specs.Names as letters
use Rattle.names.specs.Kinds.{is_blank, is_printed}
use Rattle.text.specs.Match.{lower}
use Rattle.lines.specs.Commands.{same}
use Rattle.lines.specs.Numerals.{digit}
use Rattle.equation.specs.Symbols.{stars_in}
use Rattle.names.specs.Names.{items, small, begins_with, id_in, starts_in, width_in}
use Rattle.grammar.specs.Formula.{relation_bytes, postfix}
use Rattle.grammar.specs.Meaning.{operator_number, is_equality, least_width, number_relation, text_relation}
use Rattle.grammar.specs.Machine.{lettered, wanted, added, part_of, after, taken, step, ended, ended_in, ending, moved, run}
use Rattle.paper.specs.Answer.{Answers, answers, delivered, answered, bytes_of}
use Rattle.paper.specs.declared.Answer.TheVariants as answer

record Row : Type 0 where
  text : List ℕ
  out : List ℕ
  says : Answers

row : List ℕ → List ℕ → Answers → Row
row text out says = record { text = text; out = out; says = says }

said : Row → Answers
said r = bytes_of r.text r.out

want : Row → Answers
want r = r.says

-- a relation of n + 4 bytes; with another of 5 and a connective it has n + 10
titled : ℕ → List ℕ
titled n = letters.bytes_of "TITLE==\"" ++ (replicate n 97 ++ 34 ∷ [])

titled_bytes : ℕ → List ℕ
titled_bytes n = 131 ∷ 34 ∷ 0 ∷ n ∷ replicate n 97

joined : ℕ → List ℕ
joined n = titled n ++ letters.bytes_of "&&PRIORITY>2"

rows : List Row
rows =
    row (titled 252) (replicate 257 0) (answers (Ok (answer.Bytes 256)) (titled_bytes 252 ++ 0 ∷ []))
    ∷ row (titled 252) (replicate 256 0) (answers (Ok (answer.Bytes 256)) (titled_bytes 252))
    ∷ row (titled 253) (replicate 257 0) (answers (Ok answer.Long) (replicate 257 0))
    ∷ row (titled 252) (replicate 255 0) (answers (Err 33) (replicate 255 0))
    ∷ row (joined 246) (replicate 256 0) (answers (Ok (answer.Bytes 256)) (titled_bytes 246 ++ (144 ∷ 24 ∷ 0 ∷ 1 ∷ 2 ∷ 1 ∷ [])))
    ∷ row (joined 247) (replicate 257 0) (answers (Ok answer.Long) (replicate 257 0))
    ∷ []

computed : map said rows ≡ map want rows
unfolding
    want said rows row titled titled_bytes joined letters.bytes_of lower same digit stars_in items small begins_with id_in starts_in width_in relation_bytes postfix
    is_blank is_printed operator_number is_equality least_width number_relation text_relation lettered wanted added part_of after taken step ended ended_in ending
    moved run answered delivered
computed = refl
