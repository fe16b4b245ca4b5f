-- Worked equations, computed: their texts, or why none is written. Assumes nothing.
use mathlib.Core.Path.{◌≡◌, refl}
use mathlib.Core.List.{List, [], ◌∷◌, ◌++◌, map}
use Prim.Native.Nat.{ℕ, zero, suc}
use lib.ListN.{length, replicate}
use Rattle.packet.specs.Names.{bytes_of}
use Rattle.back.specs.Answer.{Answers, answers, written_of}
use Rattle.std.proofs.Common.{Result, Ok, Err}
use Rattle.back.specs.declared.Answer.{Answer}
use Rattle.back.specs.declared.Answer.TheVariants as answer
use Rattle.numbers.specs.Numbers.{number}
use Rattle.numbers.specs.Hex.{hex_digit}
use Rattle.lines.specs.Text.{digits_within, decimal_of}
use Rattle.equation.specs.Relation.{width}
use Rattle.equation.specs.Symbols.{stars_in, good_text, good_number, good, connective_of, relation_at, token_of, follow, symbols_past}
use Rattle.equation.specs.Tree.{pushed, joined, result, bind, run, parse}
use Rattle.equation.specs.Newer.{before_mark, unmarked_past}
use Rattle.names.specs.Names.{items, width_in, name_in}
use Rattle.names.specs.Kinds.{is_printed}
use Rattle.grammar.specs.Meaning.{least_width}
use Rattle.grammar.specs.Grammar.{item_text, operator_text, character_text, characters_text, constant_text, written_text}
use Rattle.writing.specs.Text.{item_by, character_for, number_for, constant_for, comparison_for, text_of, productText, factorText, nesting, productNesting}
use Rattle.writing.specs.Text.{factorNesting}
use Rattle.writing.specs.Places.{formula_of}
use Rattle.back.specs.Answer.{delivered, written, written_by}

record Row : Type 0 where
  bytes : List ℕ
  room : ℕ
  says : Answers

row : List ℕ → List ℕ → Row
row bytes text = record { bytes = bytes; room = length text; says = answers (Ok (answer.Text (length text))) text }

-- the same with room for so many bytes more, which stay as they are
roomy : List ℕ → List ℕ → ℕ → Row
roomy bytes text more =
    record { bytes = bytes; room = length (text ++ replicate more 0); says = answers (Ok (answer.Text (length text))) (text ++ replicate more 0) }

-- too little room: nothing is written
short : List ℕ → ℕ → Row
short bytes room = record { bytes = bytes; room = room; says = answers (Err 33) (replicate room 0) }

none : List ℕ → Result Answer ℕ → Row
none bytes a = record { bytes = bytes; room = 0; says = answers a [] }

said : Row → Answers
said r = written_of r.bytes (replicate r.room 0)

want : Row → Answers
want r = r.says

-- PRIORITY > n
more : ℕ → List ℕ
more n = 144 ∷ 24 ∷ 0 ∷ 1 ∷ n ∷ []

-- n ANDs, each on the right of the one before
right : ℕ → List ℕ
right zero = more 0
right (suc n) = more 0 ++ (right n ++ 1 ∷ [])

-- their text: all but the last one in brackets
right_text : ℕ → List ℕ
right_text zero = bytes_of "PRIORITY > 0"
right_text (suc zero) = bytes_of "PRIORITY > 0 && PRIORITY > 0"
right_text (suc (suc n)) = bytes_of "PRIORITY > 0 && (" ++ (right_text (suc n) ++ bytes_of ")")

-- TITLE is a text
quoted : List ℕ → List ℕ
quoted s = 131 ∷ 34 ∷ 0 ∷ length s ∷ s

rows : List Row
rows =
    row (160 ∷ 4 ∷ 0 ∷ 4 ∷ 64 ∷ 31 ∷ 0 ∷ 0 ∷ 131 ∷ 35 ∷ 0 ∷ 7 ∷ (bytes_of "*rover*" ++ 144 ∷ 24 ∷ 0 ∷ 1 ∷ 2 ∷ 2 ∷ 1 ∷ []))
    (bytes_of "FILE_SIZE < 8000 && (KEYWORDS == \"*rover*\" || PRIORITY > 2)")
    ∷ row (more 1 ++ (more 2 ++ 1 ∷ (more 3 ++ 1 ∷ []))) (bytes_of "PRIORITY > 1 && PRIORITY > 2 && PRIORITY > 3")
    ∷ row (more 1 ++ (more 2 ++ (more 3 ++ 1 ∷ 1 ∷ []))) (bytes_of "PRIORITY > 1 && (PRIORITY > 2 && PRIORITY > 3)")
    ∷ row (more 1 ++ (more 2 ++ (more 3 ++ 2 ∷ 2 ∷ []))) (bytes_of "PRIORITY > 1 || (PRIORITY > 2 || PRIORITY > 3)")
    ∷ row (more 1 ++ (more 2 ++ (more 3 ++ 1 ∷ 2 ∷ []))) (bytes_of "PRIORITY > 1 || PRIORITY > 2 && PRIORITY > 3")
    ∷ row (more 1 ++ (more 2 ++ 2 ∷ (more 3 ++ 1 ∷ []))) (bytes_of "(PRIORITY > 1 || PRIORITY > 2) && PRIORITY > 3")
    ∷ row (176 ∷ 52 ∷ 171 ∷ 2 ∷ 44 ∷ 1 ∷ []) (bytes_of "#ab34 != 300")
    ∷ row (192 ∷ 4 ∷ 0 ∷ 1 ∷ 255 ∷ []) (bytes_of "FILE_SIZE >= 255:1")
    ∷ row (208 ∷ 24 ∷ 0 ∷ 4 ∷ 0 ∷ 0 ∷ 0 ∷ 0 ∷ []) (bytes_of "PRIORITY <= 0:4")
    ∷ row (quoted (65 ∷ 34 ∷ 92 ∷ 31 ∷ 255 ∷ [])) (bytes_of "TITLE == \"A\\\"\\\\\\x1f\\xff\"")
    ∷ none (replicate 2048 0) (Err 33)
    ∷ none [] (Err 8)
    ∷ none (more 1 ++ 0 ∷ []) (Ok answer.Mark)
    ∷ roomy (more 1) (bytes_of "PRIORITY > 1") 3
    ∷ short (more 1) 11
    ∷ row (right 17) (right_text 17)
    ∷ none (right 18) (Ok answer.Deeper)
    ∷ none (right 60) (Ok answer.Deeper)
    ∷ none (right 18 ++ 0 ∷ []) (Ok answer.Mark)
    ∷ none (quoted (replicate 252 97)) (Err 33)
    ∷ none (quoted (replicate 253 97)) (Ok answer.Bytes)
    ∷ []

computed : map said rows ≡ map want rows
unfolding want said rows row roomy short none more right right_text quoted bytes_of number digits_within decimal_of hex_digit width stars_in good_text good_number good
    connective_of relation_at token_of follow symbols_past pushed joined result bind run parse before_mark unmarked_past items width_in name_in is_printed least_width
    item_text operator_text character_text characters_text constant_text written_text item_by character_for number_for constant_for comparison_for text_of productText
    factorText nesting productNesting factorNesting formula_of delivered written written_by written_of
computed = refl
