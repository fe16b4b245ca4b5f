-- Worked examples, P9 to P12 of document 01 among them, by computation. Assumes nothing.
use mathlib.Core.Path.{◌≡◌, refl}
use mathlib.Core.Bool.{Bool, true, false}
use mathlib.Core.List.{List, [], ◌∷◌, ◌++◌}
use Prim.Native.Nat.{ℕ, zero, suc}
use Rattle.numbers.specs.Numbers.{number}
use Rattle.text.specs.Match.{lower, fits, any_tail, one, matches}
use Rattle.header.specs.Items.{head_of, after, walk, marked, fields_of}
use Rattle.equation.specs.Relation.{width, compare, text_meets, number_meets, meets}
use Rattle.equation.specs.Holds.{holds}
use Rattle.equation.specs.Symbols.{stars_in, good_text, good_number, good, connective_of, relation_at, token_of, follow, symbols_past}
use Rattle.equation.specs.Tree.{pushed, joined, result, bind, run, parse, truth}
use Rattle.equation.specs.Answer.{said, answer, answer_of, refusal, validity_of}
use Rattle.std.proofs.Common.{Result, Ok}

-- a file of 80 bytes with the mandatory items alone: file_name "abcdefgh", upload_time 5
pub file80 : List ℕ
file80 =
    170 ∷ 85
    ∷ 1 ∷ 0 ∷ 4 ∷ 0 ∷ 0 ∷ 0 ∷ 0
    ∷ 2 ∷ 0 ∷ 8 ∷ 97 ∷ 98 ∷ 99 ∷ 100 ∷ 101 ∷ 102 ∷ 103 ∷ 104
    ∷ 3 ∷ 0 ∷ 3 ∷ 116 ∷ 120 ∷ 116
    ∷ 4 ∷ 0 ∷ 4 ∷ 80 ∷ 0 ∷ 0 ∷ 0
    ∷ 5 ∷ 0 ∷ 4 ∷ 0 ∷ 0 ∷ 0 ∷ 0
    ∷ 6 ∷ 0 ∷ 4 ∷ 0 ∷ 0 ∷ 0 ∷ 0
    ∷ 7 ∷ 0 ∷ 1 ∷ 0
    ∷ 8 ∷ 0 ∷ 1 ∷ 0
    ∷ 9 ∷ 0 ∷ 2 ∷ 0 ∷ 0
    ∷ 10 ∷ 0 ∷ 2 ∷ 158 ∷ 6
    ∷ 11 ∷ 0 ∷ 2 ∷ 80 ∷ 0
    ∷ 18 ∷ 0 ∷ 4 ∷ 5 ∷ 0 ∷ 0 ∷ 0
    ∷ 0 ∷ 0 ∷ 0 ∷ []

-- bytes that begin with the items of a letter to two stations: destinations (14h) "A" and "B"
pub letter : List ℕ
letter = 170 ∷ 85 ∷ 20 ∷ 0 ∷ 1 ∷ 65 ∷ 20 ∷ 0 ∷ 1 ∷ 66 ∷ 0 ∷ 0 ∷ 0 ∷ []

-- items of id 30h: one of three bytes, which is no number, then the numbers 7 and 9
pub mixed : List ℕ
mixed = 170 ∷ 85 ∷ 48 ∷ 0 ∷ 3 ∷ 7 ∷ 0 ∷ 0 ∷ 48 ∷ 0 ∷ 1 ∷ 7 ∷ 48 ∷ 0 ∷ 2 ∷ 9 ∷ 0 ∷ 0 ∷ 0 ∷ 0 ∷ []

times : ℕ → List ℕ → List ℕ
times zero l = []
times (suc n) l = l ++ times n l

-- what is computed, and what it has to be
pub record Row : Type 1 where
  pub Of : Type 0
  pub got : Of
  pub want : Of

abbrev pub Right : List Row → Type 0
Right [] = Unit {0}
Right (r ∷ rs) = (r.got ≡ r.want) × Right rs

abbrev pub number_row : ℕ → ℕ → Row
number_row g w = record { Of = ℕ; got = g; want = w }

abbrev pub match_row : Bool → Bool → Row
match_row g w = record { Of = Bool; got = g; want = w }

abbrev pub truth_row : Result Bool ℕ → Result Bool ℕ → Row
truth_row g w = record { Of = Result Bool ℕ; got = g; want = w }

pub table : List Row
table =
    -- P9: title (22h) greater than "m"
    number_row (validity_of (147 ∷ 34 ∷ 0 ∷ 1 ∷ 109 ∷ [])) 8
    -- P10: `*land*` matches "Landrover", `?` does not match ""
    ∷ match_row (matches (42 ∷ 108 ∷ 97 ∷ 110 ∷ 100 ∷ 42 ∷ []) (76 ∷ 97 ∷ 110 ∷ 100 ∷ 114 ∷ 111 ∷ 118 ∷ 101 ∷ 114 ∷ [])) true
    ∷ match_row (matches (63 ∷ []) []) false
    -- P11: five `*`; four are accepted
    ∷ number_row (validity_of (131 ∷ 34 ∷ 0 ∷ 5 ∷ 42 ∷ 42 ∷ 42 ∷ 42 ∷ 42 ∷ [])) 8
    ∷ number_row (validity_of (131 ∷ 34 ∷ 0 ∷ 4 ∷ 42 ∷ 42 ∷ 42 ∷ 42 ∷ [])) 0
    -- P12: the empty equation; and the mark alone, a byte after the mark, AND with one operand
    ∷ number_row (validity_of []) 8
    ∷ number_row (validity_of (0 ∷ [])) 8
    ∷ number_row (validity_of (144 ∷ 18 ∷ 0 ∷ 1 ∷ 4 ∷ 0 ∷ 0 ∷ [])) 8
    ∷ number_row (validity_of (144 ∷ 18 ∷ 0 ∷ 1 ∷ 4 ∷ 1 ∷ [])) 8
    -- upload_time greater than 4 in one byte, than 5 in four bytes and a mark
    ∷ truth_row (answer_of (144 ∷ 18 ∷ 0 ∷ 1 ∷ 4 ∷ []) file80) (Ok true)
    ∷ truth_row (answer_of (144 ∷ 18 ∷ 0 ∷ 4 ∷ 5 ∷ 0 ∷ 0 ∷ 0 ∷ 0 ∷ []) file80) (Ok false)
    -- file_name "AB*h" and upload_time greater than 4
    ∷ truth_row (answer_of (131 ∷ 2 ∷ 0 ∷ 4 ∷ 65 ∷ 66 ∷ 42 ∷ 104 ∷ 144 ∷ 18 ∷ 0 ∷ 1 ∷ 4 ∷ 1 ∷ 0 ∷ []) file80) (Ok true)
    -- an absent item, and a number relation on an item of eight bytes, are false for not equal too; bytes that are no header have no items
    ∷ truth_row (answer_of (176 ∷ 34 ∷ 0 ∷ 1 ∷ 4 ∷ []) file80) (Ok false)
    ∷ truth_row (answer_of (176 ∷ 2 ∷ 0 ∷ 1 ∷ 4 ∷ []) file80) (Ok false)
    ∷ truth_row (answer_of (144 ∷ 18 ∷ 0 ∷ 1 ∷ 4 ∷ []) (170 ∷ 84 ∷ [])) (Ok false)
    -- 02, A2: "a file to A and B is both equal to A and not equal to A", also in one equation; and it is equal to B, and not to C
    ∷ truth_row (answer_of (131 ∷ 20 ∷ 0 ∷ 1 ∷ 65 ∷ []) letter) (Ok true)
    ∷ truth_row (answer_of (179 ∷ 20 ∷ 0 ∷ 1 ∷ 65 ∷ []) letter) (Ok true)
    ∷ truth_row (answer_of (131 ∷ 20 ∷ 0 ∷ 1 ∷ 65 ∷ 179 ∷ 20 ∷ 0 ∷ 1 ∷ 65 ∷ 1 ∷ []) letter) (Ok true)
    ∷ truth_row (answer_of (131 ∷ 20 ∷ 0 ∷ 1 ∷ 66 ∷ []) letter) (Ok true)
    ∷ truth_row (answer_of (131 ∷ 20 ∷ 0 ∷ 1 ∷ 67 ∷ []) letter) (Ok false)
    -- an item of the wrong width hinders no other, and meets nothing: 7 is there, 9 is there, nothing is below 7
    ∷ truth_row (answer_of (128 ∷ 48 ∷ 0 ∷ 1 ∷ 7 ∷ []) mixed) (Ok true)
    ∷ truth_row (answer_of (128 ∷ 48 ∷ 0 ∷ 4 ∷ 9 ∷ 0 ∷ 0 ∷ 0 ∷ []) mixed) (Ok true)
    ∷ truth_row (answer_of (160 ∷ 48 ∷ 0 ∷ 1 ∷ 7 ∷ []) mixed) (Ok false)
    -- 100 results on the stack, and 101
    ∷ truth_row (answer_of (times 100 (179 ∷ 2 ∷ 0 ∷ 0 ∷ []) ++ times 99 (1 ∷ [])) file80) (Ok true)
    ∷ number_row (validity_of (times 101 (179 ∷ 2 ∷ 0 ∷ 0 ∷ []) ++ times 100 (1 ∷ []))) 8
    -- 2,047 bytes are taken, 2,048 are not
    ∷ number_row (validity_of (times 2047 (0 ∷ []))) 8
    ∷ number_row (validity_of (times 2048 (0 ∷ []))) 33
    ∷ []

pub examples : Right table
unfolding
    file80 letter mixed times table lower fits any_tail one matches number head_of after walk marked fields_of width compare text_meets number_meets meets holds
    stars_in good_text good_number good connective_of relation_at token_of follow symbols_past pushed joined result bind run parse truth said answer refusal validity_of
examples = (
  refl,
  (
    refl,
    (
      refl,
      (
        refl,
        (
          refl,
          (
            refl,
            (
              refl,
              (
                refl,
                (
                  refl,
                  (
                    refl,
                    (
                      refl,
                      (
                        refl,
                        (
                          refl,
                          (
                            refl,
                            (refl, (refl, (refl, (refl, (refl, (refl, (refl, (refl, (refl, (refl, (refl, (refl, (refl, tt))))))))))))),
                          ),
                        ),
                      ),
                    ),
                  ),
                ),
              ),
            ),
          ),
        ),
      ),
    ),
  ),
)
