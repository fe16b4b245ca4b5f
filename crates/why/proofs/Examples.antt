-- Worked examples, by computation: all AND and OR of two relations, deeper ones, files beyond MAXSEL, and each refusal. Assumes nothing.
use Rattle.std.proofs.Common.{Ok}
use mathlib.Core.Path.{◌≡◌, refl}
use mathlib.Core.Bool.{Bool, true, false}
use mathlib.Core.List.{List, [], ◌∷◌, ◌++◌, map}
use Prim.Native.Nat.{ℕ}
use lib.ListN.{length, drop, replicate}
use Rattle.numbers.specs.Numbers.{number}
use Rattle.header.specs.Items.{head_of, after, walk, marked, fields_of}
use Rattle.equation.specs.Relation.{width, compare, text_meets, number_meets, meets}
use Rattle.equation.specs.Holds.{holds}
use Rattle.equation.specs.Symbols.{stars_in, good_text, good_number, good, connective_of, relation_at, token_of, follow, symbols_past}
use Rattle.equation.specs.Tree.{pushed, joined, result, bind, run, parse, truth}
use Rattle.equation.specs.Answer.{said, answer, is_yes}
use Rattle.blocks.specs.Contents.{held}
use Rattle.table.specs.Table.{files, first_from}
use Rattle.table.specs.Order.{least_above, next_above, places_above}
use Rattle.files.specs.Selection.{passing}
use Rattle.why.specs.Reasons.{reasons}
use Rattle.why.specs.Answer.{Whys, whys, refused_by, sizes_fit, told, deliver, file_why, found_why, tree_why, why_of}

-- ---- a store of four blocks and four places

-- a block with a header of one item, upload_time (12h)
block : ℕ → List ℕ
block time = 170 ∷ 85 ∷ 18 ∷ 0 ∷ 4 ∷ time ∷ 0 ∷ 0 ∷ 0 ∷ 0 ∷ 0 ∷ 0 ∷ replicate 244 0

disk : List ℕ
disk = block 5 ++ (block 0 ++ (block 9 ++ block 0))

owner : List ℕ
owner = 1 ∷ 2 ∷ 3 ∷ 0 ∷ []

-- file 7, complete at time 5; file 8, partial; file 9, complete at time 9; no file
table : List ℕ
table =
    7 ∷ 12 ∷ 12 ∷ 5
    ∷ 8 ∷ 12 ∷ 3 ∷ 0
    ∷ 9 ∷ 12 ∷ 12 ∷ 9
    ∷ 0 ∷ 0 ∷ 0 ∷ 0 ∷ []

-- ---- equations

-- upload_time greater than a number: Y is true on file 7 and N is false
above : ℕ → List ℕ
above n = 144 ∷ 18 ∷ 0 ∷ 1 ∷ n ∷ []

Y : List ℕ
Y = above 4

N : List ℕ
N = above 5

AND : List ℕ
AND = 1 ∷ []

OR : List ℕ
OR = 2 ∷ []

equation : List (List ℕ) → List ℕ
equation [] = []
equation (w ∷ ws) = w ++ equation ws

-- title (22h) greater than "m", which is no equation
bad : List ℕ
bad = 147 ∷ 34 ∷ 0 ∷ 1 ∷ 109 ∷ []

-- ---- what is asked and what has to come out

-- of an equation and a file's number, with MAXSEL 50 and four numbers lent
ask : List (List ℕ) → ℕ → Whys
ask ws number = why_of (equation ws) number disk owner table 50 (0 ∷ 0 ∷ 0 ∷ 0 ∷ [])

gives : Bool → List ℕ → Whys
gives matched ns =
    whys (Ok (record { matched = matched; beyond = false; older = 0; count = length ns })) (ns ++ drop (length ns) (0 ∷ 0 ∷ 0 ∷ 0 ∷ []))

refuses : ℕ → Whys
refuses n = whys (refused_by n) (0 ∷ 0 ∷ 0 ∷ 0 ∷ [])

-- on file 9 with another MAXSEL: one older file matches
ask_most : List ℕ → ℕ → Whys
ask_most eq most = why_of eq 9 disk owner table most (0 ∷ [])

gives_older : Bool → ℕ → Whys
gives_older beyond older = whys (Ok (record { matched = true; beyond = beyond; older = older; count = 1 })) (1 ∷ [])

pub record Row : Type 0 where
  pub got : Whys
  pub want : Whys

abbrev row : Whys → Whys → Row
row got want = record { got = got; want = want }

pub rows : List Row
rows =
    row (ask (Y ∷ []) 7) (gives true (1 ∷ []))
    ∷ row (ask (N ∷ []) 7) (gives false (1 ∷ []))
    -- a true AND: both; a false one: the first that is false
    ∷ row (ask (Y ∷ Y ∷ AND ∷ []) 7) (gives true (1 ∷ 2 ∷ []))
    ∷ row (ask (Y ∷ N ∷ AND ∷ []) 7) (gives false (2 ∷ []))
    ∷ row (ask (N ∷ Y ∷ AND ∷ []) 7) (gives false (1 ∷ []))
    ∷ row (ask (N ∷ N ∷ AND ∷ []) 7) (gives false (1 ∷ []))
    -- a false OR: both; a true one: the first that is true
    ∷ row (ask (N ∷ N ∷ OR ∷ []) 7) (gives false (1 ∷ 2 ∷ []))
    ∷ row (ask (N ∷ Y ∷ OR ∷ []) 7) (gives true (2 ∷ []))
    ∷ row (ask (Y ∷ N ∷ OR ∷ []) 7) (gives true (1 ∷ []))
    ∷ row (ask (Y ∷ Y ∷ OR ∷ []) 7) (gives true (1 ∷ []))
    -- (N OR Y) AND (Y AND Y); (Y AND N) OR (N AND Y); (Y OR Y) AND N; N OR (Y AND (N OR Y))
    ∷ row (ask (N ∷ Y ∷ OR ∷ Y ∷ Y ∷ AND ∷ AND ∷ []) 7) (gives true (2 ∷ 3 ∷ 4 ∷ []))
    ∷ row (ask (Y ∷ N ∷ AND ∷ N ∷ Y ∷ AND ∷ OR ∷ []) 7) (gives false (2 ∷ 3 ∷ []))
    ∷ row (ask (Y ∷ Y ∷ OR ∷ N ∷ AND ∷ []) 7) (gives false (3 ∷ []))
    ∷ row (ask (N ∷ Y ∷ N ∷ Y ∷ OR ∷ AND ∷ OR ∷ []) 7) (gives true (2 ∷ 4 ∷ []))
    -- one older file matches: beyond MAXSEL 1, within MAXSEL 2; and where it does not match, within MAXSEL 1
    ∷ row (ask_most (above 0) 1) (gives_older true 1)
    ∷ row (ask_most (above 0) 2) (gives_older false 1)
    ∷ row (ask_most (above 5) 1) (gives_older false 0)
    -- no equation; no such file; a partial file; and of two reasons the first
    ∷ row (ask (bad ∷ []) 7) (refuses 8)
    ∷ row (ask [] 7) (refuses 8)
    ∷ row (ask (Y ∷ []) 10) (refuses 4)
    ∷ row (ask (Y ∷ []) 0) (refuses 4)
    ∷ row (ask (Y ∷ []) 8) (refuses 11)
    ∷ row (ask (bad ∷ []) 10) (refuses 8)
    ∷ row (ask (bad ∷ []) 8) (refuses 8)
    -- too few numbers lent: last
    ∷ row (why_of (equation (Y ∷ Y ∷ AND ∷ [])) 7 disk owner table 50 (0 ∷ [])) (whys (refused_by 33) (0 ∷ []))
    ∷ row (why_of (equation (Y ∷ N ∷ AND ∷ [])) 7 disk owner table 50 (0 ∷ [])) (whys
    (Ok (record { matched = false; beyond = false; older = 0; count = 1 })) (2 ∷ []))
    ∷ row (why_of Y 8 disk owner table 50 []) (whys (refused_by 11) [])
    -- sizes: first
    ∷ row (why_of bad 7 disk owner table 0 (0 ∷ [])) (whys (refused_by 33) (0 ∷ []))
    ∷ row (why_of bad 7 disk owner table 51 (0 ∷ [])) (whys (refused_by 33) (0 ∷ []))
    ∷ row (why_of bad 7 [] owner table 50 (0 ∷ [])) (whys (refused_by 33) (0 ∷ []))
    ∷ row (why_of bad 7 disk [] table 50 (0 ∷ [])) (whys (refused_by 33) (0 ∷ []))
    ∷ row (why_of bad 7 disk owner [] 50 (0 ∷ [])) (whys (refused_by 33) (0 ∷ []))
    ∷ row (why_of (replicate 2048 0) 7 disk owner table 50 (0 ∷ [])) (whys (refused_by 33) (0 ∷ []))
    ∷ row (why_of (replicate 2047 0) 7 disk owner table 50 (0 ∷ [])) (whys (refused_by 8) (0 ∷ []))
    ∷ []

pub examples : map (λ (r : Row). r.got) rows ≡ map (λ (r : Row). r.want) rows
unfolding
    block disk owner table above Y N AND OR equation bad ask gives refuses ask_most gives_older rows number head_of after walk marked fields_of width compare
    text_meets number_meets meets holds stars_in good_text good_number good connective_of relation_at token_of follow symbols_past pushed joined result bind run
    parse truth said answer is_yes held files first_from least_above next_above places_above passing reasons sizes_fit told deliver file_why found_why tree_why why_of
examples = refl
