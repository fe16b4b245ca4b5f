-- A file's relations settled: by the marks an accepted equation has its truth and its reasons.
use mathlib.Core.Path.{◌≡◌, ap, ◌∙◌}
use mathlib.Core.List.{List}
use Prim.Native.Nat.{ℕ, ◌≤◌, ◌<◌}
use native.Mathlib.Omega.{arith}
use lib.ListN.{length, replicate}
use borrow.Author.Tests.{le-leb, lt-ltb}
use Rattle.header.specs.Items.{Field, fields_of}
use Rattle.equation.specs.Marks.{settled_by, relations_of}
use Rattle.equation.specs.Answer.{answer_on}
use Rattle.equation.specs.Parsed.{relations_by, outcome_by}
use Rattle.equation.proofs.SymbolLaws.{few_relations}
use Rattle.equation.proofs.Trees.{accepted}
use Rattle.equation.proofs.Runs.{answer_by_law}
use Rattle.stored.specs.Answers.{file_at}
use Rattle.stored.specs.Settled.{settled_at}
use Rattle.why.specs.Sizes.{Ready, Store}

pub settled_at_law : (eq steps disk owner : List ℕ) (place received : ℕ) (marks : List ℕ) → Store disk owner → place < 256
    → settled_at eq steps disk owner place received marks ≡ settled_by (fields_of (file_at disk owner place received)) (relations_by eq steps) marks
unfolding settled_at
settled_at_law eq steps disk owner place received marks s p =
    rw (le-leb 1 (length owner) s.some, le-leb (length owner) 4096 s.most, le-leb _ (length disk) s.bytes, lt-ltb place 256 p)

-- 2,047 bytes hold at most 511 relations
pub at_most_511 : (eq : List ℕ) → length eq ≤ 2047 → length (relations_of eq) ≤ 511
at_most_511 eq h = omega (arith, few_relations eq)

pub marks_answer : (eq steps : List ℕ) (fields : List Field) → Ready eq steps
    → outcome_by steps (settled_by fields (relations_by eq steps) (replicate 511 0)) ≡ answer_on eq fields
marks_answer eq steps fields r =
    let a = accepted eq r.valid in
    ap (λ (ss : List ℕ). outcome_by ss (settled_by fields (relations_by eq ss) (replicate 511 0))) r.listed
    ∙ answer_by_law eq a.fits fields 511 (at_most_511 eq a.fits)
