-- Which files an equation selects, and that with the condition for newer files it selects those of them that are newer. Assumes nothing.
use mathlib.Core.Path.{◌≡◌, refl, ap, ◌∙◌}
use mathlib.Core.Bool.{◌&&◌}
use mathlib.Core.List.{List, [], ◌∷◌}
use mathlib.Core.Option.{some}
use Prim.Native.Nat.{ℕ, ◌+◌, ◌≤◌, ◌<◌}
use native.Mathlib.Omega.{arith}
use lib.Dec.{ltb}
use lib.ListN.{length}
use Rattle.std.specs.Result.{result_unwrap_or}
use Rattle.std.proofs.Common.{Bool, false, Result, Ok, Err}
use Rattle.refusal.specs.declared.Refusal.{Refusal}
use Rattle.refusal.specs.Refusal.{numbered}
use Rattle.numbers.specs.Numbers.{four}
use Rattle.header.specs.Items.{Field}
use Rattle.equation.specs.Holds.{holds, bytes_of}
use Rattle.equation.specs.Tree.{Tree, leaf, both, parse, truth, truth_on}
use Rattle.equation.specs.Marks.{relations_of}
use Rattle.equation.specs.Answer.{is_yes, selects, validity_of}
use Rattle.equation.specs.Newer.{newer, newer_bytes, narrowed}
use Rattle.equation.proofs.Trees.{accepted, answer_truth}
use Rattle.equation.proofs.Any.{newer_holds}
use Rattle.equation.proofs.Append.{narrowed_parse, narrowed_truth, narrowed_length, newer_parse}

-- an answer is true, and a refusal counts as false
pub yes_is : (r : Result Bool Refusal) → result_unwrap_or r false ≡ is_yes (numbered r)
unfolding is_yes
yes_is (Ok b) = refl
yes_is (Err refusal) = refl

-- an accepted equation selects by its tree
pub selects_truth : (eq : List ℕ) (t : Tree) (fields : List Field) → length eq ≤ 2047 → parse eq ≡ some t → selects eq fields ≡ truth_on fields t
unfolding is_yes
selects_truth eq t fields h e = ap is_yes (answer_truth eq h (λ k r. holds r fields) t e)

-- one item of upload_time, u, and times of four bytes
module _ (t u : ℕ) (fields : List Field) (ht : t < 4294967296) (hu : u < 4294967296) (e : bytes_of 18 fields ≡ four u ∷ []) where
  -- an equation with the condition selects what it selects without, if that is newer
  pub narrowed_selects : (eq : List ℕ) → validity_of eq ≡ 0 → length eq + 9 ≤ 2047 → selects (narrowed eq t) fields ≡ selects eq fields && ltb t u
  narrowed_selects eq v h =
      let a = accepted eq v in
      selects_truth (narrowed eq t) (both a.tree (leaf (length (relations_of eq)) (newer t))) fields (omega (arith, narrowed_length eq t)) (narrowed_parse eq t a.tree a.parsed)
      ∙ (narrowed_truth fields a.tree (length (relations_of eq)) t
      ∙ rw (selects_truth eq a.tree fields a.fits a.parsed, newer_holds t u fields ht hu e))

  -- the condition alone selects what is newer
  pub newer_selects : selects (newer_bytes t) fields ≡ ltb t u
  unfolding truth
  newer_selects = selects_truth (newer_bytes t) (leaf 0 (newer t)) fields (omega arith) (newer_parse t) ∙ newer_holds t u fields ht hu e
