-- `equation::evaluation::meets_at` meets its contract. Assumes nothing.
use mathlib.Core.Path.{ap, ap₂, ◌∙◌}
use mathlib.Core.List.{List}
use Prim.Native.Nat.{ℕ, ◌+◌}
use native.Mathlib.Omega.{arith}
use lib.ListN.{get_or}
use Rattle.equation.specs.Relation.{meets}
use Rattle.equation.proofs.StepLaws.{constant_none, constant_left, constant_whole}
use Rattle.equation.proofs.evaluation.meets_at.Goals as goal

pub returns-then-eq-at : goal.returns-then-eq-at
returns-then-eq-at c =
    let a = c.args in
    c.item_meets.ensures
    ∙ ap₂ (λ (k : ℕ) (bs : List ℕ). meets k bs a.item.now) c.byte_of.ensures (constant_none a.eq.now a.at (get_or a.eq.now (a.at + 3) 0) c.if-eq-at.true)

pub overflow_cast-size : goal.overflow_cast-size
overflow_cast-size c = omega (arith, c.type_inv.eq (c.args.at + 3))

pub returns-then-eq-start : goal.returns-then-eq-start
returns-then-eq-start c =
    let a = c.args in
    c.item_meets-then-eq-start.ensures
    ∙ ap (λ (bs : List ℕ). meets (get_or a.eq.now a.at 0) bs a.item.now) (constant_left a.eq.now a.at (get_or a.eq.now (a.at + 3) 0) c.if-eq-start.true)

pub returns : goal.returns
returns c =
    let a = c.args in
    c.item_meets-2.ensures
    ∙ ap (λ (bs : List ℕ). meets (get_or a.eq.now a.at 0) bs a.item.now) (constant_whole a.eq.now a.at (get_or a.eq.now (a.at + 3) 0))
