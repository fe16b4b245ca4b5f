-- `stored::settle_item` meets its contract. The part that is lent has the item's length.
use mathlib.Core.Path.{◌∙◌, ap}
use Prim.Native.Nat.{ℕ}
use native.Mathlib.Omega.{arith}
use lib.ListN.{take, drop, replicate}
use Rattle.equation.specs.Marks.{settled}
use Rattle.equation.specs.Parsed.{relations_by}
use Rattle.stored.specs.Answers.{file_at}
use Rattle.stored.proofs.CursorLaws.{part_length}
use Rattle.stored.proofs.settle_item.Goals as goal

pub shape_of-truths : goal.shape_of-truths
shape_of-truths c = c.truths-1.given

pub returns : goal.returns
returns c =
    let a = c.args in
    let p = c.requires in
    c.settle_window.ensures
    ∙ ap (λ (m : ℕ). settled (record { id = a.id; bytes = take m (drop a.at (file_at a.disk.now a.owner.now a.place a.n)) }) (relations_by a.eq.now a.steps.now) a.truths.now)
    (part_length (replicate 256 0) a.size (omega (arith, p.3)))
