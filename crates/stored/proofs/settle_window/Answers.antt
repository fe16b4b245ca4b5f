-- `stored::settle_window` meets its contract. The item's bytes are those that were copied.
use mathlib.Core.Path.{◌∙◌, ap}
use mathlib.Core.List.{List}
use Prim.Native.Nat.{ℕ}
use Rattle.equation.specs.Marks.{settled}
use Rattle.equation.specs.Parsed.{relations_by}
use Rattle.stored.proofs.settle_window.Goals as goal

pub shape_of-item : goal.shape_of-item
shape_of-item c = c.item-1.given

pub shape_of-truths : goal.shape_of-truths
shape_of-truths c = c.truths-1.given

pub returns : goal.returns
returns c =
    let a = c.args in
    c.settle.ensures
    ∙ ap (λ (bs : List ℕ). settled (record { id = a.id; bytes = bs }) (relations_by a.eq.now a.steps.now) a.truths.now) c.fetch.ensures
