-- `table::next_complete` meets its contract. The least time above `after`, then the lowest place with it.
use Prim.Native.Nat.{ℕ}
use mathlib.Core.Path.{sym, ap, ◌∙◌}
use Rattle.table.specs.Table.{files, times, first_with}
use Rattle.table.proofs.Ordering.{next_zero, next_least}
use Rattle.table.proofs.next_complete.Goals as goal

pub returns-then-least-eq0 : goal.returns-then-least-eq0
returns-then-least-eq0 c =
    let s = c.args in
    next_zero s.after (times (files s.table.now)) (sym c.least_above-least.ensures ∙ c.if-least-eq0.true)

pub returns : goal.returns
returns c =
    let s = c.args in
    let ts = times (files s.table.now) in
    let e = c.least_above-least.ensures in
    c.first_with.ensures ∙ ap (λ (v : ℕ). first_with v ts) e ∙ next_least s.after ts (λ z. c.if-least-eq0.false (e ∙ z))
