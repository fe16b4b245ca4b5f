-- `equation::evaluation::parse` meets its contract. Assumes nothing.
use Rattle.std.proofs.Common.{inl, inr, rules}
use Rattle.refusal.specs.Refusal.{number}
use Rattle.refusal.proofs.Laws.{refused}
use Rattle.equation.proofs.Parsing.{parse_long, parse_little, parse_fits, parse_done, parse_refused}
use Rattle.equation.proofs.evaluation.parse.Goals as goal

pub returns-then-eq-gt2047 : goal.returns-then-eq-gt2047
returns-then-eq-gt2047 c =
    let a = c.args in
    elim c.then-eq-gt2047.either [ inl h ↦ parse_long a.eq.now a.steps.now h | inr h ↦ parse_little a.eq.now a.steps.now h.0 h.1 ]

pub slice_bounds-outcome-end : goal.slice_bounds-outcome-end
slice_bounds-outcome-end c =
    let a = c.args in
    let s = c.list_steps-count in
    parse_fits a.eq.now a.steps.now c.if-eq-gt2047.false c.if-steps-eq.false s.result _ s.ensures.value s.ensures.steps_after

pub slice_bounds-outcome-end-2 : goal.slice_bounds-outcome-end-2
slice_bounds-outcome-end-2 c =
    let a = c.args in
    let s = c.list_steps-count in
    let f = parse_fits a.eq.now a.steps.now c.if-eq-gt2047.false c.if-steps-eq.false s.result _ s.ensures.value s.ensures.steps_after in
    search rules

pub returns-in-Ok : goal.returns-in-Ok
returns-in-Ok c =
    let a = c.args in
    let s = c.list_steps-count in
    parse_done a.eq.now a.steps.now c.if-eq-gt2047.false c.if-steps-eq.false s.result _ s.ensures.value s.ensures.steps_after _ c.in-Ok.ensures

pub returns-in-Err : goal.returns-in-Err
returns-in-Err c =
    let a = c.args in
    let s = c.list_steps-count in
    parse_refused a.eq.now a.steps.now c.if-eq-gt2047.false c.if-steps-eq.false s.result _ s.ensures.value s.ensures.steps_after
    (number c.in-Err.refusal) (refused c.in-Err.refusal) c.in-Err.ensures
