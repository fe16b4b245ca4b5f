-- `equation::evaluation::evaluate` meets its contract. 511 marks are enough for 2,047 bytes. Assumes nothing.
use Rattle.std.proofs.Common.{ap, sym, ◌∙◌, List, ℕ, arith, replicate, rules, Err}
use Rattle.std.proofs.lemmas.Result.{err_from_is_err_and}
use Rattle.refusal.specs.Refusal.{number}
use Rattle.header.specs.Items.{fields_of}
use Rattle.equation.specs.Holds.{holds}
use Rattle.equation.specs.Marks.{settled_by}
use Rattle.equation.specs.Parsed.{relations_by, outcome_by, counted, parses}
use Rattle.equation.proofs.SymbolLaws.{few_relations}
use Rattle.equation.proofs.Trees.{refused_answer}
use Rattle.equation.proofs.Runs.{answer_by_law}
use Rattle.equation.proofs.Parsing.{taken, judged}
use Rattle.equation.proofs.evaluation.evaluate.Goals as goal

pub returns-in_err-count : goal.returns-in_err-count
returns-in_err-count c =
    let a = c.args in
    let u = c.in_err-count.field-0.0 in
    let p = err_from_is_err_and c.from_residual.result c.from_residual.ensures.1 in
    let j = judged a.eq.now (replicate 2047 0) c.parse.new.steps (number u.refusal) u.count (sym (ap (λ r. parses (counted r) c.parse.new.steps) c.in_err-count.was) ∙ c.parse.ensures) (λ h. omega arith) in
    rw (p.1, p.2) (ap Err j.number ∙ refused_answer (λ k r. holds r (fields_of a.file.now)) a.eq.now j.refused)

pub slice_bounds-steps-end : goal.slice_bounds-steps-end
slice_bounds-steps-end c =
    (taken c.args.eq.now (replicate 2047 0) c.parse.new.steps c.in_ok-count.count (sym (ap (λ r. parses (counted r) c.parse.new.steps) c.in_ok-count.was) ∙ c.parse.ensures)).fits

pub slice_bounds-truth_of-end : goal.slice_bounds-truth_of-end
slice_bounds-truth_of-end c =
    let t = (taken c.args.eq.now (replicate 2047 0) c.parse.new.steps c.in_ok-count.count (sym (ap (λ r. parses (counted r) c.parse.new.steps) c.in_ok-count.was) ∙ c.parse.ensures)).fits in
    search rules

pub returns : goal.returns
returns c =
    let a = c.args in
    let t = taken a.eq.now (replicate 2047 0) c.parse.new.steps c.in_ok-count.count (sym (ap (λ r. parses (counted r) c.parse.new.steps) c.in_ok-count.was) ∙ c.parse.ensures) in
    c.truth_of.ensures
    ∙ ap (λ (ss : List ℕ). outcome_by ss (settled_by (fields_of a.file.now) (relations_by a.eq.now ss) (replicate 511 0))) t.first
    ∙ answer_by_law a.eq.now t.short (fields_of a.file.now) 511 (omega (arith, few_relations a.eq.now, t.short))
