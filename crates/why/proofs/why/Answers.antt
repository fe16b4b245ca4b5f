-- `why::why` meets its contract: sizes first, then the equation, then the file.
use Rattle.std.proofs.Common.{sym, ap, ◌∙◌, arith, length, replicate, rules}
use Rattle.std.proofs.lemmas.Result.{err_from_is_err_and}
use Rattle.refusal.specs.Refusal.{number}
use Rattle.equation.specs.Parsed.{counted, parses}
use Rattle.equation.proofs.Parsing.{taken, judged}
use Rattle.why.proofs.Answers.{fit_of, store_of, why_fits, why_sizes, why_refused}
use Rattle.why.proofs.why.Goals as goal

pub returns-then-not-sizes_fit : goal.returns-then-not-sizes_fit
returns-then-not-sizes_fit c =
    let a = c.args in
    why_sizes a.eq.now a.number a.disk.now a.owner.now a.table.now a.most a.named.now (sym c.sizes_fit.ensures ∙ c.if-not-sizes_fit.true)

pub returns-in_err-n : goal.returns-in_err-n
returns-in_err-n c =
    let a = c.args in
    let u = c.in_err-n.field-0.0 in
    let p = err_from_is_err_and c.from_residual.result c.from_residual.ensures.1 in
    let j = judged a.eq.now (replicate 2047 0) c.parse.new.steps (number u.refusal) u.count (sym (ap (λ r. parses (counted r) c.parse.new.steps) c.in_err-n.was) ∙ c.parse.ensures) (λ h. omega arith) in
    rw (p.1, p.2) (why_refused a.eq.now a.number a.disk.now a.owner.now a.table.now a.most a.named.now (sym c.sizes_fit.ensures ∙ c.if-not-sizes_fit.false) (number u.refusal) j.number
    (λ z. j.refused (sym j.number ∙ z)))

pub slice_bounds-steps-end : goal.slice_bounds-steps-end
slice_bounds-steps-end c =
    (taken c.args.eq.now (replicate 2047 0) c.parse.new.steps c.in_ok-n.n (sym (ap (λ r. parses (counted r) c.parse.new.steps) c.in_ok-n.was) ∙ c.parse.ensures)).fits

pub slice_bounds-why_number-end : goal.slice_bounds-why_number-end
slice_bounds-why_number-end c =
    let t = (taken c.args.eq.now (replicate 2047 0) c.parse.new.steps c.in_ok-n.n (sym (ap (λ r. parses (counted r) c.parse.new.steps) c.in_ok-n.was) ∙ c.parse.ensures)).fits in
    search rules

pub why_number-requires : goal.why_number-requires
why_number-requires c =
    let a = c.args in
    let t = taken a.eq.now (replicate 2047 0) c.parse.new.steps c.in_ok-n.n (sym (ap (λ r. parses (counted r) c.parse.new.steps) c.in_ok-n.was) ∙ c.parse.ensures) in
    let f = fit_of (length a.eq.now) (length a.disk.now) (length a.owner.now) (length a.table.now) a.most (sym c.sizes_fit.ensures ∙ c.if-not-sizes_fit.false) in (
      record { listed = t.first; valid = t.valid },
      store_of a.disk.now a.owner.now (length a.eq.now) (length a.table.now) a.most f,
      f.most_places,
    )

pub returns : goal.returns
returns c =
    let a = c.args in
    c.why_number.ensures
    ∙ why_fits a.eq.now a.number a.disk.now a.owner.now a.table.now a.most a.named.now (sym c.sizes_fit.ensures ∙ c.if-not-sizes_fit.false)
