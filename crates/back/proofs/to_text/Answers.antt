-- `back::to_text` meets its contract. Assumes nothing.
use Rattle.std.proofs.Common.{rules, ap, sym, ◌∙◌}
use Rattle.std.proofs.lemmas.Result.{err_from_is_err_and}
use Rattle.refusal.specs.Refusal.{number, numbered}
use Rattle.equation.specs.Parsed.{counted, parses}
use Rattle.back.proofs.Answers as replies
use Rattle.back.proofs.to_text.Goals as goal

pub returns-in_err-count : goal.returns-in_err-count
returns-in_err-count c =
    let u = c.in_err-count.field-0.0 in
    let p = err_from_is_err_and c.from_residual.result c.from_residual.ensures.1 in
    rw (p.1, p.2) (replies.refused_answer c.args.bytes.now c.parse.new.steps (λ j. (c.type_inv.bytes j).fits) (number u.refusal) u.count
    (sym (ap (λ r. parses (counted r) c.parse.new.steps) c.in_err-count.was) ∙ c.parse.ensures) c.args.out.now)

pub slice_bounds-steps-end : goal.slice_bounds-steps-end
slice_bounds-steps-end c =
    replies.count_within c.args.bytes.now c.parse.new.steps (λ j. (c.type_inv.bytes j).fits) c.in_ok-count.count (sym (ap (λ r. parses (counted r) c.parse.new.steps) c.in_ok-count.was) ∙ c.parse.ensures)

pub slice_bounds-answered-end : goal.slice_bounds-answered-end
slice_bounds-answered-end c =
    let w = replies.count_within c.args.bytes.now c.parse.new.steps (λ j. (c.type_inv.bytes j).fits) c.in_ok-count.count (sym (ap (λ r. parses (counted r) c.parse.new.steps) c.in_ok-count.was) ∙ c.parse.ensures) in
    search rules

pub answered-requires : goal.answered-requires
answered-requires c =
    replies.part_accepted c.args.bytes.now c.parse.new.steps (λ j. (c.type_inv.bytes j).fits) c.in_ok-count.count (sym (ap (λ r. parses (counted r) c.parse.new.steps) c.in_ok-count.was) ∙ c.parse.ensures)

pub returns : goal.returns
returns c =
    let a = c.args in
    replies.whole_answer a.bytes.now c.parse.new.steps (λ j. (c.type_inv.bytes j).fits) c.in_ok-count.count (sym (ap (λ r. parses (counted r) c.parse.new.steps) c.in_ok-count.was) ∙ c.parse.ensures) (numbered c.answered.result) a.out.now c.answered.new.out c.answered.ensures
