-- `files::select_parse` meets its contract: a test for each size, then the equation.
use Rattle.std.proofs.Common.{ap, sym, ◌∙◌, Ok, Err}
use Rattle.std.proofs.lemmas.Result.{err_from_is_err_and}
use borrow.Author.Tests.{le-leb}
use Rattle.equation.specs.Parsed.{counted, parses}
use Rattle.files.specs.Selection.{select_number}
use Rattle.files.proofs.Choice.{parsed_number, parsed_steps}
use Rattle.files.proofs.select_parse.Goals as goal

pub returns-in_err-parse-clause-refused_value : goal.returns-in_err-parse-clause-refused_value
unfolding select_number
returns-in_err-parse-clause-refused_value c =
    let a = c.args in
    let p = err_from_is_err_and c.from_residual.result c.from_residual.ensures.1 in
    let e = sym (ap (λ r. parses (counted r) c.parse.new.steps) c.in_err-parse.was) ∙ c.parse.ensures in
    rw (p.1, p.2)
    (parsed_number a.eq.now a.steps.now _ (Err c.in_err-parse.field-0.0) e c.requires c.if-eq-gt256.false
    ∙ simp (le-leb _ _ c.if-most-lt1.false, le-leb _ _ c.if-most-gt50.false, le-leb _ _ c.if-n-most.false, le-leb _ _ c.if-eq-gt256.false))

pub returns : goal.returns
unfolding select_number
returns c =
    let a = c.args in
    let e = sym (ap (λ r. parses (counted r) c.parse.new.steps) c.in_ok-parse.was) ∙ c.parse.ensures in record {
      refused_value = parsed_number a.eq.now a.steps.now _ (Ok c.in_ok-parse.field-0) e c.requires c.if-eq-gt256.false
          ∙ simp (le-leb _ _ c.if-most-lt1.false, le-leb _ _ c.if-most-gt50.false, le-leb _ _ c.if-n-most.false, le-leb _ _ c.if-eq-gt256.false);
      count_in_bounds = parsed_steps a.eq.now a.steps.now _ (Ok c.in_ok-parse.field-0) e;
    }
