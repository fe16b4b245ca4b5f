-- `equation::evaluation::truth_of` meets its contract. Assumes nothing.
use mathlib.Core.Path.{ap, ◌∙◌}
use Rattle.equation.specs.Parsed.{outcome_by}
use Rattle.equation.proofs.evaluation.truth_of.Goals as goal

pub returns : goal.returns
returns c = c.outcome.ensures ∙ ap (outcome_by c.args.steps.now) c.settle_file.ensures
