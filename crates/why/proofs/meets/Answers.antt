-- `why::meets` meets its contract: by the truth of the equation.
use Rattle.std.proofs.Common.{ap, ◌∙◌}
use Rattle.header.specs.Items.{fields_of}
use Rattle.equation.specs.Answer.{is_yes}
use Rattle.equation.specs.Parsed.{outcome_by}
use Rattle.equation.proofs.Selects.{yes_is}
use Rattle.stored.specs.Answers.{file_at}
use Rattle.why.proofs.Settling.{marks_answer}
use Rattle.why.proofs.meets.Goals as goal

pub returns : goal.returns
returns c =
    let a = c.args in
    c.unwrap_or.ensures ∙ yes_is c.outcome.result
    ∙ ap is_yes (c.outcome.ensures ∙ ap (outcome_by a.steps.now) c.settle_file.ensures
    ∙ marks_answer a.eq.now a.steps.now (fields_of (file_at a.disk.now a.owner.now a.place a.received)) c.requires.0)
