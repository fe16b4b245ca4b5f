-- `why::decide_file` meets its contract: the pass over the steps by the file's marks.
use mathlib.Core.Path.{ap, ◌∙◌, subst}
use mathlib.Core.Option.{Option}
use lib.ListN.{length, replicate}
use Rattle.header.specs.Items.{fields_of}
use Rattle.equation.specs.Parsed.{relations_by}
use Rattle.equation.proofs.Settled.{settled_by_length}
use Rattle.stored.specs.Answers.{file_at}
use Rattle.why.specs.Run.{Result, result_by, Tells}
use Rattle.why.proofs.Reasoned.{few_relations_by, result_by_law}
use Rattle.why.proofs.decide_file.Goals as goal

pub decide-requires : goal.decide-requires
decide-requires c =
    let a = c.args in
    let p = c.requires in (
      few_relations_by a.eq.now a.steps.now p.0,
      ap length c.settle_file.ensures
          ∙ settled_by_length (fields_of (file_at a.disk.now a.owner.now a.place a.received)) (relations_by a.eq.now a.steps.now)
          (replicate 511 0),
      p.3,
    )

pub returns : goal.returns
returns c t e =
    let a = c.args in
    let d = c.decide in
    subst (λ (o : Option Result). Tells o d.result d.new.row)
    (ap (result_by a.steps.now) c.settle_file.ensures
    ∙ result_by_law a.eq.now a.steps.now c.requires.0 (fields_of (file_at a.disk.now a.owner.now a.place a.received)) t e)
    d.ensures
