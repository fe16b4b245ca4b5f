use Rattle.equations.proofs.Parts.{reply_put}
use Rattle.equations.proofs.progress.reply_behind.Goals as goal

pub returns : goal.returns
returns c =
    let answered = c in
    let placed = answered in
    let given = placed.args in
    reply_put given.input.now given.text.now _ given.from given.to given.at _ _ _ answered.answer_line.result
    placed.least-stop.ensures.2 placed.least-start.ensures.2 placed.least-place.ensures.2 answered.answer_line.ensures
