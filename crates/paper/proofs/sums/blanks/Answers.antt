use Rattle.tokens.proofs.Places as places
use Rattle.paper.proofs.sums.blanks.Goals as goal

pub returns : goal.returns
returns c =
    let b = c in
    places.skipped b.args.text.now b.args.at c.past_blanks.result b.requires c.past_blanks.ensures
