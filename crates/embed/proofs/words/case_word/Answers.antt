-- `embed::words::case_word` meets its contract. Assumes nothing.
use Rattle.embed.proofs.words.case_word.Goals as goal

pub returns-then-long : goal.returns-then-long
returns-then-long c = rw c.if-long.true
