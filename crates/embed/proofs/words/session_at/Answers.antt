use Rattle.embed.specs.Words.{session_at}
use Rattle.embed.proofs.words.session_at.Goals as goal

pub returns : goal.returns
unfolding session_at
returns c = rw (c.up_of-up.ensures, c.down_of-down.ensures, c.number.ensures, c.number-2.ensures, c.number-3.ensures)
