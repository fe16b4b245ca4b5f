use Rattle.embed.specs.Words.{server_at}
use Rattle.embed.proofs.words.server_at.Goals as goal

pub returns : goal.returns
unfolding server_at
returns c = rw (c.number.ensures, c.number-2.ensures, c.number-3.ensures, c.number-4.ensures, c.low32.ensures, c.low32-2.ensures, c.session_at-a.ensures, c.session_at-b.ensures, c.session_at-c.ensures, c.session_at-d.ensures)
