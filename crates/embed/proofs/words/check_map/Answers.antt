use Rattle.embed.specs.Words.{ready_of}
use borrow.Author.Tests.{lt-ltb, le-ltb}
use Rattle.embed.proofs.words.check_map.Goals as goal

pub returns-then-state-lt54 : goal.returns-then-state-lt54
unfolding ready_of
returns-then-state-lt54 c = rw (lt-ltb _ _ c.if-state-lt54.true)

pub returns-then-counts-lt2 : goal.returns-then-counts-lt2
unfolding ready_of
returns-then-counts-lt2 c = rw (le-ltb _ _ c.if-state-lt54.false, lt-ltb _ _ c.if-counts-lt2.true)

pub server_at-server-requires : goal.server_at-server-requires
server_at-server-requires c = c.if-state-lt54.false

pub judge-requires : goal.judge-requires
judge-requires c = c.if-state-lt54.false

pub returns : goal.returns
unfolding ready_of
returns c = rw (le-ltb _ _ c.if-state-lt54.false, le-ltb _ _ c.if-counts-lt2.false, ← c.server_at-server.ensures, ← c.map_fits.ensures) c.judge.ensures
