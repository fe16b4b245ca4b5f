use mathlib.Core.Path.{sym, ◌∙◌}
use Rattle.server.specs.Making.{make_of}
use Rattle.server.proofs.CheckLaws.{sizes_true, room_true, both_true}
use Rattle.making.proofs.make.Goals as goal

pub empty-requires : goal.empty-requires
empty-requires c = let t = both_true _ _ (rw (c.new_server-server.ensures, c.of-n.ensures) at (sym c.fits_all.ensures ∙ c.if-not-fits_all.false)) in let s = sizes_true _ _ _ _ t.0 in let r = room_true _ _ _ _ _ _ _ _ _ _ t.1 in record { small = (s.blocks, s.files, s.sessions, s.most); maps = r.map; owners = r.owner; records = r.table; selections = r.selected; packets = r.held }

pub returns-then-not-fits_all : goal.returns-then-not-fits_all
unfolding make_of
returns-then-not-fits_all c = rw (rw (c.new_server-server.ensures, c.of-n.ensures) at (sym c.fits_all.ensures ∙ c.if-not-fits_all.true))

pub returns : goal.returns
unfolding make_of
returns c = rw (c.new_server-server.ensures, rw (c.new_server-server.ensures, c.of-n.ensures) at (sym c.fits_all.ensures ∙ c.if-not-fits_all.false), ← c.empty.ensures)
