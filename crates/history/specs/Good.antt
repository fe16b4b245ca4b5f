-- What holds of every state that calls made: none of the facts of refusals 33 and 35 is broken, nor one of those that calls keep besides.
-- Assumes nothing.
use Rattle.std.specs.Prelude.{◌≡◌, true, length}
use Rattle.table.specs.Table.{files}
use Rattle.links.specs.Kept.{LinksKept}
use Rattle.server.specs.declared.Server.{Server}
use Rattle.server.specs.State.{Lent, table_part}
use Rattle.server.specs.Check.{fits, sound_parts}

pub record Good (sv : Server) (l : Lent) : Type 0 where
  -- 33 "a size or length outside the table .. or a lent buffer too short": none
  pub fits : fits sv (length l.disk) l.map l.owner l.table l.selected l.held ≡ true
  -- 35 "demand 3's facts on blocks, numbers or upload times are broken, or a length, offset or name points at what the store lacks": none
  pub sound : sound_parts sv l.map l.owner l.table l.selected l.held ≡ true
  -- and three facts on the sessions that 35 does not ask
  pub kept : LinksKept (files (table_part sv l)) sv.sessions sv.links
  -- the server has its four sessions
  pub links : length sv.links ≡ 4
