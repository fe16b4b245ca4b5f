-- The files of a state, as a call finds and leaves them. Assumes nothing.
use Rattle.files.specs.View.{view_at}
use Rattle.server.specs.declared.Server.{Server}
use Rattle.server.specs.State.{Lent, owner_part, table_part}
use Rattle.acts.specs.Change.{Files}

-- the file at each place, in the parts of the slices that are the store's
abbrev pub files_of : Server → Lent → Files
files_of sv l place = view_at l.disk (owner_part sv l) (table_part sv l) place
