-- The server's state: what it holds by value, and the slices that are lent to each call. Assumes nothing.
use Rattle.std.specs.Prelude.{List, ◌++◌, ℕ, ◌+◌, ◌*◌, ◌/◌, get_or, set, take, drop}
use Rattle.session.specs.declared.state.Session.{Session}
use Rattle.session.specs.declared.reply.Answer.{Answer}
use Rattle.session.specs.State.{closed_session}
use Rattle.carry.specs.declared.turn.Turn.{Turn}
use Rattle.server.specs.declared.Server.{Server}
use Rattle.server.specs.declared.Done.{Done}

-- the slices: storage, free map, owners, file table; the selections, MAXSEL numbers a session; the unfinished packets, 258 bytes a session
pub record Lent : Type 0 where
  pub disk : List ℕ
  pub map : List ℕ
  pub owner : List ℕ
  pub table : List ℕ
  pub selected : List ℕ
  pub held : List ℕ

abbrev pub lent : List ℕ → List ℕ → List ℕ → List ℕ → List ℕ → List ℕ → Lent
lent disk map owner table selected held = record { disk = disk; map = map; owner = owner; table = table; selected = selected; held = held }

-- what a call answers and leaves
pub record Outcome : Type 0 where
  pub done : Done
  pub lent : Lent
  pub out : List ℕ

abbrev pub outcome : Done → Lent → List ℕ → Outcome
outcome d l out = record { done = d; lent = l; out = out }

abbrev pub done_with : Server → Answer → Done
done_with sv a = record { server = sv; answer = a }

-- ---- sessions, counted from 0 here and from 1 by the driver

abbrev pub link_of : Server → ℕ → Session
link_of sv i = get_or sv.links i closed_session

abbrev pub with_link : Server → ℕ → Session → Server
with_link sv i s =
    record
    { blocks = sv.blocks; files = sv.files; sessions = sv.sessions; most = sv.most; last = sv.last; links = set sv.links i s }

abbrev pub with_turn : Server → ℕ → Turn → Server
with_turn sv i t =
    record
    { blocks = sv.blocks; files = sv.files; sessions = sv.sessions; most = sv.most; last = t.last; links = set sv.links i t.session }

-- ---- the parts of the slices that are the store's, and those of a session; what is lent beyond them is not looked at

-- the words of a map of n blocks
abbrev pub words : ℕ → ℕ
words n = (n + 63) / 64

abbrev pub map_part : Server → Lent → List ℕ
map_part sv l = take (words sv.blocks) l.map

abbrev pub owner_part : Server → Lent → List ℕ
owner_part sv l = take sv.blocks l.owner

abbrev pub table_part : Server → Lent → List ℕ
table_part sv l = take (4 * sv.files) l.table

-- n entries from a on, and the list with others in their place
abbrev pub part : ℕ → ℕ → List ℕ → List ℕ
part a n l = take n (drop a l)

abbrev pub with_part : ℕ → ℕ → List ℕ → List ℕ → List ℕ
with_part a n p l = take a l ++ (p ++ drop n (drop a l))
