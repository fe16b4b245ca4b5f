-- What an act makes of a session, and of what is lent to it. Assumes nothing.
use Rattle.std.specs.Prelude.{List, ℕ}
use Rattle.session.specs.declared.state.Session.{Session}
use Rattle.session.specs.declared.reply.Reply.{Reply}
use Rattle.carry.specs.declared.turn.Last.{Last}
use Rattle.carry.specs.declared.turn.Turn.{Turn}

-- the last number and time given
abbrev pub last_of : ℕ → ℕ → Last
last_of number time = record { number = number; time = time }

abbrev pub turn_of : Session → Last → Reply → Turn
turn_of s last reply = record { session = s; last = last; reply = reply }

-- the store and the session's selection, as lent
pub record Mem : Type 0 where
  pub disk : List ℕ
  pub map : List ℕ
  pub owner : List ℕ
  pub table : List ℕ
  pub selected : List ℕ

abbrev pub mem : List ℕ → List ℕ → List ℕ → List ℕ → List ℕ → Mem
mem disk map owner table selected = record { disk = disk; map = map; owner = owner; table = table; selected = selected }

-- a turn, and all that is lent
pub record Turned : Type 0 where
  pub turn : Turn
  pub mem : Mem

abbrev pub turned : Turn → Mem → Turned
turned t m = record { turn = t; mem = m }

-- a turn that leaves the disk and the selection alone
pub record Frees : Type 0 where
  pub turn : Turn
  pub map : List ℕ
  pub owner : List ℕ
  pub table : List ℕ

abbrev pub frees : Turn → List ℕ → List ℕ → List ℕ → Frees
frees t map owner table = record { turn = t; map = map; owner = owner; table = table }

-- a turn that changes the disk and the table
pub record Writes : Type 0 where
  pub turn : Turn
  pub disk : List ℕ
  pub table : List ℕ

abbrev pub writes : Turn → List ℕ → List ℕ → Writes
writes t disk table = record { turn = t; disk = disk; table = table }

-- a turn that may change all of the store
pub record Moves : Type 0 where
  pub turn : Turn
  pub disk : List ℕ
  pub map : List ℕ
  pub owner : List ℕ
  pub table : List ℕ

abbrev pub moves : Turn → List ℕ → List ℕ → List ℕ → List ℕ → Moves
moves t disk map owner table = record { turn = t; disk = disk; map = map; owner = owner; table = table }

-- a turn that changes the selection
pub record Chooses : Type 0 where
  pub turn : Turn
  pub selected : List ℕ

abbrev pub chooses : Turn → List ℕ → Chooses
chooses t selected = record { turn = t; selected = selected }
