-- What the packets say of the files: the bytes accepted under each number, which files there are and the blocks reserved for each, the numbers given and
-- the files completed. Nothing here looks at what is stored. Assumes nothing.
use Rattle.std.specs.Prelude.{cond, List, [], ◌∷◌, ◌++◌, map, ℕ, zero, suc, ◌+◌, eqb}
use Rattle.std.proofs.Math.Option.{Option, none, some}
use Rattle.table.specs.Given.{blocks_for}
use Rattle.model.specs.Uplink.{time_at}
use Rattle.accepted.specs.Exchange.{Transcript, blank, ◌▹◌}
use Rattle.accepted.specs.Events.{Event, nothing, given, added, finished, dropped, event_in}

-- ---- "the bytes accepted under its number, in order"

-- what an event adds to file n: the information of a DATA packet accepted for it
unfoldable pub added_by : Event → ℕ → List ℕ
added_by nothing n = []
added_by (given k size) n = []
added_by (added k bytes) n = cond (eqb k n) bytes []
added_by (finished k clock) n = []
added_by (dropped k) n = []

unfoldable pub accepted : Transcript → ℕ → List ℕ
accepted blank n = []
accepted (t ▹ x) n = accepted t n ++ added_by (event_in t x) n

-- ---- "their reserved blocks by history"

-- the announced length of file n, none where it was not given or was discarded
unfoldable pub announced_by : Event → ℕ → Option ℕ → Option ℕ
announced_by nothing n was = was
announced_by (given k size) n was = cond (eqb k n) (some size) was
announced_by (added k bytes) n was = was
announced_by (finished k clock) n was = was
announced_by (dropped k) n was = cond (eqb k n) none was

unfoldable pub announced : Transcript → ℕ → Option ℕ
announced blank n = none
announced (t ▹ x) n = announced_by (event_in t x) n (announced t n)

-- "A new file reserves its length divided by 256, rounded up, in blocks"; "A NAK discards the partial; its blocks are free for the next upload"
unfoldable pub blocks_of : Option ℕ → ℕ
blocks_of none = 0
blocks_of (some size) = blocks_for size

abbrev pub reserved : Transcript → ℕ → ℕ
reserved t n = blocks_of (announced t n)

-- f 1 + f 2 + .. + f n
unfoldable pub total : ℕ → (ℕ → ℕ) → ℕ
total zero f = 0
total (suc n) f = total n f + f (suc n)

-- ---- the numbers given

unfoldable pub given_by : Event → List ℕ
given_by nothing = []
given_by (given k size) = k ∷ []
given_by (added k bytes) = []
given_by (finished k clock) = []
given_by (dropped k) = []

-- in the order in which UL_GO_RESP gave them
unfoldable pub numbers_given : Transcript → List ℕ
numbers_given blank = []
numbers_given (t ▹ x) = numbers_given t ++ given_by (event_in t x)

-- 1, 2, .., n
unfoldable pub from_one : ℕ → List ℕ
from_one zero = []
from_one (suc n) = from_one n ++ suc n ∷ []

-- ---- the files completed

pub record Completion : Type 0 where
  pub number : ℕ
  pub time : ℕ

abbrev pub completion : ℕ → ℕ → Completion
completion n t = record { number = n; time = t }

-- the upload time of the last one, t where there is none
unfoldable pub last_from : ℕ → List Completion → ℕ
last_from t [] = t
last_from t (c ∷ cs) = last_from c.time cs

-- "the last one starts at 0"
abbrev pub last_time : List Completion → ℕ
last_time cs = last_from 0 cs

-- "Upload time is the clock, or the last one given plus 1 if that is larger" (`time_at`, crates/model/specs/Uplink.antt)
unfoldable pub completed_by : Event → ℕ → List Completion
completed_by nothing last = []
completed_by (given k size) last = []
completed_by (added k bytes) last = []
completed_by (finished k clock) last = completion k (time_at clock last) ∷ []
completed_by (dropped k) last = []

-- in the order in which UL_ACK_RESP went out
unfoldable pub completions : Transcript → List Completion
completions blank = []
completions (t ▹ x) = completions t ++ completed_by (event_in t x) (last_time (completions t))

abbrev pub times : List Completion → List ℕ
times cs = map (λ c. c.time) cs
