-- Making a server: the sizes, and the empty store in what is lent (document 01, "Sizes"). Assumes nothing.
use Rattle.std.specs.Prelude.{cond, List, ◌++◌, ℕ, ◌+◌, ◌*◌, ◌≤◌, length, take, drop, replicate, Result, Ok, Err}
use Rattle.session.specs.State.{closed_session}
use Rattle.blocks.specs.Answers.{make_map, make_owner}
use Rattle.carry.specs.Turn.{last_of}
use Rattle.server.specs.declared.Server.{Server}
use Rattle.server.specs.State.{words}
use Rattle.server.specs.Check.{fits}

-- no number and no time is given yet, and no session is open
abbrev pub new_server : ℕ → ℕ → ℕ → ℕ → Server
new_server blocks files sessions most =
    record
    { blocks = blocks; files = files; sessions = sessions; most = most; last = last_of 0 0; links = replicate 4 closed_session }

pub record Emptied : Type 0 where
  pub map : List ℕ
  pub owner : List ℕ
  pub table : List ℕ
  pub selected : List ℕ
  pub held : List ℕ

abbrev pub emptied : List ℕ → List ℕ → List ℕ → List ℕ → List ℕ → Emptied
emptied map owner table selected held = record { map = map; owner = owner; table = table; selected = selected; held = held }

-- zeros at the front
abbrev pub zeroed : ℕ → List ℕ → List ℕ
zeroed n l = replicate n 0 ++ drop n l

-- all blocks free, no file, nothing selected and no unfinished packet; the disk, and what is lent beyond the sizes, stay as they are
unfoldable pub empty_of : ℕ → ℕ → ℕ → ℕ → List ℕ → List ℕ → List ℕ → List ℕ → List ℕ → Emptied
empty_of blocks files sessions most map owner table selected held =
    emptied (make_map (take (words blocks) map) (take blocks owner) ++ drop (words blocks) map)
    (make_owner (take (words blocks) map) (take blocks owner) ++ drop blocks owner) (zeroed (4 * files) table) (zeroed (sessions * most) selected)
    (zeroed (sessions * 258) held)

pub record EmptyPre (blocks files sessions most : ℕ) (map owner table selected held : List ℕ) : Type 0 where
  pub small : (blocks ≤ 4096) × (files ≤ 256) × (sessions ≤ 4) × (most ≤ 50)
  pub maps : words blocks ≤ length map
  pub owners : blocks ≤ length owner
  pub records : 4 * files ≤ length table
  pub selections : sessions * most ≤ length selected
  pub packets : sessions * 258 ≤ length held

-- ---- the call

-- what making answers, a server or the number of a refusal, and what it leaves
pub record Makes : Type 0 where
  pub made : Result Server ℕ
  pub lent : Emptied

abbrev pub makes : Result Server ℕ → Emptied → Makes
makes m l = record { made = m; lent = l }

-- "33 local: a size or length outside the table .. or a lent buffer too short"; `disk` is the storage's length
unfoldable pub make_of : ℕ → ℕ → ℕ → ℕ → ℕ → List ℕ → List ℕ → List ℕ → List ℕ → List ℕ → Makes
make_of blocks files sessions most disk map owner table selected held =
    cond (fits (new_server blocks files sessions most) disk map owner table selected held)
    (makes (Ok (new_server blocks files sessions most))
    (empty_of blocks files sessions most map owner table selected held))
    (makes (Err 33) (emptied map owner table selected held))
