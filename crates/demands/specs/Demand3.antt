-- Demand 3, on the state after any history: "From an empty store, after any calls, links lost at any byte and clocks running backwards included". `s` is
-- what the server was made with, `h` the calls in order. What is said of the files by their numbers is said of the machine (crates/accepted/specs/
-- Agreement.antt); here it is joined with the blocks and the places of the server's memory. That all of it holds for every legal start and every history
-- is `demand_3` (proofs/Whole.antt); proofs/AtWork.antt shows it at work. Assumes nothing.
use Rattle.std.specs.Prelude.{◌≡◌, ◌⊎◌, ℕ, ◌+◌, ◌<◌, length, get_or}
use Rattle.std.proofs.Math.Option.{some}
use Rattle.blocks.specs.FreeMap.{free_count, bit_at}
use Rattle.blocks.specs.Owners.{held_count, blocks}
use Rattle.session.specs.Reply.{told}
use Rattle.files.specs.View.{View}
use Rattle.server.specs.declared.Server.{Server}
use Rattle.server.specs.State.{Lent, map_part, owner_part}
use Rattle.acts.specs.Change.{Files, Change}
use Rattle.history.specs.Calls.{Call, call_of, Start, History, start, ◌▸◌, after}
use Rattle.history.specs.Stored.{files_of}
use Rattle.model.specs.State.{File, Model, empty}
use Rattle.model.specs.Files.{find, free}
use Rattle.model.specs.Step.{run}
use Rattle.accepted.specs.Exchange.{Exchange, exchange, Transcript, blank, ◌▹◌, exchanged}
use Rattle.accepted.specs.Accepted.{reserved, total, numbers_given}
use Rattle.accepted.specs.Agreement.{Agrees}
use Rattle.views.specs.View.{file_of}

-- the server, what is lent, and the files by place after a history
abbrev pub server_at : Start → History → Server
server_at s h = (after s h).server

abbrev pub lent_at : Start → History → Lent
lent_at s h = (after s h).lent

abbrev pub files_at : Start → History → Files
files_at s h = files_of (server_at s h) (lent_at s h)

-- the machine after it; the server stands for it (`EveryHistory`, crates/refines/specs/Refines.antt)
abbrev pub model_at : Start → History → Model
model_at s h = run (empty s.blocks s.files s.sessions s.most) h

-- what the server itself answers to a call after it, and all that it answered
abbrev pub exchanged_at : Start → History → Call → Exchange
exchanged_at s h c = exchange c (told (call_of (server_at s h) (lent_at s h) c).done.answer (call_of (server_at s h) (lent_at s h) c).out)

unfoldable pub transcript_at : Start → History → Transcript
transcript_at s start = blank
transcript_at s (h ▸ c) = transcript_at s h ▹ exchanged_at s h c

-- ---- the files by place

-- a file stands at a place: numbers are from 1
abbrev pub Live : View → Type 0
Live v = v.file.number ≡ 0 → ⊥

-- a file of the machine at a place
pub record Placed (F : Files) (f : File) : Type 0 where
  pub place : ℕ
  pub live : Live (F place)
  pub is : file_of (F place) ≡ f

-- the files of the machine are those that stand at the places, each at one
pub record ByPlace (s : Start) (h : History) : Type 0 where
  pub found : (place : ℕ) → Live (files_at s h place)
      → find (files_at s h place).file.number (model_at s h).files ≡ some (file_of (files_at s h place))
  pub placed : (n : ℕ) (f : File) → find n (model_at s h).files ≡ some f → Placed (files_at s h) f
  pub apart : (p q : ℕ) → Live (files_at s h p) → (files_at s h p).file.number ≡ (files_at s h q).file.number → p ≡ q
  -- a call changes one place at most: there a file is begun, continued, completed or discarded (crates/acts/specs/Change.antt)
  pub change : (c : Call) → Change (server_at s h).last (files_at s h) (server_at s (h ▸ c)).last (files_at s (h ▸ c))

-- ---- "each storage block is free or belongs to one file"

-- a free block: its bit in the map is 1 and it has no owner
pub record Free (sv : Server) (l : Lent) (b : ℕ) : Type 0 where
  pub bit : bit_at (map_part sv l) b ≡ 1
  pub owner : get_or (owner_part sv l) b 0 ≡ 0

-- a file's block: its bit is 0, and its owner is the place of a file, counted from 1; a block has one owner, so it is no other file's
pub record Owned (sv : Server) (l : Lent) (b : ℕ) : Type 0 where
  pub place : ℕ
  pub bit : bit_at (map_part sv l) b ≡ 0
  pub owner : get_or (owner_part sv l) b 0 ≡ place + 1
  pub file : Live (files_of sv l place)

abbrev pub EachBlock : Start → History → Type 0
EachBlock s h = (b : ℕ) → b < s.blocks → Free (server_at s h) (lent_at s h) b ⊎ Owned (server_at s h) (lent_at s h) b

-- ---- "blocks held equal the sum over live files of their reserved blocks by history"

-- A number that was never given, or whose file was discarded, has no blocks reserved; so the sum over all numbers given is that over the live
-- files. The blocks of each live file are those reserved for its number; all blocks are free or held, and those free are the machine's.
pub record BlocksHeld (s : Start) (h : History) : Type 0 where
  pub held : held_count (owner_part (server_at s h) (lent_at s h)) ≡ total (length (numbers_given (transcript_at s h))) (reserved (transcript_at s h))
  pub each : (place : ℕ) → Live (files_at s h place)
      → blocks (place + 1) (owner_part (server_at s h) (lent_at s h)) ≡ reserved (transcript_at s h) (files_at s h place).file.number
  pub all : free_count (map_part (server_at s h) (lent_at s h)) + held_count (owner_part (server_at s h) (lent_at s h)) ≡ s.blocks
  pub free_is : free_count (map_part (server_at s h) (lent_at s h)) ≡ free (model_at s h)

-- ---- all of it, but for the last sentence, which speaks of selections

pub record Demand3 (s : Start) (h : History) : Type 0 where
  pub blocks : EachBlock s h
  pub held : BlocksHeld s h
  pub places : ByPlace s h
  -- what the server answers is what the machine answers
  pub answers : (c : Call) → exchanged_at s h c ≡ exchanged (model_at s h) c
  -- the numbers, the contents, the times, and that "a call changes no file but its own": by number, as the server's own answers say
  pub files : Agrees (model_at s h) (transcript_at s h)
