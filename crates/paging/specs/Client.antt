-- What a client sends to ask for a page, and the page that the answer leaves (document 01, "Equations", last paragraph; demand 3: "whoever selects
-- from upload time 0, then again above each page's newest time, with an equation that has room for that condition"). All is said of the machine of
-- crates/model; sessions are numbered from 1. Assumes nothing.
use Rattle.std.specs.Prelude.{◌≡◌, true, cond, List, [], ◌∷◌, ◌++◌, map, ℕ, ◌-◌, ◌≤◌, ltb, length, take, drop}
use Rattle.std.proofs.Math.Option.{some}
use Rattle.numbers.specs.Numbers.{two}
use Rattle.packet.specs.Packet.{packet_of}
use Rattle.packet.specs.Frame.{packet}
use Rattle.equation.specs.Newer.{narrowed}
use Rattle.session.specs.declared.reply.Answer.TheVariants as answer
use Rattle.calls.specs.Call.{receive}
use Rattle.model.specs.State.{File, no_download, with_selection, with_held, Model, session_at, in_session}
use Rattle.model.specs.Files.{matching, by_time}
use Rattle.model.specs.Step.{ends_in, step}

-- ---- asking

-- a session that is open, and whose downlink is idle
pub record Idle (m : Model) (session : ℕ) : Type 0 where
  pub from_one : 1 ≤ session
  pub linked : (session_at m (session - 1)).linked ≡ true
  pub down : (session_at m (session - 1)).down ≡ no_download

-- A CALL ASKS for the files above upload time t: its bytes, behind those that the link holds, end in SELECT_CMD (16) for the equation, the condition
-- "upload_time greater than t", and AND; an end mark of the equation is left out. So the packet's bytes may have come in any pieces, the first of them
-- in earlier calls. The driver lends an output with room for any packet. An equation has room for the condition where there is such a packet, whose
-- information is at most 256 bytes.
pub record Asks (m : Model) (eq : List ℕ) (t session : ℕ) (input out : List ℕ) : Type 0 where
  pub idle : Idle m session
  pub room : 258 ≤ length out
  pub sends : ends_in ((session_at m (session - 1)).held ++ input) ≡ some (packet 16 (narrowed eq t))

-- ---- the page

-- the matching complete files, oldest first
abbrev pub oldest_first : List ℕ → Model → List File
oldest_first eq m = by_time (matching eq m.files)

-- those with an upload time above t
unfoldable pub above : ℕ → List File → List File
above t [] = []
above t (f ∷ fs) = cond (ltb t f.time) (f ∷ above t fs) (above t fs)

-- "The selection is the oldest MAXSEL matching complete files by upload time": of those above t
abbrev pub page_of : Model → List ℕ → ℕ → List File
page_of m eq t = take m.maxsel (above t (oldest_first eq m))

abbrev pub numbers_of : List File → List ℕ
numbers_of fs = map (λ f. f.number) fs

-- What a call that asks is answered, and what it leaves: it takes the packet's bytes that the link did not hold; "SELECT_RESP has their number, 2 bytes"
-- goes out (17); the session's selection is the page. The session has no unfinished packet then, and nothing else is changed, so no file.
pub record Answers (m : Model) (eq : List ℕ) (t session clock : ℕ) (input out : List ℕ) : Type 0 where
  pub told :
      (step m (receive session clock input out)).told.answer
      ≡ answer.Sent (length (packet_of 16 (narrowed eq t)) - length (session_at m (session - 1)).held) 4
  pub sent : (step m (receive session clock input out)).told.out ≡ packet_of 17 (two (length (page_of m eq t))) ++ drop 4 out
  pub page : (session_at (step m (receive session clock input out)).after (session - 1)).selected ≡ numbers_of (page_of m eq t)
  pub after :
      (step m (receive session clock input out)).after ≡ in_session (session - 1) (λ s. with_selection (numbers_of (page_of m eq t)) (with_held [] s)) m
