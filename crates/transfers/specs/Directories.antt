-- WHAT A DIRECTORY BRINGS, of the machine: "Add DIR_SHORT_CMD and DIR_LONG_CMD .., for one file and for the next files of the selection, the headers sent
-- as DATA and DATA_END" (A1 of document 02). Sessions are numbered from 1. Assumes nothing.
use Rattle.std.specs.Prelude.{◌≡◌, Bool, true, false, cond, List, [], ◌∷◌, ◌++◌, ℕ, ◌+◌, ◌-◌, ◌/◌, ◌≤◌, eqb, length, drop}
use Rattle.std.proofs.Math.Option.{some}
use Rattle.packet.specs.Packet.{packet_of}
use Rattle.packet.specs.Frame.{packet}
use Rattle.session.specs.declared.reply.Answer.TheVariants as answer
use Rattle.decide.specs.Words.{word_at}
use Rattle.calls.specs.Call.{Call, receive}
use Rattle.model.specs.State.{no_download, listing, Session, Model, session_at}
use Rattle.model.specs.Downlink.{directory_of, next_ten}
use Rattle.model.specs.Step.{ends_in, step}
use Rattle.steps.specs.Sound.{Sound}
use Rattle.steps.specs.Naming.{AllComplete, Named}
use Rattle.transfers.specs.Downloads.{requests_and_uplink, asks, sent_to, data_to, end_to, Brings}

-- the state after calls
unfoldable pub state_after : Model → List Call → Model
state_after m [] = m
state_after m (c ∷ cs) = state_after (step m c).after cs

-- a session is to be sent a directory, long (true) or short, of the files of these numbers, from an offset in its bytes on
pub record Listing (m : Model) (session : ℕ) (long : Bool) (ns : List ℕ) (offset : ℕ) : Type 0 where
  pub from_one : 1 ≤ session
  pub linked : (session_at m (session - 1)).linked ≡ true
  pub down : (session_at m (session - 1)).down ≡ listing long ns offset

-- ---- the beginning of a directory

-- DIR_LONG_CMD (15), DIR_SHORT_CMD (14)
abbrev pub directory_type : Bool → ℕ
directory_type true = 15
directory_type false = 14

-- the numbers of the files that the command names: with number 0 the next ten of the selection, or all that are left
unfoldable pub numbers_listed : Session → List ℕ → List ℕ
numbers_listed s info = cond (eqb (word_at info 0) 0) (next_ten s) (word_at info 0 ∷ [])

-- the place in the selection then: with number 0 "past every file it sends"
unfoldable pub place_after : Session → List ℕ → ℕ
place_after s info = cond (eqb (word_at info 0) 0) (s.next + length (next_ten s)) s.next

-- A session is to be sent the whole directory of these files, one at least, which are complete. The files and the selection are as they were.
pub record Lists (m : Model) (session : ℕ) (m' : Model) (long : Bool) (ns : List ℕ) (place : ℕ) : Type 0 where
  pub listing : Listing m' session long ns 0
  pub some : 1 ≤ length ns
  pub complete : AllComplete m.files ns
  pub files : m'.files ≡ m.files
  pub selected : (session_at m' (session - 1)).selected ≡ (session_at m (session - 1)).selected
  pub next : (session_at m' (session - 1)).next ≡ place

-- A DIR_SHORT_CMD OR DIR_LONG_CMD THAT IS NOT REFUSED BEGINS A DIRECTORY: the call sends no packet, and neither closes the link nor is refused locally
abbrev pub DirectoryBegins : Type 0
DirectoryBegins =
    (m : Model) → Named m → (long : Bool) (session clock taken : ℕ) (input out info : List ℕ)
    → ends_in ((session_at m (session - 1)).held ++ input) ≡ some (packet (directory_type long) info)
    → (step m (receive session clock input out)).told.answer ≡ answer.Quiet taken
    → Lists m session (step m (receive session clock input out)).after long (numbers_listed (session_at m (session - 1)) info)
    (place_after (session_at m (session - 1)) info)

-- ---- what is sent

-- What is sent is a front of the directory, and all of it once DATA_END was sent. Until then the session names all its files, and behind it no download is
-- left. The selection and the place in it are as they were.
pub record BringsDirectory (m : Model) (session : ℕ) (cs : List Call) (long : Bool) (ns : List ℕ) (offset : ℕ) : Type 0 where
  pub brings : Brings m session cs (drop offset (directory_of long ns m.files))
  pub linked : (session_at (state_after m cs) (session - 1)).linked ≡ true
  pub down : (session_at (state_after m cs) (session - 1)).down
      ≡ cond (end_to m session cs) no_download (listing long ns (offset + length (data_to m session cs)))
  pub selected : (session_at (state_after m cs) (session - 1)).selected ≡ (session_at m (session - 1)).selected
  pub next : (session_at (state_after m cs) (session - 1)).next ≡ (session_at m (session - 1)).next

-- WHO ASKS FOR A DIRECTORY GETS THE ENTRIES OF ITS FILES, in order, as these files were when it began, whatever the other sessions do and whatever it
-- uploads meanwhile
abbrev pub DirectoryBrings : Type 0
DirectoryBrings =
    (m : Model) → Sound m → Named m → (session : ℕ) (long : Bool) (ns : List ℕ) (offset : ℕ) → Listing m session long ns offset
    → (cs : List Call)
    → requests_and_uplink m session cs ≡ true
    → BringsDirectory m session cs long ns offset

-- and gets all of them: each request with room brings 256 bytes or what is left, and one more DATA_END
abbrev pub DirectoryEnds : Type 0
DirectoryEnds =
    (m : Model) → Sound m → Named m → (session : ℕ) (long : Bool) (ns : List ℕ) (offset : ℕ) → Listing m session long ns offset
    → (cs : List Call)
    → requests_and_uplink m session cs ≡ true
    → length (directory_of long ns m.files) / 256 + 2 ≤ asks session cs
    → end_to m session cs ≡ true

-- ---- a directory broken off

-- DATA_END (1) was sent and no download is left; the selection and the place in it are as they were
pub record BrokenOff (m : Model) (session : ℕ) (c : Call) : Type 0 where
  pub sent : sent_to m session c ≡ packet_of 1 []
  pub linked : (session_at (step m c).after (session - 1)).linked ≡ true
  pub down : (session_at (step m c).after (session - 1)).down ≡ no_download
  pub selected : (session_at (step m c).after (session - 1)).selected ≡ (session_at m (session - 1)).selected
  pub next : (session_at (step m c).after (session - 1)).next ≡ (session_at m (session - 1)).next

-- A DL_NAK_CMD (13) BREAKS IT OFF (001, appendix B), before its DATA_END was sent
abbrev pub DirectoryBreaks : Type 0
DirectoryBreaks =
    (m : Model) (session : ℕ) (long : Bool) (ns : List ℕ) (offset : ℕ) → Listing m session long ns offset
    → (clock : ℕ) (input out : List ℕ)
    → ends_in ((session_at m (session - 1)).held ++ input) ≡ some (packet 13 [])
    → 258 ≤ length out
    → BrokenOff m session (receive session clock input out)
