-- WHAT A DOWNLOAD BRINGS, of the machine: document 01's "Each further request by the driver yields one DATA of up to 256 bytes, as full as can be, then
-- DATA_END". Sessions are numbered from 1. Assumes nothing.
use Rattle.std.specs.Prelude.{◌≡◌, Bool, true, false, cond, List, [], ◌∷◌, ◌++◌, ℕ, ◌+◌, ◌-◌, ◌/◌, ◌≤◌, eqb, ltb, length, get_or, drop}
use Rattle.std.proofs.Math.Option.{Option, none, some}
use Rattle.packet.specs.Frame.{Event, packet, too_long}
use Rattle.session.specs.declared.reply.Answer.TheVariants as answer
use Rattle.decide.specs.Words.{word_at}
use Rattle.calls.specs.Call.{Call, login, receive, request, lose}
use Rattle.model.specs.State.{File, sending, Session, Model, session_at}
use Rattle.model.specs.Files.{find}
use Rattle.model.specs.Step.{ends_in, step}
use Rattle.steps.specs.Parts.{session_in, sent_by, type_of}
use Rattle.steps.specs.Sound.{Sound}
use Rattle.steps.specs.Naming.{Named}

-- ---- the calls

-- bytes that are none of the downlink's business: what they end in is nothing, DATA (0), DATA_END (1) or UPLOAD_CMD (3)
unfoldable pub for_uplink : Option Event → Bool
for_uplink none = true
for_uplink (some too_long) = false
for_uplink (some (packet kind info)) = cond (eqb kind 0) true (cond (eqb kind 1) true (eqb kind 3))

-- the driver asks for a packet, or hands over bytes of the link, in any pieces, that are for the uplink and do not close the link
unfoldable pub request_or_uplink : Model → Call → Bool
request_or_uplink m (login session clock out) = false
request_or_uplink m (receive session clock input out) =
    cond (for_uplink (ends_in ((session_at m (session - 1)).held ++ input)))
    (session_at (step m (receive session clock input out)).after (session - 1)).linked
    false
request_or_uplink m (request session out) = true
request_or_uplink m (lose session) = false

-- such a call of this session, or any call for another one
unfoldable pub own_or_other : Model → ℕ → Call → Bool
own_or_other m session c = cond (eqb (session_in c) session) (request_or_uplink m c) true

-- "Each session carries an uplink state and a downlink state that move separately": each call for this session is a request or brings its uplink bytes
unfoldable pub requests_and_uplink : Model → ℕ → List Call → Bool
requests_and_uplink m session [] = true
requests_and_uplink m session (c ∷ cs) = cond (own_or_other m session c) (requests_and_uplink (step m c).after session cs) false

-- a request whose output has room for any packet: one of fewer than 258 bytes is refused by 32
unfoldable pub asks_in : Call → ℕ
asks_in (login session clock out) = 0
asks_in (receive session clock input out) = 0
asks_in (request session out) = cond (ltb (length out) 258) 0 1
asks_in (lose session) = 0

-- how many of them are for this session
unfoldable pub asks : ℕ → List Call → ℕ
asks session [] = 0
asks session (c ∷ cs) = cond (eqb (session_in c) session) (asks_in c) 0 + asks session cs

-- ---- what is sent

-- the packet that a call sends to this session, no byte where it sends none or is for another session
unfoldable pub sent_to : Model → ℕ → Call → List ℕ
sent_to m session c = cond (eqb (session_in c) session) (sent_by (step m c).told.answer (step m c).told.out) []

-- the information of a DATA packet (0): all behind its two bytes; none of other packets
unfoldable pub data_in : List ℕ → List ℕ
data_in sent = cond (eqb (type_of sent) 0) (drop 2 sent) []

-- the information of the DATA packets that this session is sent in calls, joined
unfoldable pub data_to : Model → ℕ → List Call → List ℕ
data_to m session [] = []
data_to m session (c ∷ cs) = data_in (sent_to m session c) ++ data_to (step m c).after session cs

-- whether it is sent a DATA_END (1) in them
unfoldable pub end_to : Model → ℕ → List Call → Bool
end_to m session [] = false
end_to m session (c ∷ cs) = cond (eqb (type_of (sent_to m session c)) 1) true (end_to (step m c).after session cs)

-- ---- the statements

-- a session is to be sent the file f, of number n, from an offset on
pub record Downloading (m : Model) (session n offset : ℕ) (f : File) : Type 0 where
  pub from_one : 1 ≤ session
  pub linked : (session_at m (session - 1)).linked ≡ true
  pub down : (session_at m (session - 1)).down ≡ sending n offset
  pub found : find n m.files ≡ some f

-- what is sent is a front of these bytes, and all of them once DATA_END was sent
pub record Brings (m : Model) (session : ℕ) (cs : List Call) (bytes : List ℕ) : Type 0 where
  pub back : List ℕ
  pub front : data_to m session cs ++ back ≡ bytes
  pub whole : end_to m session cs ≡ true → data_to m session cs ≡ bytes

-- WHO DOWNLOADS A FILE GETS ITS BYTES, those that it had when the download began, whatever the other sessions do and whatever it uploads meanwhile
abbrev pub DownloadBrings : Type 0
DownloadBrings =
    (m : Model) → Sound m → Named m → (session n offset : ℕ) (f : File) → Downloading m session n offset f
    → (cs : List Call)
    → requests_and_uplink m session cs ≡ true
    → Brings m session cs (drop offset f.bytes)

-- and gets all of them: each request with room brings 256 bytes or what is left, and one more DATA_END
abbrev pub DownloadEnds : Type 0
DownloadEnds =
    (m : Model) → Sound m → Named m → (session n offset : ℕ) (f : File) → Downloading m session n offset f
    → (cs : List Call)
    → requests_and_uplink m session cs ≡ true
    → length f.bytes / 256 + 2 ≤ asks session cs
    → end_to m session cs ≡ true

-- ---- the beginning of a download

-- the number of the file that a DOWNLOAD_CMD asks for: "Number 0 means the next selected file"
unfoldable pub number_asked : Session → List ℕ → ℕ
number_asked s info = cond (eqb (word_at info 0) 0) (get_or s.selected s.next 0) (word_at info 0)

-- the file of that number, which is complete, is to be sent from the offset on
pub record Begins (m : Model) (session clock : ℕ) (input out info : List ℕ) : Type 0 where
  pub file : File
  pub was : find (number_asked (session_at m (session - 1)) info) m.files ≡ some file
  pub complete : file.time ≡ 0 → ⊥
  pub downloading : Downloading (step m (receive session clock input out)).after session (number_asked (session_at m (session - 1)) info) (word_at info 4) file

-- A DOWNLOAD_CMD (8) THAT IS NOT REFUSED BEGINS A DOWNLOAD: the call sends no packet, and neither closes the link nor is refused locally
abbrev pub DownloadBegins : Type 0
DownloadBegins =
    (m : Model) (session clock taken : ℕ) (input out info : List ℕ)
    → ends_in ((session_at m (session - 1)).held ++ input) ≡ some (packet 8 info)
    → (step m (receive session clock input out)).told.answer ≡ answer.Quiet taken
    → Begins m session clock input out info
