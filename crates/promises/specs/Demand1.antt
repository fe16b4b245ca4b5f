-- Demand 1: "Every byte sequence, clock reading and lent buffer gets an answer. The program always ends, asks nothing of its caller beforehand,
-- and refuses by a number from the table or closes the link. A refusal leaves the files, the session and the output buffer as that table says."
-- The statements hold for EVERY server and everything lent, also for a state that no calls made. crates/worked shows them at work. Assumes nothing.
use Rattle.std.specs.Prelude.{◌≡◌, true, List, [], ◌∷◌, ◌++◌, ℕ, ◌+◌, ◌*◌, ◌-◌, ◌≤◌, ◌<◌, length, drop, replicate, Ok, Err}
use Rattle.packet.specs.Packet.{packet_of}
use Rattle.session.specs.declared.state.Uplink.{Uplink}
use Rattle.session.specs.declared.state.Uplink.TheVariants as up
use Rattle.session.specs.declared.reply.Answer.TheVariants as answer
use Rattle.session.specs.State.{closed_session, with_held, with_up}
use Rattle.server.specs.declared.Server.{Server}
use Rattle.server.specs.State.{Lent, lent, Outcome, outcome, done_with, link_of, with_link, with_part}
use Rattle.server.specs.Check.{fits, sound_parts}
use Rattle.server.specs.Making.{new_server, emptied, empty_of, makes, make_of}
use Rattle.history.specs.Calls.{Call, receive, call_of, Start, legal, History, after}
use Rattle.promises.specs.Parts.{session_in, bytes_in, out_in, open_in, room_in, one_of}

-- ---- the answers of a call

-- "refuses by a number from the table": "32 to 35 change nothing, take no byte and write nothing."
pub record Refuses (sv : Server) (l : Lent) (c : Call) (o : Outcome) : Type 0 where
  pub number : ℕ
  pub listed : one_of number (32 ∷ 33 ∷ 34 ∷ 35 ∷ []) ≡ true
  pub same : o ≡ outcome (done_with sv (answer.Refused number)) l (out_in c)

-- no more bytes of a link are taken than were lent
abbrev pub Within : ℕ → Call → Type 0
Within taken c = taken ≤ length (bytes_in c)

-- nothing is sent, and nothing is written
pub record Silent (c : Call) (o : Outcome) : Type 0 where
  pub taken : ℕ
  pub within : Within taken c
  pub answered : o.done.answer ≡ answer.Quiet taken
  pub out : o.out ≡ out_in c

-- ".. or closes the link": nothing is written, and the session is a closed one
pub record Closes (c : Call) (o : Outcome) : Type 0 where
  pub taken : ℕ
  pub within : Within taken c
  pub answered : o.done.answer ≡ answer.Closed taken
  pub out : o.out ≡ out_in c
  pub session : link_of o.done.server (session_in c - 1) ≡ closed_session

-- one packet of the paper is sent, of a type that the paper lists and of a length that the server sends: "Output beyond the packet is untouched."
pub record Sends (c : Call) (o : Outcome) : Type 0 where
  pub taken : ℕ
  pub within : Within taken c
  pub kind : ℕ
  pub info : List ℕ
  pub listed : kind ≤ 17
  pub most : length info ≤ 256
  pub answered : o.done.answer ≡ answer.Sent taken (2 + length info)
  pub out : o.out ≡ packet_of kind info ++ drop (2 + length info) (out_in c)
  pub same_length : length o.out ≡ length (out_in c)

pub data Answers (sv : Server) (l : Lent) (c : Call) (o : Outcome) : Type 0 where
  refuses : Refuses sv l c o → Answers sv l c o
  silent : Silent c o → Answers sv l c o
  closes : Closes c o → Answers sv l c o
  sends : Sends c o → Answers sv l c o

-- THE DEMAND: every call has one of the four answers.
-- `call_of` is what the contracts of the four calls (crates/server/src) say that a call answers and leaves, and each contract is proved of the code.
-- "The program always ends, asks nothing of its caller beforehand": both come with that proof. A function is proved only if it returns for every
-- value that it may be handed; and what a function asks of its caller stands as `requires` before its body: no public function has one. The script
-- program works a line off in such calls, and `line_ends` (crates/script/proofs/Ending.antt) says that it comes to the line's end.
abbrev pub EveryCallAnswers : Type 0
EveryCallAnswers = (sv : Server) (l : Lent) (c : Call) → Answers sv l c (call_of sv l c)

-- ---- the local refusals: "Order: 33, 35, 34, 32 first."

-- the number that a call answers, if it refuses
abbrev pub RefusedBy : Server → Lent → Call → ℕ → Type 0
RefusedBy sv l c n = (call_of sv l c).done.answer ≡ answer.Refused n

-- 33 "a size or length outside the table .. or a lent buffer too short": there are none of these
abbrev pub Fits : Server → Lent → Type 0
Fits sv l = fits sv (length l.disk) l.map l.owner l.table l.selected l.held ≡ true

-- 35 "in the state handed in, demand 3's facts .. are broken": they are not
abbrev pub IsSound : Server → Lent → Type 0
IsSound sv l = sound_parts sv l.map l.owner l.table l.selected l.held ≡ true

-- 34 "session number out of range, not open, or already open": none of these. A login wants its session closed, the other calls want it open.
pub record Reachable (sv : Server) (c : Call) : Type 0 where
  pub from_one : 1 ≤ session_in c
  pub in_range : session_in c ≤ sv.sessions
  pub in_state_law : (link_of sv (session_in c - 1)).linked ≡ open_in c

-- THE TABLE of the local refusals: each is given where none of those before it is, and its own reason holds; and a call for which no reason holds
-- gives none of them
pub record LocalRefusals (sv : Server) (l : Lent) (c : Call) : Type 0 where
  pub by33 : (Fits sv l → ⊥) → RefusedBy sv l c 33
  pub by35 : Fits sv l → (IsSound sv l → ⊥) → RefusedBy sv l c 35
  pub by34 : Fits sv l → IsSound sv l → (Reachable sv c → ⊥) → RefusedBy sv l c 34
  pub by32 : Fits sv l → IsSound sv l → Reachable sv c → room_in c < 258 → RefusedBy sv l c 32
  pub by_none : Fits sv l → IsSound sv l → Reachable sv c → 258 ≤ room_in c → (n : ℕ) → RefusedBy sv l c n → ⊥

abbrev pub EveryLocalRefusal : Type 0
EveryLocalRefusal = (sv : Server) (l : Lent) (c : Call) → LocalRefusals sv l c

-- 35 is given "never for a state that calls made from the empty store". Nor is 33: what is lent stays long enough. So after any history a call is
-- refused only for the session that it names (34) or for the output that it is lent (32).
abbrev pub OnlyByTheCaller : Type 0
OnlyByTheCaller =
    (s : Start) → legal s ≡ true → (h : History) (c : Call) (n : ℕ)
    → RefusedBy (after s h).server (after s h).lent c n → one_of n (32 ∷ 34 ∷ []) ≡ true

-- ---- making a server: 33, where nothing changes, or a server; there is no other refusal

pub record MakingAnswers (blocks files sessions most disk : ℕ) (map owner table selected held : List ℕ) : Type 0 where
  pub by33 : (fits (new_server blocks files sessions most) disk map owner table selected held ≡ true → ⊥)
      → make_of blocks files sessions most disk map owner table selected held
      ≡ makes (Err 33) (emptied map owner table selected held)
  pub by_none : fits (new_server blocks files sessions most) disk map owner table selected held ≡ true
      → make_of blocks files sessions most disk map owner table selected held
      ≡ makes (Ok (new_server blocks files sessions most))
      (empty_of blocks files sessions most map owner table selected held)

abbrev pub EveryMaking : Type 0
EveryMaking =
    (blocks files sessions most disk : ℕ) (map owner table selected held : List ℕ)
    → MakingAnswers blocks files sessions most disk map owner table selected held

-- ---- the refusals that go out as a packet: "1 to 16 go out as a packet: UL_ERROR to UPLOAD, UL_NAK to data, DL_ERROR on the downlink"

-- a receive call answers by a packet of this type with one byte of information, the number e; such a packet has three bytes
pub record Says (sv : Server) (l : Lent) (session clock : ℕ) (input out : List ℕ) (kind e : ℕ) : Type 0 where
  pub taken : ℕ
  pub answered : (call_of sv l (receive session clock input out)).done.answer ≡ answer.Sent taken 3
  pub packet : (call_of sv l (receive session clock input out)).out ≡ packet_of kind (e ∷ []) ++ drop 3 out

-- "They change nothing else but what is said above": the files, the last number and time given, the selections, the other sessions and the
-- session's own two states are as they were; the packet itself, whose first bytes the session may have held, is gone
abbrev pub forgotten : Server → ℕ → Server
forgotten sv i = with_link sv i (with_held (link_of sv i) 0)

abbrev pub cleared : ℕ → Lent → Lent
cleared i l = lent l.disk l.map l.owner l.table l.selected (with_part (i * 258) 258 (replicate 258 0) l.held)

pub record NothingElse (sv : Server) (l : Lent) (session : ℕ) (o : Outcome) : Type 0 where
  pub server : o.done.server ≡ forgotten sv (session - 1)
  pub lent : o.lent ≡ cleared (session - 1) l

-- UL_ERROR_RESP is type 5, DL_ERROR_RESP type 9; these are the numbers that the table gives to each
abbrev pub upload_errors : List ℕ
upload_errors = 1 ∷ 2 ∷ 3 ∷ 4 ∷ 12 ∷ 13 ∷ []

abbrev pub download_errors : List ℕ
download_errors = 1 ∷ 2 ∷ 4 ∷ 5 ∷ 8 ∷ 10 ∷ 11 ∷ []

pub record PacketRefusal (numbers : List ℕ) (sv : Server) (l : Lent) (session clock : ℕ) (input out : List ℕ) (e : ℕ) : Type 0 where
  pub listed : one_of e numbers ≡ true
  pub left : NothingElse sv l session (call_of sv l (receive session clock input out))

abbrev pub EveryUploadError : Type 0
EveryUploadError =
    (sv : Server) (l : Lent) (session clock : ℕ) (input out : List ℕ) (e : ℕ)
    → Says sv l session clock input out 5 e → PacketRefusal upload_errors sv l session clock input out e

abbrev pub EveryDownloadError : Type 0
EveryDownloadError =
    (sv : Server) (l : Lent) (session clock : ℕ) (input out : List ℕ) (e : ℕ)
    → Says sv l session clock input out 9 e → PacketRefusal download_errors sv l session clock input out e

-- UL_NAK_RESP is type 7
abbrev pub naks : List ℕ
naks = 3 ∷ 6 ∷ 7 ∷ 14 ∷ 15 ∷ 16 ∷ []

-- "DATA_END gets .. UL_NAK_RESP": the upload is over; or it is an overrun, where "UL_NAK_RESP 16 goes out, and further DATA is ignored"
pub data UploadOver (e : ℕ) : Uplink → Type 0 where
  over : UploadOver e up.Idle
  overrun : e ≡ 16 → UploadOver e up.Ignoring

-- the session was uploading and the upload is over; nothing else of the session changes, and nothing of the other sessions, of the selections
-- and of the last number and time given
pub record Naks (sv : Server) (l : Lent) (session clock : ℕ) (input out : List ℕ) (e : ℕ) : Type 0 where
  pub listed : one_of e naks ≡ true
  pub uplink : Uplink
  pub over : UploadOver e uplink
  pub server : (call_of sv l (receive session clock input out)).done.server
      ≡ with_link sv (session - 1) (with_up (with_held (link_of sv (session - 1)) 0) uplink)
  pub selected : (call_of sv l (receive session clock input out)).lent.selected ≡ l.selected
  pub held : (call_of sv l (receive session clock input out)).lent.held ≡ with_part ((session - 1) * 258) 258 (replicate 258 0) l.held

abbrev pub EveryNak : Type 0
EveryNak =
    (sv : Server) (l : Lent) (session clock : ℕ) (input out : List ℕ) (e : ℕ)
    → Says sv l session clock input out 7 e → Naks sv l session clock input out e

-- ---- together

pub record Demand1 : Type 0 where
  pub answers : EveryCallAnswers
  pub locals : EveryLocalRefusal
  pub only_by_the_caller : OnlyByTheCaller
  pub making : EveryMaking
  pub upload_errors_law : EveryUploadError
  pub download_errors_law : EveryDownloadError
  pub naks : EveryNak
