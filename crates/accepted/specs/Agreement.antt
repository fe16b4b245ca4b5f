-- DEMAND 3, OF THE MACHINE: what the packets say of the files is what there is. Each sentence is a named statement on a state m and the transcript t of
-- the calls that made it; that they hold "From an empty store, after any calls, links lost at any byte and clocks running backwards included" is
-- `EveryTranscript` at the end. Files go by number, sessions are counted from 0. Assumes nothing.
use Rattle.std.specs.Prelude.{◌≡◌, ◌⊎◌, List, [], ◌∷◌, map, ℕ, ◌+◌, ◌≤◌, ◌<◌, length, get_or}
use Rattle.std.proofs.Math.Option.{Option, none, some}
use Rattle.numbers.specs.Hex.{eight}
use Rattle.header.specs.declared.scan.Place.{Place}
use Rattle.header.specs.Items.{fields_of}
use Rattle.header.specs.Header.{verdict, bytes_of, place_of}
use Rattle.header.specs.Fields.{fields_set}
use Rattle.decide.specs.Words.{word_at}
use Rattle.calls.specs.Call.{Call, login, receive, request, lose, History}
use Rattle.model.specs.State.{File, Uplink, no_upload, receiving, ignoring, Model, empty, session_at}
use Rattle.model.specs.Files as files
use Rattle.model.specs.Files.{find}
use Rattle.model.specs.Step.{step, run}
use Rattle.steps.specs.Parts.{type_of}
use Rattle.accepted.specs.Exchange.{session_of, sent_in, Transcript, blank, ◌▹◌, exchanged, transcript}
use Rattle.accepted.specs.Link.{link_bytes, info_in}
use Rattle.accepted.specs.Events.{upload_of, event_in}
use Rattle.accepted.specs.Accepted.{accepted, announced, reserved, total, numbers_given, from_one, Completion, completion, completions, times}
use Rattle.accepted.specs.Effect.{Effect}

-- ---- the bytes heard

-- what a session keeps of an unfinished packet are the bytes of its link behind its last packet
abbrev pub UnfinishedPacket : Model → Transcript → Type 0
UnfinishedPacket m t = (i : ℕ) → (session_at m i).held ≡ link_bytes t i

-- ---- "no file number is given twice"

-- each is above all that stand before it
abbrev pub Rising : List ℕ → Type 0
Rising xs = (i j : ℕ) → i < j → j < length xs → get_or xs i 0 < get_or xs j 0

pub record NumbersOnce (m : Model) (t : Transcript) : Type 0 where
  pub rising : Rising (numbers_given t)
  -- they are 1, 2, 3 and so on
  pub counted : numbers_given t ≡ from_one (length (numbers_given t))
  -- a file has the number under which it is found, which was given, and no other file has it: they stand in rising order
  pub own : (n : ℕ) (f : File) → find n m.files ≡ some f → f.number ≡ n
  pub known : (n : ℕ) (f : File) → find n m.files ≡ some f → n ≤ length (numbers_given t)
  pub apart : Rising (map (λ f. f.number) m.files)

-- ---- which files there are

-- the announced length of a file that was found
abbrev pub size_of : Option File → Option ℕ
size_of none = none
size_of (some f) = some f.size

-- those that were given a number and not discarded, each with the length that its UPLOAD_CMD announced
abbrev pub Standing : Model → Transcript → Type 0
Standing m t = (n : ℕ) → size_of (find n m.files) ≡ announced t n

-- "blocks held equal the sum over live files of their reserved blocks by history": a number that was not given, or whose file was discarded, has no
-- blocks reserved, so the sum over all numbers given is that over the files there are
abbrev pub BlocksReserved : Model → Transcript → Type 0
BlocksReserved m t = files.reserved m.files ≡ total (length (numbers_given t)) (reserved t)

-- ---- "a complete file is the bytes accepted under its number, in order, with only the [five] server-set fields replaced"

-- a partial file is the bytes accepted; a complete one has its five fields set, and what was accepted passes the checks of DATA_END
pub record Holds (f : File) (bytes : List ℕ) : Type 0 where
  pub partial : f.time ≡ 0 → f.bytes ≡ bytes
  pub complete : (f.time ≡ 0 → ⊥) → f.bytes ≡ fields_set f.number f.time bytes
  pub checked : (f.time ≡ 0 → ⊥) → verdict bytes (length bytes) ≡ 0
  -- no more than announced, and of a complete file as many
  pub within : length bytes ≤ f.size
  pub whole : (f.time ≡ 0 → ⊥) → length bytes ≡ f.size

abbrev pub Contents : Model → Transcript → Type 0
Contents m t = (n : ℕ) (f : File) → find n m.files ≡ some f → Holds f (accepted t n)

-- the number of the file that an uplink is receiving, 0 where it receives none
abbrev pub number_of : Uplink → ℕ
number_of no_upload = 0
number_of (receiving n) = n
number_of ignoring = 0

-- "under its number": the number under which a link's DATA is accepted, that of its last UL_GO_RESP, is that of the file which the session is uploading
abbrev pub UnderNumber : Model → Transcript → Type 0
UnderNumber m t = (i : ℕ) → number_of (session_at m i).up ≡ upload_of t i

-- byte k is none of an item's data
abbrev pub Outside : ℕ → Place → Type 0
Outside k p = (k < p.at) ⊎ (p.at + p.size ≤ k)

-- nor of any of several items'
abbrev pub OutsideAll : ℕ → List ℕ → List ℕ → Type 0
OutsideAll k file [] = Unit {0}
OutsideAll k file (i ∷ is) = Outside k (place_of i file) × OutsideAll k file is

-- the five: file_number (1), file_name (2), last_modified_time (6), upload_time (12 hex) and header_checksum (10)
abbrev pub five_set : List ℕ
five_set = 1 ∷ 2 ∷ 6 ∷ 18 ∷ 10 ∷ []

-- "only the" five
pub record OnlyFive (file now : List ℕ) : Type 0 where
  pub size : length now ≡ length file
  pub rest : (k : ℕ) → OutsideAll k file five_set → get_or now k 0 ≡ get_or file k 0

-- all are bytes
abbrev pub AreBytes : List ℕ → Type 0
AreBytes [] = Unit {0}
AreBytes (b ∷ bs) = (b < 256) × AreBytes bs

-- what the links bring are bytes, as the type of the code says
abbrev pub BringsBytes : Call → Type 0
BringsBytes (login session clock out) = Unit {0}
BringsBytes (receive session clock input out) = AreBytes input
BringsBytes (request session out) = Unit {0}
BringsBytes (lose session) = Unit {0}

abbrev pub OfBytes : Transcript → Type 0
OfBytes blank = Unit {0}
OfBytes (t ▹ x) = OfBytes t × BringsBytes x.call

abbrev pub FiveFields : Model → Transcript → Type 0
FiveFields m t = OfBytes t → (n : ℕ) (f : File) → find n m.files ≡ some f → (f.time ≡ 0 → ⊥) → OnlyFive (accepted t n) f.bytes

-- "set file_name to the upload time in lower-case hexadecimal, eight digits": so a complete file is named (2)
abbrev pub NamedByTime : Model → Transcript → Type 0
NamedByTime m t =
    OfBytes t → (n : ℕ) (f : File) → find n m.files ≡ some f → (f.time ≡ 0 → ⊥) → bytes_of 2 (fields_of f.bytes) ≡ eight f.time

-- with its fields set a complete file passes the checks of DATA_END still, so whoever downloads it can check it
abbrev pub StaysValid : Model → Transcript → Type 0
StaysValid m t =
    OfBytes t → (n : ℕ) (f : File) → find n m.files ≡ some f → (f.time ≡ 0 → ⊥) → verdict f.bytes (length f.bytes) ≡ 0

-- ---- "After a link lost at any byte, or closed, the partial holds exactly the whole DATA packets received, and a continuation offers that length."

-- UL_GO_RESP (4) gives as offset the length of what was accepted under its number, and to an UPLOAD_CMD that names a file that file's number
pub record Offered (t : Transcript) (info sent : List ℕ) : Type 0 where
  pub offset : word_at sent 6 ≡ length (accepted t (word_at sent 2))
  pub number : (word_at info 0 ≡ 0 → ⊥) → word_at sent 2 ≡ word_at info 0

abbrev pub Offers : Model → Transcript → Call → Type 0
Offers m t c = type_of (sent_in (exchanged m c)) ≡ 4 → Offered t (info_in t (exchanged m c)) (sent_in (exchanged m c))

-- ---- "a call changes no file but its own"

-- every file but the one that the call's session is uploading is as it was
abbrev pub OwnFile : Model → Transcript → Call → Type 0
OwnFile m t c =
    (n : ℕ) (f : File) → find n m.files ≡ some f → (n ≡ upload_of t (session_of c) → ⊥) → find n (step m c).after.files ≡ some f

-- and what happens to its own is what the packets tell
abbrev pub Told : Model → Transcript → Call → Type 0
Told m t c = Effect (event_in t (exchanged m c)) m (step m c).after

-- ---- "Upload times rise strictly in order of completion"

-- a completion stands in the list
pub record Listed (c : Completion) (cs : List Completion) : Type 0 where
  pub index : ℕ
  pub below : index < length cs
  pub is : get_or cs index (completion 0 0) ≡ c

-- there is a complete file with a number and a time
pub record Stands (fs : List File) (c : Completion) : Type 0 where
  pub file : File
  pub found : find c.number fs ≡ some file
  pub complete : file.time ≡ 0 → ⊥
  pub time : file.time ≡ c.time

pub record TimesRise (m : Model) (t : Transcript) : Type 0 where
  -- "the last one starts at 0", and each is above it and above all before
  pub rising : Rising (0 ∷ times (completions t))
  -- a complete file has the time of its completion
  pub own : (n : ℕ) (f : File) → find n m.files ≡ some f → (f.time ≡ 0 → ⊥) → Listed (completion n f.time) (completions t)
  -- and each file that was completed still stands
  pub kept : (c : Completion) → Listed c (completions t) → Stands m.files c

-- ---- all of it

pub record Agrees (m : Model) (t : Transcript) : Type 0 where
  pub unfinished : UnfinishedPacket m t
  pub numbers : NumbersOnce m t
  pub standing : Standing m t
  pub blocks : BlocksReserved m t
  pub contents : Contents m t
  pub under : UnderNumber m t
  pub fields : FiveFields m t
  pub named : NamedByTime m t
  pub valid : StaysValid m t
  pub offers : (c : Call) → Offers m t c
  pub own : (c : Call) → OwnFile m t c
  pub told : (c : Call) → Told m t c
  pub times : TimesRise m t

-- AFTER ANY CALLS; "storage blocks of 256 bytes .. Most 4,096"
abbrev pub EveryTranscript : Type 0
EveryTranscript =
    (blocks places sessions maxsel : ℕ) → blocks ≤ 4096 → (h : History)
    → Agrees (run (empty blocks places sessions maxsel) h) (transcript (empty blocks places sessions maxsel) h)
