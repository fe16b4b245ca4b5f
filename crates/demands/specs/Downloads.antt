-- What a whole download brings from one station to another, with calls of others and uploads of the session itself between. That a download brings the
-- file is `DownloadBrings` (crates/transfers/specs/Downloads.antt). The proofs are in proofs/Downloads.antt. Assumes nothing.
use Rattle.std.specs.Prelude.{◌≡◌, true, List, ◌++◌, ℕ, ◌-◌}
use Rattle.std.proofs.Math.Option.{some}
use Rattle.packet.specs.Frame.{packet}
use Rattle.header.specs.Fields.{fields_set}
use Rattle.session.specs.declared.reply.Answer.TheVariants as answer
use Rattle.decide.specs.Words.{word_at}
use Rattle.history.specs.Calls.{Call, receive, Start, legal, History}
use Rattle.model.specs.State.{File, session_at}
use Rattle.model.specs.Files.{find}
use Rattle.model.specs.Step.{ends_in, step}
use Rattle.transfers.specs.Downloads.{requests_and_uplink, data_to, end_to, Downloading, number_asked}
use Rattle.accepted.specs.Link.{link_bytes}
use Rattle.accepted.specs.Accepted.{accepted}
use Rattle.demands.specs.Demand3.{model_at, transcript_at}

-- the bytes accepted under a number, "in order, with only the [five] server-set fields replaced"
abbrev pub accepted_set : Start → History → ℕ → ℕ → List ℕ
accepted_set s h n time = fields_set n time (accepted (transcript_at s h) n)

-- FROM ONE STATION TO ANOTHER: these are what a whole download of file n brings
abbrev pub FromPupilToPupil : Type 0
FromPupilToPupil =
    (s : Start) → legal s ≡ true → (h : History) (session n : ℕ) (f : File) → Downloading (model_at s h) session n 0 f
    → (cs : List Call)
    → requests_and_uplink (model_at s h) session cs ≡ true
    → end_to (model_at s h) session cs ≡ true
    → data_to (model_at s h) session cs ≡ accepted_set s h n f.time

-- the file of the number that a DOWNLOAD_CMD asks for was sent, as it was accepted
pub record Handed (s : Start) (h : History) (session clock : ℕ) (input out info : List ℕ) (cs : List Call) : Type 0 where
  pub file : File
  pub was : find (number_asked (session_at (model_at s h) (session - 1)) info) (model_at s h).files ≡ some file
  pub sent : data_to (step (model_at s h) (receive session clock input out)).after session cs
      ≡ accepted_set s h (number_asked (session_at (model_at s h) (session - 1)) info) file.time

-- THE SAME IN WORDS OF PACKETS: a DOWNLOAD_CMD from offset 0 that is not refused, the last bytes of its link being in `input`, then requests until
-- DATA_END, and uploads between
abbrev pub AskedAndSent : Type 0
AskedAndSent =
    (s : Start) → legal s ≡ true → (h : History) (session clock taken : ℕ) (input out info : List ℕ)
    → ends_in (link_bytes (transcript_at s h) (session - 1) ++ input) ≡ some (packet 8 info)
    → word_at info 4 ≡ 0
    → (step (model_at s h) (receive session clock input out)).told.answer ≡ answer.Quiet taken
    → (cs : List Call)
    → requests_and_uplink (step (model_at s h) (receive session clock input out)).after session cs ≡ true
    → end_to (step (model_at s h) (receive session clock input out)).after session cs ≡ true
    → Handed s h session clock input out info cs
