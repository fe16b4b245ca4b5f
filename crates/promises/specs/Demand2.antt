-- Demand 2: "Every packet written or read, header check, selection, refusal and closing is what FTL0 version 0 with its corrections of March 1991 and
-- our marked house rules define." What the server answers and leaves at every call is the machine of crates/model, which is written from the papers: the
-- server is this machine, `EveryCall` (crates/refines). Its parts are the contracts of the functions. "A packet written reads back as
-- itself. Cutting elsewhere the bytes that a link takes, with each packet and closing byte at the same clock and in the same place among the other
-- calls, changes no packet sent and no state after it." crates/worked shows the statements at work. Assumes nothing.
use Rattle.std.specs.Prelude.{◌≡◌, List, ℕ, ◌≤◌, ◌+◌, length, take, drop, Ok}
use Rattle.packet.specs.Packet.{write_answer, left_in, read_answer}
use Rattle.session.specs.declared.reply.Answer.TheVariants as answer
use Rattle.server.specs.declared.Server.{Server}
use Rattle.server.specs.State.{Lent, Outcome}
use Rattle.history.specs.Calls.{Call, call_of}
use Rattle.refines.specs.Refines.{EveryCall, EveryHistory}
use Rattle.promises.specs.Closing.{ClosingIsLosing, EveryClosing}
use Rattle.promises.specs.Cut.{CutElsewhere, LentEarlier}
use Rattle.promises.specs.Uncut.{UncutSame}
use Rattle.promises.specs.Feeding.{EnoughCalls, PiecesElsewhere}
use Rattle.transfers.specs.Downloads.{DownloadBegins, DownloadBrings, DownloadEnds}
use Rattle.transfers.specs.Directories.{DirectoryBegins, DirectoryBrings, DirectoryEnds, DirectoryBreaks}
use Rattle.promises.specs.Requests.{NothingDue}

-- the reader finds this type and this information in front of the bytes
pub record Reads (bytes : List ℕ) (kind : ℕ) (info : List ℕ) : Type 0 where
  pub accepted : read_answer bytes ≡ Ok (kind, length info)
  pub information : take (length info) (drop 2 bytes) ≡ info

-- "A packet written reads back as itself": what the plain writer leaves in the output, of the types and lengths that it takes
abbrev pub WrittenReadsBack : Type 0
WrittenReadsBack =
    (kind : ℕ) (info out : List ℕ) → kind ≤ 17 → length info ≤ 2047 → 2 + length info ≤ length out
    → Reads (left_in (write_answer kind info out) kind info out) kind info

-- .. and what a call of the server sends: the output that it leaves reads as one packet, of the length that the call says
pub record SentReads (o : Outcome) (size : ℕ) : Type 0 where
  pub kind : ℕ
  pub info : List ℕ
  pub size_is : size ≡ 2 + length info
  pub reads : Reads o.out kind info

abbrev pub SentReadsBack : Type 0
SentReadsBack =
    (sv : Server) (l : Lent) (c : Call) (taken size : ℕ) → (call_of sv l c).done.answer ≡ answer.Sent taken size → SentReads (call_of sv l c) size

pub record Demand2 : Type 0 where
  pub written : WrittenReadsBack
  pub sent : SentReadsBack
  -- "Every packet written or read, header check, selection, refusal and closing is what FTL0 version 0 .. define"
  pub machine : EveryCall
  -- and so after any calls from an empty store
  pub machine_after : EveryHistory
  pub nothing_due : NothingDue
  -- "Each further request by the driver yields one DATA of up to 256 bytes, as full as can be, then DATA_END": so a download of the machine brings the file
  pub download_begins : DownloadBegins
  pub download : DownloadBrings
  pub download_ends : DownloadEnds
  -- "the headers sent as DATA and DATA_END" (A1 of document 02): so a directory of the machine brings the entries of its files
  pub directory_begins : DirectoryBegins
  pub directory : DirectoryBrings
  pub directory_ends : DirectoryEnds
  pub directory_breaks : DirectoryBreaks
  pub closing : EveryClosing
  pub closing_is_losing : ClosingIsLosing
  pub cut : CutElsewhere
  -- the same without rules of cutting: the cuts are taken out of both histories
  pub uncut : UncutSame
  -- the same for bytes that are lent earlier, with calls of other sessions between
  pub earlier : LentEarlier
  -- the same for a driver that lends one link's bytes in pieces
  pub enough : EnoughCalls
  pub pieces : PiecesElsewhere
