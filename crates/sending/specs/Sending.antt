-- What is due on the downlink at a request (document 01, "Downlink"): "Each further request by the driver yields one DATA of up to 256 bytes, as
-- full as can be, then DATA_END; with nothing due it yields nothing and changes nothing." Assumes nothing.
use Rattle.std.specs.Prelude.{Bool, cond, List, ◌++◌, ℕ, ◌+◌, ◌-◌, ◌%◌, ltb, eqb, length, take, drop, replicate}
use Rattle.packet.specs.Packet.{packet_of}
use Rattle.session.specs.declared.state.Session.{Session}
use Rattle.session.specs.declared.state.Downlink.{Downlink}
use Rattle.session.specs.declared.state.Downlink.TheVariants as down
use Rattle.session.specs.declared.state.Listed.{Listed}
use Rattle.session.specs.declared.reply.Answer.{Answer}
use Rattle.session.specs.declared.reply.Answer.TheVariants as answer
use Rattle.session.specs.declared.reply.Reply.TheVariants.{DataEnd, Aborted}
use Rattle.session.specs.State.{with_down}
use Rattle.session.specs.Reply.{Told, answered}
use Rattle.blocks.specs.Answers.{read_out}
use Rattle.table.specs.declared.File.{File}
use Rattle.table.specs.Table.{file_at}
use Rattle.listing.specs.declared.Filled.{Filled}
use Rattle.listing.specs.Listing.{entries_of, fill_of}
use Rattle.sending.specs.declared.Asked.{Asked}

-- a request's answer with the session, and the output afterwards
pub record Due : Type 0 where
  pub asked : Asked
  pub out : List ℕ

abbrev pub asked : Asked → List ℕ → Due
asked a out = record { asked = a; out = out }

abbrev pub asked_of : Session → Answer → Asked
asked_of s a = record { session = s; answer = a }

-- the reply goes out, and the session is in this state
abbrev pub told : Session → Told → Due
told s t = asked (asked_of s t.answer) t.out

-- "up to 256 bytes, as full as can be"
unfoldable pub least_of : ℕ → ℕ
least_of n = cond (ltb n 256) n 256

-- n bytes of the file at a place from a byte on
abbrev pub bytes_from : List ℕ → List ℕ → ℕ → ℕ → ℕ → List ℕ
bytes_from disk owner place at n = read_out disk owner (place % 65536) at (replicate n 0)

-- a DATA packet; the bytes sent grow as a 32-bit number does
unfoldable pub data_of : Session → ℕ → ℕ → ℕ → ℕ → List ℕ → List ℕ → List ℕ → Due
data_of s place offset sent n disk owner out =
    asked (asked_of (with_down s (down.Sending place offset ((sent + n) % 4294967296))) (answer.Sent 0 (2 + n)))
    (packet_of 0 (bytes_from disk owner place (offset + sent) n) ++ drop (2 + n) out)

unfoldable pub sending_of : Session → ℕ → ℕ → ℕ → List ℕ → List ℕ → List File → List ℕ → Due
sending_of s place offset sent disk owner fs out =
    cond (ltb (offset + sent) (file_at fs place).size)
    (data_of s place offset sent (least_of ((file_at fs place).size - (offset + sent))) disk owner out)
    (told (with_down s (down.Ended place)) (answered DataEnd 0 out))

-- a directory (A1 of document 02): "the headers sent as DATA and DATA_END"; behind DATA_END the downlink is idle (001, appendix B)
unfoldable pub listed_as : Session → Listed → Bool → Filled → List ℕ → Due
listed_as s listed long f out =
    cond (eqb f.size 0) (told (with_down s down.Idle) (answered DataEnd 0 out))
    (asked (asked_of (with_down s (down.Listing listed long f.done f.sent)) (answer.Sent 0 (2 + f.size)))
    (packet_of 0 (take f.size f.bytes) ++ drop (2 + f.size) out))

abbrev pub listing_of : Session → Listed → Bool → ℕ → ℕ → List ℕ → List ℕ → List File → List ℕ → List ℕ → Due
listing_of s listed long done sent disk owner fs selected out =
    listed_as s listed long (fill_of (entries_of listed long s.next disk owner fs selected) done sent) out

-- "DL_ABORTED_RESP at the next request"
unfoldable pub due_of : Downlink → Session → List ℕ → List ℕ → List File → List ℕ → List ℕ → Due
due_of down.Idle s disk owner fs selected out = asked (asked_of s (answer.Quiet 0)) out
due_of (down.Sending place offset sent) s disk owner fs selected out = sending_of s place offset sent disk owner fs out
due_of (down.Ended place) s disk owner fs selected out = asked (asked_of s (answer.Quiet 0)) out
due_of (down.Aborting place) s disk owner fs selected out = told (with_down s down.Idle) (answered Aborted 0 out)
due_of (down.Listing listed long done sent) s disk owner fs selected out = listing_of s listed long done sent disk owner fs selected out

-- "32 local: output shorter than 258 bytes", which is the longest packet; `selected` is the session's selection
unfoldable pub due_in : Session → List ℕ → List ℕ → List File → List ℕ → List ℕ → Due
due_in s disk owner fs selected out =
    cond (ltb (length out) 258) (asked (asked_of s (answer.Refused 32)) out) (due_of s.down s disk owner fs selected out)
