-- The packets that the server sends, but for DATA, and what a call tells (document 01). Assumes nothing.
use Rattle.std.specs.Prelude.{cond, List, [], ◌∷◌, ◌++◌, ℕ, ◌+◌, ltb, length, drop}
use Rattle.numbers.specs.Numbers.{two, four}
use Rattle.packet.specs.Packet.{packet_of}
use Rattle.session.specs.declared.reply.Reply.{Reply}
use Rattle.session.specs.declared.reply.Reply.TheVariants as reply
use Rattle.session.specs.declared.reply.Answer.{Answer}
use Rattle.session.specs.declared.reply.Answer.TheVariants as answer

-- what a call answers, and the output that it leaves
pub record Told : Type 0 where
  pub answer : Answer
  pub out : List ℕ

abbrev pub told : Answer → List ℕ → Told
told a o = record { answer = a; out = o }

-- a packet is sent: "Output beyond the packet is untouched."
abbrev pub sent_info : ℕ → List ℕ → ℕ → List ℕ → Told
sent_info kind info taken out = told (answer.Sent taken (2 + length info)) (packet_of kind info ++ drop (2 + length info) out)

-- each reply as the paper's packet: its type, its information
unfoldable pub tell : Reply → ℕ → List ℕ → Told
tell reply.Nothing taken out = told (answer.Quiet taken) out
tell reply.Closing taken out = told (answer.Closed taken) out
tell reply.DataEnd taken out = sent_info 1 [] taken out
-- "Login sends the 32-bit clock (4 bytes) and flags 4: headers required, no saved selection, version 0."
tell (reply.Login clock) taken out = sent_info 2 (four clock ++ 4 ∷ []) taken out
-- "UL_GO_RESP gives number and offset, 8 bytes."
tell (reply.Go number offset) taken out = sent_info 4 (four number ++ four offset) taken out
tell (reply.UploadError e) taken out = sent_info 5 (e ∷ []) taken out
tell reply.Ack taken out = sent_info 6 [] taken out
tell (reply.Nak e) taken out = sent_info 7 (e ∷ []) taken out
tell (reply.DownloadError e) taken out = sent_info 9 (e ∷ []) taken out
tell reply.Aborted taken out = sent_info 10 [] taken out
tell reply.Completed taken out = sent_info 11 [] taken out
-- "SELECT_RESP has their number, 2 bytes."
tell (reply.Selected count) taken out = sent_info 17 (two count) taken out

-- "32 local: output shorter than 258 bytes"
unfoldable pub answered : Reply → ℕ → List ℕ → Told
answered r taken out = cond (ltb (length out) 258) (told (answer.Refused 32) out) (tell r taken out)
