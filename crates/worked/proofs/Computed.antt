-- What the definitions give for the passes of Passes.antt, by computation. Assumes nothing.
use Rattle.std.specs.Prelude.{Ok}
use mathlib.Core.Path.{◌≡◌, refl}
use mathlib.Core.Bool.{true, false}
use mathlib.Core.List.{List, [], ◌∷◌, ◌++◌}
use mathlib.Core.Option.{none, some}
use Prim.Native.Nat.{ℕ}
use native.Mathlib.Omega.{arith}
use lib.ListN.{length, replicate, drop}
use Rattle.packet.specs.Machine.{call}
use Rattle.packet.specs.Frame.{Held, packet, byte}
use Rattle.session.specs.declared.state.Uplink.TheVariants as up
use Rattle.session.specs.declared.reply.Answer.TheVariants as answer
use Rattle.session.specs.Reply.{Told, told}
use Rattle.server.specs.State.{Lent, lent, link_of, part}
use Rattle.server.specs.Check.{fits}
use Rattle.server.specs.Making.{new_server}
use Rattle.server.specs.Calls.{login_of}
use Rattle.history.specs.Calls.{request, call_of, History, start, ◌▸◌, login, after}
use Rattle.promises.specs.Parts.{check_in}
use Rattle.promises.specs.Closing.{event_at, Unwelcome, long, unexpected}
use Rattle.promises.specs.Cut.{ends_in, seen, sent, closed}
use Rattle.promises.specs.Uncut.{uncut_of}
use Rattle.promises.specs.Feeding.{feed_all, feed_pieces}
use Rattle.promises.specs.Demand1.{Says, Fits, IsSound, forgotten, cleared}
use Rattle.promises.specs.Requests.{is_due}
use Rattle.worked.proofs.Passes.{small, pair, output, rx, of, upload, data_end, short_upload, large_upload, next_file, title_above_m, data41, type18}
use Rattle.worked.proofs.Passes.{length257, opened, halfway, before_upload, sent_all, uploads, chopped, unchopped, server_after, lent_after, computing}

-- the small server answers bytes by a packet of this type with this number
abbrev pub SaysAt : History → ℕ → List ℕ → ℕ → ℕ → Type 0
SaysAt h clock bytes kind e = Says (server_after h) (lent_after h) 1 clock bytes output kind e

pub record Refusals : Type 0 where
  -- UL_ERROR_RESP (5) with number 1: "UPLOAD not 8 .. byte(s) long"
  pub short_upload_law : SaysAt opened 6 short_upload 5 1
  -- UL_ERROR_RESP 13: "fewer free blocks than needed"
  pub no_room : SaysAt opened 6 large_upload 5 13
  -- DL_ERROR_RESP (9) with number 5: "download of number 0 and no selected file left"
  pub none_selected : SaysAt opened 6 next_file 9 5
  -- DL_ERROR_RESP 8: "equation refused", since "Text knows only equal and not equal"
  pub title_above_m_law : SaysAt opened 6 title_above_m 9 8
  -- UL_NAK_RESP (7) with number 16: "fewer bytes than announced"
  pub too_few : SaysAt halfway 8 data_end 7 16
  -- UL_NAK_RESP 16: "A DATA that would pass the announced length", 40 and 41 being more than 80; the session ignores further DATA
  pub too_many : SaysAt halfway 8 data41 7 16
  -- a packet that is wholly taken leaves nothing unfinished
  pub same_server : forgotten (server_after opened) 0 ≡ server_after opened
  pub same_lent : cleared 0 (lent_after opened) ≡ lent_after opened
  pub ignoring : (link_of (call_of (server_after halfway) (lent_after halfway) (rx 8 data41)).done.server 0).up ≡ up.Ignoring

-- the lent slices with a disk of 255 bytes, and with the first block said to be of another owner
abbrev pub with255 : Lent → Lent
with255 l = lent (replicate 255 0) l.map l.owner l.table l.selected l.held

abbrev pub with_owner : ℕ → Lent → Lent
with_owner o l = lent l.disk l.map (o ∷ []) l.table l.selected l.held

pub record Locals : Type 0 where
  -- 255 bytes are no room for one block: 33
  pub short_disk : Fits (server_after opened) (with255 (lent_after opened)) → ⊥
  -- the one block is free by the map, and no place has number 2: 35
  pub lost_block : Fits (server_after opened) (with_owner 2 (lent_after opened))
  pub unsound : IsSound (server_after opened) (with_owner 2 (lent_after opened)) → ⊥
  -- there is no session 2: 34
  pub sessions : (server_after opened).sessions ≡ 1
  -- session 1 is open
  pub linked : (link_of (server_after opened) 0).linked ≡ true
  -- no server has 0 blocks
  pub no_blocks : fits (new_server 0 1 1 1) 256 (0 ∷ []) (0 ∷ []) (replicate 4 0) (0 ∷ []) output ≡ true → ⊥
  -- one block, one file, one session and MAXSEL 1 are sizes of the table
  pub least : fits (new_server 1 1 1 1) 256 (0 ∷ []) (0 ∷ []) (replicate 4 0) (0 ∷ []) output ≡ true

-- the unfinished packet of the first session
abbrev pub unfinished : History → Held
unfinished h = record { count = (link_of (server_after h) 0).held; part = part 0 258 (lent_after h).held }

pub record Closings : Type 0 where
  -- no local refusal
  pub goes : check_in (server_after opened) (lent_after opened) (rx 6 type18) ≡ Ok 0
  -- "A type 18 to 31", two bytes being taken
  pub type_18 : Unwelcome (link_of (server_after opened) 0) (event_at (server_after opened) (lent_after opened) 0 type18)
  pub taken_18 : (call byte (unfinished opened) type18).taken ≡ 2
  -- "An announced length above 256 closes the link at its second byte"
  pub length_257 : Unwelcome (link_of (server_after opened) 0) (event_at (server_after opened) (lent_after opened) 0 length257)
  pub taken_257 : (call byte (unfinished opened) length257).taken ≡ 2

-- UL_GO_RESP (4): number 1, offset 0
abbrev go_resp : List ℕ
go_resp = 8 ∷ 4 ∷ 1 ∷ 0 ∷ 0 ∷ 0 ∷ 0 ∷ 0 ∷ 0 ∷ 0 ∷ []

pub record Packets : Type 0 where
  -- LOGIN_RESP (2): the clock, 5, and the flags, 4
  pub hello : (login_of (server_after start) (lent_after start) output 1 5).out ≡ 5 ∷ 2 ∷ 5 ∷ 0 ∷ 0 ∷ 0 ∷ 4 ∷ replicate 251 0
  -- UPLOAD_CMD: its 10 bytes are taken, and 10 are sent
  pub go : (call_of (server_after opened) (lent_after opened) (rx 6 (upload 0))).done.answer ≡ answer.Sent 10 10
  -- what the links see: LOGIN_RESP, and the link closed
  pub seen_two : seen small (opened ▸ rx 6 type18) ≡ sent 1 (5 ∷ 2 ∷ 5 ∷ 0 ∷ 0 ∷ 0 ∷ 4 ∷ []) ∷ closed 1 ∷ []
  -- a driver that has UPLOAD_CMD and the packet of type 18 in one piece sees UL_GO_RESP, and the link closed
  pub fed : (feed_all (after small opened) 1 6 output (upload 0 ++ type18)).seen ≡ sent 1 go_resp ∷ closed 1 ∷ []
  -- one that has UPLOAD_CMD in two pieces sees UL_GO_RESP
  pub fed_pieces : (feed_pieces (after small opened) 1 6 output ((8 ∷ 3 ∷ []) ∷ drop 2 (upload 0) ∷ [])).seen ≡ sent 1 go_resp ∷ []
  -- the first byte of DATA_END ends nothing, and the second ends the packet
  pub first_byte : ends_in pair uploads 1 (0 ∷ []) ≡ none
  pub last_byte : ends_in pair uploads 1 data_end ≡ some (packet 1 [])
  -- nor do two bytes of UPLOAD_CMD
  pub two_bytes : ends_in small before_upload 1 (8 ∷ 3 ∷ []) ≡ none

-- the history in pieces without its cuts
pub record Chopped : Type 0 where
  pub sessions : pair.sessions ≡ 2
  pub calls : (uncut_of pair chopped).calls
      ≡ start ▸ login 1 5 output ▸ login 2 5 output ▸ of 2 6 (upload 0) ▸ request 1 output ▸ of 1 8 (upload 0)
  pub first : (uncut_of pair chopped).waiting 1 ≡ []
  pub second : (uncut_of pair chopped).waiting 2 ≡ 80 ∷ 0 ∷ []
  -- and the other one
  pub calls' : (uncut_of pair unchopped).calls
      ≡ start ▸ login 1 5 output ▸ login 2 5 output ▸ of 2 6 (upload 0) ▸ request 1 output ▸ of 1 8 (upload 0)
  pub first' : (uncut_of pair unchopped).waiting 1 ≡ []
  pub second' : (uncut_of pair unchopped).waiting 2 ≡ 80 ∷ 0 ∷ []

-- a packet in front of the output
abbrev pub packet_told : List ℕ → Told
packet_told p = told (answer.Sent 0 (length p)) (p ++ drop (length p) output)

-- a request when DATA_END was sent goes through, and nothing is due
pub record Requests : Type 0 where
  pub goes : check_in (server_after sent_all) (lent_after sent_all) (request 1 output) ≡ Ok 0
  pub not_due : is_due (link_of (server_after sent_all) 0).down ≡ false

pub record Computed : Type 0 where
  pub refusals : Refusals
  pub locals : Locals
  pub closings : Closings
  pub packets : Packets
  pub chopped : Chopped
  pub requests : Requests

clash : false ≡ true → ⊥
clash e = let z : ◌≡◌ {A = ℕ} 0 1 = cc in omega arith

pub computed : Computed
unfolding computing
computed =
    record {
      refusals = record {
        short_upload_law = record { taken = 3; answered = refl; packet = refl };
        no_room = record { taken = 10; answered = refl; packet = refl };
        none_selected = record { taken = 11; answered = refl; packet = refl };
        title_above_m_law = record { taken = 7; answered = refl; packet = refl };
        too_few = record { taken = 2; answered = refl; packet = refl };
        too_many = record { taken = 43; answered = refl; packet = refl };
        same_server = refl;
        same_lent = refl;
        ignoring = refl;
      };
      locals = record {
        short_disk = λ e. clash e;
        lost_block = refl;
        unsound = λ e. clash e;
        sessions = refl;
        linked = refl;
        no_blocks = λ e. clash e;
        least = refl;
      };
      closings = record {
        goes = refl;
        type_18 = unexpected 18 [] refl;
        taken_18 = refl;
        length_257 = long;
        taken_257 = refl;
      };
      packets = record { hello = refl; go = refl; seen_two = refl; fed = refl; fed_pieces = refl; first_byte = refl; last_byte = refl; two_bytes = refl };
      chopped = record { sessions = refl; calls = refl; first = refl; second = refl; calls' = refl; first' = refl; second' = refl };
      requests = record { goes = refl; not_due = refl };
    }
