-- Small stores, packets and passes: what the cases of this crate are made of. The file is document 01's smallest one of 80 bytes. Assumes nothing.
use mathlib.Core.Path.{◌≡◌, refl}
use mathlib.Core.Bool.{true}
use mathlib.Core.List.{List, [], ◌∷◌, ◌++◌}
use Prim.Native.Nat.{ℕ}
use lib.Count.{ones, count_trailing_zeros}
use lib.ListN.{replicate, take, drop}
use Rattle.header.proofs.Examples.{smallest}
use Rattle.header.specs.Fields.{fields_set}
use Rattle.session.specs.declared.reply.Answer.{Answer}
use Rattle.server.specs.declared.Server.{Server}
use Rattle.server.specs.State.{Lent, lent}
use Rattle.model.specs.State.{file, Uplink, no_upload, receiving, ignoring, Downlink, sending, ended, aborting, Session, Model, empty}
use Rattle.model.specs.Step.{run}
use Rattle.history.specs.Calls.{Call, login, receive, request, lose, call_of, Start, legal, History, start, ◌▸◌, after}
pub use Rattle.cases.proofs.Passes.{output, of, rx, on, upload, data_end, rest}
unfoldable pub use Rattle.cases.proofs.Passes.{opened, halfway, torn, before_upload, continued, lost_once, too_early, uploads, both}
use Rattle.packet.specs.Frame as packet-frame
use Rattle.packet.specs.Machine as packet-machine
use Rattle.numbers.specs.Numbers as byte-numbers
use Rattle.numbers.specs.Hex as hex
use Rattle.packet.specs.Packet as packet-packet
use Rattle.session.specs.Expected as session-expected
use Rattle.session.specs.Reply as session-reply
use Rattle.table.specs.Table as table-table
use Rattle.table.specs.Fit as table-fit
use Rattle.table.specs.Order as table-order
use Rattle.blocks.specs.FreeMap as blocks-freemap
use Rattle.blocks.specs.Owners as blocks-owners
use Rattle.blocks.specs.Contents as blocks-contents
use Rattle.blocks.specs.Check as blocks-check
use Rattle.blocks.specs.Answers as blocks-answers
use Rattle.stored.specs.Answers as stored-answers
use Rattle.header.specs.Items as header-items
use Rattle.header.specs.Header as header-header
use Rattle.header.specs.Fields as header-fields
use Rattle.equation.specs.Relation as equation-relation
use Rattle.equation.specs.Symbols as equation-symbols
use Rattle.equation.specs.Tree as equation-tree
use Rattle.equation.specs.Answer as equation-answer
use Rattle.equation.specs.Holds as equation-holds
use Rattle.files.specs.Uploads as files-uploads
use Rattle.files.specs.Completion as files-completion
use Rattle.files.specs.Selection as files-selection
use Rattle.files.specs.Sound as files-sound
use Rattle.decide.specs.Uplink as decide-uplink
use Rattle.decide.specs.Downlink as decide-downlink
use Rattle.decide.specs.Decide as decide-decide
use Rattle.carry.specs.Upload as carry-upload
use Rattle.carry.specs.Download as carry-download
use Rattle.carry.specs.Carry as carry-carry
use Rattle.links.specs.Sound as links_sound_law
use Rattle.server.specs.Check as server-check
use Rattle.server.specs.Calls as server-calls
use Rattle.server.specs.Turns as server-turns
use Rattle.sending.specs.Sending as server-sending
use Rattle.server.specs.Making as server-making
use Rattle.history.specs.Calls as history-calls
use Rattle.promises.specs.Cut as promises-cut
use Rattle.promises.specs.Uncut as promises-uncut
use Rattle.promises.specs.Feeding as promises-feeding
use Rattle.promises.specs.Requests as promises-requests

-- ---- the small store and what its one link brings

-- one block, one file place, one session, MAXSEL 1
unfoldable pub small : Start
small =
    record {
      blocks = 1;
      files = 1;
      sessions = 1;
      most = 1;
      lent = lent (replicate 256 0) (0 ∷ []) (0 ∷ []) (0 ∷ 0 ∷ 0 ∷ 0 ∷ []) (0 ∷ []) (replicate 258 0);
    }

-- UPLOAD_CMD (3) with one byte of information, where 8 are wanted
abbrev pub short_upload : List ℕ
short_upload = 1 ∷ 3 ∷ 0 ∷ []

-- UPLOAD_CMD to continue file 1 with another length, 81
abbrev pub other_length : List ℕ
other_length = 8 ∷ 3 ∷ 1 ∷ 0 ∷ 0 ∷ 0 ∷ 81 ∷ 0 ∷ 0 ∷ 0 ∷ []

-- UPLOAD_CMD for a new file of 257 bytes, which needs two blocks
abbrev pub large_upload : List ℕ
large_upload = 8 ∷ 3 ∷ 0 ∷ 0 ∷ 0 ∷ 0 ∷ 1 ∷ 1 ∷ 0 ∷ 0 ∷ []

-- DOWNLOAD_CMD (8) of number 0, the next selected file
abbrev pub next_file : List ℕ
next_file = 9 ∷ 8 ∷ 0 ∷ 0 ∷ 0 ∷ 0 ∷ 0 ∷ 0 ∷ 0 ∷ 0 ∷ 0 ∷ []

-- SELECT_CMD (16) for titles (22h) greater than "m"
abbrev pub title_above_m : List ℕ
title_above_m = 5 ∷ 16 ∷ 147 ∷ 34 ∷ 0 ∷ 1 ∷ 109 ∷ []

-- SELECT_CMD for a file_size (04) equal to 80
abbrev pub size80 : List ℕ
size80 = 8 ∷ 16 ∷ 128 ∷ 4 ∷ 0 ∷ 4 ∷ 80 ∷ 0 ∷ 0 ∷ 0 ∷ []

-- DL_ACK_CMD (12) for a destination
abbrev pub ack : ℕ → List ℕ
ack destination = 1 ∷ 12 ∷ destination ∷ []

-- DL_NAK_CMD (13)
abbrev pub nak : List ℕ
nak = 0 ∷ 13 ∷ []

-- DIR_SHORT_CMD (14) with no information
abbrev pub directory : List ℕ
directory = 0 ∷ 14 ∷ []

-- DATA (0) of 41 bytes
abbrev pub data41 : List ℕ
data41 = 41 ∷ 0 ∷ replicate 41 0

-- a packet of type 18 with no information
abbrev pub type18 : List ℕ
type18 = 0 ∷ 18 ∷ []

-- 01 20: an announced length of 257
abbrev pub length257 : List ℕ
length257 = 1 ∷ 32 ∷ []

-- DOWNLOAD_CMD of file 1 from an offset on, with a lock destination
abbrev pub download : ℕ → ℕ → List ℕ
download offset lock = 9 ∷ 8 ∷ 1 ∷ 0 ∷ 0 ∷ 0 ∷ offset ∷ 0 ∷ 0 ∷ 0 ∷ lock ∷ []

-- the complete file is selected
unfoldable pub picked : History
picked = lost_once ▸ rx 12 size80

-- it is downloaded: DATA is due, and then DATA_END has gone out
unfoldable pub downloading : History
downloading = lost_once ▸ rx 12 (download 0 0)

unfoldable pub sent_all : History
sent_all = downloading ▸ request 1 output ▸ request 1 output

-- it is downloaded from byte 40 on
unfoldable pub downloading40 : History
downloading40 = lost_once ▸ rx 12 (download 40 0)

-- two requests: for the DATA of at most 80 bytes, and for DATA_END
abbrev pub two : List Call
two = request 1 output ∷ request 1 output ∷ []

-- the file as it is when it is complete: number 1, times 4, the name "00000004", and the sum 03a7 for 021a
unfoldable pub complete80 : List ℕ
complete80 =
    170 ∷ 85 ∷ 1 ∷ 0 ∷ 4 ∷ 1 ∷ 0 ∷ 0 ∷ 0 ∷ 2 ∷ 0 ∷ 8 ∷ 48 ∷ 48 ∷ 48 ∷ 48 ∷ 48 ∷ 48 ∷ 48 ∷ 52 ∷ 3 ∷ 0 ∷ 3 ∷ 0 ∷ 0 ∷ 0 ∷ 4 ∷ 0 ∷
    4 ∷ 80 ∷ 0 ∷ 0 ∷ 0 ∷ 5 ∷ 0 ∷ 4 ∷ 0 ∷ 0 ∷ 0 ∷ 0 ∷ 6 ∷ 0 ∷ 4 ∷ 4 ∷ 0 ∷ 0 ∷ 0 ∷ 7 ∷ 0 ∷ 1 ∷ 0 ∷ 8 ∷ 0 ∷ 1 ∷ 0 ∷ 9 ∷
    0 ∷ 2 ∷ 0 ∷ 0 ∷ 10 ∷ 0 ∷ 2 ∷ 167 ∷ 3 ∷ 11 ∷ 0 ∷ 2 ∷ 80 ∷ 0 ∷ 18 ∷ 0 ∷ 4 ∷ 4 ∷ 0 ∷ 0 ∷ 0 ∷ 0 ∷ 0 ∷ 0 ∷ []

pub small_legal : legal small ≡ true
unfolding small server-check.sizes_fit server-check.room_fits
small_legal = refl

-- ---- two links at once

-- two blocks, two file places, two sessions
unfoldable pub pair : Start
pair =
    record {
      blocks = 2;
      files = 2;
      sessions = 2;
      most = 1;
      lent = lent (replicate 512 0) (0 ∷ []) (0 ∷ 0 ∷ []) (replicate 8 0) (0 ∷ 0 ∷ []) (replicate 516 0);
    }

-- the second link downloads the file that the first one uploaded
unfoldable pub handed : History
handed = both ▸ of 2 9 (download 0 0)

-- Two requests of the second session that have room, and one that has not. Between them the first link sends UPLOAD_CMD, its driver asks too, and it
-- is lost and made again.
abbrev pub meanwhile : List Call
meanwhile =
    of 1 10 (upload 0) ∷ request 2 output ∷ request 1 output ∷ lose 1 ∷ request 2 (replicate 257 0) ∷ login 1 11 output ∷ request 2 output ∷ []

-- ---- three links at once, on the machine with three blocks, three file places, three sessions and MAXSEL 1

-- File 1 is complete. Session 1 broke its download off, so that DL_ABORTED_RESP is due, and has uploaded 40 bytes of file 3. Session 2 was sent the file,
-- and ignores DATA since an overrun. Session 3 begins to download it.
unfoldable pub crowded : History
crowded =
    start ▸ login 1 5 output ▸ login 2 5 output ▸ login 3 5 output ▸ of 1 6 (upload 0) ▸ of 1 6 (80 ∷ 0 ∷ smallest) ▸ of 1 7 data_end
    ▸ of 2 8 (download 0 0) ▸ request 2 output ▸ request 2 output ▸ of 2 8 (upload 0) ▸ of 2 8 (81 ∷ 0 ∷ replicate 81 0)
    ▸ of 1 8 (download 0 0) ▸ of 1 8 nak ▸ of 1 9 (upload 0) ▸ of 1 9 (40 ∷ 0 ∷ take 40 smallest) ▸ of 3 9 (download 0 0)

-- Meanwhile session 3 uploads too: UPLOAD_CMD before its first request, DATA in two pieces, DATA_END behind its second one. Between them session 2 is lost,
-- and the driver asks for session 1.
abbrev pub at_once : List Call
at_once =
    of 3 10 (upload 0) ∷ request 3 output ∷ of 3 11 (80 ∷ 0 ∷ take 30 smallest) ∷ lose 2 ∷ request 1 output ∷ of 3 12 (drop 30 smallest)
    ∷ request 3 output ∷ of 3 13 data_end ∷ []

-- ---- bytes in pieces

-- UPLOAD_CMD of the first link in three pieces, with a byte behind its end, which is not taken. Between them UPLOAD_CMD of the second link, a
-- request, a call for a session 3 that there is not, which is refused, and the first of two bytes of the second link that end nothing.
unfoldable pub chopped : History
chopped =
    start ▸ login 1 5 output ▸ login 2 5 output ▸ of 1 6 (8 ∷ 3 ∷ []) ▸ of 2 6 (upload 0) ▸ request 1 output ▸ of 1 7 (0 ∷ []) ▸ of 3 7 (0 ∷ [])
    ▸ of 2 7 (80 ∷ []) ▸ of 1 8 (drop 3 (upload 0) ++ 80 ∷ []) ▸ of 2 9 (0 ∷ [])

-- the same packets, each in one piece and at the clock of its last byte
unfoldable pub unchopped : History
unchopped =
    start ▸ login 1 5 output ▸ login 2 5 output ▸ of 2 6 (upload 0) ▸ request 1 output ▸ of 1 8 (upload 0) ▸ of 2 8 (80 ∷ 0 ∷ [])

pub pair_legal : legal pair ≡ true
unfolding pair server-check.sizes_fit server-check.room_fits
pair_legal = refl

-- ---- the small server after a history, and what is lent to it

abbrev pub server_after : History → Server
server_after h = (after small h).server

abbrev pub lent_after : History → Lent
lent_after h = (after small h).lent

-- what a call of a server answers
abbrev pub answer_of : Server → Lent → Call → Answer
answer_of sv l c = (call_of sv l c).done.answer

-- ---- the machine after a history: the small one, and that of three links

abbrev pub machine : History → Model
machine h = run (empty small.blocks small.files small.sessions small.most) h

abbrev pub crowd : History → Model
crowd h = run (empty 3 3 3 1) h

-- what `crowded` leaves
abbrev pub linked_with : Uplink → Downlink → Session
linked_with up down = record { linked = true; up = up; down = down; selected = []; next = 0; held = [] }

unfoldable pub crowded_model : Model
crowded_model =
    record {
      blocks = 3;
      places = 3;
      maxsel = 1;
      last_number = 3;
      last_time = 7;
      files = file 1 80 (fields_set 1 7 smallest) 7 ∷ file 3 80 (take 40 smallest) 0 ∷ [];
      sessions = linked_with (receiving 3) (aborting 1) ∷ linked_with ignoring (ended 1) ∷ linked_with no_upload (sending 1 0) ∷ [];
    }

-- ---- whoever unfolds this unfolds all that the cases compute with

unfoldable pub computing : ℕ
unfolding
    small opened halfway torn before_upload continued lost_once too_early pair uploads both smallest ones count_trailing_zeros links_sound_law.downlink_sound
    packet-frame.judged packet-frame.byte packet-frame.without_packet packet-frame.answer_by packet-frame.answer_of packet-frame.receive_of
    packet-machine.called packet-machine.call byte-numbers.number packet-packet.packet_of session-expected.expected_up session-expected.expected
    session-reply.tell session-reply.answered table-table.files table-table.put_table table-table.first_from table-fit.file_fits table-fit.record_fits
    table-fit.records_fit_from table-fit.among table-fit.apart table-fit.distinct_of blocks-freemap.free_count blocks-freemap.lowest
    blocks-freemap.reserved_map blocks-owners.blocks blocks-owners.counts_from blocks-owners.nth blocks-owners.reserved_owner blocks-owners.released_owner
    blocks-owners.released_map blocks-owners.word_of blocks-owners.map_of blocks-contents.held blocks-contents.stored blocks-check.within
    blocks-check.map_is blocks-check.agrees_test blocks-answers.make_owner blocks-answers.make_map blocks-answers.reserve_map blocks-answers.reserve_owner
    blocks-answers.release_map blocks-answers.release_owner blocks-answers.write_disk stored-answers.check_at stored-answers.set_number
    stored-answers.set_disk header-items.head_of header-items.after header-items.walk header-items.marked header-items.fields_of header-header.listed
    header-header.every header-header.count_if header-header.bytes_of header-header.length_in header-header.length_fits header-header.ordered
    header-header.proper header-header.complete header-header.sum_of header-header.check_items header-header.check_values header-header.verdict
    header-header.place_from header-fields.with_fields header-fields.with_sum header-fields.fields_set hex.hex_digit files-uploads.begin_at files-uploads.begin_in
    files-uploads.begin_with files-uploads.place_number files-uploads.room_number files-uploads.append_number files-uploads.append_of
    files-uploads.discard_number files-uploads.discard_of files-completion.check_of files-completion.complete_number files-completion.complete_of
    files-sound.sound_test decide-uplink.on_continued decide-uplink.on_upload decide-uplink.on_data decide-uplink.on_end decide-uplink.on_uplink
    decide-decide.on_packet decide-decide.on_frame decide-decide.decide_of carry-upload.begun_turn carry-upload.begun_as carry-upload.begin_with
    carry-upload.stored_as carry-upload.appended_as carry-upload.store_turn carry-upload.discard_turn carry-upload.timed carry-upload.judged_at
    carry-upload.accepted_as carry-upload.accept_turn carry-upload.with_disk carry-upload.with_blocks carry-upload.finish_as carry-carry.on_frees
    carry-carry.on_writes carry-carry.on_moves carry-carry.carry_out links_sound_law.uplink_sound links_sound_law.names_sound links_sound_law.selection_sound
    links_sound_law.packet_sound links_sound_law.link_sound links_sound_law.link_in links_sound_law.links_sound
    server-check.sizes_fit server-check.room_fits server-check.sound_parts server-check.in_state server-check.session_check server-check.check_by
    server-calls.answered_by server-calls.heard_by server-calls.step_of server-calls.on_check server-calls.receive_of server-calls.receive_by server-calls.on_login
    server-calls.login_of server-calls.login_by server-calls.on_lose server-calls.lose_of server-calls.lose_by server-turns.hear_of server-turns.size_in server-turns.put_back server-turns.act_of
    server-making.empty_of server-making.make_of history-calls.made history-calls.after promises-cut.seen_in promises-cut.seen promises-feeding.onward
    promises-feeding.feed promises-feeding.feed_pieces chopped unchopped promises-uncut.on_bytes promises-uncut.unless_refused promises-uncut.uncut_of
    session-expected.expected_down decide-downlink.on_found decide-downlink.on_numbered decide-downlink.on_download decide-downlink.on_downlink
    carry-download.close_turn carry-download.selected_as carry-download.select_turn carry-carry.on_chooses files-selection.select_number
    files-selection.select_of equation-symbols.stars_in equation-symbols.good_text equation-symbols.good_number equation-symbols.good
    equation-symbols.connective_of equation-symbols.relation_at equation-symbols.token_of equation-symbols.follow equation-symbols.symbols_past
    equation-tree.pushed equation-tree.joined equation-tree.result equation-tree.bind equation-tree.run equation-tree.parse equation-answer.refusal
    equation-answer.validity_of equation-relation.width picked downloading sent_all table-order.least_above table-order.next_above table-order.places_above
    stored-answers.truth_at stored-answers.header_at header-header.header_of files-selection.is_yes files-selection.passing equation-answer.said
    equation-answer.answer equation-answer.is_yes equation-relation.compare equation-relation.number_meets equation-relation.meets equation-holds.holds
    equation-holds.bytes_of equation-tree.truth files-completion.destinations_at carry-download.begin_turn blocks-answers.read_out links_sound_law.named_at
    server-sending.least_of server-sending.data_of server-sending.sending_of server-sending.due_of server-calls.due_as server-calls.on_request
    server-calls.request_of server-calls.request_by downloading40 complete80 handed decide-downlink.on_nak promises-requests.is_due
computing = 0
