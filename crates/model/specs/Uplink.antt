-- THE UPLINK, packet by packet (document 01, "Uplink", "Refusals by number" and "Header at DATA_END"): for each packet and each uplink state the
-- reply and the state afterwards. Session i, counted from 0. Assumes nothing.
use Rattle.std.specs.Prelude.{cond, List, [], ◌∷◌, ◌++◌, ℕ, ◌+◌, eqb, leb, ltb, length}
use Rattle.std.proofs.Math.Option.{Option, none, some}
use Rattle.header.specs.Header.{verdict}
use Rattle.header.specs.Fields.{fields_set}
use Rattle.table.specs.Given.{blocks_for, most_given}
use Rattle.session.specs.declared.reply.Reply.TheVariants as reply
use Rattle.decide.specs.Words.{word_at}
use Rattle.model.specs.State.{File, file, Uplink, no_upload, receiving, ignoring, with_up, Model, model, with_files, in_session, Turn, turn, closing}
use Rattle.model.specs.Files.{find, changed, without, free, uploading}

-- ---- UPLOAD_CMD (3): "has the file number to continue (0 for new) and the total length, 8 bytes"

-- Order: "UPLOAD new: 1, 3, 13". 3 "file numbers .. are used up"; 13 "fewer free blocks than needed, or no free file place". The new file "gets the
-- number after the last one given"; UL_GO_RESP has this number and offset 0.
unfoldable pub upload_new : Model → ℕ → ℕ → Turn
upload_new m i size =
    cond (eqb m.last_number most_given) (turn (reply.UploadError 3) m)
    (cond (ltb (length m.files) m.places)
    (cond (leb (blocks_for size) (free m))
    (turn (reply.Go (m.last_number + 1) 0)
    (in_session i (with_up (receiving (m.last_number + 1)))
    (model m (m.last_number + 1) m.last_time (m.files ++ file (m.last_number + 1) size [] 0 ∷ []) m.sessions)))
    (turn (reply.UploadError 13) m))
    (turn (reply.UploadError 13) m))

-- Order: "UPLOAD continued: 1, 4, 12, 2". 4 "no such file"; 12 "continuing a complete file"; 2 "continued length differs from the first, or another
-- session is uploading it (H)". "the partial holds exactly the whole DATA packets received, and a continuation offers that length."
unfoldable pub upload_continued : Option File → Model → ℕ → ℕ → ℕ → Turn
upload_continued none m i n size = turn (reply.UploadError 4) m
upload_continued (some f) m i n size =
    cond (eqb f.time 0)
    (cond (eqb f.size size)
    (cond (uploading m.sessions n) (turn (reply.UploadError 2) m)
    (turn (reply.Go n (length f.bytes)) (in_session i (with_up (receiving n)) m)))
    (turn (reply.UploadError 2) m))
    (turn (reply.UploadError 12) m)

-- 1 "UPLOAD not 8 .. byte(s) long"
unfoldable pub on_upload_cmd : Model → ℕ → List ℕ → Turn
on_upload_cmd m i info =
    cond (eqb (length info) 8)
    (cond (eqb (word_at info 0) 0) (upload_new m i (word_at info 4))
    (upload_continued (find (word_at info 0) m.files) m i (word_at info 0) (word_at info 4)))
    (turn (reply.UploadError 1) m)

-- ---- DATA (0)

-- "the partial is discarded"; the session's uplink is then in this state
abbrev pub discarded : ℕ → ℕ → Uplink → Model → Model
discarded i n u m = in_session i (with_up u) (with_files m (without n m.files))

-- a file with further bytes
abbrev pub grown : List ℕ → File → File
grown bytes f = file f.number f.size (f.bytes ++ bytes) f.time

-- "A DATA that would pass the announced length is not stored: the partial is discarded, UL_NAK_RESP 16 goes out, and further DATA is ignored until
-- DATA_END". In a sound state there is the file that a session is receiving, so the first line is never reached.
unfoldable pub data_to : Option File → Model → ℕ → ℕ → List ℕ → Turn
data_to none m i n info = turn reply.Nothing m
data_to (some f) m i n info =
    cond (ltb f.size (length f.bytes + length info)) (turn (reply.Nak 16) (discarded i n ignoring m))
    (turn reply.Nothing (with_files m (changed n (grown info) m.files)))

unfoldable pub on_data : Uplink → Model → ℕ → List ℕ → Turn
on_data no_upload m i info = closing m i
on_data (receiving n) m i info = data_to (find n m.files) m i n info
on_data ignoring m i info = turn reply.Nothing m

-- ---- DATA_END (1): "gets UL_ACK_RESP or UL_NAK_RESP. A NAK discards the partial; its blocks are free for the next upload."

-- "Upload time is the clock, or the last one given plus 1 if that is larger"
abbrev pub time_at : ℕ → ℕ → ℕ
time_at clock last = cond (ltb clock (last + 1)) (last + 1) clock

-- "On success the server sets .. file_number, upload_time, last_modified_time .. and header_checksum", and with them file_name (`fields_set`).
abbrev pub completed : ℕ → File → File
completed time f = file f.number f.size (fields_set f.number time f.bytes) time

-- "Checks in order": those of the header (`verdict`, crates/header/specs/Header.antt), "then 3", upload times used up
unfoldable pub data_end_to : Option File → Model → ℕ → ℕ → ℕ → Turn
data_end_to none m i n clock = turn reply.Nothing m
data_end_to (some f) m i n clock =
    cond (eqb (verdict f.bytes f.size) 0)
    (cond (eqb m.last_time most_given) (turn (reply.Nak 3) (discarded i n no_upload m))
    (turn reply.Ack
    (in_session i (with_up no_upload)
    (model m m.last_number (time_at clock m.last_time) (changed n (completed (time_at clock m.last_time)) m.files) m.sessions))))
    (turn (reply.Nak (verdict f.bytes f.size)) (discarded i n no_upload m))

-- that of an ignored upload "gets no response (H)"
unfoldable pub on_data_end : Uplink → Model → ℕ → ℕ → Turn
on_data_end no_upload m i clock = closing m i
on_data_end (receiving n) m i clock = data_end_to (find n m.files) m i n clock
on_data_end ignoring m i clock = turn reply.Nothing (in_session i (with_up no_upload) m)
