-- What a packet of the uplink asks for (document 01, "Uplink", "Refusals by number"). Assumes nothing.
use Rattle.std.specs.Prelude.{Bool, true, false, cond, List, ℕ, ◌+◌, eqb, ltb, get_or, Option, Some, None}
use Rattle.session.specs.declared.state.Session.{Session}
use Rattle.session.specs.declared.state.Uplink.{Uplink}
use Rattle.session.specs.declared.state.Uplink.TheVariants as up
use Rattle.session.specs.declared.reply.Reply.TheVariants.{UploadError}
use Rattle.session.specs.State.{closed_session}
use Rattle.table.specs.declared.File.{File}
use Rattle.table.specs.Table.{file_at, find_of, find_number}
use Rattle.decide.specs.Words.{word_at}
use Rattle.decide.specs.declared.act.Act.{Act}
use Rattle.decide.specs.declared.act.Act.TheVariants as act

-- a session is uploading the file at a place
abbrev pub uploads_in : Uplink → ℕ → Bool
uploads_in up.Idle place = false
uploads_in (up.Receiving p offset received) place = eqb p place
uploads_in up.Ignoring place = false

-- a session whose link is not there uploads nothing
abbrev pub uploads : Session → ℕ → Bool
uploads s place = cond s.linked (uploads_in s.up place) false

-- one of the four sessions is uploading it
abbrev pub uploading : List Session → ℕ → Bool
uploading links place =
    cond (uploads (get_or links 0 closed_session) place) true
    (cond (uploads (get_or links 1 closed_session) place) true
    (cond (uploads (get_or links 2 closed_session) place) true
    (uploads (get_or links 3 closed_session) place)))

-- "UPLOAD continued: 1, 4, 12, 2": 4 "no such file"; 12 "continuing a complete file"; 2 "continued length differs from the first, or
-- another session is uploading it (H)"
unfoldable pub on_continued : Option ℕ → ℕ → ℕ → List Session → List File → Act
on_continued None number size links fs = act.Tell (UploadError (find_number None))
on_continued (Some place) number size links fs =
    cond (eqb (file_at fs place).time 0)
    (cond (eqb (file_at fs place).size size)
    (cond (uploading links place) (act.Tell (UploadError 2))
    (act.Resume place number (file_at fs place).received))
    (act.Tell (UploadError 2)))
    (act.Tell (UploadError 12))

-- "UPLOAD_CMD has the file number to continue (0 for new) and the total length, 8 bytes." "UPLOAD new: 1, 3, 13", of which 3 and 13 are
-- found when the file is begun
unfoldable pub on_upload : List Session → ℕ → List ℕ → List File → Act
on_upload links size info fs =
    cond (eqb size 8)
    (cond (eqb (word_at info 0) 0) (act.Begin (word_at info 4))
    (on_continued (find_of fs (word_at info 0)) (word_at info 0) (word_at info 4) links fs))
    (act.Tell (UploadError 1))

-- "A DATA that would pass the announced length is not stored"; "further DATA is ignored until DATA_END"
unfoldable pub on_data : Uplink → ℕ → List File → Act
on_data up.Idle size fs = act.Close
on_data (up.Receiving place offset received) size fs =
    cond (ltb (file_at fs place).size ((file_at fs place).received + size)) (act.Overrun place) (act.Store place offset received)
on_data up.Ignoring size fs = act.Ignore

-- "DATA_END gets UL_ACK_RESP or UL_NAK_RESP"; that of an ignored upload "gets no response (H)"
unfoldable pub on_end : Uplink → Act
on_end up.Idle = act.Close
on_end (up.Receiving place offset received) = act.Finish place
on_end up.Ignoring = act.Stop

-- DATA (0), DATA_END (1), UPLOAD_CMD (3)
unfoldable pub on_uplink : Uplink → List Session → ℕ → ℕ → List ℕ → List File → Act
on_uplink u links kind size info fs =
    cond (eqb kind 0) (on_data u size fs) (cond (eqb kind 1) (on_end u) (on_upload links size info fs))
