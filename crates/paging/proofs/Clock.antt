-- Upload times are 32-bit numbers while the clock is: by each packet and each call. Assumes nothing.
use mathlib.Core.Bool.{Bool, true, false, cond}
use mathlib.Core.List.{List, [], ◌++◌}
use mathlib.Core.Option.{Option, none, some}
use mathlib.Core.Path.{◌≡◌, refl}
use Prim.Native.Nat.{ℕ, ◌+◌, ◌-◌, ◌<◌}
use native.Mathlib.Omega.{arith}
use borrow.Author.Tests.{eqb-false}
use lib.Dec.{eqb, leb, ltb}
use lib.ListN.{length}
use Rattle.packet.specs.Frame.{Event, packet, too_long}
use Rattle.header.specs.Header.{verdict}
use Rattle.equation.specs.Answer.{validity_of}
use Rattle.table.specs.Given.{blocks_for, most_given}
use Rattle.session.specs.declared.reply.Answer.TheVariants as answer
use Rattle.session.specs.Reply.{told}
use Rattle.decide.specs.Words.{word_at}
use Rattle.calls.specs.Call.{Call, login, receive, request, lose}
use Rattle.model.specs.State.{File, Uplink, no_upload, receiving, ignoring, Downlink, no_download, sending, ended, aborting, listing, Session, with_held}
use Rattle.model.specs.State.{Model, session_at, in_session, Turn, Stepped, stepped}
use Rattle.model.specs.Files.{find, free, uploading}
use Rattle.model.specs.Uplink.{upload_new, upload_continued, on_upload_cmd, data_to, on_data, time_at, data_end_to, on_data_end}
use Rattle.model.specs.Downlink.{destinations_in, download_of, download_numbered, on_download_cmd, data_due, directory_of, listing_due, on_request, on_dl_ack_cmd}
use Rattle.model.specs.Downlink.{on_dl_nak_cmd, directory_of_one, directory_numbered, on_dir_cmd, on_select_cmd}
use Rattle.model.specs.Step.{if_no_upload, if_no_download, by_type, on_packet, ends_in, on_event, refusal, unless, step}
use Rattle.paging.specs.Paging.{Clocked}

abbrev Small : Model → Type 0
Small m = m.last_time < 4294967296

-- the next time: the last one was not the largest
timed : (clock last : ℕ) → clock < 4294967296 → last < 4294967296 → (last ≡ most_given → ⊥) → time_at clock last < 4294967296
timed clock last h k z = go (ltb clock (last + 1))
  where
    go : (b : Bool) → cond b (last + 1) clock < 4294967296
    go true = omega (arith, z)
    go false = h

either : (b : Bool) (x y : Turn) → Small x.after → Small y.after → Small (cond b x y).after
either true x y p q = p
either false x y p q = q

-- what leaves the last time as it was
module _ (m : Model) (i : ℕ) (small : Small m) where
  upload_small : (info : List ℕ) → Small (on_upload_cmd m i info).after
  unfolding on_upload_cmd upload_new
  upload_small info =
      either (eqb (length info) 8) _ _
      (either (eqb (word_at info 0) 0) _ _
      (either (eqb m.last_number most_given) _ _ small
      (either (ltb (length m.files) m.places) _ _ (either (leb (blocks_for (word_at info 4)) (free m)) _ _ small small) small))
      (continued (find (word_at info 0) m.files) (word_at info 0) (word_at info 4)))
      small
    where
      continued : (f : Option File) (n size : ℕ) → Small (upload_continued f m i n size).after
      continued none n size = unfold upload_continued in small
      continued (some f) n size =
          unfold upload_continued in
          either (eqb f.time 0) _ _ (either (eqb f.size size) _ _ (either (uploading m.sessions n) _ _ small small) small) small

  data_small : (u : Uplink) (info : List ℕ) → Small (on_data u m i info).after
  unfolding on_data data_to
  data_small no_upload info = small
  data_small (receiving n) info = go (find n m.files)
    where
      go : (f : Option File) → Small (data_to f m i n info).after
      go none = small
      go (some f) = either (ltb f.size (length f.bytes + length info)) _ _ small small
  data_small ignoring info = small

  download_small : (s : Session) (info : List ℕ) → Small (on_download_cmd m i s info).after
  unfolding on_download_cmd download_numbered
  download_small s info =
      either (eqb (length info) 9) _ _
      (either (eqb (word_at info 0) 0) _ _ (either (ltb s.next (length s.selected)) _ _ (file _ _ _ _ _) small) (file _ _ _ _ _))
      small
    where
      file : (f : Option File) (n offset lock passed : ℕ) → Small (download_of f m i n offset lock passed).after
      file none n offset lock passed = unfold download_of in small
      file (some f) n offset lock passed =
          unfold download_of in
          either (eqb f.time 0) _ _ small
          (either (ltb (length f.bytes) offset) _ _ small (either (ltb (destinations_in f.bytes) lock) _ _ small small))

  ack_small : (d : Downlink) (info : List ℕ) → Small (on_dl_ack_cmd d m i info).after
  unfolding on_dl_ack_cmd
  ack_small no_download info = small
  ack_small (sending n at) info = small
  ack_small (ended n) info = small
  ack_small (aborting n) info = small
  ack_small (listing long ns at) info = small

  nak_small : (d : Downlink) → Small (on_dl_nak_cmd d m i).after
  unfolding on_dl_nak_cmd
  nak_small no_download = small
  nak_small (sending n at) = small
  nak_small (ended n) = small
  nak_small (aborting n) = small
  nak_small (listing long ns at) = small

  directory_small : (long : Bool) (s : Session) (info : List ℕ) → Small (on_dir_cmd long m i s info).after
  unfolding on_dir_cmd directory_numbered
  directory_small long s info =
      either (eqb (length info) 4) _ _
      (either (eqb (word_at info 0) 0) _ _ (either (ltb s.next (length s.selected)) _ _ small small)
      (one (find (word_at info 0) m.files) (word_at info 0)))
      small
    where
      one : (f : Option File) (n : ℕ) → Small (directory_of_one f m i long n).after
      one none n = unfold directory_of_one in small
      one (some f) n = unfold directory_of_one in either (eqb f.time 0) _ _ small small

  select_small : (info : List ℕ) → Small (on_select_cmd m i info).after
  unfolding on_select_cmd
  select_small info = either (eqb (validity_of info) 0) _ _ small small

  pick : (b : Bool) (x y : Stepped) → Small x.after → Small y.after → Small (cond b x y).after
  pick true x y p q = p
  pick false x y p q = q

  due_small : (d : Downlink) (out : List ℕ) → Small (on_request d m i out).after
  unfolding on_request data_due listing_due
  due_small no_download out = small
  due_small (sending n at) out = go (find n m.files)
    where
      go : (f : Option File) → Small (data_due f m i n at out).after
      go none = small
      go (some f) = pick (ltb at (length f.bytes)) _ _ small small
  due_small (ended n) out = small
  due_small (aborting n) out = small
  due_small (listing long ns at) out = pick (ltb at (length (directory_of long ns m.files))) _ _ small small

  no_upload_law : (u : Uplink) (x y : Turn) → Small x.after → Small y.after → Small (if_no_upload u x y).after
  no_upload_law no_upload x y p q = p
  no_upload_law (receiving n) x y p q = q
  no_upload_law ignoring x y p q = q

  no_download_law : (d : Downlink) (x y : Turn) → Small x.after → Small y.after → Small (if_no_download d x y).after
  no_download_law no_download x y p q = p
  no_download_law (sending n at) x y p q = q
  no_download_law (ended n) x y p q = q
  no_download_law (aborting n) x y p q = q
  no_download_law (listing long ns at) x y p q = q

  -- DATA_END gives a time
  end_small : (u : Uplink) (clock : ℕ) → clock < 4294967296 → Small (on_data_end u m i clock).after
  unfolding on_data_end data_end_to
  end_small no_upload clock h = small
  end_small (receiving n) clock h = go (find n m.files)
    where
      given : (b : Bool) → eqb m.last_time most_given ≡ b → (x y : Turn) → Small x.after → (b ≡ false → Small y.after) → Small (cond b x y).after
      given true e x y p q = p
      given false e x y p q = q refl

      go : (f : Option File) → Small (data_end_to f m i n clock).after
      go none = small
      go (some f) =
          either (eqb (verdict f.bytes f.size) 0) _ _
          (given (eqb m.last_time most_given) refl _ _ small (λ e. timed clock m.last_time h small (eqb-false m.last_time most_given e)))
          small
  end_small ignoring clock h = small

  packet_small : (clock kind : ℕ) (info : List ℕ) → clock < 4294967296 → Small (on_packet m i clock kind info).after
  unfolding by_type
  packet_small clock kind info h =
      either (eqb kind 0) _ _ (data_small (session_at m i).up info)
      (either (eqb kind 1) _ _ (either (eqb (length info) 0) _ _ (end_small (session_at m i).up clock h) small)
      (either (eqb kind 3) _ _ (no_upload_law (session_at m i).up _ _ (upload_small info) small)
      (either (eqb kind 8) _ _ (no_download_law (session_at m i).down _ _ (download_small (session_at m i) info) small)
      (either (eqb kind 12) _ _ (ack_small (session_at m i).down info)
      (either (eqb kind 13) _ _ (either (eqb (length info) 0) _ _ (nak_small (session_at m i).down) small)
      (either (eqb kind 14) _ _ (no_download_law (session_at m i).down _ _ (directory_small false (session_at m i) info) small)
      (either (eqb kind 15) _ _ (no_download_law (session_at m i).down _ _ (directory_small true (session_at m i) info) small)
      (either (eqb kind 16) _ _ (no_download_law (session_at m i).down _ _ (select_small info) small) small))))))))

event_small : (e : Option Event) (m : Model) (i clock : ℕ) (held input out : List ℕ) → Small m → clock < 4294967296
    → Small (on_event e m i clock held input out).after
unfolding on_event
event_small none m i clock held input out s h = s
event_small (some too_long) m i clock held input out s h = s
event_small (some (packet kind info)) m i clock held input out s h = packet_small (in_session i (with_held []) m) i s clock kind info h

unless_small : (n : ℕ) (m : Model) (out : List ℕ) (x : Stepped) → Small m → Small x.after → Small (unless n m out x).after
unfolding unless
unless_small n m out x s h = go (eqb n 0)
  where
    go : (b : Bool) → Small (cond b x (stepped (told (answer.Refused n) out) m)).after
    go true = h
    go false = s

-- THEOREM
pub step_small : (m : Model) (c : Call) → Small m → Clocked c → Small (step m c).after
unfolding step
step_small m (login session clock out) s h = unless_small (refusal m session false (length out)) m out _ s s
step_small m (receive session clock input out) s h =
    unless_small (refusal m session true (length out)) m out _ s
    (event_small (ends_in ((session_at m (session - 1)).held ++ input)) m (session - 1) clock (session_at m (session - 1)).held input out s h)
step_small m (request session out) s h =
    unless_small (refusal m session true (length out)) m out _ s (due_small m (session - 1) s (session_at m (session - 1)).down out)
step_small m (lose session) s h = unless_small (refusal m session true 258) m [] _ s s
