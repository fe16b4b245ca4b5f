-- What is decided depends on the other sessions by one question alone, whether one of them uploads a file; and where the sessions beyond those in use
-- are closed, as calls keep them, it is the question of all four. Assumes nothing.
use mathlib.Core.Path.{◌≡◌, refl, sym, ap}
use mathlib.Core.Bool.{Bool, true, false, cond}
use mathlib.Core.List.{List}
use Prim.Native.Nat.{ℕ, ◌*◌, ◌≤◌, ◌<◌}
use native.Mathlib.Omega.{arith}
use borrow.Author.Tests.{ltb-false}
use lib.Dec.{eqb, ltb}
use lib.ListN.{length, take}
use Rattle.packet.specs.declared.frame.Frame.{Frame}
use Rattle.packet.specs.declared.frame.Frame.TheVariants.{Open, TooLong, Whole, Refused}
use Rattle.session.specs.declared.state.Session.{Session}
use Rattle.session.specs.declared.state.Uplink.{Uplink}
use Rattle.session.specs.declared.reply.Reply.TheVariants.{UploadError}
use Rattle.session.specs.State.{closed_session}
use Rattle.session.specs.Expected.{expected}
use Rattle.table.specs.declared.File.{File}
use Rattle.std.proofs.Common.{Option, Some, None}
use Rattle.table.specs.Table.{files, file_at, find_of}
use Rattle.carry.specs.Turn.{Mem}
use Rattle.carry.specs.Carry.{carry_out}
use Rattle.decide.specs.Words.{word_at}
use Rattle.decide.specs.Uplink.{uploads, uploading, on_continued, on_upload, on_data, on_end, on_uplink}
use Rattle.decide.specs.Downlink.{on_downlink}
use Rattle.decide.specs.Decide.{on_packet, on_frame, decide_of}
use Rattle.decide.specs.declared.act.Act.{Act}
use Rattle.decide.specs.declared.act.Act.TheVariants as act
use Rattle.server.specs.declared.Server.{Server}
use Rattle.server.specs.State.{link_of, part}
use Rattle.server.specs.Turns.{size_in, used_of, in_use, parts_of, put_back, act_of}

-- ---- two lists of sessions that upload the same

module _ (links links' : List Session) (same : (place : ℕ) → uploading links' place ≡ uploading links place) where
  continued_same : (f : Option ℕ) (number size : ℕ) (fs : List File) → on_continued f number size links' fs ≡ on_continued f number size links fs
  unfolding on_continued
  continued_same None number size fs = refl
  continued_same (Some place) number size fs =
      ap
      (λ (b : Bool).
      cond (eqb (file_at fs place).time 0)
      (cond (eqb (file_at fs place).size size)
      (cond b (act.Tell (UploadError 2)) (act.Resume place number (file_at fs place).received))
      (act.Tell (UploadError 2)))
      (act.Tell (UploadError 12)))
      (same place)

  upload_same : (size : ℕ) (info : List ℕ) (fs : List File) → on_upload links' size info fs ≡ on_upload links size info fs
  unfolding on_upload
  upload_same size info fs =
      ap (λ (a : Act). cond (eqb size 8) (cond (eqb (word_at info 0) 0) (act.Begin (word_at info 4)) a) (act.Tell (UploadError 1)))
      (continued_same (find_of fs (word_at info 0)) (word_at info 0) (word_at info 4) fs)

  uplink_same : (u : Uplink) (kind size : ℕ) (info : List ℕ) (fs : List File) → on_uplink u links' kind size info fs ≡ on_uplink u links kind size info fs
  unfolding on_uplink
  uplink_same u kind size info fs =
      ap (λ (a : Act). cond (eqb kind 0) (on_data u size fs) (cond (eqb kind 1) (on_end u) a)) (upload_same size info fs)

  frame_same : (s : Session) (frame : Frame) (info : List ℕ) (fs : List File) (selected : List ℕ)
      → on_frame s links' frame info fs selected ≡ on_frame s links frame info fs selected
  unfolding on_frame on_packet
  frame_same s Open info fs selected = refl
  frame_same s TooLong info fs selected = refl
  frame_same s (Whole kind size) info fs selected =
      ap
      (λ (a : Act).
      cond (expected s.up s.down kind size)
      (cond (ltb kind 8) a (on_downlink s.down s.count s.next kind size info fs selected)) act.Close)
      (uplink_same s.up kind size info fs)
  frame_same s (Refused k) info fs selected = refl

  pub decide_same : (s : Session) (frame : Frame) (info : List ℕ) (fs : List File) (selected : List ℕ)
      → decide_of s links' frame info fs selected ≡ decide_of s links frame info fs selected
  unfolding decide_of
  decide_same s frame info fs selected =
      ap (λ (a : Act). cond (eqb (length info) 256) a act.Ignore) (frame_same s frame info fs selected)

-- four answers, each the same
pub four_same : (a b c d a' b' c' d' : Bool) → a' ≡ a → b' ≡ b → c' ≡ c → d' ≡ d
    → cond a' true (cond b' true (cond c' true d')) ≡ cond a true (cond b true (cond c true d))
four_same a b c d a' b' c' d' p q r s = rw (p, q, r, s)

-- ---- the sessions in use

module _ (sv : Server) (beyond : (i : ℕ) → sv.sessions ≤ i → i < 4 → (link_of sv i).linked ≡ false) where
  closed_none : (s : Session) (place : ℕ) → s.linked ≡ false → uploads s place ≡ false
  closed_none s place e = rw e

  used_same : (i place : ℕ) → i < 4 → uploads (used_of sv.sessions i (link_of sv i)) place ≡ uploads (link_of sv i) place
  used_same i place h = go (ltb i sv.sessions) refl
    where
      go : (b : Bool) → ltb i sv.sessions ≡ b → uploads (cond b (link_of sv i) closed_session) place ≡ uploads (link_of sv i) place
      go true e = refl
      go false e = sym (closed_none (link_of sv i) place (beyond i (ltb-false i sv.sessions e) h))

  in_use_same : (place : ℕ) → uploading (in_use sv) place ≡ uploading sv.links place
  in_use_same place =
      four_same _ _ _ _ _ _ _ _ (used_same 0 place (omega arith)) (used_same 1 place (omega arith)) (used_same 2 place (omega arith))
      (used_same 3 place (omega arith))

  -- an act is decided on as if all four were in use
  pub act_in_use : (i : ℕ) (s : Session) (frame : Frame) (clock : ℕ) (info : List ℕ) (m : Mem)
      → act_of sv i s frame clock info m
      ≡ put_back sv i m
      (carry_out (decide_of s sv.links frame info (files (take (4 * sv.files) m.table)) (part (i * sv.most) sv.most m.selected)) s sv.last
      clock sv.most (size_in frame) info (parts_of sv i m))
  unfolding act_of
  act_in_use i s frame clock info m =
      ap (λ (a : Act). put_back sv i m (carry_out a s sv.last clock sv.most (size_in frame) info (parts_of sv i m)))
      (decide_same sv.links (in_use sv) in_use_same s frame info (files (take (4 * sv.files) m.table))
      (part (i * sv.most) sv.most m.selected))
