-- Bytes for a session's uplink leave its downlink, its selection and its place in it as they were, unless they close the link, and what is sent then is
-- neither DATA nor DATA_END. Assumes nothing.
use mathlib.Core.Path.{◌≡◌, refl, sym, ap, ◌∙◌, subst}
use mathlib.Core.Bool.{Bool, true, false, cond}
use mathlib.Core.List.{List, [], ◌∷◌, ◌++◌}
use mathlib.Core.Option.{Option, none, some}
use Prim.Native.Nat.{ℕ, ◌+◌, ◌-◌, ◌*◌, ◌/◌, ◌%◌, ◌≤◌, ◌<◌}
use native.Mathlib.Omega.{arith}
use borrow.Author.Tests.{ne_eqb}
use lib.Dec.{eqb, leb, ltb}
use lib.ListN.{length, drop, length-set}
use lib.Seq.{get_or-set_same, take_at}
use Rattle.numbers.specs.Numbers.{four}
use Rattle.packet.specs.Packet.{packet_of}
use Rattle.packet.specs.Frame.{Event, packet, too_long}
use Rattle.header.specs.Header.{verdict}
use Rattle.table.specs.Given.{blocks_for, most_given}
use Rattle.session.specs.declared.reply.Reply.{Reply}
use Rattle.session.specs.declared.reply.Reply.TheVariants as reply
use Rattle.session.specs.Reply.{Told, told, sent_info, tell}
use Rattle.decide.specs.Words.{word_at}
use Rattle.calls.specs.Call.{receive}
use Rattle.model.specs.State.{File, Uplink, no_upload, receiving, ignoring, Session, closed_session, with_up, with_held, Model, session_at, in_session}
use Rattle.model.specs.State.{Turn, turn, closing, Stepped}
use Rattle.model.specs.Files.{find, free, uploading}
use Rattle.model.specs.Uplink.{upload_new, upload_continued, on_upload_cmd, data_to, on_data, data_end_to, on_data_end}
use Rattle.model.specs.Step.{if_no_upload, by_type, on_packet, ends_in, on_event, refusal, unless, step}
use Rattle.steps.specs.Parts.{sent_by, type_of}
use Rattle.transfers.specs.Downloads.{for_uplink, data_in}
use Rattle.steps.proofs.Cutting.{link_held}
use Rattle.steps.proofs.Calls.{open_refusal, short_step, goes}

pub clash : {A : Type 0} → false ≡ true → A
clash e = let z : ◌≡◌ {A = ℕ} 0 1 = cc in absurd (omega arith)

-- ---- packets

-- the packet of what a call tells
abbrev pub sent_in : Told → List ℕ
sent_in t = sent_by t.answer t.out

pub sent_info_law : (kind : ℕ) (info : List ℕ) (taken : ℕ) (out : List ℕ) → sent_in (sent_info kind info taken out) ≡ packet_of kind info
unfolding sent_by packet_of
sent_info_law kind info taken out = take_at (packet_of kind info) (drop (2 + length info) out) (2 + length info) (omega arith)

-- neither DATA nor DATA_END
pub record NoData (sent : List ℕ) : Type 0 where
  pub none : data_in sent ≡ []
  pub no_end : eqb (type_of sent) 1 ≡ false

pub silence : NoData []
unfolding data_in
silence = record { none = refl; no_end = refl }

-- a packet of another type
typed : (kind : ℕ) (info : List ℕ) → 2 ≤ kind → kind < 32 → NoData (packet_of kind info)
unfolding data_in packet_of
typed kind info low high =
    record {
      none = rw (ne_eqb ((kind + 32 * (length info / 256)) % 32) 0 (λ e. omega arith));
      no_end = ne_eqb ((kind + 32 * (length info / 256)) % 32) 1 (λ e. omega arith);
    }

other_sent : (kind : ℕ) (info : List ℕ) (taken : ℕ) (out : List ℕ) → 2 ≤ kind → kind < 32 → NoData (sent_in (sent_info kind info taken out))
other_sent kind info taken out low high = rw (sent_info_law kind info taken out) (typed kind info low high)

-- ---- the replies to the uplink

data OfUplink : Reply → Type 0 where
  nothing : OfUplink reply.Nothing
  closes : OfUplink reply.Closing
  goes_on : (n offset : ℕ) → OfUplink (reply.Go n offset)
  refuses : (e : ℕ) → OfUplink (reply.UploadError e)
  accepts : OfUplink reply.Ack
  discards : (e : ℕ) → OfUplink (reply.Nak e)

reply_sent : (r : Reply) → OfUplink r → (taken : ℕ) (out : List ℕ) → NoData (sent_in (tell r taken out))
unfolding tell sent_by
reply_sent reply.DataEnd x' taken out = elim x' [ ]
reply_sent (reply.Login _) x3 taken out = elim x3 [ ]
reply_sent (reply.DownloadError _) x4 taken out = elim x4 [ ]
reply_sent reply.Aborted x4 taken out = elim x4 [ ]
reply_sent reply.Completed x5 taken out = elim x5 [ ]
reply_sent (reply.Selected _) x7 taken out = elim x7 [ ]
reply_sent reply.Nothing nothing taken out = silence
reply_sent reply.Closing closes taken out = silence
reply_sent (reply.Go n offset) (goes_on _ _) taken out = other_sent 4 (four n ++ four offset) taken out (omega arith) (omega arith)
reply_sent (reply.UploadError e) (refuses _) taken out = other_sent 5 (e ∷ []) taken out (omega arith) (omega arith)
reply_sent reply.Ack accepts taken out = other_sent 6 [] taken out (omega arith) (omega arith)
reply_sent (reply.Nak e) (discards _) taken out = other_sent 7 (e ∷ []) taken out (omega arith) (omega arith)

-- ---- a packet for the uplink

-- a session with the same selection, and the same place in it
pub record SamePlace (s t : Session) : Type 0 where
  pub selected : t.selected ≡ s.selected
  pub next : t.next ≡ s.next

pub place_by : (s t : Session) → SamePlace s t → (u : Session) → u ≡ t → SamePlace s u
place_by s t p u e = subst (SamePlace s) (sym e) p

pub place_on : (s t u : Session) → SamePlace s t → SamePlace t u → SamePlace s u
place_on s t u p q = record { selected = q.selected ∙ p.selected; next = q.next ∙ p.next }

-- and the same downlink
pub record SameDown (s t : Session) : Type 0 where
  pub down : t.down ≡ s.down
  pub place : SamePlace s t

module _ (m : Model) (i : ℕ) (there : i < length m.sessions) where
  -- the reply is one to the uplink; the downlink is as it was, unless the link is closed
  record Aside (t : Turn) : Type 0 where
    reply : OfUplink t.reply
    down : (session_at t.after i).linked ≡ true → SameDown (session_at m i) (session_at t.after i)

  unmoved : SameDown (session_at m i) (session_at m i)
  unmoved = record { down = refl; place = record { selected = refl; next = refl } }

  by : (b : Bool) (x y : Turn) → Aside x → Aside y → Aside (cond b x y)
  by true x y f g = f
  by false x y f g = g

  stays : (r : Reply) → OfUplink r → Aside (turn r m)
  stays r o = record { reply = o; down = λ _. unmoved }

  -- the uplink moves, whatever becomes of the files
  moves : (u : Uplink) (r : Reply) (x : Model) → OfUplink r → session_at x i ≡ with_up u (session_at m i) → Aside (turn r x)
  moves u r x o e =
      record {
        reply = o;
        down = λ _.
            subst (SameDown (session_at m i)) (sym e) (record { down = refl; place = record { selected = refl; next = refl } });
      }

  up_is : (u : Uplink) → session_at (in_session i (with_up u) m) i ≡ with_up u (session_at m i)
  up_is u = get_or-set_same m.sessions i (with_up u (session_at m i)) closed_session there

  closed : Aside (closing m i)
  closed =
      record {
        reply = closes;
        down = λ e. clash (sym (ap (λ (s : Session). s.linked) (get_or-set_same m.sessions i closed_session closed_session there)) ∙ e);
      }

  new_aside : (size : ℕ) → Aside (upload_new m i size)
  unfolding upload_new
  new_aside size =
      by (eqb m.last_number most_given) _ _ (stays _ (refuses 3))
      (by (ltb (length m.files) m.places) _ _
      (by (leb (blocks_for size) (free m)) _ _ (moves (receiving (m.last_number + 1)) _ _ (goes_on _ _) (up_is _)) (stays _ (refuses 13)))
      (stays _ (refuses 13)))

  continued_aside : (f : Option File) (n size : ℕ) → Aside (upload_continued f m i n size)
  unfolding upload_continued
  continued_aside none n size = stays _ (refuses 4)
  continued_aside (some f) n size =
      by (eqb f.time 0) _ _
      (by (eqb f.size size) _ _
      (by (uploading m.sessions n) _ _ (stays _ (refuses 2)) (moves (receiving n) _ _ (goes_on _ _) (up_is _)))
      (stays _ (refuses 2)))
      (stays _ (refuses 12))

  command_aside : (info : List ℕ) → Aside (on_upload_cmd m i info)
  unfolding on_upload_cmd
  command_aside info =
      by (eqb (length info) 8) _ _
      (by (eqb (word_at info 0) 0) _ _ (new_aside (word_at info 4))
      (continued_aside (find (word_at info 0) m.files) (word_at info 0) (word_at info 4)))
      (stays _ (refuses 1))

  data_aside : (u : Uplink) (info : List ℕ) → Aside (on_data u m i info)
  unfolding on_data data_to
  data_aside no_upload info = closed
  data_aside (receiving n) info = go (find n m.files)
    where
      go : (f : Option File) → Aside (data_to f m i n info)
      go none = stays _ nothing
      go (some f) =
          by (ltb f.size (length f.bytes + length info)) _ _ (moves ignoring _ _ (discards 16) (up_is _))
          (record { reply = nothing; down = λ _. unmoved })
  data_aside ignoring info = stays _ nothing

  end_aside : (u : Uplink) (clock : ℕ) → Aside (on_data_end u m i clock)
  unfolding on_data_end data_end_to
  end_aside no_upload clock = closed
  end_aside (receiving n) clock = go (find n m.files)
    where
      go : (f : Option File) → Aside (data_end_to f m i n clock)
      go none = stays _ nothing
      go (some f) =
          by (eqb (verdict f.bytes f.size) 0) _ _
          (by (eqb m.last_time most_given) _ _ (moves no_upload _ _ (discards 3) (up_is _)) (moves no_upload _ _ accepts (up_is _)))
          (moves no_upload _ _ (discards _) (up_is _))
  end_aside ignoring clock = moves no_upload _ _ nothing (up_is _)

  if_no_upload_law : (u : Uplink) (x : Turn) → Aside x → Aside (if_no_upload u x (closing m i))
  if_no_upload_law no_upload x f = f
  if_no_upload_law (receiving n) x f = closed
  if_no_upload_law ignoring x f = closed

  -- one of three tests is true
  one_of : (a b c : Bool) (x y z w : Turn) → cond a true (cond b true c) ≡ true → Aside x → Aside y → Aside z → Aside (cond a x (cond b y (cond c z w)))
  one_of true b c x y z w e f g h = f
  one_of false true c x y z w e f g h = g
  one_of false false true x y z w e f g h = h
  one_of false false false x y z w e f g h = clash e

  packet_aside : (clock kind : ℕ) (info : List ℕ) → for_uplink (some (packet kind info)) ≡ true → Aside (on_packet m i clock kind info)
  unfolding by_type for_uplink
  packet_aside clock kind info e =
      one_of (eqb kind 0) (eqb kind 1) (eqb kind 3) _ _ _ _ e (data_aside (session_at m i).up info)
      (by (eqb (length info) 0) _ _ (end_aside (session_at m i).up clock) closed)
      (if_no_upload_law (session_at m i).up _ (command_aside info))

-- ---- a call

-- session i is sent neither DATA nor DATA_END, and its downlink, selection and place are as they were, unless the link is closed
pub record Beside (m : Model) (i : ℕ) (t : Stepped) : Type 0 where
  pub sent : NoData (sent_in t.told)
  pub down : (session_at t.after i).linked ≡ true → SameDown (session_at m i) (session_at t.after i)

held_down : (m : Model) (i : ℕ) → i < length m.sessions → (bytes : List ℕ) → SameDown (session_at m i) (session_at (in_session i (with_held bytes) m) i)
held_down m i there bytes =
    subst (SameDown (session_at m i)) (sym (link_held m i there bytes)) (record { down = refl; place = record { selected = refl; next = refl } })

event_beside : (m : Model) (i : ℕ) → i < length m.sessions → (e : Option Event) (clock : ℕ) (held input out : List ℕ) → for_uplink e ≡ true
    → Beside m i (on_event e m i clock held input out)
unfolding on_event for_uplink
event_beside m i there none clock held input out e =
    record {
      sent = reply_sent reply.Nothing nothing (length input) out;
      down = λ _. held_down m i there (held ++ input);
    }
event_beside m i there (some too_long) clock held input out e = clash e
event_beside m i there (some (packet kind info)) clock held input out e =
    let a =
    packet_aside (in_session i (with_held []) m) i (rw (length-set m.sessions i (with_held [] (session_at m i))) there) clock kind info e in
    record {
      sent = reply_sent _ a.reply (2 + length info - length held) out;
      down = λ l.
          let d = a.down l in
          let h = held_down m i there [] in
          record { down = d.down ∙ h.down; place = place_on _ _ _ h.place d.place };
    }

-- THEOREM: bytes for the uplink of an open session leave its downlink alone
pub uplink_beside : (m : Model) (session clock : ℕ) (input out : List ℕ) → 1 ≤ session → session - 1 < length m.sessions
    → (session_at m (session - 1)).linked ≡ true
    → for_uplink (ends_in ((session_at m (session - 1)).held ++ input)) ≡ true
    → Beside m (session - 1) (step m (receive session clock input out))
unfolding step sent_by
uplink_beside m session clock input out one there linked e = go (ltb (length out) 258) refl
  where
    i : ℕ
    i = session - 1

    t : Stepped
    t = on_event (ends_in ((session_at m (session - 1)).held ++ input)) m (session - 1) clock (session_at m (session - 1)).held input out

    refused_by_law : (b : Bool) → ltb (length out) 258 ≡ b → refusal m session true (length out) ≡ cond b 32 0
    refused_by_law b q = open_refusal m session (length out) one there linked ∙ ap (λ (x : Bool). cond x 32 0) q

    go : (b : Bool) → ltb (length out) 258 ≡ b → Beside m (session - 1) (unless (refusal m session true (length out)) m out t)
    go true q =
        rw (short_step (refusal m session true (length out)) m out t (refused_by_law true q))
        (record { sent = silence; down = λ _. unmoved m (session - 1) there })
    go false q =
        rw (goes (refusal m session true (length out)) m out t (refused_by_law false q))
        (event_beside m (session - 1) there (ends_in ((session_at m (session - 1)).held ++ input)) clock (session_at m (session - 1)).held input out e)
