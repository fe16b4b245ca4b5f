-- Each call does to the files what its answer and its packets say, and leaves its session with the bytes and the number that they say. Assumes nothing.
use mathlib.Core.Path.{◌≡◌, refl, sym, ap, ap₂, ◌∙◌, subst}
use mathlib.Core.Bool.{Bool, true, false, cond}
use mathlib.Core.List.{List, [], ◌++◌}
use mathlib.Core.Option.{Option, none, some}
use Prim.Native.Nat.{ℕ, ◌+◌, ◌*◌, ◌-◌, ◌/◌, ◌%◌, ◌≤◌, ◌<◌}
use native.Mathlib.Omega.{arith}
use borrow.Author.Tests.{eqb-true}
use lib.Dec.{eqb, ltb}
use lib.ListN.{length, take, drop, length-set}
use lib.Seq.{take-length}
use Rattle.packet.specs.Packet.{packet_of}
use Rattle.packet.specs.Frame.{packet, too_long}
use Rattle.packet.specs.Frame as frame
use Rattle.table.specs.Given.{most_given}
use Rattle.session.specs.declared.reply.Reply.{Reply}
use Rattle.session.specs.declared.reply.Reply.TheVariants as reply
use Rattle.session.specs.declared.reply.Answer.{Answer}
use Rattle.session.specs.declared.reply.Answer.TheVariants as answer
use Rattle.session.specs.Reply.{Told, told, tell, sent_info}
use Rattle.calls.specs.Call.{Call, login, receive, request, lose}
use Rattle.model.specs.State.{File, Downlink, no_download, sending, ended, aborting, listing, Session, closed_session, fresh_session, with_down, with_held}
use Rattle.model.specs.State.{Model, session_at, with_session, in_session, Turn, Stepped, stepped}
use Rattle.model.specs.Files.{find}
use Rattle.model.specs.Downlink.{data_due, directory_of, listing_due, on_request}
use Rattle.model.specs.Step.{on_packet, ends_in, on_event, refusal, unless, step}
use Rattle.steps.specs.Parts.{sent_by, type_of}
use Rattle.steps.specs.Sound.{Sound}
use Rattle.steps.specs.Naming.{Named}
use Rattle.steps.proofs.Cutting.{session_there, link_held}
use Rattle.steps.proofs.Naming.{down_moves}
use Rattle.accepted.specs.Exchange.{session_of}
use Rattle.accepted.specs.Link.{taken_by, behind, received_by, anew_by, bytes_by, heard_by, info_of}
use Rattle.accepted.specs.Events.{Event, nothing, given, added, finished, dropped, named_by, none_by, upload_by, on_quiet, on_answer, event_by}
use Rattle.accepted.specs.Effect.{Meets, Effect}
use Rattle.accepted.specs.Agreement.{number_of}
use Rattle.accepted.proofs.Hearing.{taken_ends}
use Rattle.accepted.proofs.Packets.{no_effect, up_left, held_left, Offer, Tells, packet_tells}

-- ---- the answer of a reply

-- it says how many bytes were taken
data Answers (taken : ℕ) (a : Answer) : Type 0 where
  quiet : a ≡ answer.Quiet taken → Answers taken a
  sent : (size : ℕ) → a ≡ answer.Sent taken size → Answers taken a
  closed : a ≡ answer.Closed taken → Answers taken a

tell_answers : (r : Reply) (taken : ℕ) (out : List ℕ) → Answers taken (tell r taken out).answer
unfolding tell
tell_answers reply.Nothing taken out = quiet refl
tell_answers reply.Closing taken out = closed refl
tell_answers reply.DataEnd taken out = sent _ refl
tell_answers (reply.Login c) taken out = sent _ refl
tell_answers (reply.Go k offset) taken out = sent _ refl
tell_answers (reply.UploadError e) taken out = sent _ refl
tell_answers reply.Ack taken out = sent _ refl
tell_answers (reply.Nak e) taken out = sent _ refl
tell_answers (reply.DownloadError e) taken out = sent _ refl
tell_answers reply.Aborted taken out = sent _ refl
tell_answers reply.Completed taken out = sent _ refl
tell_answers (reply.Selected c) taken out = sent _ refl

module _ (taken : ℕ) (input was : List ℕ) where
  taken_is : (a : Answer) → Answers taken a → taken_by a input ≡ take taken input
  unfolding taken_by
  taken_is a (quiet e) = rw e
  taken_is a (sent size e) = rw e
  taken_is a (closed e) = rw e

  none_behind : (a : Answer) (v : frame.Event) → ends_in (was ++ take taken input) ≡ some v → Answers taken a → received_by a input was ≡ []
  unfolding received_by behind
  none_behind a v h (quiet e) = rw (e, h)
  none_behind a v h (sent size e) = rw (e, h)
  none_behind a v h (closed e) = rw e

-- ---- DATA is no UL_GO_RESP

data_offer : (bytes : List ℕ) (taken : ℕ) (out info : List ℕ) (m' : Model) → Offer (sent_info 0 bytes taken out) info m'
unfolding sent_by packet_of
data_offer bytes taken out info m' e = absurd (go (length bytes) (out-kind e))
  where
    out-kind : type_of (take (2 + length bytes) (packet_of 0 bytes ++ drop (2 + length bytes) out)) ≡ 4 → (0 + 32 * (length bytes / 256)) % 32 ≡ 4
    out-kind e = sym (ap (λ (b : ℕ). b % 32) (lib.Seq.get_or-take (2 + length bytes) (packet_of 0 bytes ++ drop (2 + length bytes) out) 1 0 (omega arith))) ∙ e

    go : (n : ℕ) → (0 + 32 * (n / 256)) % 32 ≡ 4 → ⊥
    go n e = omega (arith, e)

-- ---- what a call does, by what it is told and leaves

pub record Acts (m : Model) (c : Call) (x : Stepped) : Type 0 where
  pub effect : Effect
      (event_by (number_of (session_at m (session_of c)).up) (heard_by c x.told.answer (session_at m (session_of c)).held) c x.told.answer x.told.out)
      m x.after
  pub under : number_of (session_at x.after (session_of c)).up
      ≡ upload_by c x.told.answer x.told.out (number_of (session_at m (session_of c)).up)
  pub held : (session_at x.after (session_of c)).held ≡ bytes_by c x.told.answer (session_at m (session_of c)).held
  pub waits : ends_in (session_at x.after (session_of c)).held ≡ none
  pub offer : Offer x.told (info_of (heard_by c x.told.answer (session_at m (session_of c)).held)) x.after

none_waits : ends_in [] ≡ none
unfolding ends_in
none_waits = refl

waits_as : (held bytes : List ℕ) → held ≡ bytes → ends_in bytes ≡ none → ends_in held ≡ none
waits_as held bytes e w = ap ends_in e ∙ w

module _ (m : Model) where
  -- a call that is refused
  refused : (c : Call) (r : ℕ) (out : List ℕ) → ends_in (session_at m (session_of c)).held ≡ none → Acts m c (stepped (told (answer.Refused r) out) m)
  unfolding on_answer named_by none_by received_by anew_by sent_by
  refused (login session clock out) r o w =
      record { effect = no_effect m nothing m refl refl refl refl; under = refl; held = refl; waits = w; offer = λ e. absurd (omega (arith, e)) }
  refused (receive session clock input out) r o w =
      record { effect = no_effect m nothing m refl refl refl refl; under = refl; held = refl; waits = w; offer = λ e. absurd (omega (arith, e)) }
  refused (request session out) r o w =
      record { effect = no_effect m nothing m refl refl refl refl; under = refl; held = refl; waits = w; offer = λ e. absurd (omega (arith, e)) }
  refused (lose session) r o w =
      record { effect = no_effect m nothing m refl refl refl refl; under = refl; held = refl; waits = w; offer = λ e. absurd (omega (arith, e)) }

  through : (c : Call) (n : ℕ) (out : List ℕ) (x : Stepped) → ends_in (session_at m (session_of c)).held ≡ none → (n ≡ 0 → Acts m c x)
      → Acts m c (unless n m out x)
  unfolding unless
  through c n out x w f = go (eqb n 0) refl
    where
      go : (b : Bool) → eqb n 0 ≡ b → Acts m c (cond b x (stepped (told (answer.Refused n) out) m))
      go true e = f (eqb-true n 0 e)
      go false e = refused c n out w

  -- ---- login, lose, request

  login_acts : (session clock : ℕ) (out : List ℕ) → session - 1 < length m.sessions
      → Acts m (login session clock out) (stepped (tell (reply.Login clock) 0 out) (with_session m (session - 1) fresh_session))
  unfolding tell none_by anew_by packet_of sent_by
  login_acts session clock out there =
      record {
        effect = no_effect m nothing (with_session m (session - 1) fresh_session) refl refl refl refl;
        under = up_left m (session - 1) there fresh_session;
        held = held_left m (session - 1) there fresh_session;
        waits = waits_as _ [] (held_left m (session - 1) there fresh_session) none_waits;
        offer = λ e. absurd (omega (arith, e));
      }

  lose_acts : (session : ℕ) → session - 1 < length m.sessions
      → Acts m (lose session) (stepped (tell reply.Nothing 0 []) (with_session m (session - 1) closed_session))
  unfolding tell none_by anew_by packet_of sent_by
  lose_acts session there =
      record {
        effect = no_effect m nothing (with_session m (session - 1) closed_session) refl refl refl refl;
        under = up_left m (session - 1) there closed_session;
        held = held_left m (session - 1) there closed_session;
        waits = waits_as _ [] (held_left m (session - 1) there closed_session) none_waits;
        offer = λ e. absurd (omega (arith, e));
      }

  module _ (session : ℕ) (out : List ℕ) (there : session - 1 < length m.sessions) (w : ends_in (session_at m (session - 1)).held ≡ none) where
    abbrev Due : Stepped → Type 0
    Due x = Acts m (request session out) x

    due_stays : (t : Told) → ((m' : Model) → Offer t [] m') → Due (stepped t m)
    due_stays t o = record { effect = no_effect m nothing m refl refl refl refl; under = refl; held = refl; waits = w; offer = o m }

    due_moves : (t : Told) (d : Downlink) → ((m' : Model) → Offer t [] m')
        → Due (stepped t (with_session m (session - 1) (with_down d (session_at m (session - 1)))))
    due_moves t d o =
        let x = with_down d (session_at m (session - 1)) in
        record {
          effect = no_effect m nothing (with_session m (session - 1) x) refl refl refl refl;
          under = up_left m (session - 1) there x;
          held = held_left m (session - 1) there x;
          waits = waits_as _ _ (held_left m (session - 1) there x) w;
          offer = o (with_session m (session - 1) x);
        }

    either : (b : Bool) (x y : Stepped) → Due x → Due y → Due (cond b x y)
    either true x y f g = f
    either false x y f g = g

    due_acts : (d : Downlink) → Due (on_request d m (session - 1) out)
    unfolding on_request data_due listing_due tell packet_of sent_by
    due_acts no_download = due_stays (tell reply.Nothing 0 out) (λ m' e. absurd (omega (arith, e)))
    due_acts (sending n at) = go (find n m.files)
      where
        go : (f : Option File) → Due (data_due f m (session - 1) n at out)
        go none = due_stays (tell reply.Nothing 0 out) (λ m' e. absurd (omega (arith, e)))
        go (some f) =
            either (ltb at (length f.bytes)) _ _
            (due_moves (sent_info 0 (take 256 (drop at f.bytes)) 0 out) (sending n (at + length (take 256 (drop at f.bytes))))
            (λ m'. data_offer (take 256 (drop at f.bytes)) 0 out [] m'))
            (due_moves (tell reply.DataEnd 0 out) (ended n) (λ m' e. absurd (omega (arith, e))))
    due_acts (ended n) = due_stays (tell reply.Nothing 0 out) (λ m' e. absurd (omega (arith, e)))
    due_acts (aborting n) = due_moves (tell reply.Aborted 0 out) no_download (λ m' e. absurd (omega (arith, e)))
    due_acts (listing long ns at) =
        let info = take 256 (drop at (directory_of long ns m.files)) in
        either (ltb at (length (directory_of long ns m.files))) _ _
        (due_moves (sent_info 0 info 0 out) (listing long ns (at + length info)) (λ m'. data_offer info 0 out [] m'))
        (due_moves (tell reply.DataEnd 0 out) no_download (λ m' e. absurd (omega (arith, e))))

-- ---- receive

-- what an event says of a state, it says of one that differs in what a session holds
meets_over : (m : Model) (i : ℕ) (x : Session) (e : Event) → Meets e (with_session m i x) → Meets e m
meets_over m i x nothing k = tt
meets_over m i x (given n size) k = record { next = k.next; few = k.few; place = k.place; room = k.room }
meets_over m i x (added n bytes) k = record { own = k.own; room = k.room }
meets_over m i x (finished n clock) k = record { own = k.own; valid = k.valid }
meets_over m i x (dropped n) k = k

effect_over : (m : Model) (i : ℕ) (x : Session) (e : Event) (m' : Model) → Effect e (with_session m i x) m' → Effect e m m'
effect_over m i x e m' k = record { before = meets_over m i x e k.before; files = k.files; number = k.number; time = k.time }

module _ (m : Model) (s : Named m) (sound : Sound m) (bound : m.last_number ≤ most_given) (session clock : ℕ) (input out : List ℕ)
    (there : session - 1 < length m.sessions) (w : ends_in (session_at m (session - 1)).held ≡ none) where
  abbrev i : ℕ
  i = session - 1

  abbrev held : List ℕ
  held = (session_at m i).held

  abbrev up : ℕ
  up = number_of (session_at m i).up

  abbrev Ok : Stepped → Type 0
  Ok x = Acts m (receive session clock input out) x

  waiting : ends_in (held ++ input) ≡ none → Ok (stepped (tell reply.Nothing (length input) out) (in_session i (with_held (held ++ input)) m))
  unfolding tell on_answer on_quiet named_by taken_by received_by behind sent_by
  waiting e =
      let z : ends_in (held ++ take (length input) input) ≡ none = ap (λ (bs : List ℕ). ends_in (held ++ bs)) (take-length input) ∙ e in
      let x = with_held (held ++ input) (session_at m i) in
      record {
        effect = no_effect m _ (with_session m i x) (rw z) refl refl refl;
        under = up_left m i there x;
        held = held_left m i there x ∙ sym (ap₂ behind z (ap (λ (bs : List ℕ). held ++ bs) (take-length input)));
        waits = waits_as _ (held ++ input) (held_left m i there x) e;
        offer = λ d. absurd (omega (arith, d));
      }

  too_long_closes : Ok (stepped (tell reply.Closing (2 - length held) out) (with_session m i closed_session))
  unfolding tell on_answer named_by received_by sent_by
  too_long_closes =
      record {
        effect = no_effect m nothing (with_session m i closed_session) refl refl refl refl;
        under = up_left m i there closed_session;
        held = held_left m i there closed_session;
        waits = waits_as _ [] (held_left m i there closed_session) none_waits;
        offer = λ e. absurd (omega (arith, e));
      }

  module _ (kind : ℕ) (info : List ℕ) (came : ends_in (held ++ input) ≡ some (packet kind info)) where
    abbrev M : Model
    M = in_session i (with_held []) m

    abbrev t : Turn
    t = on_packet M i clock kind info

    abbrev taken : ℕ
    taken = 2 + length info - length held

    own : session_at M i ≡ with_held [] (session_at m i)
    own = link_held m i there []

    up_is : number_of (session_at M i).up ≡ up
    up_is = ap (λ (k : Session). number_of k.up) own

    inside : i < length M.sessions
    inside = subst (λ (n : ℕ). i < n) (sym (length-set m.sessions i (with_held [] (session_at m i)))) there

    tells : Tells M i taken out clock kind info t
    tells =
        packet_tells M i inside (ap (λ (k : Session). k.held) own)
        (down_moves m i there s (with_held [] (session_at m i)) refl (s.down i) (s.selected i)) (record { numbers = sound.numbers; room = sound.room }) bound
        taken out clock info kind

    answers : Answers taken (tell t.reply taken out).answer
    answers = tell_answers t.reply taken out

    ends : ends_in (held ++ take taken input) ≡ some (packet kind info)
    ends = taken_ends held input (packet kind info) w came

    heard : ends_in (held ++ taken_by (tell t.reply taken out).answer input) ≡ some (packet kind info)
    heard = ap (λ (bs : List ℕ). ends_in (held ++ bs)) (taken_is taken input held _ answers) ∙ ends

    -- the event by the session's own upload and what is heard
    abbrev event_at : ℕ → Option frame.Event → Event
    event_at n h = on_answer (tell t.reply taken out).answer (tell t.reply taken out).out n h clock

    event_is : event_at (number_of (session_at M i).up) (some (packet kind info))
        ≡ event_at up (ends_in (held ++ taken_by (tell t.reply taken out).answer input))
    event_is = ap₂ event_at up_is (sym heard)

    packet_acts : Ok (stepped (tell t.reply taken out) t.after)
    packet_acts =
        record {
          effect = subst (λ (e : Event). Effect e m t.after) event_is
              (effect_over m i (with_held [] (session_at m i)) (event_at (number_of (session_at M i).up) (some (packet kind info))) t.after tells.effect);
          under = tells.names ∙ ap (named_by (tell t.reply taken out).answer (tell t.reply taken out).out) up_is;
          held = tells.held ∙ sym (none_behind taken input held _ (packet kind info) ends answers);
          waits = waits_as _ [] tells.held none_waits;
          offer = subst (λ (h : Option frame.Event). Offer (tell t.reply taken out) (info_of h) t.after) (sym heard) tells.offer;
        }

  receive_acts : (e : Option frame.Event) → ends_in (held ++ input) ≡ e → Ok (on_event e m i clock held input out)
  unfolding on_event
  receive_acts none e = waiting e
  receive_acts (some too_long) e = too_long_closes
  receive_acts (some (packet kind info)) e = packet_acts kind info e

-- ---- every call

module _ (m : Model) (s : Named m) (sound : Sound m) (bound : m.last_number ≤ most_given)
    (w : (i : ℕ) → ends_in (session_at m i).held ≡ none) where
  -- THEOREM
  pub call_acts : (c : Call) → Acts m c (step m c)
  unfolding step
  call_acts (login session clock out) =
      through m (login session clock out) (refusal m session false (length out)) out _ (w (session - 1))
      (λ z. login_acts m session clock out (session_there m session false (length out) z))
  call_acts (receive session clock input out) =
      through m (receive session clock input out) (refusal m session true (length out)) out _ (w (session - 1))
      (λ z.
      receive_acts m s sound bound session clock input out (session_there m session true (length out) z) (w (session - 1))
      (ends_in ((session_at m (session - 1)).held ++ input)) refl)
  call_acts (request session out) =
      through m (request session out) (refusal m session true (length out)) out _ (w (session - 1))
      (λ z. due_acts m session out (session_there m session true (length out) z) (w (session - 1)) (session_at m (session - 1)).down)
  call_acts (lose session) =
      through m (lose session) (refusal m session true 258) [] _ (w (session - 1))
      (λ z. lose_acts m session (session_there m session true 258 z))
