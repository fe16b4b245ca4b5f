-- A session that holds no byte of a packet: what it holds after a login, a lost link, a request and the end of a packet. Assumes nothing.
use Rattle.std.specs.Prelude.{Result, Ok, Err}
use mathlib.Core.Path.{◌≡◌, refl, sym, ap, ◌∙◌, subst}
use mathlib.Core.Bool.{Bool, true, false, cond}
use mathlib.Core.List.{List, [], ◌∷◌}
use mathlib.Core.Option.{none, some}
use Prim.Native.Nat.{ℕ, suc, ◌+◌, ◌*◌, ◌≤◌, ◌<◌}
use native.Mathlib.Omega.{arith}
use borrow.Author.Tests.{eqb-true, eqb-false}
use lib.Dec.{eqb, ltb}
use lib.ListN.{length, take, replicate, length-replicate}
use lib.Seq.{get_or-set_same}
use Rattle.packet.specs.Machine.{Step, more, ends, Call, called, call}
use Rattle.packet.specs.Frame.{Held, Event, none_held, byte}
use Rattle.session.specs.declared.state.Session.{Session}
use Rattle.session.specs.declared.reply.Reply.TheVariants as reply
use Rattle.session.specs.State.{closed_session, fresh_session, with_held, with_selection}
use Rattle.std.proofs.Common.{Option, Some, None, Result, Ok, Err}
use Rattle.table.specs.Given.{next_number, upload_time}
use Rattle.files.specs.Uploads as filesUp
use Rattle.files.specs.Completion.{check_of, complete_of, destinations_at}
use Rattle.files.specs.Selection.{count_in, refusal_in, Selects, select_of}
use Rattle.carry.specs.declared.turn.Last.{Last}
use Rattle.carry.specs.declared.turn.Turn.{Turn}
use Rattle.carry.specs.Turn.{turn_of, Mem, writes, chooses}
use Rattle.carry.specs.Upload as upload
use Rattle.carry.specs.Download as download
use Rattle.carry.specs.Carry.{on_frees, on_writes, on_moves, on_chooses, carry_out}
use Rattle.decide.specs.declared.act.Act.{Act}
use Rattle.decide.specs.declared.act.Act.TheVariants as act
use Rattle.server.specs.declared.Server.{Server}
use Rattle.server.specs.State.{Lent, lent, Outcome, link_of, with_link, part, with_part}
use Rattle.server.specs.Check as check
use Rattle.server.specs.Turns.{put_back, act_of}
use Rattle.server.specs.Calls.{on_login, login_of, on_lose, lose_of, receive_of, login_by, lose_by}
use Rattle.history.specs.Calls as history
use Rattle.history.specs.Calls.{login, receive, request, lose, call_of}
use Rattle.history.specs.Good.{Good}
use Rattle.promises.specs.Parts.{session_in}
use Rattle.promises.specs.Closing.{event_at}
use Rattle.answers.proofs.Checks.{Through, check_through, state_facts}
use Rattle.answers.proofs.Hearing.{Hears, unended, ended, Ended}
use Rattle.cutting.proofs.Parts.{part_own}
use Rattle.cutting.proofs.Others.{part_room}
use Rattle.cutting.proofs.Own.{Free, others_free, request_free}
use Rattle.cutting.proofs.CutCalls.{refused_receive, gone_on}
use Rattle.answers.proofs.Receiving as steps

-- ---- an act leaves the number of bytes held, or closes

abbrev Zero : Turn → Type 0
Zero t = t.session.held ≡ 0

either : (b : Bool) (x y : Turn) → Zero x → Zero y → Zero (cond b x y)
either true x y e f = e
either false x y e f = f

module _ (s : Session) (last : Last) (e : s.held ≡ 0) where
  begun_zero : (b : Result ℕ ℕ) (number : ℕ) → Zero (upload.begun_turn b s last number)
  unfolding upload.begun_turn
  begun_zero (Err n) number = e
  begun_zero (Ok place) number = e

  begin_zero : (g : Option ℕ) (size : ℕ) (map owner table : List ℕ) → Zero (upload.begin_with g s last size map owner table).turn
  unfolding upload.begin_with upload.begun_as
  begin_zero None size map owner table = e
  begin_zero (Some number) size map owner table = begun_zero (filesUp.begin_of map owner table last.number size).answer number

  stored_zero : (refused place offset received : ℕ) → Zero (upload.stored_as refused s last place offset received)
  unfolding upload.stored_as
  stored_zero refused place offset received = either (eqb refused 0) _ _ e e

  store_zero : (place offset received size : ℕ) (info disk owner table : List ℕ)
      → Zero (upload.store_turn s last place offset received size info disk owner table).turn
  unfolding upload.store_turn upload.appended_as
  store_zero place offset received size info disk owner table = go (ltb (length info) size)
    where
      w : filesUp.Writes
      w = filesUp.append_of disk owner table place (take size info)

      go : (b : Bool)
          → Zero
          (cond b (writes (turn_of s last reply.Nothing) disk table)
          (writes (upload.stored_as w.answer s last place offset (upload.grown received size)) w.disk w.table)).turn
      go true = e
      go false = stored_zero w.answer place offset (upload.grown received size)

  timed_zero : (g : Option ℕ) (place : ℕ) (disk map owner table : List ℕ)
      → Zero (upload.finish_as (upload.timed g) s last place disk map owner table).turn
  unfolding upload.timed upload.finish_as upload.with_disk upload.discard_turn upload.with_blocks upload.accept_turn upload.accepted_as
  timed_zero None place disk map owner table = e
  timed_zero (Some time) place disk map owner table = either (eqb (complete_of disk owner table place time).answer 0) _ _ e e

  finish_zero : (place clock : ℕ) (disk map owner table : List ℕ) → Zero (upload.finish_turn s last place clock disk map owner table).turn
  unfolding upload.judged_at upload.finish_as upload.with_disk upload.discard_turn
  finish_zero place clock disk map owner table = go (eqb (check_of disk owner table place) 0) refl
    where
      go : (b : Bool) → eqb (check_of disk owner table place) 0 ≡ b → Zero (upload.finish_turn s last place clock disk map owner table).turn
      go true q = rw q (timed_zero (upload_time clock last.time) place disk map owner table)
      go false q = rw q e

  select_zero : (most size : ℕ) (info disk owner table selected : List ℕ)
      → Zero (download.select_turn s last most size info disk owner table selected).turn
  unfolding download.select_turn download.selected_as
  select_zero most size info disk owner table selected =
      go (ltb (length info) size) (eqb (refusal_in (select_of (take size info) disk owner table selected most).answer) 0)
    where
      r : Selects
      r = select_of (take size info) disk owner table selected most

      go : (b d : Bool)
          → Zero
          (cond b (chooses (turn_of s last reply.Nothing) selected)
          (cond d (chooses (turn_of (with_selection s (count_in r.answer)) last (reply.Selected (count_in r.answer))) r.selected)
          (chooses (turn_of s last (reply.DownloadError (refusal_in r.answer))) r.selected))).turn
      go true d = e
      go false true = e
      go false false = e

  carried_zero : (a : Act) (clock most size : ℕ) (info : List ℕ) (m : Mem) → Zero (carry_out a s last clock most size info m).turn
  unfolding carry_out on_frees on_writes on_moves on_chooses
  carried_zero act.Close clock most size info m = unfold download.close_turn in refl
  carried_zero act.Ignore clock most size info m = e
  carried_zero (act.Tell r) clock most size info m = e
  carried_zero (act.Begin n) clock most size info m = begin_zero (next_number last.number) n m.map m.owner m.table
  carried_zero (act.Resume place number received) clock most size info m = e
  carried_zero (act.Store place offset received) clock most size info m =
      store_zero place offset received size info m.disk m.owner m.table
  carried_zero (act.Overrun place) clock most size info m = unfold upload.discard_turn in e
  carried_zero act.Stop clock most size info m = e
  carried_zero (act.Finish place) clock most size info m =
      finish_zero place clock m.disk m.map m.owner m.table
  carried_zero act.Select clock most size info m = select_zero most size info m.disk m.owner m.table m.selected
  carried_zero (act.Send place offset lock passed) clock most size info m =
      unfold download.begin_turn in either (ltb (destinations_at m.disk m.owner m.table place) lock) _ _ e e
  carried_zero (act.Confirm place destination) clock most size info m =
      unfold download.confirm_turn in either (ltb (destinations_at m.disk m.owner m.table place) destination) _ _ e e
  carried_zero (act.End r) clock most size info m = e
  carried_zero (act.Abort place) clock most size info m = e
  carried_zero (act.List t long passed) clock most size info m = unfold download.list_turn in e

module _ (sv : Server) (l : Lent) (session clock : ℕ) (input out : List ℕ) (i : ℕ) (t : Through sv l session true (length out) i) where
  turn_zero : (e : Ended (part (i * 258) 258 l.held) (link_of sv i).held input) → Zero (steps.turn_at sv l session clock input out i t e).turn
  unfolding steps.turn_at act_of put_back
  turn_zero e = carried_zero (with_held (link_of sv i) 0) sv.last refl _ clock sv.most _ _ _

-- ---- a session that holds nothing

pub record Bare (sv : Server) (l : Lent) (i : ℕ) : Type 0 where
  pub count : (link_of sv i).held ≡ 0
  pub packet : part (i * 258) 258 l.held ≡ replicate 258 0

-- what bytes end in is then seen from them alone
pub bare_event : (sv : Server) (l : Lent) (i : ℕ) → Bare sv l i → (bytes : List ℕ) → event_at sv l i bytes ≡ (call byte none_held bytes).event
bare_event sv l i b bytes =
    ap (λ (n : ℕ). (call byte (record { count = n; part = part (i * 258) 258 l.held }) bytes).event) b.count
    ∙ ap (λ (p : List ℕ). (call byte (record { count = 0; part = p }) bytes).event) b.packet

no_event : (v : Event) → none ≡ some v → ⊥
no_event v e = let z : ◌≡◌ {A = ℕ} 0 1 = cc in omega arith

module _ (sv : Server) (l : Lent) (good : Good sv l) (i : ℕ) (below : i < sv.sessions) (bare : Bare sv l i) where
  abbrev Left : history.Call → Type 0
  Left c = Bare (call_of sv l c).done.server (call_of sv l c).lent i

  link_below : i < length sv.links
  link_below = let f = state_facts sv l good.fits good.sound in omega (arith, good.links, f.sizes.sessions)

  room : i * 258 + 258 ≤ length l.held
  room = part_room sv l (state_facts sv l good.fits good.sound) i below

  free_bare : (c : history.Call) → Free sv l c i → Left c
  free_bare c f = record { count = f.held ∙ bare.count; packet = f.packet ∙ bare.packet }

  -- a call for another session leaves it so
  by_session : (c : history.Call) → (session_in c ≡ i + 1 → Left c) → Left c
  by_session c own = go (eqb (session_in c) (i + 1)) refl
    where
      go : (t : Bool) → eqb (session_in c) (i + 1) ≡ t → Left c
      go true q = own (eqb-true (session_in c) (i + 1) q)
      go false q = free_bare c (others_free sv l good c i (eqb-false (session_in c) (i + 1) q))

  own_index : (session : ℕ) (wanted : Bool) (room j : ℕ) → session ≡ i + 1 → check.check_of sv l session wanted room ≡ Ok j → j ≡ i
  own_index session wanted room j own e =
      let t = check_through sv l session wanted room j e in omega (arith, t.index, t.from_one)

  pub bare_login : (session clock : ℕ) (out : List ℕ) → Left (login session clock out)
  unfolding login_of login_by on_login
  bare_login session clock out = by_session (login session clock out) (λ own. go own (check.check_of sv l session false (length out)) refl)
    where
      go : session ≡ i + 1 → (k : Result ℕ ℕ) → check.check_of sv l session false (length out) ≡ k → Bare (on_login k sv out clock).done.server l i
      go own (Err n) e = bare
      go own (Ok j) e =
          subst (λ (k : ℕ). Bare (with_link sv k fresh_session) l i) (sym (own_index session false (length out) j own e))
          (record {
            count = ap (λ (s : Session). s.held) (get_or-set_same sv.links i fresh_session closed_session link_below);
            packet = bare.packet;
          })

  pub bare_request : (session : ℕ) (out : List ℕ) → Left (request session out)
  bare_request session out = by_session (request session out) (λ own. free_bare (request session out) (request_free sv l good i session out own))

  pub bare_lose : (session : ℕ) → Left (lose session)
  unfolding lose_of lose_by on_lose
  bare_lose session = by_session (lose session) (λ own. go own (check.check_of sv l session true 258) refl)
    where
      go : session ≡ i + 1 → (k : Result ℕ ℕ) → check.check_of sv l session true 258 ≡ k
          → Bare (on_lose k sv l.selected l.held).done.server
          (lent l.disk l.map l.owner l.table (on_lose k sv l.selected l.held).selected
          (on_lose k sv l.selected l.held).held) i
      go own (Err n) e = bare
      go own (Ok j) e =
          subst
          (λ (k : ℕ).
          Bare (with_link sv k closed_session)
          (lent l.disk l.map l.owner l.table (with_part (k * sv.most) sv.most (replicate sv.most 0) l.selected)
          (with_part (k * 258) 258 (replicate 258 0) l.held)) i)
          (sym (own_index session true 258 j own e))
          (record {
            count = ap (λ (s : Session). s.held) (get_or-set_same sv.links i closed_session closed_session link_below);
            packet = part_own (i * 258) 258 (replicate 258 0) l.held (length-replicate {A = ℕ} 258 0) room;
          })

  -- bytes that end something leave nothing
  pub bare_receive : (session clock : ℕ) (input out : List ℕ) (v : Event) → (session ≡ i + 1 → event_at sv l i input ≡ some v)
      → Left (receive session clock input out)
  bare_receive session clock input out v some-ends =
      by_session (receive session clock input out) (λ own. go own (check.check_of sv l session true (length out)) refl)
    where
      heard : (j : ℕ) → j ≡ i → (e : check.check_of sv l session true (length out) ≡ Ok j) → event_at sv l j input ≡ some v
          → (t : Through sv l session true (length out) j)
          → Hears (part (j * 258) 258 l.held) (link_of sv j).held input
          → Bare (receive_of sv l out session clock input).done.server (receive_of sv l out session clock input).lent j
      heard j here e told t (unended u) = absurd (no_event v (sym (ap (λ (c : Call Held Event). c.event) u.came) ∙ told))
      heard j here e told t (ended h) =
          subst (λ (o : Outcome). Bare o.done.server o.lent j)
          (sym (gone_on sv l session clock input out j e ∙ steps.step_ended sv l session clock input out j t h))
          (record {
            count = ap (λ (s : Session). s.held)
                (get_or-set_same sv.links j (steps.turn_at sv l session clock input out j t h).turn.session closed_session
                (subst (λ (k : ℕ). k < length sv.links) (sym here) link_below))
                ∙ turn_zero sv l session clock input out j t h;
            packet = part_own (j * 258) 258 (replicate 258 0) l.held (length-replicate {A = ℕ} 258 0)
                (subst (λ (k : ℕ). k * 258 + 258 ≤ length l.held) (sym here) room);
          })

      go : session ≡ i + 1 → (k : Result ℕ ℕ) → check.check_of sv l session true (length out) ≡ k
          → Bare (receive_of sv l out session clock input).done.server (receive_of sv l out session clock input).lent i
      go own (Err n) e = subst (λ (o : Outcome). Bare o.done.server o.lent i) (sym (refused_receive sv l session clock input out n e)) bare
      go own (Ok j) e =
          let here = own_index session true (length out) j own e in
          let t = check_through sv l session true (length out) j e in
          subst (λ (k : ℕ). Bare (receive_of sv l out session clock input).done.server (receive_of sv l out session clock input).lent k) here
          (heard j here e (subst (λ (k : ℕ). event_at sv l k input ≡ some v) (sym here) (some-ends own)) t
          (steps.heard_by_law sv l session clock input out j t))

-- ---- the bytes of one event alone

-- a call on just the bytes that it takes ends in the same
pub taken_ends : {S E : Type 0} (byte : S → ℕ → Step S E) (bytes : List ℕ) (s : S) (v : E) → (call byte s bytes).event ≡ some v
    → (call byte s (take (call byte s bytes).taken bytes)).event ≡ some v
unfolding call
taken_ends byte [] s v e = e
taken_ends {S} {E} byte (b ∷ bs) s v e = go (byte s b) refl (λ t. taken_ends byte bs t v) e
  where
    go : (f : Step S E) → byte s b ≡ f
        → ((t : S) → (call byte t bs).event ≡ some v → (call byte t (take (call byte t bs).taken bs)).event ≡ some v)
        → (called f (λ t. call byte t bs)).event ≡ some v
        → (call byte s (take (called f (λ t. call byte t bs)).taken (b ∷ bs))).event ≡ some v
    go (more t) q ih e =
        unfold called in
        let z : 1 + (call byte t bs).taken ≡ suc (call byte t bs).taken = omega arith in
        rw (z, q) (ih t (unfold called in e))
    go (ends t w) q ih e = unfold called in rw q (unfold called in e)
