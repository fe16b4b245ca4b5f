-- A call for another session, before or after bytes that end no packet. Assumes nothing.
use Rattle.std.specs.Prelude.{Result, Ok, Err}
use mathlib.Core.Path.{◌≡◌, refl, sym, ap, ◌∙◌}
use mathlib.Core.Bool.{Bool, true, false, cond}
use mathlib.Core.List.{List, []}
use Prim.Native.Nat.{ℕ, ◌+◌, ◌*◌, ◌-◌, ◌≤◌, ◌<◌}
use native.Mathlib.Omega.{arith}
use lib.Dec.{eqb, ltb}
use lib.ListN.{length, set, replicate, length-replicate}
use lib.Seq.{get_or-set_other, set_comm}
use Rattle.packet.specs.Frame as frame
use Rattle.packet.specs.Frame.{Heard}
use Rattle.session.specs.declared.state.Session.{Session}
use Rattle.session.specs.State.{closed_session, fresh_session, with_held}
use Rattle.table.specs.Table.{files}
use Rattle.carry.specs.declared.turn.Turn.{Turn}
use Rattle.carry.specs.Turn.{mem}
use Rattle.server.specs.declared.Server.{Server}
use Rattle.server.specs.State.{Lent, lent, Outcome, outcome, done_with, link_of, with_link, with_turn, part, owner_part, table_part}
use Rattle.server.specs.Check.{in_state, session_check, check_of}
use Rattle.server.specs.Turns.{act_of}
use Rattle.sending.specs.Sending.{Due, due_of}
use Rattle.server.specs.Calls.{answered_by, on_check, receive_of, on_login, login_of, on_lose, lose_of, due_as, on_request, request_of, login_by, request_by, receive_by, lose_by}
use Rattle.history.specs.Calls.{Call, login, receive, request, lose, call_of}
use Rattle.history.specs.Good.{Good}
use Rattle.history.proofs.GoodFacts.{good_check}
use Rattle.links.proofs.Facts.{part_end}
use Rattle.promises.specs.Parts.{session_in, open_in, room_in, check_in}
use Rattle.answers.proofs.Checks.{Through, StateFacts, check_through, state_facts}
use Rattle.answers.proofs.Hearing.{Hears, unended, ended}
use Rattle.cutting.proofs.Parts.{part_other, with_comm}
use Rattle.cutting.proofs.Held.{hold, keep, with_links, hold_other, hold_seen, act_same}
use Rattle.cutting.proofs.Joined.{step_with, step_with_law}
use Rattle.answers.proofs.Receiving as steps

-- ---- the check of a call

pub session_same : (sv sv' : Server) (session : ℕ) (wanted : Bool) (room : ℕ) → sv'.sessions ≡ sv.sessions
    → (link_of sv' (session - 1)).linked ≡ (link_of sv (session - 1)).linked
    → session_check sv' session wanted room ≡ session_check sv session wanted room
unfolding session_check
session_same sv sv' session wanted room e f =
    ap
    (λ (n : ℕ).
    cond {A = Result ℕ ℕ} (eqb session 0) (Err 34)
    (cond (ltb n session) (Err 34)
    (cond (in_state wanted (link_of sv' (session - 1)).linked) (cond (ltb room 258) (Err 32) (Ok (session - 1))) (Err 34))))
    e
    ∙ ap
    (λ (b : Bool).
    cond {A = Result ℕ ℕ} (eqb session 0) (Err 34)
    (cond (ltb sv.sessions session) (Err 34)
    (cond (in_state wanted b) (cond (ltb room 258) (Err 32) (Ok (session - 1))) (Err 34))))
    f

-- a call goes to the session that it names
goes : (sv : Server) (l : Lent) (c : Call) (j k : ℕ) → check_in sv l c ≡ Ok j → (session_in c ≡ k + 1 → ⊥) → j ≡ k → ⊥
goes sv l c j k e d q =
    let t = check_through sv l (session_in c) (open_in c) (room_in c) j e in
    d (omega (arith, t.index, t.from_one))

-- ---- what a call leaves of another session

heard_size : (sv : Server) (l : Lent) (session clock : ℕ) (input out : List ℕ) (j : ℕ) → Through sv l session true (length out) j
    → length (frame.receive_of (part (j * 258) 258 l.held) (link_of sv j).held input).part ≡ 258
heard_size sv l session clock input out j t = go (steps.heard_by_law sv l session clock input out j t)
  where
    go : Hears (part (j * 258) 258 l.held) (link_of sv j).held input
        → length (frame.receive_of (part (j * 258) 258 l.held) (link_of sv j).held input).part ≡ 258
    go (unended u) = ap (λ (h : Heard). length h.part) u.is ∙ u.size
    go (ended e) = ap (λ (h : Heard). length h.part) e.is ∙ length-replicate {A = ℕ} 258 0

pub part_room : (sv : Server) (l : Lent) → StateFacts sv l → (j : ℕ) → j < sv.sessions → j * 258 + 258 ≤ length l.held
part_room sv l f j h = omega (arith, f.room.held, part_end j sv.sessions 258 h)

through_room : (sv : Server) (l : Lent) (session : ℕ) (wanted : Bool) (room j : ℕ) → Through sv l session wanted room j
    → j * 258 + 258 ≤ length l.held
through_room sv l session wanted room j t =
    part_room sv l (state_facts sv l t.fit t.is_sound) j (omega (arith, t.index, t.from_one, t.in_range))

-- the number of sessions stays
pub others_sessions : (sv : Server) (l : Lent) (c : Call) → (call_of sv l c).done.server.sessions ≡ sv.sessions
unfolding login_of login_by on_login receive_of receive_by on_check request_of request_by on_request due_as lose_of lose_by on_lose
others_sessions sv l (login session clock out) = go (check_of sv l session false (length out))
  where
    go : (k : Result ℕ ℕ) → (on_login k sv out clock).done.server.sessions ≡ sv.sessions
    go (Err n) = refl
    go (Ok j) = refl
others_sessions sv l (receive session clock input out) = go (check_of sv l session true (length out))
  where
    go : (k : Result ℕ ℕ) → (on_check k sv l out clock input).done.server.sessions ≡ sv.sessions
    go (Err n) = refl
    go (Ok j) = ap (λ (o : Outcome). o.done.server.sessions) (step_with_law sv j clock l out input _ refl) ∙ (unfold step_with answered_by in refl)
others_sessions sv l (request session out) = go (check_of sv l session true (length out))
  where
    go : (k : Result ℕ ℕ) → (on_request k sv l out).done.server.sessions ≡ sv.sessions
    go (Err n) = refl
    go (Ok j) = refl
others_sessions sv l (lose session) = go (check_of sv l session true 258)
  where
    go : (k : Result ℕ ℕ) → (on_lose k sv l.selected l.held).done.server.sessions ≡ sv.sessions
    go (Err n) = refl
    go (Ok j) = refl

-- the other sessions stay
pub others_link : (sv : Server) (l : Lent) (c : Call) (k : ℕ) → (session_in c ≡ k + 1 → ⊥) → link_of (call_of sv l c).done.server k ≡ link_of sv k
unfolding login_of login_by on_login receive_of receive_by on_check request_of request_by on_request due_as lose_of lose_by on_lose
others_link sv l (login session clock out) k d = go (check_of sv l session false (length out)) refl
  where
    go : (a : Result ℕ ℕ) → check_of sv l session false (length out) ≡ a → link_of (on_login a sv out clock).done.server k ≡ link_of sv k
    go (Err n) e = refl
    go (Ok j) e = get_or-set_other sv.links j k fresh_session closed_session (λ q. goes sv l (login session clock out) j k e d (sym q))
others_link sv l (receive session clock input out) k d = go (check_of sv l session true (length out)) refl
  where
    go : (a : Result ℕ ℕ) → check_of sv l session true (length out) ≡ a → link_of (on_check a sv l out clock input).done.server k ≡ link_of sv k
    go (Err n) e = refl
    go (Ok j) e =
        ap (λ (o : Outcome). link_of o.done.server k) (step_with_law sv j clock l out input _ refl)
        ∙ (unfold step_with answered_by in get_or-set_other sv.links j k _ closed_session
        (λ q. goes sv l (receive session clock input out) j k e d (sym q)))
others_link sv l (request session out) k d = go (check_of sv l session true (length out)) refl
  where
    go : (a : Result ℕ ℕ) → check_of sv l session true (length out) ≡ a → link_of (on_request a sv l out).done.server k ≡ link_of sv k
    go (Err n) e = refl
    go (Ok j) e = get_or-set_other sv.links j k _ closed_session (λ q. goes sv l (request session out) j k e d (sym q))
others_link sv l (lose session) k d = go (check_of sv l session true 258) refl
  where
    go : (a : Result ℕ ℕ) → check_of sv l session true 258 ≡ a → link_of (on_lose a sv l.selected l.held).done.server k ≡ link_of sv k
    go (Err n) e = refl
    go (Ok j) e = get_or-set_other sv.links j k closed_session closed_session (λ q. goes sv l (lose session) j k e d (sym q))

-- their unfinished packets stay
pub others_part : (sv : Server) (l : Lent) (c : Call) (k : ℕ) → (session_in c ≡ k + 1 → ⊥)
    → part (k * 258) 258 (call_of sv l c).lent.held ≡ part (k * 258) 258 l.held
unfolding receive_of receive_by on_check lose_of lose_by on_lose step_with answered_by
others_part sv l (login session clock out) k d = refl
others_part sv l (receive session clock input out) k d = go (check_of sv l session true (length out)) refl
  where
    go : (a : Result ℕ ℕ) → check_of sv l session true (length out) ≡ a
        → part (k * 258) 258 (on_check a sv l out clock input).lent.held ≡ part (k * 258) 258 l.held
    go (Err n) e = refl
    go (Ok j) e =
        let t = check_through sv l session true (length out) j e in
        ap (λ (o : Outcome). part (k * 258) 258 o.lent.held)
        (step_with_law sv j clock l out input (frame.receive_of (part (j * 258) 258 l.held) (link_of sv j).held input) refl)
        ∙ part_other j k 258 (frame.receive_of (part (j * 258) 258 l.held) (link_of sv j).held input).part l.held
        (λ q. goes sv l (receive session clock input out) j k e d q)
        (heard_size sv l session clock input out j t) (through_room sv l session true (length out) j t)
others_part sv l (request session out) k d = refl
others_part sv l (lose session) k d = go (check_of sv l session true 258) refl
  where
    go : (a : Result ℕ ℕ) → check_of sv l session true 258 ≡ a
        → part (k * 258) 258 (on_lose a sv l.selected l.held).held ≡ part (k * 258) 258 l.held
    go (Err n) e = refl
    go (Ok j) e =
        let t = check_through sv l session true 258 j e in
        part_other j k 258 (replicate 258 0) l.held (λ q. goes sv l (lose session) j k e d q) (length-replicate {A = ℕ} 258 0)
        (through_room sv l session true 258 j t)

-- ---- the call, where another session holds other bytes

-- an outcome with other bytes held
abbrev pub moved : ℕ → ℕ → List ℕ → Outcome → Outcome
moved i n p o = outcome (done_with (hold o.done.server i n) o.done.answer) (keep o.lent i p) o.out

-- two sessions change, in any order
link_comm : (sv : Server) (i j n : ℕ) (s : Session) → (i ≡ j → ⊥) → with_link (hold sv i n) j s ≡ hold (with_link sv j s) i n
link_comm sv i j n s d =
    ap (λ (ks : List Session). with_links sv sv.last ks)
    (set_comm sv.links i j (with_held (link_of sv i) n) s d
    ∙ ap (λ (x : Session). set (set sv.links j s) i (with_held x n)) (sym (get_or-set_other sv.links j i s closed_session d)))

turn_comm : (sv : Server) (i j n : ℕ) (t : Turn) → (i ≡ j → ⊥) → with_turn (hold sv i n) j t ≡ hold (with_turn sv j t) i n
turn_comm sv i j n t d =
    ap (λ (ks : List Session). with_links sv t.last ks)
    (set_comm sv.links i j (with_held (link_of sv i) n) t.session d
    ∙ ap (λ (x : Session). set (set sv.links j t.session) i (with_held x n)) (sym (get_or-set_other sv.links j i t.session closed_session d)))

module _ (sv : Server) (l : Lent) (i n : ℕ) (p : List ℕ) (good : Good sv l) (good' : Good (hold sv i n) (keep l i p)) (below : i < sv.sessions)
    (whole : length p ≡ 258) where
  facts : StateFacts sv l
  facts = state_facts sv l good.fits good.sound

  link_below : i < length sv.links
  link_below = omega (arith, good.links, facts.sizes.sessions)

  here : i * 258 + 258 ≤ length l.held
  here = part_room sv l facts i below

  pub check_same : (session : ℕ) (wanted : Bool) (room : ℕ)
      → check_of (hold sv i n) (keep l i p) session wanted room ≡ check_of sv l session wanted room
  check_same session wanted room =
      good_check (hold sv i n) (keep l i p) good' session wanted room
      ∙ session_same sv (hold sv i n) session wanted room refl (hold_seen sv i n link_below (λ s. s.linked) (λ s m. refl) (session - 1))
      ∙ sym (good_check sv l good session wanted room)

  login_moved : (k : Result ℕ ℕ) (session clock : ℕ) (out : List ℕ) → ((j : ℕ) → k ≡ Ok j → i ≡ j → ⊥)
      → outcome (on_login k (hold sv i n) out clock).done (keep l i p) (on_login k (hold sv i n) out clock).out
      ≡ moved i n p (outcome (on_login k sv out clock).done l (on_login k sv out clock).out)
  unfolding on_login
  login_moved (Err m) session clock out d = refl
  login_moved (Ok j) session clock out d = rw (link_comm sv i j n fresh_session (d j refl))

  request_moved : (k : Result ℕ ℕ) (out : List ℕ) → ((j : ℕ) → k ≡ Ok j → i ≡ j → ⊥)
      → outcome (on_request k (hold sv i n) (keep l i p) out).done (keep l i p) (on_request k (hold sv i n) (keep l i p) out).out
      ≡ moved i n p (outcome (on_request k sv l out).done l (on_request k sv l out).out)
  unfolding on_request due_as
  request_moved (Err m) out d = refl
  request_moved (Ok j) out d =
      ap
      (λ (s : Session).
      outcome (done_with (with_link (hold sv i n) j (due s).asked.session) (due s).asked.answer) (keep l i p) (due s).out)
      (hold_other sv i n link_below j (λ q. d j refl (sym q)))
      ∙ ap (λ (x : Server). outcome (done_with x (due (link_of sv j)).asked.answer) (keep l i p) (due (link_of sv j)).out)
      (link_comm sv i j n (due (link_of sv j)).asked.session (d j refl))
    where
      due : Session → Due
      due s = due_of s.down s l.disk (owner_part sv l) (files (table_part sv l)) (part (j * sv.most) sv.most l.selected) out

  lose_moved : (k : Result ℕ ℕ) → ((j : ℕ) → k ≡ Ok j → i ≡ j → ⊥) → ((j : ℕ) → k ≡ Ok j → j * 258 + 258 ≤ length l.held)
      → outcome (on_lose k (hold sv i n) l.selected (keep l i p).held).done
      (lent l.disk l.map l.owner l.table (on_lose k (hold sv i n) l.selected (keep l i p).held).selected
      (on_lose k (hold sv i n) l.selected (keep l i p).held).held)
      []
      ≡ moved i n p
      (outcome (on_lose k sv l.selected l.held).done
      (lent l.disk l.map l.owner l.table (on_lose k sv l.selected l.held).selected (on_lose k sv l.selected l.held).held) [])
  unfolding on_lose
  lose_moved (Err m) d r = refl
  lose_moved (Ok j) d r =
      rw (
        link_comm sv i j n closed_session (d j refl),
        with_comm i j 258 p l.held (d j refl) whole here (replicate 258 0) (length-replicate {A = ℕ} 258 0) (r j refl),
      )

  step_moved : (j clock : ℕ) (out : List ℕ) (h : Heard) → (i ≡ j → ⊥) → length h.part ≡ 258 → j * 258 + 258 ≤ length l.held
      → step_with (hold sv i n) j clock (keep l i p) out h ≡ moved i n p (step_with sv j clock l out h)
  unfolding step_with answered_by
  step_moved j clock out h d s r =
      rw (
        hold_other sv i n link_below j (λ q. d (sym q)),
        act_same sv i n link_below j (with_held (link_of sv j) h.answer.held) h.answer.frame clock h.answer.info
            (mem l.disk l.map l.owner l.table l.selected),
        turn_comm sv i j n
            (act_of sv j (with_held (link_of sv j) h.answer.held) h.answer.frame clock h.answer.info
            (mem l.disk l.map l.owner l.table l.selected)).turn
            d,
        with_comm i j 258 p l.held d whole here h.part s r,
      )

  receive_moved : (k : Result ℕ ℕ) (session clock : ℕ) (input out : List ℕ) → check_of sv l session true (length out) ≡ k → ((j : ℕ) → k ≡ Ok j → i ≡ j → ⊥)
      → on_check k (hold sv i n) (keep l i p) out clock input ≡ moved i n p (on_check k sv l out clock input)
  unfolding on_check
  receive_moved (Err m) session clock input out e d = refl
  receive_moved (Ok j) session clock input out e d =
      let t = check_through sv l session true (length out) j e in
      let r = through_room sv l session true (length out) j t in
      step_with_law (hold sv i n) j clock (keep l i p) out input (frame.receive_of (part (j * 258) 258 l.held) (link_of sv j).held input)
      (ap (λ (x : List ℕ). frame.receive_of x (link_of (hold sv i n) j).held input) (part_other i j 258 p l.held (d j refl) whole here)
      ∙ ap (λ (s : Session). frame.receive_of (part (j * 258) 258 l.held) s.held input) (hold_other sv i n link_below j (λ q. d j refl (sym q))))
      ∙ step_moved j clock out (frame.receive_of (part (j * 258) 258 l.held) (link_of sv j).held input) (d j refl)
      (heard_size sv l session clock input out j t) r
      ∙ ap (λ (o : Outcome). moved i n p o)
      (sym (step_with_law sv j clock l out input (frame.receive_of (part (j * 258) 258 l.held) (link_of sv j).held input) refl))

  -- a call for another session does the same
  pub apart_call : (c : Call) → (session_in c ≡ i + 1 → ⊥) → call_of (hold sv i n) (keep l i p) c ≡ moved i n p (call_of sv l c)
  unfolding login_of login_by receive_of receive_by request_of request_by lose_of lose_by
  apart_call (login session clock out) d =
      ap (λ (k : Result ℕ ℕ). outcome (on_login k (hold sv i n) out clock).done (keep l i p) (on_login k (hold sv i n) out clock).out)
      (check_same session false (length out))
      ∙ login_moved (check_of sv l session false (length out)) session clock out (λ j e q. goes sv l (login session clock out) j i e d (sym q))
  apart_call (receive session clock input out) d =
      ap (λ (k : Result ℕ ℕ). on_check k (hold sv i n) (keep l i p) out clock input) (check_same session true (length out))
      ∙ receive_moved (check_of sv l session true (length out)) session clock input out refl
      (λ j e q. goes sv l (receive session clock input out) j i e d (sym q))
  apart_call (request session out) d =
      ap (λ (k : Result ℕ ℕ). outcome (on_request k (hold sv i n) (keep l i p) out).done (keep l i p) (on_request k (hold sv i n) (keep l i p) out).out)
      (check_same session true (length out))
      ∙ request_moved (check_of sv l session true (length out)) out (λ j e q. goes sv l (request session out) j i e d (sym q))
  apart_call (lose session) d =
      ap
      (λ (k : Result ℕ ℕ).
      outcome (on_lose k (hold sv i n) l.selected (keep l i p).held).done
      (lent l.disk l.map l.owner l.table (on_lose k (hold sv i n) l.selected (keep l i p).held).selected
      (on_lose k (hold sv i n) l.selected (keep l i p).held).held)
      [])
      (check_same session true 258)
      ∙ lose_moved (check_of sv l session true 258) (λ j e q. goes sv l (lose session) j i e d (sym q))
      (λ j e. through_room sv l session true 258 j (check_through sv l session true 258 j e))
