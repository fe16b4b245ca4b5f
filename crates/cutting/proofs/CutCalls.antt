-- The cut theorem: cutting a link's bytes elsewhere changes no packet sent and no state after it. Assumes nothing.
use Rattle.std.specs.Prelude.{Ok, Err}
use mathlib.Core.Path.{◌≡◌, refl, sym, ap, ◌∙◌, subst}
use mathlib.Core.Bool.{Bool, true}
use mathlib.Core.List.{List, [], ◌++◌, append-nil}
use mathlib.Core.Option.{none, some}
use Prim.Native.Nat.{ℕ, zero, suc, ◌+◌, ◌*◌, ◌-◌, ◌≤◌, ◌<◌}
use native.Mathlib.Omega.{arith}
use borrow.Author.Tests.{le-ltb}
use lib.ListN.{length}
use lib.Seq.{set-get_or}
use Rattle.packet.specs.Machine.{Call, call}
use Rattle.packet.specs.Frame as frame
use Rattle.packet.specs.Frame.{Held, Event, byte}
use Rattle.session.specs.declared.state.Session.{Session}
use Rattle.session.specs.State.{closed_session}
use Rattle.session.specs.declared.reply.Answer.{Answer}
use Rattle.session.specs.declared.reply.Answer.TheVariants as answer
use Rattle.server.specs.declared.Server.{Server}
use Rattle.server.specs.State.{Lent, lent, Outcome, outcome, done_with, link_of, part}
use Rattle.server.specs.Check.{session_check, check_of}
use Rattle.server.specs.Calls.{step_of, on_check, receive_of, receive_by}
use Rattle.history.specs.Calls as history
use Rattle.history.specs.Calls.{receive, request, call_of, State, state, next, Start, legal, History, ◌▸◌, after}
use Rattle.history.specs.Good.{Good}
use Rattle.history.proofs.GoodFacts.{good_check}
use Rattle.history.proofs.Kept.{good_kept}
use Rattle.history.proofs.Histories.{good_after}
use Rattle.promises.specs.Parts.{session_in}
use Rattle.promises.specs.Closing.{event_at}
use Rattle.promises.specs.Cut.{Seen, seen_in, seen_of, seen, ends_in, Recut, same, back, chain, also, joined, empty, passed, untaken}
use Rattle.promises.specs.Cut.{SameAfter, CutElsewhere}
use Rattle.answers.proofs.Checks.{check_through, state_facts, through_again}
use Rattle.answers.proofs.Hearing.{Unended}
use Rattle.cutting.proofs.Held.{hold, keep, with_links, hold_seen}
use Rattle.cutting.proofs.Joined.{shift, shifted, rest_untouched, step_joined}
use Rattle.cutting.proofs.Others.{session_same, others_sessions, moved}
use Rattle.cutting.proofs.Own.{Free, others_free, request_free}
use Rattle.answers.proofs.Receiving as steps

-- ---- by the check

pub refused_receive : (sv : Server) (l : Lent) (session clock : ℕ) (input out : List ℕ) (n : ℕ) → check_of sv l session true (length out) ≡ Err n
    → receive_of sv l out session clock input ≡ outcome (done_with sv (answer.Refused n)) l out
unfolding receive_of receive_by on_check
refused_receive sv l session clock input out n e = rw e

pub gone_on : (sv : Server) (l : Lent) (session clock : ℕ) (input out : List ℕ) (i : ℕ) → check_of sv l session true (length out) ≡ Ok i
    → receive_of sv l out session clock input ≡ step_of sv i clock input l out
unfolding receive_of receive_by on_check
gone_on sv l session clock input out i e = rw e

session_rooms : (sv : Server) (session : ℕ) (wanted : Bool) (a b : ℕ) → 258 ≤ a → 258 ≤ b
    → session_check sv session wanted a ≡ session_check sv session wanted b
unfolding session_check
session_rooms sv session wanted a b h k = rw (le-ltb a 258 h, le-ltb b 258 k)

-- bytes that end no packet do not end one
pub no_packet : (sv : Server) (l : Lent) (session clock : ℕ) (xs out : List ℕ) → event_at sv l (session - 1) xs ≡ none
    → steps.EndsPacket sv l session clock xs out → ⊥
no_packet sv l session clock xs out e f =
    let a : event_at sv l f.i xs ≡ some f.heard.event = ap (λ (c : Call Held Event). c.event) f.heard.came in
    let b : none ≡ some f.heard.event = sym e ∙ ap (λ (j : ℕ). event_at sv l j xs) (sym f.through.index) ∙ a in
    let z : ◌≡◌ {A = ℕ} 0 1 = cc in omega arith

-- ---- a call that is lent no byte

-- a session that holds what it held
hold_same : (sv : Server) (i : ℕ) → hold sv i (link_of sv i).held ≡ sv
hold_same sv i =
    ap (λ (ks : List Session). with_links sv sv.last ks)
    (set-get_or sv.links i closed_session)

keep_same : (l : Lent) (i : ℕ) → keep l i (part (i * 258) 258 l.held) ≡ l
keep_same l i = ap (λ (k : List ℕ). lent l.disk l.map l.owner l.table l.selected k) (steps.part_back (i * 258) 258 l.held)

pub record Nothing (sv : Server) (l : Lent) (c : history.Call) : Type 0 where
  pub server : (call_of sv l c).done.server ≡ sv
  pub lent : (call_of sv l c).lent ≡ l

empty_call : (sv : Server) (l : Lent) (session clock : ℕ) (out : List ℕ) → Nothing sv l (receive session clock [] out)
unfolding call
empty_call sv l session clock out = go (steps.receives sv l session clock [] out)
  where
    go : steps.Receives sv l session clock [] out → Nothing sv l (receive session clock [] out)
    go (steps.refused n o k q) = record { server = ap (λ (o : Outcome). o.done.server) q; lent = ap (λ (o : Outcome). o.lent) q }
    go (steps.ends_none e) =
        let s : record { count = (link_of sv e.i).held; part = part (e.i * 258) 258 l.held } ≡ e.heard.state =
        ap (λ (c : Call Held Event). c.state) e.heard.came in
        record {
          server = ap (λ (o : Outcome). o.done.server) e.is ∙ ap (λ (h : Held). hold sv e.i h.count) (sym s) ∙ hold_same sv e.i;
          lent = ap (λ (o : Outcome). o.lent) e.is ∙ ap (λ (h : Held). keep l e.i h.part) (sym s) ∙ keep_same l e.i;
        }
    go (steps.ends_packet f) = absurd (no_packet sv l session clock [] out refl f)

-- ---- the moves, on a state that calls made

module _ (sv : Server) (l : Lent) (good : Good sv l) (session clock clock' : ℕ) (xs ys out out' : List ℕ) where
  joined_none : (e : steps.EndsNone sv l session clock xs out) → 258 ≤ length out'
      → receive_of sv l out' session clock' (xs ++ ys)
      ≡ shifted (length xs) (receive_of (hold sv e.i e.heard.state.count) (keep l e.i e.heard.state.part) out' session clock' ys)
  joined_none e room' =
      gone_on sv l session clock' (xs ++ ys) out' e.i first
      ∙ step_joined sv l session clock' xs ys out' e.i (check_through sv l session true (length out') e.i first) e.heard good.links
      ∙ ap (λ (o : Outcome). shifted (length xs) o) (sym (gone_on sv₁ l₁ session clock' ys out' e.i second))
    where
      sv₁ : Server
      sv₁ = hold sv e.i e.heard.state.count

      l₁ : Lent
      l₁ = keep l e.i e.heard.state.part

      good₁ : Good sv₁ l₁
      good₁ = subst (λ (o : Outcome). Good o.done.server o.lent) e.is (good_kept sv l good (receive session clock xs out))

      below : e.i < length sv.links
      below =
          let f = state_facts sv l good.fits good.sound in
          omega (arith, good.links, f.sizes.sessions, e.through.index, e.through.from_one, e.through.in_range)

      passes : session_check sv session true (length out') ≡ Ok e.i
      passes = through_again sv l session true (length out) e.i (length out') e.through room'

      first : check_of sv l session true (length out') ≡ Ok e.i
      first = good_check sv l good session true (length out') ∙ passes

      second : check_of sv₁ l₁ session true (length out') ≡ Ok e.i
      second =
          good_check sv₁ l₁ good₁ session true (length out')
          ∙ session_same sv sv₁ session true (length out') refl
          (hold_seen sv e.i e.heard.state.count below (λ s. s.linked) (λ s m. refl) (session - 1))
          ∙ passes

  -- bytes lent in one call, or in two
  pub joined_call : event_at sv l (session - 1) xs ≡ none → 258 ≤ length out → 258 ≤ length out'
      → call_of sv l (receive session clock' (xs ++ ys) out')
      ≡ shifted (length xs)
      (call_of (call_of sv l (receive session clock xs out)).done.server (call_of sv l (receive session clock xs out)).lent
      (receive session clock' ys out'))
  joined_call none-ends room room' = go (steps.receives sv l session clock xs out)
    where
      by : (o : Outcome) → receive_of sv l out session clock xs ≡ o
          → receive_of sv l out' session clock' (xs ++ ys) ≡ shifted (length xs) (receive_of o.done.server o.lent out' session clock' ys)
          → receive_of sv l out' session clock' (xs ++ ys)
          ≡ shifted (length xs)
          (receive_of (receive_of sv l out session clock xs).done.server (receive_of sv l out session clock xs).lent out' session clock' ys)
      by o e q = q ∙ ap (λ (x : Outcome). shifted (length xs) (receive_of x.done.server x.lent out' session clock' ys)) (sym e)

      again : (n : ℕ) → check_of sv l session true (length out) ≡ Err n → check_of sv l session true (length out') ≡ Err n
      again n c =
          good_check sv l good session true (length out') ∙ session_rooms sv session true (length out') (length out) room' room
          ∙ sym (good_check sv l good session true (length out)) ∙ c

      go : steps.Receives sv l session clock xs out
          → receive_of sv l out' session clock' (xs ++ ys)
          ≡ shifted (length xs)
          (receive_of (receive_of sv l out session clock xs).done.server (receive_of sv l out session clock xs).lent out' session clock' ys)
      go (steps.refused n o c q) =
          by _ q
          (refused_receive sv l session clock' (xs ++ ys) out' n (again n c)
          ∙ (unfold shift in ap (λ (x : Outcome). shifted (length xs) x) (sym (refused_receive sv l session clock' ys out' n (again n c)))))
      go (steps.ends_none e) = by _ e.is (joined_none e room')
      go (steps.ends_packet f) = absurd (no_packet sv l session clock xs out none-ends f)

-- what the two orders come to
record Swapped (sv : Server) (l : Lent) (r c : history.Call) : Type 0 where
  server : (call_of (call_of sv l r).done.server (call_of sv l r).lent c).done.server
      ≡ (call_of (call_of sv l c).done.server (call_of sv l c).lent r).done.server
  lent : (call_of (call_of sv l r).done.server (call_of sv l r).lent c).lent ≡ (call_of (call_of sv l c).done.server (call_of sv l c).lent r).lent
  -- the call is seen the same, and the bytes are not seen
  call_seen : seen_of c (call_of (call_of sv l r).done.server (call_of sv l r).lent c) ≡ seen_of c (call_of sv l c)
  none_first : seen_of r (call_of sv l r) ≡ []
  none_last : seen_of r (call_of (call_of sv l c).done.server (call_of sv l c).lent r) ≡ []

module _ (sv : Server) (l : Lent) (good : Good sv l) (session clock : ℕ) (xs out : List ℕ) (c : history.Call)
    (free : (i : ℕ) → session ≡ i + 1 → Free sv l c i) where
  goodᶜ : Good (call_of sv l c).done.server (call_of sv l c).lent
  goodᶜ = good_kept sv l good c

  -- the check of the bytes' session is the same after the call
  session_kept : session_check (call_of sv l c).done.server session true (length out) ≡ session_check sv session true (length out)
  unfolding session_check
  session_kept = go session refl
    where
      go : (n : ℕ) → n ≡ session → session_check (call_of sv l c).done.server n true (length out) ≡ session_check sv n true (length out)
      go zero e = refl
      go (suc k) e =
          session_same sv (call_of sv l c).done.server (suc k) true (length out) (others_sessions sv l c)
          (let d : suc k - 1 ≡ k = omega arith in
          ap (λ (j : ℕ). (link_of (call_of sv l c).done.server j).linked) d
          ∙ (free k (omega arith)).linked
          ∙ ap (λ (j : ℕ). (link_of sv j).linked) (sym d))

  check_kept : check_of (call_of sv l c).done.server (call_of sv l c).lent session true (length out) ≡ check_of sv l session true (length out)
  check_kept =
      good_check (call_of sv l c).done.server (call_of sv l c).lent goodᶜ session true (length out) ∙ session_kept
      ∙ sym (good_check sv l good session true (length out))

  passed_refused : (n : ℕ) → check_of sv l session true (length out) ≡ Err n → Swapped sv l (receive session clock xs out) c
  unfolding seen_in
  passed_refused n e =
      let a = refused_receive sv l session clock xs out n e in
      let b = refused_receive (call_of sv l c).done.server (call_of sv l c).lent session clock xs out n (check_kept ∙ e) in
      record {
        server = ap (λ (o : Outcome). (call_of o.done.server o.lent c).done.server) a ∙ sym (ap (λ (o : Outcome). o.done.server) b);
        lent = ap (λ (o : Outcome). (call_of o.done.server o.lent c).lent) a ∙ sym (ap (λ (o : Outcome). o.lent) b);
        call_seen = ap (λ (o : Outcome). seen_of c (call_of o.done.server o.lent c)) a;
        none_first = ap (λ (o : Outcome). seen_in session o.done.answer o.out) a;
        none_last = ap (λ (o : Outcome). seen_in session o.done.answer o.out) b;
      }

  passed_none : (e : steps.EndsNone sv l session clock xs out) → check_of sv l session true (length out) ≡ Ok e.i
      → Swapped sv l (receive session clock xs out) c
  unfolding seen_in
  passed_none e go_on =
      record {
        server = ap (λ (o : Outcome). (call_of o.done.server o.lent c).done.server) e.is ∙ ap (λ (o : Outcome). o.done.server) first
            ∙ sym (ap (λ (o : Outcome). o.done.server) last);
        lent = ap (λ (o : Outcome). (call_of o.done.server o.lent c).lent) e.is ∙ ap (λ (o : Outcome). o.lent) first
            ∙ sym (ap (λ (o : Outcome). o.lent) last);
        call_seen = ap (λ (o : Outcome). seen_of c (call_of o.done.server o.lent c)) e.is ∙ ap (λ (o : Outcome). seen_of c o) first;
        none_first = ap (λ (o : Outcome). seen_in session o.done.answer o.out) e.is;
        none_last = ap (λ (o : Outcome). seen_in session o.done.answer o.out) last;
      }
    where
      here : Free sv l c e.i
      here = free e.i (omega (arith, e.through.index, e.through.from_one))

      good₁ : Good (hold sv e.i e.heard.state.count) (keep l e.i e.heard.state.part)
      good₁ = subst (λ (o : Outcome). Good o.done.server o.lent) e.is (good_kept sv l good (receive session clock xs out))

      first : call_of (hold sv e.i e.heard.state.count) (keep l e.i e.heard.state.part) c
          ≡ moved e.i e.heard.state.count e.heard.state.part (call_of sv l c)
      first =
          here.moves e.heard.state.count e.heard.state.part good₁
          (omega (arith, e.through.index, e.through.from_one, e.through.in_range)) e.heard.size

      heard : Unended (part (e.i * 258) 258 (call_of sv l c).lent.held) (link_of (call_of sv l c).done.server e.i).held xs
      heard =
          record {
            state = e.heard.state;
            came = ap (λ (p : List ℕ). call byte (record { count = (link_of (call_of sv l c).done.server e.i).held; part = p }) xs) here.packet
                ∙ ap (λ (n : ℕ). call byte (record { count = n; part = part (e.i * 258) 258 l.held }) xs) here.held
                ∙ e.heard.came;
            size = e.heard.size;
            few = e.heard.few;
            is = ap (λ (p : List ℕ). frame.receive_of p (link_of (call_of sv l c).done.server e.i).held xs) here.packet
                ∙ ap (λ (n : ℕ). frame.receive_of (part (e.i * 258) 258 l.held) n xs) here.held
                ∙ e.heard.is;
          }

      last : receive_of (call_of sv l c).done.server (call_of sv l c).lent out session clock xs
          ≡ outcome (done_with (hold (call_of sv l c).done.server e.i e.heard.state.count) (answer.Quiet (length xs)))
          (keep (call_of sv l c).lent e.i e.heard.state.part) out
      last =
          gone_on (call_of sv l c).done.server (call_of sv l c).lent session clock xs out e.i (check_kept ∙ go_on)
          ∙ steps.step_unended (call_of sv l c).done.server (call_of sv l c).lent session clock xs out e.i
          (check_through (call_of sv l c).done.server (call_of sv l c).lent session true (length out) e.i (check_kept ∙ go_on)) heard

  -- bytes that end nothing, before or after a call that has nothing to do with them
  free_call : event_at sv l (session - 1) xs ≡ none → Swapped sv l (receive session clock xs out) c
  free_call none-ends = go (steps.receives sv l session clock xs out)
    where
      go : steps.Receives sv l session clock xs out → Swapped sv l (receive session clock xs out) c
      go (steps.refused n o k q) = passed_refused n k
      go (steps.ends_none e) =
          passed_none e
          (good_check sv l good session true (length out) ∙ through_again sv l session true (length out) e.i (length out) e.through
          e.through.room)
      go (steps.ends_packet f) = absurd (no_packet sv l session clock xs out none-ends f)

-- ---- whole histories

pub seen_shift : (session k : ℕ) (a : Answer) (out : List ℕ) → seen_in session (shift k a) out ≡ seen_in session a out
unfolding seen_in shift
seen_shift session k (answer.Quiet taken) out = refl
seen_shift session k (answer.Sent taken size) out = refl
seen_shift session k (answer.Closed taken) out = refl
seen_shift session k (answer.Refused n) out = refl

-- bytes that end nothing are not seen
pub unended_seen : (sv : Server) (l : Lent) (session clock : ℕ) (xs out : List ℕ) → event_at sv l (session - 1) xs ≡ none
    → seen_of (receive session clock xs out) (call_of sv l (receive session clock xs out)) ≡ []
unfolding seen_in
unended_seen sv l session clock xs out none-ends = go (steps.receives sv l session clock xs out)
  where
    go : steps.Receives sv l session clock xs out
        → seen_in session (receive_of sv l out session clock xs).done.answer (receive_of sv l out session clock xs).out ≡ []
    go (steps.refused n o k q) = ap (λ (o : Outcome). seen_in session o.done.answer o.out) q
    go (steps.ends_none e) = ap (λ (o : Outcome). seen_in session o.done.answer o.out) e.is
    go (steps.ends_packet f) = absurd (no_packet sv l session clock xs out none-ends f)

module _ (s : Start) (lawful : legal s ≡ true) where
  pub joined_after : (h : History) (session clock clock' : ℕ) (xs ys out out' : List ℕ)
      → ends_in s h session xs ≡ none
      → 258 ≤ length out
      → 258 ≤ length out'
      → SameAfter s (h ▸ receive session clock xs out ▸ receive session clock' ys out') (h ▸ receive session clock' (xs ++ ys) out')
  unfolding after seen
  joined_after h session clock clock' xs ys out out' e room room' =
      let sv = (after s h).server in
      let l = (after s h).lent in
      let q = joined_call sv l (good_after s lawful h) session clock clock' xs ys out out' e room room' in
      record {
        state = sym (ap (λ (o : Outcome). state o.done.server o.lent) q);
        seen = ap (λ (k : List Seen). (seen s h ++ k) ++ later) (unended_seen sv l session clock xs out e)
            ∙ ap (λ (k : List Seen). k ++ later) (append-nil (seen s h))
            ∙ ap (λ (k : List Seen). seen s h ++ k) (sym (seen_shift session (length xs) _ _))
            ∙ sym (ap (λ (o : Outcome). seen s h ++ seen_in session o.done.answer o.out) q);
      }
    where
      first : State
      first = next (after s h) (receive session clock xs out)

      later : List Seen
      later = seen_of (receive session clock' ys out') (call_of first.server first.lent (receive session clock' ys out'))

  free_after : (h : History) (session clock : ℕ) (xs out : List ℕ) (c : history.Call)
      → ends_in s h session xs ≡ none
      → ((i : ℕ) → session ≡ i + 1 → Free (after s h).server (after s h).lent c i)
      → SameAfter s (h ▸ receive session clock xs out ▸ c) (h ▸ c ▸ receive session clock xs out)
  unfolding after seen
  free_after h session clock xs out c e free =
      go (free_call (after s h).server (after s h).lent (good_after s lawful h) session clock xs out c free e)
    where
      states : (sv sv' : Server) (l l' : Lent) → sv ≡ sv' → l ≡ l' → state sv l ≡ state sv' l'
      states sv sv' l l' a b = ap (λ (x : Server). state x l) a ∙ ap (λ (x : Lent). state sv' x) b

      lists : (a b c d f : List Seen) → b ≡ [] → c ≡ d → f ≡ [] → (a ++ b) ++ c ≡ (a ++ d) ++ f
      lists a b c d f x y z =
          ap (λ (k : List Seen). (a ++ k) ++ c) x ∙ ap (λ (k : List Seen). k ++ c) (append-nil a) ∙ ap (λ (k : List Seen). a ++ k) y
          ∙ sym (append-nil (a ++ d)) ∙ ap (λ (k : List Seen). (a ++ d) ++ k) (sym z)

      go : Swapped (after s h).server (after s h).lent (receive session clock xs out) c
          → SameAfter s (h ▸ receive session clock xs out ▸ c) (h ▸ c ▸ receive session clock xs out)
      go w =
          record {
            state = states _ _ _ _ w.server w.lent;
            seen = lists (seen s h) _ _ _ _ w.none_first w.call_seen w.none_last;
          }

  -- a call for another session
  pub passed_after : (h : History) (session clock : ℕ) (xs out : List ℕ) (c : history.Call)
      → ends_in s h session xs ≡ none
      → (session_in c ≡ session → ⊥)
      → SameAfter s (h ▸ receive session clock xs out ▸ c) (h ▸ c ▸ receive session clock xs out)
  passed_after h session clock xs out c e other =
      free_after h session clock xs out c e
      (λ i q. others_free (after s h).server (after s h).lent (good_after s lawful h) c i
      (λ r. other (let z : session_in c ≡ session = omega arith in z)))

  -- a request of the same session
  pub request_after : (h : History) (session clock : ℕ) (xs out out' : List ℕ)
      → ends_in s h session xs ≡ none
      → SameAfter s (h ▸ receive session clock xs out ▸ request session out') (h ▸ request session out' ▸ receive session clock xs out)
  request_after h session clock xs out out' e =
      free_after h session clock xs out (request session out') e
      (λ i q. request_free (after s h).server (after s h).lent (good_after s lawful h) i session out' q)

  pub empty_after : (h : History) (session clock : ℕ) (out : List ℕ) → SameAfter s (h ▸ receive session clock [] out) h
  unfolding after seen call
  empty_after h session clock out =
      let w = empty_call (after s h).server (after s h).lent session clock out in
      record {
        state = ap (λ (x : Server). state x (call_of (after s h).server (after s h).lent (receive session clock [] out)).lent) w.server
            ∙ ap (λ (x : Lent). state (after s h).server x) w.lent;
        seen =
            ap (λ (k : List Seen). seen s h ++ k) (unended_seen (after s h).server (after s h).lent session clock [] out refl) ∙ append-nil
            (seen s h);
      }

  pub untaken_after : (h : History) (session clock : ℕ) (xs ys out : List ℕ) (e : Event)
      → ends_in s h session xs ≡ some e
      → SameAfter s (h ▸ receive session clock (xs ++ ys) out) (h ▸ receive session clock xs out)
  unfolding after seen
  untaken_after h session clock xs ys out e q =
      let r = rest_untouched (after s h).server (after s h).lent session clock xs ys out e q in
      record {
        state = ap (λ (o : Outcome). state o.done.server o.lent) r;
        seen = ap (λ (o : Outcome). seen s h ++ seen_in session o.done.answer o.out) r;
      }

  pub also_after : (h k : History) → SameAfter s h k → (c : history.Call) → SameAfter s (h ▸ c) (k ▸ c)
  unfolding after seen
  also_after h k w c =
      record {
        state = ap (λ (x : State). next x c) w.state;
        seen = ap (λ (x : List Seen). x ++ seen_of c (call_of (after s h).server (after s h).lent c)) w.seen
            ∙ ap (λ (x : State). seen s k ++ seen_of c (call_of x.server x.lent c)) w.state;
      }

  same_after : (h k : History) → Recut s h k → SameAfter s h k
  same_after h k (same _) = record { state = refl; seen = refl }
  same_after h k (back _ _ r) = let w = same_after k h r in record { state = sym w.state; seen = sym w.seen }
  same_after h k (chain _ m _ a b) =
      let v = same_after h m a in
      let w = same_after m k b in
      record { state = v.state ∙ w.state; seen = v.seen ∙ w.seen }
  same_after h k (also h' k' r c) = also_after h' k' (same_after h' k' r) c
  same_after h k (joined g session clock clock' xs ys out out' e a b) = joined_after g session clock clock' xs ys out out' e a b
  same_after h k (empty _ session clock out) = empty_after k session clock out
  same_after h k (passed g session clock xs out c e d) = passed_after g session clock xs out c e d
  same_after h k (untaken g session clock xs ys out e q) = untaken_after g session clock xs ys out e q

-- THEOREM: cutting a link's bytes elsewhere changes no packet sent and no state after it
pub cut_elsewhere : CutElsewhere
cut_elsewhere s lawful h k r = same_after s lawful h k r
