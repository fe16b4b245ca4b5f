-- The cut theorem without rules: a history leaves what it leaves without its cuts and then the bytes that wait. Assumes nothing.
use Rattle.std.specs.Prelude.{Result, Ok, Err}
use mathlib.Core.Path.{◌≡◌, refl, sym, ap, ◌∙◌, subst}
use mathlib.Core.Bool.{Bool, true, false}
use mathlib.Core.List.{List, [], ◌++◌, append-nil, append_assoc}
use mathlib.Core.Option.{Option, none, some}
use Prim.Native.Nat.{ℕ, zero, suc, ◌+◌, ◌*◌, ◌-◌, ◌≤◌, ◌<◌}
use native.Mathlib.Omega.{arith}
use borrow.Author.Tests.{eqb-true, eqb-false, ltb-true, ltb-false}
use lib.Dec.{eqb, ltb}
use lib.ListN.{length, take, drop, replicate, length-replicate, get_or-replicate, replicate-append-replicate, take-append-drop}
use lib.Seq.{take_at, drop_at}
use Rattle.packet.specs.Machine.{call}
use Rattle.packet.specs.Frame.{Event, none_held, byte}
use Rattle.session.specs.declared.state.Session.{Session}
use Rattle.session.specs.declared.reply.Answer.{Answer}
use Rattle.session.specs.declared.reply.Answer.TheVariants as answer
use Rattle.session.specs.State.{closed_session}
use Rattle.server.specs.declared.Server.{Server}
use Rattle.server.specs.State.{Outcome, outcome, done_with, link_of, part}
use Rattle.server.specs.Making.{new_server, empty_of, make_of}
use Rattle.history.specs.Calls.{Call, login, receive, request, lose, call_of, State, Start, legal, made, History, start, ◌▸◌, after}
use Rattle.history.specs.Good.{Good}
use Rattle.history.proofs.Histories.{good_after, sizes_after}
use Rattle.promises.specs.Parts.{session_in, out_in, open_in, room_in, check_in}
use Rattle.promises.specs.Demand1.{Answers, refuses, silent, closes, sends}
use Rattle.promises.specs.Cut.{ends_in, SameAfter}
use Rattle.promises.specs.Uncut.{Uncut, uncut, waiting_with, on_bytes, with_call, unless_refused, uncut_of, UncutSame}
use Rattle.answers.proofs.Checks.{Through, check_through, state_facts}
use Rattle.answers.proofs.Answered.{refused_call, every_call_answers}
use Rattle.cutting.proofs.Others.{others_link}
use Rattle.cutting.proofs.Own.{request_free}
use Rattle.cutting.proofs.CutCalls.{joined_after, untaken_after, empty_after, also_after, request_after}
use Rattle.cutting.proofs.Bare.{Bare, bare_event, bare_login, bare_request, bare_lose, bare_receive, taken_ends}
use Rattle.cutting.proofs.Flushed.{same_self, same_back, ◌then◌, lends, flush, flush_same, with_own, with_other, with_each}
use Rattle.cutting.proofs.Flushed.{refused_after, lose_after, Still, flush_also, flush_linked, flush_first, flush_call}

clash : true ≡ false → ⊥
clash e = let z : ◌≡◌ {A = ℕ} 0 1 = cc in omega arith

room : 258 ≤ length (replicate {A = ℕ} 258 0)
room = omega (arith, length-replicate {A = ℕ} 258 0)

-- a part of zeros
zero_part : (a n m : ℕ) (rest : List ℕ) → part a n (replicate (a + (n + m)) 0 ++ rest) ≡ replicate n 0
zero_part a n m rest =
    ap (λ (xs : List ℕ). part a n (xs ++ rest)) (sym (replicate-append-replicate a (n + m) 0))
    ∙ ap (λ (xs : List ℕ). part a n xs) (append_assoc (replicate a 0) (replicate (n + m) 0) rest)
    ∙ ap (λ (xs : List ℕ). take n xs) (drop_at (replicate a 0) (replicate (n + m) 0 ++ rest) a (length-replicate a 0))
    ∙ ap (λ (xs : List ℕ). take n (xs ++ rest)) (sym (replicate-append-replicate n m 0))
    ∙ ap (λ (xs : List ℕ). take n xs) (append_assoc (replicate n 0) (replicate m 0) rest)
    ∙ take_at (replicate n 0) (replicate m 0 ++ rest) n (length-replicate n 0)

module _ (s : Start) (lawful : legal s ≡ true) where
  -- how many sessions there are
  abbrev sessions : ℕ
  sessions = (made s).server.sessions

  sessions_are : (h : History) → (after s h).server.sessions ≡ sessions
  sessions_are h = (sizes_after s lawful h).sessions

  few : sessions ≤ 4
  few =
      let g = good_after s lawful start in
      omega (arith, (state_facts (after s start).server (after s start).lent g.fits g.sound).sizes.sessions, sessions_are start)

  -- no session holds a byte
  abbrev AllBare : History → Type 0
  AllBare h = (i : ℕ) → i < sessions → Bare (after s h).server (after s h).lent i

  -- what holds of a history without its cuts
  record Told (h : History) (u : Uncut) : Type 0 where
    -- with the bytes that wait it leaves the same
    same : SameAfter s h (flush 4 u.calls u.waiting)
    bare : AllBare u.calls
    -- these end nothing, and a session that is not open has none
    still : (j : ℕ) → (call byte none_held (u.waiting j)).event ≡ none
    outside : (j : ℕ) → (1 ≤ j → j ≤ sessions → ⊥) → u.waiting j ≡ []
    closed : (j : ℕ) → 1 ≤ j → (link_of (after s u.calls).server (j - 1)).linked ≡ false → u.waiting j ≡ []

  -- what bytes end in, where no session holds any
  ends_of : (h : History) → AllBare h → (j : ℕ) → 1 ≤ j → j ≤ sessions → (bytes : List ℕ) → ends_in s h j bytes ≡ (call byte none_held bytes).event
  ends_of h bare j one most bytes = bare_event (after s h).server (after s h).lent (j - 1) (bare (j - 1) (omega arith)) bytes

  still_of_law : (h : History) (w : ℕ → List ℕ) → AllBare h → ((j : ℕ) → (call byte none_held (w j)).event ≡ none)
      → ((j : ℕ) → (1 ≤ j → j ≤ sessions → ⊥) → w j ≡ [])
      → Still s lawful h w
  unfolding call
  still_of_law h w bare still outside j one = go (ltb sessions j) refl
    where
      go : (t : Bool) → ltb sessions j ≡ t → ends_in s h j (w j) ≡ none
      go true q =
          subst (λ (xs : List ℕ). ends_in s h j xs ≡ none) (sym (outside j (λ a b. omega (arith, ltb-true sessions j q)))) refl
      go false q = ends_of h bare j one (ltb-false sessions j q) (w j) ∙ still j

  -- ---- one call

  module _ (h : History) (u : Uncut) (told : Told h u) where
    abbrev calls : History
    calls = u.calls

    abbrev w : ℕ → List ℕ
    w = u.waiting

    good : Good (after s calls).server (after s calls).lent
    good = good_after s lawful calls

    still_calls : Still s lawful calls w
    still_calls = still_of_law calls w told.bare told.still told.outside

    linked_at : (i : ℕ) → (link_of (after s h).server i).linked ≡ (link_of (after s calls).server i).linked
    linked_at i = ap (λ (st : State). (link_of st.server i).linked) told.same.state ∙ flush_linked s lawful 4 calls w still_calls i

    abbrev Goes : Call → ℕ → Type 0
    Goes c i = Through (after s h).server (after s h).lent (session_in c) (open_in c) (room_in c) i

    in_range : (c : Call) (i : ℕ) → Goes c i → session_in c ≤ sessions
    in_range c i t = omega (arith, t.in_range, sessions_are h)

    -- the bytes of the call's session, the call, and then those of the others
    call_first : (c : Call) (i : ℕ) → Goes c i
        → SameAfter s (h ▸ c) (flush 4 (calls ▸ lends (session_in c) (w (session_in c)) ▸ c) (waiting_with w (session_in c) []))
    call_first c i t =
        also_after s lawful h (flush 4 calls w) told.same c
        then flush_call s lawful 4 calls w c still_calls t.from_one (omega (arith, in_range c i t, few))

    -- the other sessions' links
    other_link : (c : Call) (k : ℕ) → 1 ≤ k → (k ≡ session_in c → ⊥)
        → (link_of (after s (calls ▸ c)).server (k - 1)).linked ≡ (link_of (after s calls).server (k - 1)).linked
    unfolding after
    other_link c k one d =
        ap (λ (x : Session). x.linked) (others_link (after s calls).server (after s calls).lent c (k - 1) (λ e. d (omega arith)))

    -- a call that leaves no bytes of its session
    forgets : (c c' : Call) (i : ℕ) → Goes c i → session_in c' ≡ session_in c
        → SameAfter s (calls ▸ lends (session_in c) (w (session_in c)) ▸ c) (calls ▸ c')
        → AllBare (calls ▸ c')
        → Told (h ▸ c) (uncut (calls ▸ c') (waiting_with w (session_in c) []))
    unfolding call
    forgets c c' i t one-session e bare =
        record {
          same = call_first c i t then flush_also s lawful 4 _ (calls ▸ c') (waiting_with w (session_in c) []) e;
          bare = bare;
          still = λ k. with_each w (session_in c) [] k (λ (xs : List ℕ). (call byte none_held xs).event ≡ none) (λ q. refl) (λ d. told.still k);
          outside = λ k o. with_each w (session_in c) [] k (λ (xs : List ℕ). xs ≡ []) (λ q. refl) (λ d. told.outside k o);
          closed = λ k one f.
              with_each w (session_in c) [] k (λ (xs : List ℕ). xs ≡ []) (λ q. refl)
              (λ d. told.closed k one (sym (other_link c' k one (λ q. d (q ∙ one-session))) ∙ f));
        }

    refused_told : (c : Call) (n : ℕ)
        → call_of (after s h).server (after s h).lent c ≡ outcome (done_with (after s h).server (answer.Refused n)) (after s h).lent (out_in c)
        → Told (h ▸ c) u
    refused_told c n e =
        record {
          same = refused_after s lawful h c n e then told.same;
          bare = told.bare;
          still = told.still;
          outside = told.outside;
          closed = told.closed;
        }

    login_told : (session clock : ℕ) (out : List ℕ) (i : ℕ) → Goes (login session clock out) i
        → Told (h ▸ login session clock out) (with_call u (login session clock out))
    unfolding after
    login_told session clock out i t =
        forgets c c i t refl
        (subst (λ (xs : List ℕ). SameAfter s (calls ▸ lends session xs ▸ c) (calls ▸ c)) (sym none_wait)
        (also_after s lawful (calls ▸ lends session []) calls (empty_after s lawful calls session 0 (replicate 258 0)) c))
        (λ k below. bare_login (after s calls).server (after s calls).lent good k (subst (λ (n : ℕ). k < n) (sym (sessions_are calls)) below)
        (told.bare k below) session clock out)
      where
        c : Call
        c = login session clock out

        none_wait : w session ≡ []
        none_wait = told.closed session t.from_one (sym (linked_at (session - 1)) ∙ t.in_state_law)

    lose_told : (session : ℕ) (i : ℕ) → Goes (lose session) i → Told (h ▸ lose session) (with_call u (lose session))
    unfolding after
    lose_told session i t =
        forgets (lose session) (lose session) i t refl
        (lose_after s lawful calls session 0 (w session) (replicate 258 0) (still_calls session t.from_one))
        (λ k below. bare_lose (after s calls).server (after s calls).lent good k (subst (λ (n : ℕ). k < n) (sym (sessions_are calls)) below)
        (told.bare k below) session)

    request_told : (session : ℕ) (out : List ℕ) (i : ℕ) → Goes (request session out) i
        → Told (h ▸ request session out) (with_call u (request session out))
    request_told session out i t =
        record {
          same = call_first c i t
              then flush_also s lawful 4 _ _ (waiting_with w session [])
              (request_after s lawful calls session 0 (w session) (replicate 258 0) out (still_calls session t.from_one))
              then same_back
              (flush_first s lawful 4 (calls ▸ c) w session (still_of_law (calls ▸ c) w bare told.still told.outside) t.from_one
              (omega (arith, in_range c i t, few)));
          bare = bare;
          still = told.still;
          outside = told.outside;
          closed = λ k one f. told.closed k one (sym (link k one) ∙ f);
        }
      where
        c : Call
        c = request session out

        bare : AllBare (calls ▸ c)
        bare k below =
            unfold after in
            bare_request (after s calls).server (after s calls).lent good k (subst (λ (n : ℕ). k < n) (sym (sessions_are calls)) below)
            (told.bare k below) session out

        link : (k : ℕ) → 1 ≤ k → (link_of (after s (calls ▸ c)).server (k - 1)).linked ≡ (link_of (after s calls).server (k - 1)).linked
        link k one = go (eqb k session) refl
          where
            go : (b : Bool) → eqb k session ≡ b
                → (link_of (after s (calls ▸ c)).server (k - 1)).linked ≡ (link_of (after s calls).server (k - 1)).linked
            go true q =
                unfold after in
                (request_free (after s calls).server (after s calls).lent good (k - 1) session out (omega (arith, eqb-true k session q))).linked
            go false q = other_link c k one (eqb-false k session q)

    module _ (session clock : ℕ) (input out : List ℕ) (i : ℕ) (t : Goes (receive session clock input out) i) where
      abbrev bytes : List ℕ
      bytes = w session ++ input

      abbrev c : Call
      c = receive session clock input out

      most : session ≤ sessions
      most = in_range c i t

      -- all of them in the last call
      together : SameAfter s (calls ▸ lends session (w session) ▸ c) (calls ▸ receive session clock bytes out)
      together =
          joined_after s lawful calls session 0 clock (w session) input (replicate 258 0) out (still_calls session t.from_one) room t.room

      receive_some : (v : Event) → (call byte none_held bytes).event ≡ some v
          → Told (h ▸ c)
          (uncut (calls ▸ receive session clock (take (call byte none_held bytes).taken bytes) out) (waiting_with w session []))
      receive_some v q =
          forgets c (receive session clock xs out) i t refl
          (together
          then subst (λ (bs : List ℕ). SameAfter s (calls ▸ receive session clock bs out) (calls ▸ receive session clock xs out))
          (take-append-drop n bytes)
          (untaken_after s lawful calls session clock xs (drop n bytes) out v
          (ends_of calls told.bare session t.from_one most xs ∙ taken_ends byte bytes none_held v q)))
          (λ k below.
          unfold after in
          bare_receive (after s calls).server (after s calls).lent good k (subst (λ (n : ℕ). k < n) (sym (sessions_are calls)) below)
          (told.bare k below) session clock xs out v
          (λ own.
          bare_event (after s calls).server (after s calls).lent k (told.bare k below) xs ∙ taken_ends byte bytes none_held v q))
        where
          n : ℕ
          n = (call byte none_held bytes).taken

          xs : List ℕ
          xs = take n bytes

      receive_none : (call byte none_held bytes).event ≡ none → Told (h ▸ c) (uncut calls (waiting_with w session bytes))
      receive_none q =
          record {
            same = call_first c i t then flush_also s lawful 4 _ _ (waiting_with w session []) (together then lent_so) then all_wait;
            bare = told.bare;
            still = still;
            outside = outside;
            closed = λ k one f.
                with_each w session bytes k (λ (xs : List ℕ). xs ≡ [])
                (λ e.
                absurd
                (clash (sym t.in_state_law ∙ linked_at (session - 1)
                ∙ ap (λ (j : ℕ). (link_of (after s calls).server (j - 1)).linked) (sym e) ∙ f)))
                (λ d. told.closed k one f);
          }
        where
          still : (k : ℕ) → (call byte none_held (waiting_with w session bytes k)).event ≡ none
          still k = with_each w session bytes k (λ (xs : List ℕ). (call byte none_held xs).event ≡ none) (λ e. q) (λ d. told.still k)

          outside : (k : ℕ) → (1 ≤ k → k ≤ sessions → ⊥) → waiting_with w session bytes k ≡ []
          outside k o =
              with_each w session bytes k (λ (xs : List ℕ). xs ≡ [])
              (λ e. absurd (o (omega (arith, t.from_one, e)) (omega (arith, most, e)))) (λ d. told.outside k o)

          -- their clock and their output do not matter
          lent_so : SameAfter s (calls ▸ receive session clock bytes out) (calls ▸ lends session bytes)
          lent_so =
              same_back (empty_after s lawful (calls ▸ receive session clock bytes out) session 0 (replicate 258 0))
              then subst (λ (xs : List ℕ). SameAfter s (calls ▸ receive session clock bytes out ▸ lends session []) (calls ▸ lends session xs))
              (append-nil bytes)
              (joined_after s lawful calls session clock 0 bytes [] out (replicate 258 0)
              (ends_of calls told.bare session t.from_one most bytes ∙ q) t.room room)

          w'' : ℕ → List ℕ
          w'' = waiting_with w session bytes

          -- and they wait with the others
          all_wait : SameAfter s (flush 4 (calls ▸ lends session bytes) (waiting_with w session [])) (flush 4 calls w'')
          all_wait =
              same_back
              (subst (λ (g : History). SameAfter s (flush 4 calls w'') g)
              (ap (λ (xs : List ℕ). flush 4 (calls ▸ lends session xs) (waiting_with w'' session [])) (with_own w session bytes session refl)
              ∙ flush_same 4 (calls ▸ lends session bytes) (waiting_with w'' session []) (waiting_with w session [])
              (λ k a b.
              with_each w session [] k (λ (xs : List ℕ). waiting_with w'' session [] k ≡ xs) (λ e. with_own w'' session [] k e)
              (λ d. with_other w'' session [] k d ∙ with_other w session bytes k d)))
              (flush_first s lawful 4 calls w'' session (still_of_law calls w'' told.bare still outside) t.from_one (omega (arith, most, few))))

      receive_told : Told (h ▸ c) (with_call u c)
      unfolding on_bytes
      receive_told = go (call byte none_held bytes).event refl
        where
          go : (e : Option Event) → (call byte none_held bytes).event ≡ e
              → Told (h ▸ c) (on_bytes e (call byte none_held bytes).taken u session clock bytes out)
          go none q = receive_none q
          go (some v) q = receive_some v q

    call_told : (c : Call) (i : ℕ) → Goes c i → Told (h ▸ c) (with_call u c)
    call_told (login session clock out) i t = login_told session clock out i t
    call_told (receive session clock input out) i t = receive_told session clock input out i t
    call_told (request session out) i t = request_told session out i t
    call_told (lose session) i t = lose_told session i t

  -- ---- a server just made

  made_server : (made s).server ≡ new_server s.blocks s.files s.sessions s.most
  unfolding made make_of
  made_server = rw lawful

  made_held : (made s).lent.held ≡ replicate (s.sessions * 258) 0 ++ drop (s.sessions * 258) s.lent.held
  unfolding made make_of empty_of
  made_held = rw lawful

  start_bare : AllBare start
  unfolding after
  start_bare i below =
      let n : sessions ≡ s.sessions = ap (λ (x : Server). x.sessions) made_server in
      let m : s.sessions * 258 ≡ i * 258 + (258 + (s.sessions * 258 - (i * 258 + 258))) = omega arith in
      record {
        count = ap (λ (x : Server). (link_of x i).held) made_server
            ∙ ap (λ (x : Session). x.held) (get_or-replicate 4 i closed_session closed_session (omega (arith, few)));
        packet = ap (λ (xs : List ℕ). part (i * 258) 258 xs) made_held
            ∙ ap (λ (k : ℕ). part (i * 258) 258 (replicate k 0 ++ drop (s.sessions * 258) s.lent.held)) m
            ∙ zero_part (i * 258) 258 (s.sessions * 258 - (i * 258 + 258)) (drop (s.sessions * 258) s.lent.held);
      }

  none_wait : (n : ℕ) (h : History) → SameAfter s h (flush n h (λ j. []))
  unfolding flush
  none_wait zero h = same_self
  none_wait (suc n) h = none_wait n h then same_back (empty_after s lawful (flush n h (λ j. [])) (suc n) 0 (replicate 258 0))

  -- ---- every history

  told_of : (h : History) → Told h (uncut_of s h)
  unfolding uncut_of unless_refused call
  told_of start =
      record {
        same = none_wait 4 start;
        bare = start_bare;
        still = λ j. refl;
        outside = λ j o. refl;
        closed = λ j one f. refl;
      }
  told_of (h ▸ c) = go (call_of (after s h).server (after s h).lent c).done.answer refl (told_of h)
    where
      same_refusal : (n : ℕ) → (call_of (after s h).server (after s h).lent c).done.answer ≡ answer.Refused n
          → Answers (after s h).server (after s h).lent c (call_of (after s h).server (after s h).lent c)
          → Told h (uncut_of s h)
          → Told (h ▸ c) (uncut_of s h)
      same_refusal n e (refuses r) t = refused_told h (uncut_of s h) t c r.number r.same
      same_refusal n e (silent r) t =
          let q : answer.Quiet r.taken ≡ answer.Refused n = sym r.answered ∙ e in let z : ◌≡◌ {A = ℕ} 0 1 = cc in absurd (omega arith)
      same_refusal n e (closes r) t =
          let q : answer.Closed r.taken ≡ answer.Refused n = sym r.answered ∙ e in let z : ◌≡◌ {A = ℕ} 0 1 = cc in absurd (omega arith)
      same_refusal n e (sends r) t =
          let q : answer.Sent r.taken (2 + length r.info) ≡ answer.Refused n = sym r.answered ∙ e in
          let z : ◌≡◌ {A = ℕ} 0 1 = cc in absurd (omega arith)

      by_check : ((n : ℕ) → (call_of (after s h).server (after s h).lent c).done.answer ≡ answer.Refused n → ⊥) → (k : Result ℕ ℕ)
          → check_in (after s h).server (after s h).lent c ≡ k
          → Told h (uncut_of s h)
          → Told (h ▸ c) (with_call (uncut_of s h) c)
      by_check not (Err n) e t =
          absurd (not n (ap (λ (o : Outcome). o.done.answer) (refused_call (after s h).server (after s h).lent c n e)))
      by_check not (Ok i) e t =
          call_told h (uncut_of s h) t c i (check_through (after s h).server (after s h).lent (session_in c) (open_in c) (room_in c) i e)

      go : (a : Answer) → (call_of (after s h).server (after s h).lent c).done.answer ≡ a → Told h (uncut_of s h)
          → Told (h ▸ c) (unless_refused a (uncut_of s h) (with_call (uncut_of s h) c))
      go (answer.Quiet taken) e t =
          by_check (λ n q. let x : answer.Quiet taken ≡ answer.Refused n = sym e ∙ q in let z : ◌≡◌ {A = ℕ} 0 1 = cc in omega arith) _ refl t
      go (answer.Sent taken size) e t =
          by_check (λ n q. let x : answer.Sent taken size ≡ answer.Refused n = sym e ∙ q in let z : ◌≡◌ {A = ℕ} 0 1 = cc in omega arith) _ refl t
      go (answer.Closed taken) e t =
          by_check (λ n q. let x : answer.Closed taken ≡ answer.Refused n = sym e ∙ q in let z : ◌≡◌ {A = ℕ} 0 1 = cc in omega arith) _ refl t
      go (answer.Refused n) e t = same_refusal n e (every_call_answers (after s h).server (after s h).lent c) t

-- bytes wait for sessions that there are
pub none_outside : (s : Start) → legal s ≡ true → (h : History) (j : ℕ) → (1 ≤ j → j ≤ s.sessions → ⊥) → (uncut_of s h).waiting j ≡ []
none_outside s lawful h j o =
    let n = ap (λ (x : Server). x.sessions) (made_server s lawful) in
    (told_of s lawful h).outside j (λ a b. o a (omega (arith, b, n)))

-- THEOREM: two histories that are the same without their cuts leave the same state and the same packets
pub uncut_same : UncutSame
uncut_same s lawful h k e =
    (told_of s lawful h).same
    then same_back
    (subst (λ (g : History). SameAfter s k g)
    (sym
    (ap (λ (g : History). flush 4 g (uncut_of s h).waiting) e.calls
    ∙ flush_same 4 (uncut_of s k).calls (uncut_of s h).waiting (uncut_of s k).waiting (λ j a b. e.waiting j)))
    (told_of s lawful k).same)
