-- The pieces in which a driver lends the bytes of a link do not matter. Assumes nothing.
use Rattle.std.specs.Prelude.{Err}
use mathlib.Core.Path.{◌≡◌, refl, sym, ap, ◌∙◌, subst}
use mathlib.Core.Bool.{true, false}
use mathlib.Core.List.{List, [], ◌∷◌, ◌++◌, append_assoc, append-nil, flatten}
use mathlib.Core.Option.{Option, none, some}
use Prim.Native.Nat.{ℕ, zero, suc, ◌+◌, ◌-◌, ◌≤◌}
use native.Mathlib.Omega.{arith}
use lib.ListN.{length, drop, length-append, length-drop}
use lib.Seq.{drop-append-le, drop-append-add, drop-length}
use Rattle.packet.specs.Frame.{Event}
use Rattle.session.specs.declared.state.Session.{Session}
use Rattle.session.specs.declared.reply.Answer.{Answer}
use Rattle.session.specs.declared.reply.Answer.TheVariants as answer
use Rattle.session.specs.State.{closed_session}
use Rattle.session.specs.Reply.{Told, tell}
use Rattle.server.specs.State.{Outcome, link_of}
use Rattle.server.specs.Check.{check_of}
use Rattle.history.specs.Calls.{receive, call_of, State, state, after}
use Rattle.history.specs.Good.{Good}
use Rattle.history.proofs.Kept.{good_kept}
use Rattle.history.proofs.Histories.{good_after}
use Rattle.promises.specs.Closing.{event_at}
use Rattle.promises.specs.Demand1.{Answers, refuses, silent, closes, sends}
use Rattle.promises.specs.Cut.{Seen, seen_in}
use Rattle.promises.specs.Feeding.{Fed, fed, and_then, onward, feed, feed_all, EnoughCalls, feed_pieces, PiecesElsewhere}
use Rattle.cutting.proofs.Joined.{shift, shifted, rest_untouched}
use Rattle.answers.proofs.Answered.{Tells, quiet, closing, sending, tells, every_call_answers}
use Rattle.cutting.proofs.CutCalls.{refused_receive, no_packet, joined_call, seen_shift, unended_seen}
use Rattle.answers.proofs.Receiving as steps

-- the state that an outcome leaves
abbrev left : Outcome → State
left o = state o.done.server o.lent

module _ (session clock : ℕ) (out : List ℕ) where
  abbrev at : State → List ℕ → Outcome
  at st bytes = call_of st.server st.lent (receive session clock bytes out)

  abbrev fresh : State → List ℕ → List Seen
  fresh st bytes = seen_in session (at st bytes).done.answer (at st bytes).out

  -- ---- how a call goes on

  -- the driver stops, and further bytes come to nothing
  record Stops (o : Outcome) : Type 0 where
    on : (go : ℕ → Fed) → onward o.done.answer (left o) go ≡ fed (left o) []
    stuck : (k : ℕ) (bytes : List ℕ) → feed k (left o) session clock out bytes ≡ fed (left o) []

  -- it goes on behind the bytes taken, of which there were n
  record Goes (n : ℕ) (o : Outcome) : Type 0 where
    taken : ℕ
    within : taken ≤ n
    some_taken : 1 ≤ n → 1 ≤ taken
    on : (go : ℕ → Fed) → onward o.done.answer (left o) go ≡ go taken

  data Went (n : ℕ) (o : Outcome) : Type 0 where
    stops : Stops o → Went n o
    goes : Goes n o → Went n o

  -- a state for which every call is refused
  stuck_refused : (st : State) (n : ℕ) → check_of st.server st.lent session true (length out) ≡ Err n
      → (k : ℕ) (bytes : List ℕ)
      → feed k st session clock out bytes ≡ fed st []
  unfolding feed
  stuck_refused st n e zero bytes = refl
  stuck_refused st n e (suc k) [] = refl
  stuck_refused st n e (suc k) (b ∷ bs) =
      ap
      (λ (o : Outcome).
      and_then (seen_in session o.done.answer o.out)
      (onward o.done.answer (left o) (λ taken. feed k (left o) session clock out (drop taken (b ∷ bs)))))
      (refused_receive st.server st.lent session clock (b ∷ bs) out n e)
      ∙ (unfold seen_in onward in refl)

  -- a state in which the session is closed
  stuck_closed : (st : State) → link_of st.server (session - 1) ≡ closed_session → (k : ℕ) (bytes : List ℕ)
      → feed k st session clock out bytes ≡ fed st []
  stuck_closed st e k bytes = go (steps.receives st.server st.lent session clock [] out)
    where
      clash : (link_of st.server (session - 1)).linked ≡ true → ⊥
      clash q =
          let f : false ≡ true = sym (ap (λ (s : Session). s.linked) e) ∙ q in
          let z : ◌≡◌ {A = ℕ} 0 1 = cc in omega arith

      go : steps.Receives st.server st.lent session clock [] out → feed k st session clock out bytes ≡ fed st []
      go (steps.refused n o c q) = stuck_refused st n c k bytes
      go (steps.ends_none f) = absurd (clash f.through.in_state_law)
      go (steps.ends_packet f) = absurd (clash f.through.in_state_law)

  -- a call that closes leaves the session closed
  closed_after : (st : State) (bytes : List ℕ) (taken : ℕ) → (at st bytes).done.answer ≡ answer.Closed taken
      → link_of (at st bytes).done.server (session - 1) ≡ closed_session
  closed_after st bytes taken e = go (every_call_answers st.server st.lent (receive session clock bytes out))
    where
      go : Answers st.server st.lent (receive session clock bytes out) (at st bytes)
          → link_of (at st bytes).done.server (session - 1) ≡ closed_session
      go (refuses r) =
          let q : answer.Refused r.number ≡ answer.Closed taken = sym (ap (λ (o : Outcome). o.done.answer) r.same) ∙ e in
          let z : ◌≡◌ {A = ℕ} 0 1 = cc in absurd (omega arith)
      go (silent r) =
          let q : answer.Quiet r.taken ≡ answer.Closed taken = sym r.answered ∙ e in
          let z : ◌≡◌ {A = ℕ} 0 1 = cc in absurd (omega arith)
      go (closes r) = r.session
      go (sends r) =
          let q : answer.Sent r.taken (2 + length r.info) ≡ answer.Closed taken = sym r.answered ∙ e in
          let z : ◌≡◌ {A = ℕ} 0 1 = cc in absurd (omega arith)

  on_quiet : (o : Outcome) (taken : ℕ) → o.done.answer ≡ answer.Quiet taken → (go : ℕ → Fed) → onward o.done.answer (left o) go ≡ go taken
  unfolding onward
  on_quiet o taken e go = ap (λ (a : Answer). onward a (left o) go) e

  on_sent_law : (o : Outcome) (taken size : ℕ) → o.done.answer ≡ answer.Sent taken size → (go : ℕ → Fed)
      → onward o.done.answer (left o) go ≡ go taken
  unfolding onward
  on_sent_law o taken size e go = ap (λ (a : Answer). onward a (left o) go) e

  on_closed : (o : Outcome) (taken : ℕ) → o.done.answer ≡ answer.Closed taken → (go : ℕ → Fed)
      → onward o.done.answer (left o) go ≡ fed (left o) []
  unfolding onward
  on_closed o taken e go = ap (λ (a : Answer). onward a (left o) go) e

  on_refused : (o : Outcome) (n : ℕ) → o.done.answer ≡ answer.Refused n → (go : ℕ → Fed) → onward o.done.answer (left o) go ≡ fed (left o) []
  unfolding onward
  on_refused o n e go = ap (λ (a : Answer). onward a (left o) go) e

  went : (st : State) (bytes : List ℕ) → Went (length bytes) (at st bytes)
  went st bytes = go (steps.receives st.server st.lent session clock bytes out)
    where
      go : steps.Receives st.server st.lent session clock bytes out → Went (length bytes) (at st bytes)
      go (steps.refused n o c q) =
          stops (record {
            on = on_refused (at st bytes) n (ap (λ (o : Outcome). o.done.answer) q);
            stuck = λ k ys. subst (λ (o : Outcome). feed k (left o) session clock out ys ≡ fed (left o) []) (sym q) (stuck_refused st n c k ys);
          })
      go (steps.ends_none f) =
          goes (record {
            taken = length bytes;
            within = omega arith;
            some_taken = λ h. h;
            on = on_quiet (at st bytes) (length bytes) (ap (λ (o : Outcome). o.done.answer) f.is);
          })
      go (steps.ends_packet f) = by (tells f.turn.turn.reply f.heard.taken out)
        where
          said : (at st bytes).done.answer ≡ (tell f.turn.turn.reply f.heard.taken out).answer
          said = ap (λ (o : Outcome). o.done.answer) f.is

          by : Tells f.turn.turn.reply f.heard.taken out → Went (length bytes) (at st bytes)
          by (quiet q) =
              goes (record {
                taken = f.heard.taken;
                within = f.heard.within;
                some_taken = f.heard.some_taken;
                on = on_quiet (at st bytes) f.heard.taken (said ∙ ap (λ (t : Told). t.answer) q);
              })
          by (closing z q) =
              let e = said ∙ ap (λ (t : Told). t.answer) q in
              stops (record {
                on = on_closed (at st bytes) f.heard.taken e;
                stuck = stuck_closed (left (at st bytes)) (closed_after st bytes f.heard.taken e);
              })
          by (sending kind info a b q) =
              goes (record {
                taken = f.heard.taken;
                within = f.heard.within;
                some_taken = f.heard.some_taken;
                on = on_sent_law (at st bytes) f.heard.taken (2 + length info) (said ∙ ap (λ (t : Told). t.answer) q);
              })

  -- ---- enough calls

  feed_nil : (k : ℕ) (st : State) → feed k st session clock out [] ≡ fed st []
  unfolding feed
  feed_nil zero st = refl
  feed_nil (suc k) st = refl

  dropped : (taken k b : ℕ) (bs : List ℕ) → 1 ≤ taken → length (b ∷ bs) ≤ suc k → length (drop taken (b ∷ bs)) ≤ k
  dropped taken k b bs h l = rw (length-drop taken (b ∷ bs)) (omega arith)

  enough : (k m : ℕ) (st : State) (bytes : List ℕ) → length bytes ≤ k → length bytes ≤ m
      → feed k st session clock out bytes ≡ feed m st session clock out bytes
  unfolding feed
  enough zero m st [] a b = sym (feed_nil m st)
  enough zero m st (x ∷ bs) a b = absurd (omega arith)
  enough (suc k) m st [] a b = sym (feed_nil m st)
  enough (suc k) zero st (x ∷ bs) a b = absurd (omega arith)
  enough (suc k) (suc m) st (x ∷ bs) a b =
      ap (λ (f : Fed). and_then (fresh st (x ∷ bs)) f)
      (go (went st (x ∷ bs))
      (λ taken h. enough k m (left (at st (x ∷ bs))) (drop taken (x ∷ bs)) (dropped taken k x bs h a) (dropped taken m x bs h b)))
    where
      go : Went (length (x ∷ bs)) (at st (x ∷ bs))
          → ((taken : ℕ)
          → 1 ≤ taken
          → feed k (left (at st (x ∷ bs))) session clock out (drop taken (x ∷ bs))
          ≡ feed m (left (at st (x ∷ bs))) session clock out (drop taken (x ∷ bs)))
          → onward (at st (x ∷ bs)).done.answer (left (at st (x ∷ bs)))
          (λ taken. feed k (left (at st (x ∷ bs))) session clock out (drop taken (x ∷ bs)))
          ≡ onward (at st (x ∷ bs)).done.answer (left (at st (x ∷ bs)))
          (λ taken. feed m (left (at st (x ∷ bs))) session clock out (drop taken (x ∷ bs)))
      go (stops s) ih = s.on _ ∙ sym (s.on _)
      go (goes g) ih = g.on _ ∙ ih g.taken (g.some_taken (omega arith)) ∙ sym (g.on _)

  -- ---- the first call

  first_goes : (st : State) (bytes : List ℕ) → 1 ≤ length bytes → (g : Goes (length bytes) (at st bytes))
      → feed_all st session clock out bytes ≡ and_then (fresh st bytes) (feed_all (left (at st bytes)) session clock out (drop g.taken bytes))
  unfolding feed
  first_goes st [] h g = absurd (omega arith)
  first_goes st (x ∷ bs) h g =
      ap (λ (f : Fed). and_then (fresh st (x ∷ bs)) f)
      (g.on _
      ∙ enough (length bs) (length (drop g.taken (x ∷ bs))) (left (at st (x ∷ bs))) (drop g.taken (x ∷ bs))
      (dropped g.taken (length bs) x bs (g.some_taken h) (omega arith)) (omega arith))

  first_stops : (st : State) (bytes : List ℕ) → 1 ≤ length bytes → Stops (at st bytes)
      → feed_all st session clock out bytes ≡ fed (left (at st bytes)) (fresh st bytes)
  unfolding feed
  first_stops st [] h s = absurd (omega arith)
  first_stops st (x ∷ bs) h s =
      ap (λ (f : Fed). and_then (fresh st (x ∷ bs)) f) (s.on _) ∙ ap (λ (k : List Seen). fed (left (at st (x ∷ bs))) k)
      (append-nil (fresh st (x ∷ bs)))

  -- a call that stops leaves nothing to do, whatever follows
  abbrev Parted : State → List ℕ → List ℕ → Type 0
  Parted st xs ys =
      feed_all st session clock out (xs ++ ys)
      ≡ and_then (feed_all st session clock out xs).seen (feed_all (feed_all st session clock out xs).state session clock out ys)

  parted_stops : (st : State) (xs ys : List ℕ) → 1 ≤ length xs → at st (xs ++ ys) ≡ at st xs → Stops (at st xs) → Parted st xs ys
  parted_stops st xs ys h e s =
      first_stops st (xs ++ ys) (rw (length-append xs ys) (omega arith)) (subst (λ (o : Outcome). Stops o) (sym e) s)
      ∙ ap (λ (o : Outcome). fed (left o) (seen_in session o.done.answer o.out)) e
      ∙ ap (λ (k : List Seen). fed (left (at st xs)) k) (sym (append-nil (fresh st xs)))
      ∙ ap (λ (f : Fed). and_then (fresh st xs) f) (sym (s.stuck (length ys) ys))
      ∙ ap (λ (f : Fed). and_then f.seen (feed_all f.state session clock out ys)) (sym (first_stops st xs h s))

  -- a call that goes on within the first bytes
  parted_goes : (st : State) (xs ys : List ℕ) → 1 ≤ length xs → at st (xs ++ ys) ≡ at st xs → (g : Goes (length xs) (at st xs))
      → Parted (left (at st xs)) (drop g.taken xs) ys
      → Parted st xs ys
  parted_goes st xs ys h e g ih =
      first_goes st (xs ++ ys) (rw (length-append xs ys) (omega arith)) more
      ∙ ap (λ (o : Outcome). and_then (seen_in session o.done.answer o.out) (feed_all (left o) session clock out (drop g.taken (xs ++ ys)))) e
      ∙ ap (λ (bs : List ℕ). and_then (fresh st xs) (feed_all (left (at st xs)) session clock out bs)) (drop-append-le g.taken xs ys g.within)
      ∙ ap (λ (f : Fed). and_then (fresh st xs) f) ih
      ∙ ap (λ (k : List Seen). fed (feed_all rest.state session clock out ys).state k)
      (sym (append_assoc (fresh st xs) rest.seen (feed_all rest.state session clock out ys).seen))
      ∙ ap (λ (f : Fed). and_then f.seen (feed_all f.state session clock out ys)) (sym (first_goes st xs h g))
    where
      rest : Fed
      rest = feed_all (left (at st xs)) session clock out (drop g.taken xs)

      more : Goes (length (xs ++ ys)) (at st (xs ++ ys))
      more =
          record {
            taken = g.taken;
            within = rw (length-append xs ys) (omega (arith, g.within));
            some_taken = λ n. g.some_taken h;
            on = subst (λ (o : Outcome). (go : ℕ → Fed) → onward o.done.answer (left o) go ≡ go g.taken) (sym e) g.on;
          }

  onward_shift : (n : ℕ) (a : Answer) (st : State) (go : ℕ → Fed) → onward (shift n a) st go ≡ onward a st (λ taken. go (n + taken))
  unfolding onward shift
  onward_shift n (answer.Quiet taken) st go = refl
  onward_shift n (answer.Sent taken size) st go = refl
  onward_shift n (answer.Closed taken) st go = refl
  onward_shift n (answer.Refused k) st go = refl

  -- bytes that end nothing: the next call goes on with them
  parted_none : (st : State) (xs ys : List ℕ) → 1 ≤ length xs → at st (xs ++ ys) ≡ shifted (length xs) (at (left (at st xs)) ys)
      → fresh st xs ≡ []
      → (g : Goes (length xs) (at st xs))
      → g.taken ≡ length xs
      → Parted st xs ys
  parted_none st xs ys h e none_seen g all = by ys e
    where
      one : feed_all st session clock out xs ≡ fed (left (at st xs)) []
      one =
          first_goes st xs h g ∙ ap (λ (k : List Seen). and_then k (feed_all (left (at st xs)) session clock out (drop g.taken xs))) none_seen
          ∙ ap (λ (n : ℕ). feed_all (left (at st xs)) session clock out (drop n xs)) all
          ∙ ap (λ (bs : List ℕ). feed_all (left (at st xs)) session clock out bs) (drop-length xs)
          ∙ feed_nil 0 (left (at st xs))

      after_one : (bs : List ℕ)
          → feed_all (left (at st xs)) session clock out bs
          ≡ and_then (feed_all st session clock out xs).seen (feed_all (feed_all st session clock out xs).state session clock out bs)
      after_one bs = sym (ap (λ (f : Fed). and_then f.seen (feed_all f.state session clock out bs)) one)

      longer : (bs : List ℕ) → 1 ≤ length (xs ++ bs)
      longer bs = rw (length-append xs bs) (omega arith)

      same_seen : (bs : List ℕ) → at st (xs ++ bs) ≡ shifted (length xs) (at (left (at st xs)) bs) → fresh st (xs ++ bs) ≡ fresh (left (at st xs)) bs
      same_seen bs q = ap (λ (o : Outcome). seen_in session o.done.answer o.out) q ∙ seen_shift session (length xs) _ _

      on_shift : (bs : List ℕ) → at st (xs ++ bs) ≡ shifted (length xs) (at (left (at st xs)) bs) → (go : ℕ → Fed)
          → onward (at st (xs ++ bs)).done.answer (left (at st (xs ++ bs))) go
          ≡ onward (at (left (at st xs)) bs).done.answer (left (at (left (at st xs)) bs)) (λ taken. go (length xs + taken))
      on_shift bs q go = ap (λ (o : Outcome). onward o.done.answer (left o) go) q ∙ onward_shift (length xs) _ _ go

      left_same : (bs : List ℕ) → at st (xs ++ bs) ≡ shifted (length xs) (at (left (at st xs)) bs)
          → left (at st (xs ++ bs)) ≡ left (at (left (at st xs)) bs)
      left_same bs q = ap (λ (o : Outcome). left o) q

      on_with : (b : ℕ) (bs : List ℕ) → at st (xs ++ b ∷ bs) ≡ shifted (length xs) (at (left (at st xs)) (b ∷ bs))
          → Went (length (b ∷ bs)) (at (left (at st xs)) (b ∷ bs))
          → feed_all st session clock out (xs ++ b ∷ bs) ≡ feed_all (left (at st xs)) session clock out (b ∷ bs)
      on_with b bs q (stops s) =
          first_stops st (xs ++ b ∷ bs) (longer (b ∷ bs))
          (record {
            on = λ go. on_shift (b ∷ bs) q go ∙ s.on _ ∙ ap (λ (x : State). fed x []) (sym (left_same (b ∷ bs) q));
            stuck = λ k ys. subst (λ (x : State). feed k x session clock out ys ≡ fed x []) (sym (left_same (b ∷ bs) q)) (s.stuck k ys);
          })
          ∙ ap (λ (x : State). fed x (fresh st (xs ++ b ∷ bs))) (left_same (b ∷ bs) q)
          ∙ ap (λ (k : List Seen). fed (left (at (left (at st xs)) (b ∷ bs))) k) (same_seen (b ∷ bs) q)
          ∙ sym (first_stops (left (at st xs)) (b ∷ bs) (omega arith) s)
      on_with b bs q (goes r) =
          first_goes st (xs ++ b ∷ bs) (longer (b ∷ bs))
          (record {
            taken = length xs + r.taken;
            within = rw (length-append xs (b ∷ bs)) (omega (arith, r.within));
            some_taken = λ n. omega arith;
            on = λ go. on_shift (b ∷ bs) q go ∙ r.on _;
          })
          ∙ ap (λ (k : List Seen). and_then k (feed_all (left (at st (xs ++ b ∷ bs))) session clock out (drop (length xs + r.taken) (xs ++ b ∷ bs))))
          (same_seen (b ∷ bs) q)
          ∙ ap
          (λ (x : State). and_then (fresh (left (at st xs)) (b ∷ bs)) (feed_all x session clock out (drop (length xs + r.taken) (xs ++ b ∷ bs))))
          (left_same (b ∷ bs) q)
          ∙ ap (λ (cs : List ℕ). and_then (fresh (left (at st xs)) (b ∷ bs)) (feed_all (left (at (left (at st xs)) (b ∷ bs))) session clock out cs))
          (drop-append-add xs (b ∷ bs) r.taken)
          ∙ sym (first_goes (left (at st xs)) (b ∷ bs) (omega arith) r)

      by : (bs : List ℕ) → at st (xs ++ bs) ≡ shifted (length xs) (at (left (at st xs)) bs) → Parted st xs bs
      by [] q =
          ap (λ (cs : List ℕ). feed_all st session clock out cs) (append-nil xs) ∙ one ∙ sym (feed_nil 0 (left (at st xs))) ∙ after_one []
      by (b ∷ bs) q = on_with b bs q (went (left (at st xs)) (b ∷ bs)) ∙ after_one (b ∷ bs)

-- THEOREM: as many calls as there are bytes are enough
pub enough_calls : EnoughCalls
enough_calls st session clock out bytes k h = enough session clock out k (length bytes) st bytes h (omega arith)

-- ---- on states that calls made

module _ (session clock : ℕ) (out : List ℕ) (room : 258 ≤ length out) where
  -- one piece after another, or both together
  parted : (k : ℕ) (st : State) (xs ys : List ℕ) → Good st.server st.lent → length xs ≤ k → Parted session clock out st xs ys
  unfolding feed
  parted zero st [] ys good h = refl
  parted zero st (x ∷ xs) ys good h = absurd (omega arith)
  parted (suc k) st [] ys good h = refl
  parted (suc k) st (x ∷ xs) ys good h =
      on (event_at st.server st.lent (session - 1) (x ∷ xs)) refl (λ t zs ws g l. parted k t zs ws g l)
    where
      kept : Good (at session clock out st (x ∷ xs)).done.server (at session clock out st (x ∷ xs)).lent
      kept = good_kept st.server st.lent good (receive session clock (x ∷ xs) out)

      in_first : (e : Event) → event_at st.server st.lent (session - 1) (x ∷ xs) ≡ some e
          → ((st : State) (zs ys : List ℕ) → Good st.server st.lent → length zs ≤ k → Parted session clock out st zs ys)
          → Went session clock out (length (x ∷ xs)) (at session clock out st (x ∷ xs))
          → Parted session clock out st (x ∷ xs) ys
      in_first e q ih (stops s) =
          parted_stops session clock out st (x ∷ xs) ys (omega arith) (rest_untouched st.server st.lent session clock (x ∷ xs) ys out e q) s
      in_first e q ih (goes g) =
          parted_goes session clock out st (x ∷ xs) ys (omega arith) (rest_untouched st.server st.lent session clock (x ∷ xs) ys out e q) g
          (ih (left (at session clock out st (x ∷ xs))) (drop g.taken (x ∷ xs)) ys kept
          (dropped session clock out g.taken k x xs (g.some_taken (omega arith)) h))

      none_in_first : event_at st.server st.lent (session - 1) (x ∷ xs) ≡ none
          → steps.Receives st.server st.lent session clock (x ∷ xs) out
          → Parted session clock out st (x ∷ xs) ys
      none_in_first q (steps.refused n o c r) =
          stuck_refused session clock out st n c (length (x ∷ xs ++ ys)) (x ∷ xs ++ ys)
          ∙ sym
          (ap (λ (f : Fed). and_then f.seen (feed_all f.state session clock out ys))
          (stuck_refused session clock out st n c (length (x ∷ xs)) (x ∷ xs))
          ∙ stuck_refused session clock out st n c (length ys) ys)
      none_in_first q (steps.ends_none f) =
          parted_none session clock out st (x ∷ xs) ys (omega arith)
          (joined_call st.server st.lent good session clock clock (x ∷ xs) ys out out q room room)
          (unended_seen st.server st.lent session clock (x ∷ xs) out q)
          (record {
            taken = length (x ∷ xs);
            within = omega arith;
            some_taken = λ n. n;
            on = on_quiet session clock out (at session clock out st (x ∷ xs)) (length (x ∷ xs)) (ap (λ (o : Outcome). o.done.answer) f.is);
          })
          refl
      none_in_first q (steps.ends_packet f) = absurd (no_packet st.server st.lent session clock (x ∷ xs) out q f)

      on : (e : Option Event) → event_at st.server st.lent (session - 1) (x ∷ xs) ≡ e
          → ((st : State) (zs ys : List ℕ) → Good st.server st.lent → length zs ≤ k → Parted session clock out st zs ys)
          → Parted session clock out st (x ∷ xs) ys
      on none q ih = none_in_first q (steps.receives st.server st.lent session clock (x ∷ xs) out)
      on (some e) q ih = in_first e q ih (went session clock out st (x ∷ xs))

  -- the state stays good
  fed_good : (k : ℕ) (st : State) (bytes : List ℕ) → Good st.server st.lent
      → Good (feed k st session clock out bytes).state.server (feed k st session clock out bytes).state.lent
  unfolding feed onward
  fed_good zero st bytes good = good
  fed_good (suc k) st [] good = good
  fed_good (suc k) st (b ∷ bs) good =
      go (at session clock out st (b ∷ bs)).done.answer kept
      (λ taken. fed_good k (left (at session clock out st (b ∷ bs))) (drop taken (b ∷ bs)) kept)
    where
      kept : Good (at session clock out st (b ∷ bs)).done.server (at session clock out st (b ∷ bs)).lent
      kept = good_kept st.server st.lent good (receive session clock (b ∷ bs) out)

      go : (a : Answer) → Good (at session clock out st (b ∷ bs)).done.server (at session clock out st (b ∷ bs)).lent
          → ((taken : ℕ)
          → Good (feed k (left (at session clock out st (b ∷ bs))) session clock out (drop taken (b ∷ bs))).state.server
          (feed k (left (at session clock out st (b ∷ bs))) session clock out (drop taken (b ∷ bs))).state.lent)
          → Good
          (onward a (left (at session clock out st (b ∷ bs)))
          (λ taken. feed k (left (at session clock out st (b ∷ bs))) session clock out (drop taken (b ∷ bs)))).state.server
          (onward a (left (at session clock out st (b ∷ bs)))
          (λ taken. feed k (left (at session clock out st (b ∷ bs))) session clock out (drop taken (b ∷ bs)))).state.lent
      go (answer.Quiet taken) here ih = ih taken
      go (answer.Sent taken size) here ih = ih taken
      go (answer.Closed taken) here ih = here
      go (answer.Refused n) here ih = here

  pieces : (ps : List (List ℕ)) (st : State) → Good st.server st.lent
      → feed_pieces st session clock out ps ≡ feed_all st session clock out (flatten ps)
  unfolding feed_pieces flatten
  pieces [] st good = sym (feed_nil session clock out 0 st)
  pieces (p ∷ ps) st good =
      ap (λ (f : Fed). and_then (feed_all st session clock out p).seen f)
      (pieces ps (feed_all st session clock out p).state (fed_good (length p) st p good))
      ∙ sym (parted (length p) st p (flatten ps) good (omega arith))

-- THEOREM: the same bytes in other pieces give the same state and the same packets
pub pieces_elsewhere : PiecesElsewhere
pieces_elsewhere s lawful h session clock out room ps qs e =
    pieces session clock out room ps (after s h) (good_after s lawful h)
    ∙ ap (λ (bytes : List ℕ). feed_all (after s h) session clock out bytes) e
    ∙ sym (pieces session clock out room qs (after s h) (good_after s lawful h))
