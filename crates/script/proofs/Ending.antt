-- A line ends (demand 1: "The program always ends"): after at most 1,048,580 steps more than it has bytes the script rests, in every good state, which
-- all states are that a script reaches (Reaching.antt), whatever the bytes. Assumes nothing.
use Rattle.std.specs.Prelude.{Result, Ok, Err}
use native.Mathlib.Omega.{arith}
use mathlib.Core.Path.{◌≡◌, refl, sym, ◌∙◌, ap}
use mathlib.Core.Bool.{Bool, true, false, cond}
use mathlib.Core.List.{List, []}
use Prim.Native.Nat.{ℕ, zero, suc, ◌+◌, ◌-◌, ◌≤◌, ◌<◌}
use lib.Dec.{ltb}
use lib.ListN.{length, replicate}
use borrow.Author.Tests.{ltb-true}
use Rattle.session.specs.declared.reply.Answer.{Answer}
use Rattle.session.specs.declared.reply.Answer.TheVariants as answer
use Rattle.server.specs.declared.Server.{Server}
use Rattle.server.specs.State.{Lent, Outcome}
use Rattle.server.specs.Calls.{Opened, on_request}
use Rattle.server.specs.Calls.{receive_by, request_by}
use Rattle.server.specs.Check.{check_for}
use Rattle.server.proofs.KeptLaws.{kept_check, kept_receive}
use Rattle.history.specs.Good.{Good}
use Rattle.script.specs.declared.doing.Doing.{Doing}
use Rattle.script.specs.declared.doing.Doing.TheVariants as doing
use Rattle.script.specs.declared.Day.{Day}
use Rattle.input.specs.Parts.{rest_of, bytes_from}
use Rattle.script.specs.Doing.{rests_of, goes_on, heard_on, pumped_on, after_of}
use Rattle.script.specs.Calling.{hear_of, call_of}
use Rattle.script.specs.Day.{day_of, prints_of, answered_of, turn_of, step_of}
use Rattle.script.specs.Line.{Ran, ran, printing, room, line_of}
use Rattle.input.proofs.PartLaws.{rest_length}
use Rattle.script.proofs.Own.{good_receive, good_request}
use Rattle.script.proofs.Pumping.{left_in, request_less, left_most}
use Rattle.script.proofs.Taking.{took_of, refusal, receive_takes}

-- a step and those after it
abbrev further : ℕ → Day → Lent → List ℕ → Ran
further k day l bytes =
    printing (step_of day l bytes room) (line_of k (step_of day l bytes room).stepped.day (step_of day l bytes room).lent bytes)

-- the script rests after at most k steps
abbrev pub RestsIn : ℕ → Day → Lent → List ℕ → Type 0
RestsIn k day l bytes = rests_of (line_of k day l bytes).day.doing ≡ true

pub rested : (m : ℕ) (day : Day) (l : Lent) (bytes : List ℕ) → rests_of day.doing ≡ true → line_of m day l bytes ≡ ran day l []
unfolding line_of
rested zero day l bytes e = refl
rested (suc m) day l bytes e = rw (e, line_of)

pub stepped : (m : ℕ) (day : Day) (l : Lent) (bytes : List ℕ) → rests_of day.doing ≡ false → line_of (suc m) day l bytes ≡ further m day l bytes
unfolding line_of
stepped m day l bytes e = rw (e, line_of)

clash : true ≡ false → ⊥
clash e = let z : ◌≡◌ {A = ℕ} 0 1 = cc in omega arith

rests_now : (k : ℕ) (day : Day) (l : Lent) (bytes : List ℕ) → rests_of day.doing ≡ true → RestsIn k day l bytes
rests_now k day l bytes e = ap (λ (r : Ran). rests_of r.day.doing) (rested k day l bytes e) ∙ e

rest_rests : rests_of doing.Rest ≡ true
unfolding rests_of
rest_rests = refl

at_rest : (k : ℕ) (sv : Server) (clock : ℕ) (l : Lent) (bytes : List ℕ) → RestsIn k (day_of sv clock doing.Rest) l bytes
at_rest k sv clock l bytes = rests_now k (day_of sv clock doing.Rest) l bytes rest_rests

-- the call of a step, and the script after it
abbrev called : Day → Lent → List ℕ → Outcome
called day l bytes = call_of day.server day.clock day.doing bytes l (replicate 258 0)

abbrev next : Day → List ℕ → Outcome → Day
next day bytes o = day_of o.done.server day.clock (after_of day.doing o.done.answer (length bytes))

step_day : (day : Day) (l : Lent) (bytes : List ℕ) → (step_of day l bytes room).stepped.day ≡ next day bytes (called day l bytes)
unfolding step_of turn_of answered_of prints_of
step_day day l bytes = refl

step_lent : (day : Day) (l : Lent) (bytes : List ℕ) → (step_of day l bytes room).lent ≡ (called day l bytes).lent
unfolding step_of turn_of answered_of prints_of
step_lent day l bytes = refl

steps_on : (k : ℕ) (day : Day) (l : Lent) (bytes : List ℕ)
    → RestsIn k (step_of day l bytes room).stepped.day (step_of day l bytes room).lent bytes → RestsIn (suc k) day l bytes
steps_on k day l bytes h = go (rests_of day.doing) refl
  where
    go : (t : Bool) → rests_of day.doing ≡ t → RestsIn (suc k) day l bytes
    go true e = rests_now (suc k) day l bytes e
    go false e = ap (λ (r : Ran). rests_of r.day.doing) (stepped k day l bytes e) ∙ h

rests_next : (k : ℕ) (day : Day) (l : Lent) (bytes : List ℕ) → RestsIn k (next day bytes (called day l bytes)) (called day l bytes).lent bytes
    → RestsIn (suc k) day l bytes
rests_next k day l bytes h = steps_on k day l bytes (rw (step_day day l bytes, step_lent day l bytes) h)

-- ---- pumping

pumped : (k : ℕ) (sv : Server) (clock session : ℕ) (l : Lent) (bytes : List ℕ) (a : Answer)
    → ((t n : ℕ) → a ≡ answer.Sent t n → RestsIn k (day_of sv clock (doing.Pumping session)) l bytes)
    → RestsIn k (day_of sv clock (pumped_on session a)) l bytes
unfolding pumped_on
pumped k sv clock session l bytes (answer.Quiet t) h = at_rest k sv clock l bytes
pumped k sv clock session l bytes (answer.Sent t n) h = h t n refl
pumped k sv clock session l bytes (answer.Closed t) h = at_rest k sv clock l bytes
pumped k sv clock session l bytes (answer.Refused n) h = at_rest k sv clock l bytes

pump : (k : ℕ) (sv : Server) (clock session : ℕ) (l : Lent) (bytes : List ℕ) → Good sv l → left_in sv l session < k
    → RestsIn k (day_of sv clock (doing.Pumping session)) l bytes
unfolding call_of after_of request_by
pump zero sv clock session l bytes g p = absurd (omega (arith, p))
pump (suc k) sv clock session l bytes g p =
    rests_next k (day_of sv clock (doing.Pumping session)) l bytes
    (pumped k r.done.server clock session l bytes r.done.answer
    (λ t n e. pump k r.done.server clock session l bytes (good_request sv l g (replicate 258 0) session)
    (omega (
      arith,
      p,
      request_less sv l (replicate 258 0) session (check_for true sv l session true 258) (sym (kept_check sv l g.sound session true 258)) t n e,
    ))))
  where
    r : Opened
    r = request_by true sv l (replicate 258 0) session

-- a request that is refused ends it at once
refused_answer : (sv : Server) (l : Lent) (session n : ℕ) → check_for true sv l session true 258 ≡ Err n
    → (request_by true sv l (replicate 258 0) session).done.answer ≡ answer.Refused n
unfolding request_by on_request
refused_answer sv l session n e = rw e

not_sent : (n t m : ℕ) → answer.Refused n ≡ answer.Sent t m → ⊥
not_sent n t m e = let z : ◌≡◌ {A = ℕ} 0 1 = cc in omega arith

pump_refused : (k : ℕ) (sv : Server) (clock session n : ℕ) (l : Lent) (bytes : List ℕ) → check_for true sv l session true 258 ≡ Err n
    → RestsIn (suc k) (day_of sv clock (doing.Pumping session)) l bytes
unfolding call_of after_of
pump_refused k sv clock session n l bytes e =
    rests_next k (day_of sv clock (doing.Pumping session)) l bytes
    (pumped k r.done.server clock session l bytes r.done.answer (λ t m f. absurd (not_sent n t m (sym (refused_answer sv l session n e) ∙ f))))
  where
    r : Opened
    r = request_by true sv l (replicate 258 0) session

pump_most : (k : ℕ) (sv : Server) (clock session : ℕ) (l : Lent) (bytes : List ℕ) → Good sv l → 1048579 ≤ k
    → RestsIn k (day_of sv clock (doing.Pumping session)) l bytes
pump_most zero sv clock session l bytes g p = absurd (omega (arith, p))
pump_most (suc k) sv clock session l bytes g p = go (check_for true sv l session true 258) refl
  where
    go : (c : Result ℕ ℕ) → check_for true sv l session true 258 ≡ c → RestsIn (suc k) (day_of sv clock (doing.Pumping session)) l bytes
    go (Err n) e = pump_refused k sv clock session n l bytes e
    go (Ok i) e =
        pump (suc k) sv clock session l bytes g
        (omega (arith, p, left_most sv l session i 258 (sym (kept_check sv l g.sound session true 258) ∙ e)))

-- ---- the bytes of a line

-- after bytes were taken, fewer are left
rest_falls : (at n size t : ℕ) → rest_of (at + t) n size ≡ rest_of at n size - t
unfolding rest_of
rest_falls at n size t = go (ltb n size)
  where
    go : (u : Bool) → cond u (n - (at + t)) (size - (at + t)) ≡ cond u (n - at) (size - at) - t
    go true = omega arith
    go false = omega arith

some_left : (bytes : List ℕ) (at n : ℕ) → 0 < rest_of at n (length bytes) → 0 < length (bytes_from at n bytes)
some_left bytes at n p =
    omega (arith, p, rest_length bytes at n (rest_of at n (length bytes)) (cond (ltb at (length bytes)) at (length bytes)) refl refl)

goes : (k : ℕ) (sv : Server) (clock session at n : ℕ) (l : Lent) (bytes : List ℕ) (t : ℕ) → Good sv l → 1048579 ≤ k
    → (t < rest_of at n (length bytes) → RestsIn k (day_of sv clock (doing.Hearing session (at + t) n)) l bytes)
    → RestsIn k (day_of sv clock (goes_on session at n (length bytes) t)) l bytes
unfolding goes_on
goes k sv clock session at n l bytes t g p h = go (ltb t (rest_of at n (length bytes))) refl
  where
    go : (u : Bool) → ltb t (rest_of at n (length bytes)) ≡ u
        → RestsIn k (day_of sv clock (cond u (doing.Hearing session (at + t) n) (doing.Pumping session))) l bytes
    go true e = h (ltb-true t (rest_of at n (length bytes)) e)
    go false e = pump_most k sv clock session l bytes g p

heard : (k : ℕ) (sv : Server) (clock session at n : ℕ) (l : Lent) (bytes : List ℕ) (a : Answer) → Good sv l → 1048579 ≤ k
    → (refusal a ≡ false → took_of a < rest_of at n (length bytes) → RestsIn k (day_of sv clock (doing.Hearing session (at + took_of a) n)) l bytes)
    → RestsIn k (day_of sv clock (heard_on session at n (length bytes) a)) l bytes
unfolding heard_on took_of refusal
heard k sv clock session at n l bytes (answer.Quiet t) g p h = goes k sv clock session at n l bytes t g p (h refl)
heard k sv clock session at n l bytes (answer.Sent t m) g p h = goes k sv clock session at n l bytes t g p (h refl)
heard k sv clock session at n l bytes (answer.Closed t) g p h = at_rest k sv clock l bytes
heard k sv clock session at n l bytes (answer.Refused m) g p h = at_rest k sv clock l bytes

hear : (m k : ℕ) (sv : Server) (clock session at n : ℕ) (l : Lent) (bytes : List ℕ) → Good sv l → rest_of at n (length bytes) ≤ m → m + 1048580 ≤ k
    → RestsIn k (day_of sv clock (doing.Hearing session at n)) l bytes
unfolding call_of hear_of after_of
hear m zero sv clock session at n l bytes g p q = absurd (omega (arith, q))
hear zero (suc k) sv clock session at n l bytes g p q =
    rests_next k (day_of sv clock (doing.Hearing session at n)) l bytes
    (heard k o.done.server clock session at n o.lent bytes o.done.answer good (omega (arith, q)) (λ r f. absurd (omega (arith, p, f))))
  where
    o : Outcome
    o = receive_by true sv l (replicate 258 0) session clock (bytes_from at n bytes)

    good : Good o.done.server o.lent
    good = good_receive sv l g (replicate 258 0) session clock (bytes_from at n bytes)
hear (suc m) (suc k) sv clock session at n l bytes g p q =
    rests_next k (day_of sv clock (doing.Hearing session at n)) l bytes
    (heard k o.done.server clock session at n o.lent bytes o.done.answer good (omega (arith, q))
    (λ r f. hear m k o.done.server clock session (at + took_of o.done.answer) n o.lent bytes good
    (omega (
      arith,
      p,
      rest_falls at n (length bytes) (took_of o.done.answer),
      receive_takes sv l (replicate 258 0) session clock (bytes_from at n bytes) o.done.answer (some_left bytes at n (omega (arith, f)))
          (ap (λ (x : Outcome). x.done.answer) (sym (kept_receive sv l g.sound (replicate 258 0) session clock (bytes_from at n bytes)))) r,
    ))
    (omega (arith, q))))
  where
    o : Outcome
    o = receive_by true sv l (replicate 258 0) session clock (bytes_from at n bytes)

    good : Good o.done.server o.lent
    good = good_receive sv l g (replicate 258 0) session clock (bytes_from at n bytes)

-- ---- a line

rest_most : (at n : ℕ) (bytes : List ℕ) → rest_of at n (length bytes) ≤ length bytes
unfolding rest_of
rest_most at n bytes = go (ltb n (length bytes)) refl
  where
    go : (u : Bool) → ltb n (length bytes) ≡ u → cond u (n - at) (length bytes - at) ≤ length bytes
    go true e = omega (arith, ltb-true n (length bytes) e)
    go false e = omega arith

-- opening and dropping take one step
one_step : (k : ℕ) (day : Day) (l : Lent) (bytes : List ℕ) → ((a : Answer) → after_of day.doing a (length bytes) ≡ doing.Rest)
    → RestsIn (suc k) day l bytes
one_step k day l bytes h =
    rests_next k day l bytes
    (rests_now k (next day bytes (called day l bytes)) (called day l bytes).lent bytes (ap rests_of (h (called day l bytes).done.answer) ∙ rest_rests))

opening_rests : (session size : ℕ) (a : Answer) → after_of (doing.Opening session) a size ≡ doing.Rest
unfolding after_of
opening_rests session size a = refl

dropping_rests : (session size : ℕ) (a : Answer) → after_of (doing.Dropping session) a size ≡ doing.Rest
unfolding after_of
dropping_rests session size a = refl

-- whatever is being done is done after so many steps
ends_doing : (d : Doing) (k : ℕ) (sv : Server) (clock : ℕ) (l : Lent) (bytes : List ℕ) → Good sv l → length bytes + 1048580 ≤ suc k
    → RestsIn (suc k) (day_of sv clock d) l bytes
ends_doing doing.Rest k sv clock l bytes g p = at_rest (suc k) sv clock l bytes
ends_doing (doing.Opening session) k sv clock l bytes g p =
    one_step k (day_of sv clock (doing.Opening session)) l bytes (opening_rests session (length bytes))
ends_doing (doing.Dropping session) k sv clock l bytes g p =
    one_step k (day_of sv clock (doing.Dropping session)) l bytes (dropping_rests session (length bytes))
ends_doing (doing.Hearing session at n) k sv clock l bytes g p = hear (length bytes) (suc k) sv clock session at n l bytes g (rest_most at n bytes) p
ends_doing (doing.Pumping session) k sv clock l bytes g p = pump_most (suc k) sv clock session l bytes g (omega (arith, p))

pub line_ends : (k : ℕ) (day : Day) (l : Lent) (bytes : List ℕ) → Good day.server l → length bytes + 1048580 ≤ k → RestsIn k day l bytes
line_ends zero day l bytes g p = absurd (omega (arith, p))
line_ends (suc k) day l bytes g p = ends_doing day.doing k day.server day.clock l bytes g p

-- ---- more steps change nothing

now_rests : (day : Day) (l : Lent) (bytes : List ℕ) → RestsIn zero day l bytes → rests_of day.doing ≡ true
unfolding line_of
now_rests day l bytes e = e

settles : (k m : ℕ) (day : Day) (l : Lent) (bytes : List ℕ) → k ≤ m → RestsIn k day l bytes → line_of m day l bytes ≡ line_of k day l bytes
settles zero m day l bytes p h =
    rested m day l bytes (now_rests day l bytes h) ∙ sym (rested zero day l bytes (now_rests day l bytes h))
settles (suc k) zero day l bytes p h = absurd (omega (arith, p))
settles (suc k) (suc m) day l bytes p h = go (rests_of day.doing) refl (settles k m next-day next-lent bytes (omega (arith, p)))
  where
    next-day : Day
    next-day = (step_of day l bytes room).stepped.day

    next-lent : Lent
    next-lent = (step_of day l bytes room).lent

    go : (t : Bool) → rests_of day.doing ≡ t → (RestsIn k next-day next-lent bytes → line_of m next-day next-lent bytes ≡ line_of k next-day next-lent bytes)
        → line_of (suc m) day l bytes ≡ line_of (suc k) day l bytes
    go true e ih = rested (suc m) day l bytes e ∙ sym (rested (suc k) day l bytes e)
    go false e ih =
        stepped m day l bytes e
        ∙ ap (printing (step_of day l bytes room)) (ih (ap (λ (r : Ran). rests_of r.day.doing) (sym (stepped k day l bytes e)) ∙ h))
        ∙ sym (stepped k day l bytes e)

-- so what a line does and prints is settled by its end
pub line_settled : (k : ℕ) (day : Day) (l : Lent) (bytes : List ℕ) → Good day.server l → length bytes + 1048580 ≤ k
    → line_of k day l bytes ≡ line_of (length bytes + 1048580) day l bytes
line_settled k day l bytes g p =
    settles (length bytes + 1048580) k day l bytes p (line_ends (length bytes + 1048580) day l bytes g (omega arith))
