-- A line looks at no more of the bytes lent than it has itself: over two lists that begin with the same bytes it does and prints the same. And a step
-- leaves a good state and a session number of 32 bits. Assumes nothing.
use native.Mathlib.Omega.{arith}
use mathlib.Core.Path.{◌≡◌, refl, sym, ◌∙◌, ap}
use mathlib.Core.Bool.{Bool, true, false, cond}
use mathlib.Core.List.{List}
use Prim.Native.Nat.{ℕ, zero, suc, ◌+◌, ◌-◌, ◌≤◌, ◌<◌}
use lib.Dec.{ltb}
use lib.ListN.{length, take, drop, replicate}
use borrow.Author.Tests.{ltb-false}
use Rattle.session.specs.declared.reply.Answer.{Answer}
use Rattle.session.specs.declared.reply.Answer.TheVariants as answer
use Rattle.server.specs.declared.Server.{Server}
use Rattle.server.specs.State.{Lent, Outcome}
use Rattle.server.specs.Calls.{receive_by}
use Rattle.history.specs.Good.{Good}
use Rattle.history.proofs.Kept.{good_kept}
use Rattle.script.specs.declared.doing.Doing.{Doing}
use Rattle.script.specs.declared.doing.Doing.TheVariants as doing
use Rattle.script.specs.declared.Day.{Day}
use Rattle.input.specs.Parts.{rest_of, bytes_from}
use Rattle.input.proofs.Places.{drop_take}
use Rattle.script.specs.Doing.{rests_of, session_of, goes_on, heard_on, pumped_on, after_of}
use Rattle.script.specs.Calling.{hear_of, call_of}
use Rattle.script.specs.Day.{stepping, stepped_to, prints_of, answered_of, turn_of, step_of}
use Rattle.script.specs.Line.{printing, room, line_of}
use Rattle.script.proofs.Own.{by_call}
use Rattle.script.proofs.Ending.{rested, stepped, line_settled}

-- ---- a step leaves a good state

good_call : (sv : Server) (l : Lent) → Good sv l → (d : Doing) (clock : ℕ) (bytes : List ℕ)
    → Good (call_of sv clock d bytes l (replicate 258 0)).done.server (call_of sv clock d bytes l (replicate 258 0)).lent
good_call sv l g d clock bytes =
    by_call sv l g (λ x o. Good o.done.server o.lent) g (λ c o w. rw (w.done, w.lent) (good_kept sv l g c)) d clock bytes

good_turn : (day : Day) (l : Lent) (bytes text : List ℕ) → Good day.server l
    → Good (turn_of day l bytes text).stepped.day.server (turn_of day l bytes text).lent
unfolding turn_of answered_of prints_of
good_turn day l bytes text g = good_call day.server l g day.doing day.clock bytes

pub good_step : (day : Day) (l : Lent) (bytes text : List ℕ) → Good day.server l
    → Good (step_of day l bytes text).stepped.day.server (step_of day l bytes text).lent
unfolding step_of
good_step day l bytes text g = go (ltb (length text) 560)
  where
    go : (t : Bool) → Good (cond t (stepping (stepped_to day 0) l text) (turn_of day l bytes text)).stepped.day.server
        (cond t (stepping (stepped_to day 0) l text) (turn_of day l bytes text)).lent
    go true = g
    go false = good_turn day l bytes text g

-- ---- and a session number that has 32 bits

goes_session : (session at n size taken : ℕ) → session < 4294967296 → session_of (goes_on session at n size taken) < 4294967296
unfolding goes_on session_of
goes_session session at n size taken p = go (ltb taken (rest_of at n size))
  where
    go : (t : Bool) → session_of (cond t (doing.Hearing session (at + taken) n) (doing.Pumping session)) < 4294967296
    go true = p
    go false = p

after_session : (d : Doing) (a : Answer) (size : ℕ) → session_of d < 4294967296 → session_of (after_of d a size) < 4294967296
unfolding after_of heard_on pumped_on session_of
after_session doing.Rest a size p = p
after_session (doing.Opening session) a size p = omega arith
after_session (doing.Dropping session) a size p = omega arith
after_session (doing.Hearing session at n) (answer.Quiet taken) size p = goes_session session at n size taken p
after_session (doing.Hearing session at n) (answer.Sent taken sent) size p = goes_session session at n size taken p
after_session (doing.Hearing session at n) (answer.Closed taken) size p = omega arith
after_session (doing.Hearing session at n) (answer.Refused number) size p = omega arith
after_session (doing.Pumping session) (answer.Quiet taken) size p = omega arith
after_session (doing.Pumping session) (answer.Sent taken sent) size p = p
after_session (doing.Pumping session) (answer.Closed taken) size p = omega arith
after_session (doing.Pumping session) (answer.Refused number) size p = omega arith

turn_session : (day : Day) (l : Lent) (bytes text : List ℕ) → session_of day.doing < 4294967296
    → session_of (turn_of day l bytes text).stepped.day.doing < 4294967296
unfolding turn_of answered_of prints_of
turn_session day l bytes text p = after_session day.doing _ (length bytes) p

pub step_session : (day : Day) (l : Lent) (bytes text : List ℕ) → session_of day.doing < 4294967296
    → session_of (step_of day l bytes text).stepped.day.doing < 4294967296
unfolding step_of
step_session day l bytes text p = go (ltb (length text) 560)
  where
    go : (t : Bool) → session_of (cond t (stepping (stepped_to day 0) l text) (turn_of day l bytes text)).stepped.day.doing < 4294967296
    go true = p
    go false = turn_session day l bytes text p

-- ---- two lists that begin with the same bytes

-- the first n bytes are the same
pub record Alike (n : ℕ) (a b : List ℕ) : Type 0 where
  pub left : n ≤ length a
  pub right : n ≤ length b
  pub same : take n a ≡ take n b

-- as far as what is being done looks at them
unfoldable pub Agree : Doing → List ℕ → List ℕ → Type 0
Agree doing.Rest a b = Unit {0}
Agree (doing.Opening session) a b = Unit {0}
Agree (doing.Dropping session) a b = Unit {0}
Agree (doing.Hearing session at n) a b = Alike n a b
Agree (doing.Pumping session) a b = Unit {0}

rest_within : (at n size : ℕ) → n ≤ size → rest_of at n size ≡ n - at
unfolding rest_of
rest_within at n size p = go (ltb n size) refl
  where
    go : (t : Bool) → ltb n size ≡ t → cond t (n - at) (size - at) ≡ n - at
    go true e = refl
    go false e = omega (arith, ltb-false n size e)

-- what is left of the first n is the same whichever is cut off first
part_alike : (at n : ℕ) (a b : List ℕ) → Alike n a b → bytes_from at n a ≡ bytes_from at n b
part_alike at n a b w = drop_take at n a ∙ ap (λ (l : List ℕ). drop at l) w.same ∙ sym (drop_take at n b)

call_agrees : (d : Doing) (sv : Server) (clock : ℕ) (a b : List ℕ) (l : Lent) (out : List ℕ) → Agree d a b
    → call_of sv clock d a l out ≡ call_of sv clock d b l out
unfolding call_of hear_of Agree
call_agrees doing.Rest sv clock a b l out w = refl
call_agrees (doing.Opening session) sv clock a b l out w = refl
call_agrees (doing.Dropping session) sv clock a b l out w = refl
call_agrees (doing.Hearing session at n) sv clock a b l out w =
    ap (λ (bytes : List ℕ). receive_by true sv l out session clock bytes) (part_alike at n a b w)
call_agrees (doing.Pumping session) sv clock a b l out w = refl

goes_agrees : (session at n taken : ℕ) (a b : List ℕ) → Alike n a b
    → goes_on session at n (length a) taken ≡ goes_on session at n (length b) taken
unfolding goes_on
goes_agrees session at n taken a b w = rw (rest_within at n (length a) w.left, rest_within at n (length b) w.right)

after_agrees : (d : Doing) (r : Answer) (a b : List ℕ) → Agree d a b → after_of d r (length a) ≡ after_of d r (length b)
unfolding after_of heard_on Agree
after_agrees doing.Rest r a b w = refl
after_agrees (doing.Opening session) r a b w = refl
after_agrees (doing.Dropping session) r a b w = refl
after_agrees (doing.Hearing session at n) (answer.Quiet taken) a b w = goes_agrees session at n taken a b w
after_agrees (doing.Hearing session at n) (answer.Sent taken sent) a b w = goes_agrees session at n taken a b w
after_agrees (doing.Hearing session at n) (answer.Closed taken) a b w = refl
after_agrees (doing.Hearing session at n) (answer.Refused number) a b w = refl
after_agrees (doing.Pumping session) r a b w = refl

answered_agrees : (day : Day) (a b text : List ℕ) (o : Outcome) → Agree day.doing a b
    → answered_of day (length a) text o ≡ answered_of day (length b) text o
unfolding answered_of prints_of
answered_agrees day a b text o w = rw (after_agrees day.doing o.done.answer a b w)

turn_agrees : (day : Day) (l : Lent) (a b text : List ℕ) → Agree day.doing a b → turn_of day l a text ≡ turn_of day l b text
unfolding turn_of
turn_agrees day l a b text w =
    ap (λ (o : Outcome). answered_of day (length a) text o) (call_agrees day.doing day.server day.clock a b l (replicate 258 0) w)
    ∙ answered_agrees day a b text (call_of day.server day.clock day.doing b l (replicate 258 0)) w

step_agrees : (day : Day) (l : Lent) (a b text : List ℕ) → Agree day.doing a b → step_of day l a text ≡ step_of day l b text
unfolding step_of
step_agrees day l a b text w = rw (turn_agrees day l a b text w)

-- and what is done next looks at no more
goes_on_agrees : (session at n size taken : ℕ) (a b : List ℕ) → Alike n a b → Agree (goes_on session at n size taken) a b
unfolding goes_on Agree
goes_on_agrees session at n size taken a b w = go (ltb taken (rest_of at n size))
  where
    go : (t : Bool) → Agree (cond t (doing.Hearing session (at + taken) n) (doing.Pumping session)) a b
    go true = w
    go false = tt

next_agrees : (d : Doing) (r : Answer) (size : ℕ) (a b : List ℕ) → Agree d a b → Agree (after_of d r size) a b
unfolding after_of heard_on pumped_on Agree
next_agrees doing.Rest r size a b w = tt
next_agrees (doing.Opening session) r size a b w = tt
next_agrees (doing.Dropping session) r size a b w = tt
next_agrees (doing.Hearing session at n) (answer.Quiet taken) size a b w = goes_on_agrees session at n size taken a b w
next_agrees (doing.Hearing session at n) (answer.Sent taken sent) size a b w = goes_on_agrees session at n size taken a b w
next_agrees (doing.Hearing session at n) (answer.Closed taken) size a b w = tt
next_agrees (doing.Hearing session at n) (answer.Refused number) size a b w = tt
next_agrees (doing.Pumping session) (answer.Quiet taken) size a b w = tt
next_agrees (doing.Pumping session) (answer.Sent taken sent) size a b w = tt
next_agrees (doing.Pumping session) (answer.Closed taken) size a b w = tt
next_agrees (doing.Pumping session) (answer.Refused number) size a b w = tt

step_next_agrees : (day : Day) (l : Lent) (a b : List ℕ) → Agree day.doing a b → Agree (step_of day l a room).stepped.day.doing a b
unfolding step_of turn_of answered_of prints_of
step_next_agrees day l a b w =
    next_agrees day.doing (call_of day.server day.clock day.doing a l (replicate 258 0)).done.answer (length a) a b w

-- ---- so the whole line is the same

module _ (k : ℕ) (day : Day) (l : Lent) (a b : List ℕ) (w : Agree day.doing a b) where
  further_agrees : line_of k (step_of day l a room).stepped.day (step_of day l a room).lent a
      ≡ line_of k (step_of day l a room).stepped.day (step_of day l a room).lent b
      → printing (step_of day l a room) (line_of k (step_of day l a room).stepped.day (step_of day l a room).lent a)
      ≡ printing (step_of day l b room) (line_of k (step_of day l b room).stepped.day (step_of day l b room).lent b)
  further_agrees e = rw (← step_agrees day l a b room w) (ap (printing (step_of day l a room)) e)

  more_agrees : line_of k (step_of day l a room).stepped.day (step_of day l a room).lent a
      ≡ line_of k (step_of day l a room).stepped.day (step_of day l a room).lent b
      → line_of (suc k) day l a ≡ line_of (suc k) day l b
  more_agrees e = go (rests_of day.doing) refl
    where
      go : (t : Bool) → rests_of day.doing ≡ t → line_of (suc k) day l a ≡ line_of (suc k) day l b
      go true f = rested (suc k) day l a f ∙ sym (rested (suc k) day l b f)
      go false f = stepped k day l a f ∙ further_agrees e ∙ sym (stepped k day l b f)

line_agrees : (k : ℕ) (day : Day) (l : Lent) (a b : List ℕ) → Agree day.doing a b → line_of k day l a ≡ line_of k day l b
unfolding line_of
line_agrees zero day l a b w = refl
line_agrees (suc k) day l a b w =
    more_agrees k day l a b w
    (line_agrees k (step_of day l a room).stepped.day (step_of day l a room).lent a b (step_next_agrees day l a b w))

-- however many bytes are lent, with enough steps for them
pub ends_agree : (day : Day) (l : Lent) (a b : List ℕ) → Good day.server l → Agree day.doing a b
    → line_of (length a + 1048580) day l a ≡ line_of (length b + 1048580) day l b
ends_agree day l a b g w =
    sym (line_settled (length a + length b + 1048580) day l a g (omega arith))
    ∙ line_agrees (length a + length b + 1048580) day l a b w
    ∙ line_settled (length a + length b + 1048580) day l b g (omega arith)
