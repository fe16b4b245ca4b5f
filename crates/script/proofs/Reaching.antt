-- From a server just made, after any moves of a script, its state is the state after the server's own calls; so each step's call is the server's own, 35
-- is never printed, and every line ends. Assumes nothing.
use native.Mathlib.Omega.{arith}
use mathlib.Core.Path.{◌≡◌, refl, sym, ◌∙◌, ap, subst}
use mathlib.Core.Bool.{Bool, true, false, cond}
use mathlib.Core.List.{List}
use mathlib.Core.Option.{none, some}
use Prim.Native.Nat.{ℕ, ◌+◌, ◌≤◌}
use lib.Dec.{ltb}
use lib.ListN.{length, replicate}
use Rattle.session.specs.declared.reply.Answer.TheVariants as answer
use Rattle.server.specs.declared.Server.{Server}
use Rattle.server.specs.declared.Done.{Done}
use Rattle.server.specs.State.{Lent, Outcome}
use Rattle.history.specs.Calls.{Call, State, state, next, Start, legal, History, after}
use Rattle.history.specs.Good.{Good}
use Rattle.history.proofs.Histories.{good_after}
use Rattle.history.proofs.Never as never
use Rattle.lines.specs.declared.commands.Command.{Command}
use Rattle.lines.specs.declared.commands.Command.TheVariants as command
use Rattle.script.specs.declared.Day.{Day}
use Rattle.script.specs.Calling.{call_of}
use Rattle.script.specs.Day.{begin_of, prints_of, answered_of, turn_of, step_of, stepping, stepped_to}
use Rattle.script.specs.Reached.{Script, Move, begins, steps, Moves, nothing, ◌▹◌, moved, reached, own_call, further, calls_at, calls_of, step_call, Own, MadeByCalls, EveryScript}
use Rattle.script.proofs.Own.{by_call}
use Rattle.script.proofs.Ending.{RestsIn, line_ends}
use Rattle.script.proofs.Prints.{step_prints}

-- the state that a script's calls see
abbrev state_of : Script → State
state_of r = state r.day.server r.lent

-- ---- one call

some_same : (a c : Call) → some a ≡ some c → a ≡ c
some_same a c e = cc

none_clash : (c : Call) → none ≡ some c → ⊥
none_clash c e = let z : ◌≡◌ {A = ℕ} 0 1 = cc in omega arith

quiet_clash : answer.Quiet 0 ≡ answer.Refused 35 → ⊥
quiet_clash e = let z : ◌≡◌ {A = ℕ} 0 1 = cc in omega arith

module _ (sv : Server) (l : Lent) (g : Good sv l) where
  call_own : (d : Day) (bytes : List ℕ) (c : Call) → own_call d.clock d.doing bytes ≡ some c
      → Own sv l c (call_of sv d.clock d.doing bytes l (replicate 258 0))
  call_own d bytes =
      by_call sv l g (λ x o. (c : Call) → x ≡ some c → Own sv l c o) (λ c e. absurd (none_clash c e))
      (λ b o w c e. subst (λ (x : Call). Own sv l x o) (some_same b c e) w) d.doing d.clock bytes

  own_never : (c : Call) (o : Outcome) → Own sv l c o → o.done.answer ≡ answer.Refused 35 → ⊥
  own_never c o w e = never.never_35 sv l g c (ap (λ (x : Done). x.answer) (sym w.done) ∙ e)

  call_never : (d : Day) (bytes : List ℕ) → (call_of sv d.clock d.doing bytes l (replicate 258 0)).done.answer ≡ answer.Refused 35 → ⊥
  call_never d bytes =
      by_call sv l g (λ x o. o.done.answer ≡ answer.Refused 35 → ⊥) quiet_clash own_never d.doing d.clock bytes

own_next : (sv : Server) (l : Lent) (c : Call) (o : Outcome) → Own sv l c o → state o.done.server o.lent ≡ next (state sv l) c
own_next sv l c o w = rw (w.done, w.lent)

-- ---- any moves

pub begin_server : (d : Day) (c : Command) → (begin_of d c).server ≡ d.server
unfolding begin_of
begin_server d command.Unreadable = refl
begin_server d (command.Time clock) = refl
begin_server d (command.Open session) = refl
begin_server d (command.Drop session) = refl
begin_server d (command.Rx session n) = refl

module _ (s : Start) (ok : legal s ≡ true) where
  good_from : (r : Script) (h : History) → state_of r ≡ after s h → Good r.day.server r.lent
  good_from r h e = subst (λ (t : State). Good t.server t.lent) (sym e) (good_after s ok h)

  own_after : (r : Script) (h : History) → state_of r ≡ after s h → (c : Call) (o : Outcome) → Own r.day.server r.lent c o
      → state o.done.server o.lent ≡ after s (further h (some c))
  unfolding after further
  own_after r h e c o w = own_next r.day.server r.lent c o w ∙ ap (λ (t : State). next t c) e

  rest_after : (r : Script) (h : History) → state_of r ≡ after s h → state_of r ≡ after s (further h none)
  unfolding further
  rest_after r h e = e

  call_after : (r : Script) (h : History) → state_of r ≡ after s h → (bytes : List ℕ)
      → state (step_call r bytes).done.server (step_call r bytes).lent ≡ after s (further h (own_call r.day.clock r.day.doing bytes))
  call_after r h e bytes =
      by_call r.day.server r.lent (good_from r h e) (λ x o. state o.done.server o.lent ≡ after s (further h x)) (rest_after r h e)
      (own_after r h e) r.day.doing r.day.clock bytes

  turn_after_law : (r : Script) (h : History) → state_of r ≡ after s h → (bytes text : List ℕ)
      → state (turn_of r.day r.lent bytes text).stepped.day.server (turn_of r.day r.lent bytes text).lent
      ≡ after s (further h (own_call r.day.clock r.day.doing bytes))
  unfolding turn_of answered_of prints_of
  turn_after_law r h e bytes text = call_after r h e bytes

  move_after : (r : Script) (h : History) → state_of r ≡ after s h → (m : Move) → state_of (moved r m) ≡ after s (calls_at r h m)
  unfolding moved calls_at step_of
  move_after r h e (begins c) = ap (λ (sv : Server). state sv r.lent) (begin_server r.day c) ∙ e
  move_after r h e (steps bytes text) = go (ltb (length text) 560)
    where
      go : (t : Bool)
          → state (cond t (stepping (stepped_to r.day 0) r.lent text) (turn_of r.day r.lent bytes text)).stepped.day.server
          (cond t (stepping (stepped_to r.day 0) r.lent text) (turn_of r.day r.lent bytes text)).lent
          ≡ after s (cond t h (further h (own_call r.day.clock r.day.doing bytes)))
      go true = e
      go false = turn_after_law r h e bytes text

  state_reached : (ms : Moves) → state_of (reached s ms) ≡ after s (calls_of s ms)
  unfolding reached calls_of after
  state_reached nothing = refl
  state_reached (ms ▹ m) = move_after (reached s ms) (calls_of s ms) (state_reached ms) m

  -- every state that a script reaches is good
  pub good_reached : (ms : Moves) → Good (reached s ms).day.server (reached s ms).lent
  good_reached ms = good_from (reached s ms) (calls_of s ms) (state_reached ms)

  made_by_calls : (ms : Moves) → MadeByCalls s ms
  made_by_calls ms =
      record {
        state = state_reached ms;
        own = call_own (reached s ms).day.server (reached s ms).lent (good_reached ms) (reached s ms).day;
        never_35 = call_never (reached s ms).day.server (reached s ms).lent (good_reached ms) (reached s ms).day;
        prints = λ bytes text p q. step_prints (reached s ms).day (reached s ms).lent bytes text p q;
      }

  -- "The program always ends": after any moves, a line's further steps end, whatever its bytes
  pub reached_ends : (ms : Moves) (k : ℕ) (bytes : List ℕ) → length bytes + 1048580 ≤ k → RestsIn k (reached s ms).day (reached s ms).lent bytes
  reached_ends ms k bytes p = line_ends k (reached s ms).day (reached s ms).lent bytes (good_reached ms) p

pub every_script : EveryScript
every_script s ok ms = made_by_calls s ok ms
