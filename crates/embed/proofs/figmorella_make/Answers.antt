use Rattle.embed.specs.Calls.{make_by, keep_of}
use borrow.Author.Tests.{lt-ltb, le-ltb}
use native.Mathlib.Omega.{arith}
use Rattle.refusal.proofs.Laws.{not_done}
use Rattle.embed.proofs.figmorella_make.Goals as goal

pub returns-then-state-lt54 : goal.returns-then-state-lt54
unfolding make_by
returns-then-state-lt54 c = record { held_after = rw (lt-ltb _ _ c.if-state-lt54.true); state_after = λ e. absurd (omega (arith, e)) }

pub returns-in-Err : goal.returns-in-Err
unfolding make_by keep_of
returns-in-Err c =
    record {
      held_after = rw (le-ltb _ _ c.if-state-lt54.false, ← c.make.ensures, c.in-Err.is, ← c.into.ensures);
      state_after = λ e. let p = not_done c.in-Err.refused 0 (rw (← c.into.ensures) e) in absurd (omega (arith, p));
    }

pub returns-in-Ok : goal.returns-in-Ok
unfolding make_by keep_of
returns-in-Ok c =
    record {
      held_after = rw (le-ltb _ _ c.if-state-lt54.false, ← c.make.ensures, c.in-Ok.is, ← c.encode.ensures.state_after);
      state_after = λ _. c.encode.ensures.state_after_2;
    }
