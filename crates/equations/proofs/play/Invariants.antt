-- The invariant: the turns so far are a run, and the rest of 2^64 - 1 may follow (`Playing`).
use Rattle.std.proofs.Common.{◌-◌}
use Rattle.input.proofs.Turning.{Playing}
use Rattle.equations.specs.Turn.{state, new_of, DueTurn}
use Rattle.equations.specs.Whole.{is_over}
use Rattle.equations.proofs.play.Given as goal

abbrev pub invariant-loop-turn : goal.invariant-loop-turn
invariant-loop-turn l =
    Playing is_over DueTurn (state new_of l.fn.input l.fn.text) (state l.progress l.input l.text) (18446744073709551615 - l._turn)
