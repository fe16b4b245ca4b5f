-- The invariant: the turns so far are a run, with so many left (`Playing`).
use Rattle.std.proofs.Common.{◌-◌}
use Rattle.server.specs.State.{lent}
use Rattle.input.proofs.Turning.{Playing}
use Rattle.sitting.specs.Turn.{memory, state, DueTurn}
use Rattle.sitting.specs.Run.{is_over}
use Rattle.sitting.proofs.play.Given as goal

abbrev pub invariant-loop-passed : goal.invariant-loop-passed
invariant-loop-passed l =
    Playing is_over DueTurn (state l.fn.start (memory (lent l.fn.disk l.fn.map l.fn.owner l.fn.table l.fn.selected l.fn.held) l.fn.input l.fn.bytes l.fn.text))
    (state l.sitting (memory (lent l.disk l.map l.owner l.table l.selected l.held) l.input l.bytes l.text)) (18446744073709551615 - l.passed)
