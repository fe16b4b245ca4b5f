-- The invariant: the turns so far are a run, and the rest of 2^64 - 1 may follow (`Playing`).
use Rattle.std.proofs.Common.{◌-◌}
use Rattle.server.specs.State.{lent}
use Rattle.input.proofs.Turning.{Playing}
use Rattle.pass.specs.Pass.{memory, passing, DueTurn}
use Rattle.pass.specs.Run.{is_over}
use Rattle.pass.specs.Sheets.{no_more}
use Rattle.passday.proofs.play.Given as goal

abbrev pub invariant-loop-turn : goal.invariant-loop-turn
invariant-loop-turn l =
    Playing is_over (DueTurn 560 no_more) (passing l.fn.start (memory (lent l.fn.disk l.fn.map l.fn.owner l.fn.table l.fn.selected l.fn.held) l.fn.input l.fn.bytes l.fn.text))
    (passing l.pass (memory (lent l.disk l.map l.owner l.table l.selected l.held) l.input l.bytes l.text)) (18446744073709551615 - l._turn)
