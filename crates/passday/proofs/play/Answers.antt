use Rattle.std.proofs.Common.{arith}
use Rattle.input.proofs.Turning.{playing_none, played_out}
use Rattle.pass.specs.Pass.{DueTurn}
use Rattle.pass.specs.Run.{is_over}
use Rattle.pass.proofs.Turning.{playing_more, played_over}
use Rattle.pass.specs.Sheets.{no_more}
use Rattle.passday.proofs.play.Goals as goal

pub loop-turn-init : goal.loop-turn-init
loop-turn-init c = playing_none is_over (DueTurn 560 no_more) _ c.requires

pub returns-then-is_over : goal.returns-then-is_over
returns-then-is_over c =
    played_over 560 no_more _ _ _ _ c.loop-turn.invariant c.loop-turn-test.true c.turn-pass.ensures _ c.is_over.ensures c.if-is_over.true

pub loop-turn-preserved : goal.loop-turn-preserved
loop-turn-preserved c =
    playing_more 560 no_more _ _ _ _ c.loop-turn.invariant c.loop-turn-test.true c.turn-pass.ensures _ c.is_over.ensures c.if-is_over.false

pub returns : goal.returns
returns c = played_out is_over (DueTurn 560 no_more) _ _ _ c.loop-turn.invariant (omega (arith, c.loop-turn-test.false))
