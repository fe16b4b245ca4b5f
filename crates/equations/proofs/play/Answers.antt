use Rattle.std.proofs.Common.{arith}
use Rattle.input.proofs.Turning.{played_out}
use Rattle.equations.specs.Turn.{DueTurn}
use Rattle.equations.specs.Whole.{is_over}
use Rattle.equations.proofs.Turning.{playing_first, playing_more, played_over}
use Rattle.equations.proofs.play.Goals as goal

pub loop-turn-init : goal.loop-turn-init
loop-turn-init c = playing_first _ _ _ c.new_progress-progress.ensures

pub returns-then-is_over : goal.returns-then-is_over
returns-then-is_over c =
    played_over _ _ _ _ c.loop-turn.invariant c.loop-turn-test.true c.turn-progress.ensures _ c.is_over.ensures c.if-is_over.true

pub loop-turn-preserved : goal.loop-turn-preserved
loop-turn-preserved c =
    playing_more _ _ _ _ c.loop-turn.invariant c.loop-turn-test.true c.turn-progress.ensures _ c.is_over.ensures c.if-is_over.false

pub returns : goal.returns
returns c = played_out is_over DueTurn _ _ _ c.loop-turn.invariant (omega (arith, c.loop-turn-test.false))
