use Rattle.std.proofs.Common.{◌≡◌, ℕ, ◌-◌, ◌<◌, Bool, true, false, cond, sym, ◌∙◌, arith}
use Rattle.input.proofs.Turning.{playing_none, playing_on, played_out}
use Rattle.sitting.specs.Turn.{DueTurn}
use Rattle.sitting.specs.Run.{is_over}
use Rattle.sitting.proofs.play.Goals as goal

-- none are left where it is over, and else as many as the count says
stops : (b : Bool) (n : ℕ) → b ≡ true → 0 ≡ cond b 0 n
stops b n e = rw e

goes_on : (b : Bool) (n m : ℕ) → b ≡ false → m ≡ n → m ≡ cond b 0 n
goes_on b n m e f = rw e f

pub loop-passed-init : goal.loop-passed-init
loop-passed-init c = playing_none is_over DueTurn _ c.requires

pub returns-then-is_over : goal.returns-then-is_over
returns-then-is_over c =
    let l = c.loop-passed in
    let some : 0 < 18446744073709551615 - l.passed = omega arith in
    played_out is_over DueTurn _ _ 0
    (playing_on is_over DueTurn _ _ _ _ 0 l.invariant some c.turn-sitting.ensures (stops _ _ (sym c.is_over.ensures ∙ c.if-is_over.true)))
    (omega arith)

pub loop-passed-preserved : goal.loop-passed-preserved
loop-passed-preserved c =
    let l = c.loop-passed in
    let some : 0 < 18446744073709551615 - l.passed = omega arith in
    playing_on is_over DueTurn _ _ _ _ _ l.invariant some c.turn-sitting.ensures (goes_on _ _ _ (sym c.is_over.ensures ∙ c.if-is_over.false) (omega arith))

pub returns : goal.returns
returns c = played_out is_over DueTurn _ _ _ c.loop-passed.invariant (omega arith)
