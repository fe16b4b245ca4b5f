use mathlib.Core.Path.{ap, sym, ◌∙◌}
use Rattle.refusal.specs.Refusal.{numbered}
use Rattle.server.specs.Calls.{on_check, receive_by}
use Rattle.server.proofs.CheckLaws.{judged, check_go, go_step}
use Rattle.server.proofs.receive.Goals as goal

pub step-requires : goal.step-requires
step-requires c =
    let j = judged _ _ _ _ _ _ _ _ c.of-n.ensures c.judge.ensures in
    go_step _ _ _ _ _ _ _ _ _ (check_go _ _ _ _ _ _ _ _ _ _ _ _ (sym j ∙ ap numbered c.in-Ok.is))

pub returns-in-Err : goal.returns-in-Err
unfolding receive_by on_check
returns-in-Err c =
    let j = judged _ _ _ _ _ _ _ _ c.of-n.ensures c.judge.ensures in
    rw (← j, c.in-Err.is, ← c.into.ensures)

pub returns-in-Ok : goal.returns-in-Ok
unfolding receive_by on_check
returns-in-Ok c =
    let j = judged _ _ _ _ _ _ _ _ c.of-n.ensures c.judge.ensures in
    rw (← j, c.in-Ok.is) c.step.ensures
