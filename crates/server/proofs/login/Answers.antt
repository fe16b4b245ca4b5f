use mathlib.Core.Path.{sym, ◌∙◌}
use Rattle.server.specs.Calls.{login_by}
use Rattle.server.proofs.CheckLaws.{judged, check_go, go_index}
use Rattle.server.proofs.login.Goals as goal

pub on_login-requires : goal.on_login-requires
on_login-requires c =
    let j = judged _ _ _ _ _ _ _ _ c.of-n.ensures c.judge-k.ensures in
    λ i e. go_index _ _ _ _ _ _ _ _ _ (check_go _ _ _ _ _ _ c.args.map.now c.args.owner.now c.args.table.now c.args.selected.now c.args.held.now _ (sym j ∙ e))

pub returns : goal.returns
unfolding login_by
returns c =
    let j = judged _ _ _ _ _ _ _ _ c.of-n.ensures c.judge-k.ensures in
    rw (← j) c.on_login.ensures
