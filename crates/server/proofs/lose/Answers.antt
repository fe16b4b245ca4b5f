use mathlib.Core.Path.{sym, ◌∙◌}
use Rattle.server.specs.Calls.{lose_by}
use Rattle.server.proofs.CheckLaws.{judged, check_go, go_lose}
use Rattle.server.proofs.lose.Goals as goal

pub on_lose-requires : goal.on_lose-requires
on_lose-requires c =
    let j = judged _ _ _ _ _ _ _ _ c.of-n.ensures c.judge-k.ensures in
    λ i e. go_lose _ _ _ _ _ _ _ _ _ (check_go _ _ _ _ _ _ c.args.map.now c.args.owner.now c.args.table.now c.args.selected.now c.args.held.now _ (sym j ∙ e))

pub returns : goal.returns
unfolding lose_by
returns c =
    let j = judged _ _ _ _ _ _ _ _ c.of-n.ensures c.judge-k.ensures in
    rw (← j) c.on_lose.ensures
