use mathlib.Core.Path.{refl, sym, ◌∙◌}
use Rattle.server.specs.Calls.{request_by}
use Rattle.server.proofs.CheckLaws.{judged, check_go, go_due, request_parts}
use Rattle.server.proofs.request.Goals as goal

pub on_request-requires : goal.on_request-requires
on_request-requires c =
    let j = judged _ _ _ _ _ _ _ _ c.of-n.ensures c.judge-k.ensures in
    λ i e. go_due _ _ _ _ _ _ _ _ _ (check_go _ _ _ _ _ _ c.args.map.now c.args.owner.now c.args.table.now c.args.selected.now c.args.held.now _ (sym j ∙ e)) _ refl

pub returns : goal.returns
unfolding request_by
returns c =
    let j = judged _ _ _ _ _ _ _ _ c.of-n.ensures c.judge-k.ensures in
    rw (← j) (c.on_request.ensures ∙ request_parts _ _ _ _)
