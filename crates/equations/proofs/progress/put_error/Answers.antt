use Rattle.equations.proofs.Parts.{error_put_law}
use Rattle.equations.proofs.progress.put_error.Goals as goal

pub returns : goal.returns
returns c =
    let printed = c in
    let placed = printed in
    let given = placed.args in
    error_put_law given.progress _ given.text.now _ _ _ _ placed.least-at.ensures.2 printed.wrapping_add_usize.ensures.value
    printed.error_line-n.ensures c.with_more.ensures
