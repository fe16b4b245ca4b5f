-- `entries::put_front` meets its contract.
use mathlib.Core.Path.{◌∙◌}
use native.Mathlib.Omega.{arith}
use Rattle.entries.proofs.ReadingLaws.{least_is_min, stored_front}
use Rattle.entries.proofs.put_front.Goals as goal

pub returns : goal.returns
returns c =
    let a = c.args in
    let n = c.min-n in
    c.store.ensures.to_after ∙ stored_front a.bytes.now a.out.now n.result (n.ensures ∙ least_is_min _ _, omega arith, omega arith)
