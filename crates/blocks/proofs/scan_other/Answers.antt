-- `blocks::scan_other` meets its contract. The blocks passed are all of the owner.
use Rattle.std.proofs.Common.{◌-◌, drop, sym, ◌∙◌, arith}
use lib.Seq.{get_or-take, get_or-drop}
use Rattle.blocks.proofs.Parts.{run_all, part_size}
use Rattle.blocks.proofs.scan_other.Goals as goal

pub returns : goal.returns
returns c =
    let a = c.args in
    let o = a.owner.now in
    let r = c.run_of.ensures in
    let n = part_size o a.from a.end c.requires.0 c.requires.1 in (
      omega arith,
      omega (arith, r.0, n),
      run_all o a.v a.from c.run_of.result (omega (arith, r.0, n))
          (λ k l. sym (get_or-take (a.end - a.from) (drop a.from o) k 0 (omega (arith, r.0, n)) ∙ get_or-drop a.from o k 0) ∙ r.1 k l),
    )
