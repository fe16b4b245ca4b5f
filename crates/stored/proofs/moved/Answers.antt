-- `stored::moved` meets its contract. The invariant: the cursor's block is the file's, as many blocks on as were passed.
use mathlib.Core.Path.{◌≡◌, refl, ap, ◌∙◌}
use Prim.Native.Nat.{◌+◌, ◌/◌}
use native.Mathlib.Omega.{arith}
use Rattle.blocks.specs.Owners.{nth}
use Rattle.blocks.proofs.Owners.{nth_le}
use Rattle.stored.proofs.CursorLaws.{next_own}
use Rattle.stored.proofs.moved.Goals as goal

pub loop-passed-init : goal.loop-passed-init
loop-passed-init c = c.requires.1.own

pub overflow_add-block : goal.overflow_add-block
overflow_add-block c =
    let a = c.args in
    let l = c.loop-passed in
    omega (arith, l.invariant, nth_le (a.place + 1) a.owner.now l._passed, c.requires.0)

pub loop-passed-preserved : goal.loop-passed-preserved
loop-passed-preserved c =
    let a = c.args in
    let l = c.loop-passed in
    next_own a.owner.now a.place l._passed l.block c.next_block-block.result l.invariant c.next_block-block.ensures

pub returns : goal.returns
returns c =
    let a = c.args in
    let l = c.loop-passed in
    let e : l._passed ≡ a.at / 256 = omega (arith, c.requires.1.ahead) in
    (refl, l.invariant ∙ ap (nth (a.place + 1) a.owner.now) e)
