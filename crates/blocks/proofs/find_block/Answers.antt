-- `blocks::find_block` meets its contract. The invariant: the block reached is the i-th of the owner from the place where the search goes on.
use Rattle.std.proofs.Common.{◌≡◌, ℕ, ◌+◌, drop, sym, ap, ◌∙◌, arith}
use Rattle.blocks.specs.Owners.{nth}
use Rattle.blocks.proofs.Parts.{find_start, find_next, find_le}
use Rattle.blocks.proofs.find_block.Goals as goal

pub loop-init : goal.loop-init
loop-init c =
    let s = c.skip_parts-from in
    (s.result.from, s.ensures.0, s.ensures.1, c.next_of-b.ensures ∙ find_start c.args.v c.args.owner.now s.result.from s.ensures.0)

pub overflow_add-b : goal.overflow_add-b
overflow_add-b c =
    let i = c.loop.invariant in
    omega (arith, i.3, find_le c.args.v c.args.owner.now i.0 i.1 c.loop.counter)

pub loop-preserved : goal.loop-preserved
loop-preserved c =
    let i = c.loop.invariant in
    (i.0, i.1, i.2, c.next_of-b-in-loop.ensures ∙ find_next c.args.v c.args.owner.now i.0 i.1 c.loop.b c.loop.counter i.3)

pub returns : goal.returns
returns c =
    let i = c.loop.invariant in
    let o = c.args.owner.now in
    let e : c.loop.counter ≡ c.skip_parts-from.result.left = omega arith in
    i.3 ∙ ap (λ (k : ℕ). i.0 + nth c.args.v (drop i.0 o) k) e ∙ sym i.2
