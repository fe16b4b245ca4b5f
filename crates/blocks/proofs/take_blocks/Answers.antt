-- `blocks::take_blocks` meets its contract. The invariant is `Taking`: reserving what is left from the store reached is reserving all from the store at entry.
use Rattle.std.proofs.Common.{◌≡◌, ℕ, ◌+◌, ◌-◌, sym, ap, ◌∙◌, arith}
use Rattle.blocks.specs.FreeMap.{reserved_map}
use Rattle.blocks.specs.Owners.{reserved_owner}
use Rattle.blocks.proofs.Reserving.{lowest_in}
use Rattle.blocks.proofs.Steps.{take_step}
use Rattle.blocks.proofs.take_blocks.Goals as goal

pub take_lowest-i-requires : goal.take_lowest-i-requires
take_lowest-i-requires c =
    let t = c.loop.invariant in
    (omega (arith, t.few, t.words), t.at, t.before, lowest_in c.loop.map t.sized (omega (arith, t.room)))

pub loop-preserved : goal.loop-preserved
loop-preserved c =
    let a = c.args in
    let l = c.loop in
    let r = c.take_lowest-i in
    let e : a.n - l.counter - 1 ≡ a.n - (l.counter + 1) = omega arith in
    rw (← e) (take_step a.map.now a.owner.now a.v a.n l.map l.owner (a.n - l.counter) l.i l.invariant (omega arith) _ _ _ r.ensures.map_after r.ensures.owner_after r.ensures.value)

pub returns-clause-map_after : goal.returns-clause-map_after
unfolding reserved_map
returns-clause-map_after c =
    let z : c.args.n - c.loop.counter ≡ 0 = omega arith in
    sym (c.loop.invariant.maps ∙ ap (λ (k : ℕ). reserved_map k c.loop.map) z)

pub returns-clause-owner_after : goal.returns-clause-owner_after
unfolding reserved_owner
returns-clause-owner_after c =
    let z : c.args.n - c.loop.counter ≡ 0 = omega arith in
    sym (c.loop.invariant.owners ∙ ap (λ (k : ℕ). reserved_owner c.args.v k c.loop.map c.loop.owner) z)
