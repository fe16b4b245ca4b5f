-- `blocks::map_is` meets its contract. The invariant: the words passed are those of the owners.
use Rattle.std.proofs.Common.{ℕ, ◌+◌, ◌*◌, List, Bool, ◌&&◌, drop, sym, ap, ◌∙◌, drop_of_length-le}
use Rattle.blocks.specs.Check.{map_is}
use Rattle.blocks.proofs.Steps.{map_is_step}
use Rattle.blocks.proofs.map_is.Goals as goal

pub returns-then-not-word_is : goal.returns-then-not-word_is
returns-then-not-word_is c =
    let a = c.args in
    let i = c.loop-i.i in
    sym (c.loop-i.invariant ∙ map_is_step a.map.now a.owner.now i c.loop-i-test.true
    ∙ ap (λ (t : Bool). t && map_is (drop (i + 1) a.map.now) (drop (64 * (i + 1)) a.owner.now)) (sym c.word_is.ensures ∙ c.if-not-word_is.true))

pub loop-i-preserved : goal.loop-i-preserved
loop-i-preserved c =
    let a = c.args in
    let i = c.loop-i.i in
    c.loop-i.invariant ∙ map_is_step a.map.now a.owner.now i c.loop-i-test.true
    ∙ ap (λ (t : Bool). t && map_is (drop (i + 1) a.map.now) (drop (64 * (i + 1)) a.owner.now)) (sym c.word_is.ensures ∙ c.if-not-word_is.false)

pub returns : goal.returns
unfolding map_is
returns c =
    let i = c.loop-i.i in
    sym (c.loop-i.invariant ∙ ap (λ (m : List ℕ). map_is m (drop (64 * i) c.args.owner.now)) (drop_of_length-le c.args.map.now c.loop-i-test.false))
