-- `blocks::fill_map` meets its contract. The invariant: the words passed are those of the owners.
use Rattle.std.proofs.Common.{length, sym, ◌∙◌, arith}
use Rattle.blocks.specs.Owners.{map_of}
use Rattle.blocks.proofs.Agreement.{length-map}
use Rattle.blocks.proofs.Steps.{fill_step, fill_done, map_get}
use Rattle.blocks.proofs.fill_map.Goals as goal

pub loop-i-preserved : goal.loop-i-preserved
loop-i-preserved c =
    let l = c.loop-i in
    let o = c.args.owner.now in
    let n = length c.args.map.now in
    fill_step l.map (map_of n o) l.i _ (omega arith) (rw length-map (omega arith)) (c.word_of.ensures ∙ sym (map_get n o l.i (omega arith))) l.invariant

pub returns : goal.returns
returns c =
    let l = c.loop-i in
    fill_done l.map (map_of (length c.args.map.now) c.args.owner.now) l.i (rw length-map l.auto.map) (omega arith) l.invariant
