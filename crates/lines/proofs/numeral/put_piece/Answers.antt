use Rattle.std.proofs.Common.{◌∙◌}
use Rattle.lines.proofs.PairLaws.{zeros_length, zeros_pairs, front_within, front_length, front_put}
use Rattle.lines.proofs.numeral.put_piece.Goals as goal

pub slice_bounds-pair_up-end : goal.slice_bounds-pair_up-end
slice_bounds-pair_up-end c = zeros_length c.args.digits.now c.requires.1

pub pair_up-requires : goal.pair_up-requires
pair_up-requires c = zeros_pairs c.args.digits.now c.requires.1 c.requires.0

pub slice_bounds-pairs-end-2 : goal.slice_bounds-pairs-end-2
slice_bounds-pairs-end-2 c = front_within c.args.digits.now c.requires.1 c.requires.0 c.pair_up.new.pairs _ c.pair_up.ensures

pub slice_bounds-put_bytes-end : goal.slice_bounds-put_bytes-end
slice_bounds-put_bytes-end c = front_length c.args.digits.now c.requires.1 c.requires.0 c.pair_up.new.pairs _ c.pair_up.ensures

pub put_bytes-requires : goal.put_bytes-requires
put_bytes-requires c = rw (← front_length c.args.digits.now c.requires.1 c.requires.0 c.pair_up.new.pairs _ c.pair_up.ensures) c.requires.2

pub returns : goal.returns
returns c = c.put_bytes.ensures ∙ front_put c.args.digits.now c.requires.1 c.requires.0 c.pair_up.new.pairs _ c.pair_up.ensures c.args.bytes.now c.args.at
