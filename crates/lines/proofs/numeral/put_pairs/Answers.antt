use Rattle.std.proofs.Common.{refl, arith, rules}
use Rattle.lines.proofs.NumeralLaws.{pairs_end}
use Rattle.lines.proofs.PairLaws.{two_left, piece_good, piece_size, piece_back, piece_count, piece_next}
use Rattle.lines.proofs.numeral.put_pairs.Goals as goal

pub loop-i-init : goal.loop-i-init
loop-i-init c = (c.requires.line_value, refl, omega arith, refl)

pub piece-n-requires : goal.piece-n-requires
piece-n-requires c = two_left c.args.line.now c.loop-i.i c.loop-i-test.true c.loop-i.invariant.0

pub put_piece-requires : goal.put_piece-requires
put_piece-requires c = (
  piece_good c.args.line.now c.loop-i.i c.piece-n.result c.loop-i.invariant.0 c.piece-n.ensures.2,
  omega (arith, piece_size c.args.line.now c.loop-i.i c.piece-n.result c.loop-i.invariant.0 c.piece-n.ensures.2),
  omega (arith, piece_size c.args.line.now c.loop-i.i c.piece-n.result c.loop-i.invariant.0 c.piece-n.ensures.2, piece_count c.args.line.now c.loop-i.i c.piece-n.result c.loop-i.invariant.0 c.piece-n.ensures.2),
)

pub overflow_add-k : goal.overflow_add-k
overflow_add-k c = omega (arith, piece_count c.args.line.now c.loop-i.i c.piece-n.result c.loop-i.invariant.0 c.piece-n.ensures.2)

pub loop-i-preserved : goal.loop-i-preserved
loop-i-preserved c = (
  piece_back c.args.line.now c.loop-i.i c.piece-n.result c.loop-i.invariant.0 c.piece-n.ensures.2,
  search rules,
  omega (arith, piece_count c.args.line.now c.loop-i.i c.piece-n.result c.loop-i.invariant.0 c.piece-n.ensures.2),
  piece_next c.args.line.now c.loop-i.i c.piece-n.result c.loop-i.invariant.0 c.piece-n.ensures.2 c.loop-i.bytes c.put_piece.new.bytes c.loop-i.k _ c.put_piece.ensures c.loop-i.invariant.3,
)

pub returns : goal.returns
returns c = let l = c.loop-i in pairs_end l.bytes l.k c.args.line.now l.i _ (omega arith) l.invariant.3
