use Rattle.std.proofs.Common.{sym, length-take-le}
use Rattle.classday.proofs.Parts as laws
use Rattle.classday.proofs.turn.reply.Goals as goal

pub slice_bounds-answer_line-end : goal.slice_bounds-answer_line-end
slice_bounds-answer_line-end c = sym (length-take-le c.least-blocks.result c.args.owner.now c.least-blocks.ensures.1)

pub slice_bounds-answer_line-end-2 : goal.slice_bounds-answer_line-end-2
slice_bounds-answer_line-end-2 c = sym (length-take-le c.least-records.result c.args.table.now c.least-records.ensures.1)

pub returns : goal.returns
returns c =
    rw (
      ← laws.take_least c.args.server.blocks c.args.owner.now,
      ← c.least-blocks.ensures.2,
      ← laws.take_records c.args.server.files c.least-places.result c.least-records.result c.args.table.now c.least-places.ensures.2
          c.least-records.ensures.2,
    ) c.answer_line.ensures
