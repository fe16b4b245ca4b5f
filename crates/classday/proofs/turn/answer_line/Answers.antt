use Rattle.std.proofs.Common.{[]}
use Rattle.server.specs.State.{lent}
use Rattle.input.specs.Parts.{bytes_from}
use Rattle.classday.proofs.Parts as laws
use Rattle.classday.proofs.turn.answer_line.Goals as goal

pub returns-in-None : goal.returns-in-None
returns-in-None c = record {
  by_index = (λ selected held bytes.
      laws.answered_none c.args.pass c.put_error.result c.args.to (lent c.args.disk.now c.args.map.now c.args.owner.now c.args.table.now selected held) c.args.input.now bytes c.args.text.now
      c.reply_behind.new.text (bytes_from c.args.pass.from c.args.to c.args.input.now) c.reply_behind.result
      c.reply_behind.ensures c.in-None.is _ c.put_error.ensures.text_after);
  by_index_2 = (λ selected held e. c.put_error.ensures.counted);
}

pub returns-in-Some : goal.returns-in-Some
returns-in-Some c = record {
  by_index = (λ selected held bytes.
      laws.answered_line c.args.pass c.said.result c.args.to (lent c.args.disk.now c.args.map.now c.args.owner.now c.args.table.now selected held) c.args.input.now bytes c.args.text.now
      c.reply_behind.new.text (bytes_from c.args.pass.from c.args.to c.args.input.now) c.reply_behind.result
      c.reply_behind.ensures c.in-Some.size c.in-Some.is c.said.ensures c.reply_behind.auto.text);
  by_index_2 = (λ selected held e.
      absurd (laws.line_not_none c.args.pass c.said.result c.args.to (lent c.args.disk.now c.args.map.now c.args.owner.now c.args.table.now selected held) c.args.input.now [] c.args.text.now
      c.reply_behind.new.text (bytes_from c.args.pass.from c.args.to c.args.input.now) c.reply_behind.result
      c.reply_behind.ensures c.in-Some.size c.in-Some.is e));
}
