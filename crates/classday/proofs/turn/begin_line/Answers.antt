use Rattle.std.proofs.Common.{ℕ, sym, ap, ◌∙◌}
use Rattle.server.specs.State.{lent}
use Rattle.input.specs.Parts.{bytes_from}
use Rattle.pass.proofs.Parts.{line_begun_law, line_unread, begun_counted}
use Rattle.classday.specs.Sheet.{class_words}
use Rattle.classday.proofs.turn.begin_line.Goals as goal

pub returns-then-is_readable : goal.returns-then-is_readable
returns-then-is_readable c = record {
  by_index = (λ selected held.
      line_begun_law c.args.pass _ c.args.n c.args.input.now c.args.bytes.now _ _ _
      c.wrapping_add_usize-to.ensures.value c.read_line-command.ensures
      class_words (lent c.args.disk.now c.args.map.now c.args.owner.now c.args.table.now selected held) c.args.text.now (sym c.is_readable.ensures ∙ c.if-is_readable.true) c.begun.ensures);
  by_index_2 = (λ selected held f g.
      begun_counted c.args.pass c.begun.result c.args.n c.args.input.now c.args.bytes.now _ _ _
      c.wrapping_add_usize-to.ensures.value c.read_line-command.ensures
      (sym c.is_readable.ensures ∙ c.if-is_readable.true) c.args.map.now c.args.owner.now f);
}

pub returns : goal.returns
returns c = record {
  by_index = (λ selected held.
      line_unread c.args.pass _ c.args.n c.args.input.now c.args.bytes.now _ _ _
      c.wrapping_add_usize-to.ensures.value c.read_line-command.ensures
      class_words (lent c.args.disk.now c.args.map.now c.args.owner.now c.args.table.now selected held) c.args.text.now (sym c.is_readable.ensures ∙ c.if-is_readable.false) _ (c.answer_line.ensures.by_index selected held _));
  by_index_2 = (λ selected held f g.
      c.answer_line.ensures.by_index_2 selected held
      (ap (λ (k : ℕ). class_words c.args.pass.day (lent c.args.disk.now c.args.map.now c.args.owner.now c.args.table.now selected held) (bytes_from c.args.pass.from k c.args.input.now))
      c.wrapping_add_usize-to.ensures.value ∙ g));
}
