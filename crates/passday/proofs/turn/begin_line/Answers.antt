use Rattle.std.proofs.Common.{sym, refl, ◌∙◌}
use Rattle.server.specs.State.{lent}
use Rattle.pass.specs.Sheets.{no_more}
use Rattle.pass.proofs.Parts.{line_begun_law, line_unread, begun_counted, none_said}
use Rattle.passday.proofs.turn.begin_line.Goals as goal

pub returns-then-is_readable : goal.returns-then-is_readable
returns-then-is_readable c = record {
  text_after = (λ disk table selected held.
      line_begun_law c.args.pass _ c.args.n c.args.input.now c.args.bytes.now _ _ _
      c.wrapping_add_usize-to.ensures.value c.read_line-command.ensures
      no_more (lent disk c.args.map.now c.args.owner.now table selected held) c.args.text.now (sym c.is_readable.ensures ∙ c.if-is_readable.true) c.begun.ensures);
  counted = begun_counted c.args.pass c.begun.result c.args.n c.args.input.now c.args.bytes.now _ _ _
      c.wrapping_add_usize-to.ensures.value c.read_line-command.ensures (sym c.is_readable.ensures ∙ c.if-is_readable.true)
      c.args.map.now c.args.owner.now;
}

pub returns : goal.returns
returns c = record {
  text_after = (λ disk table selected held.
      line_unread c.args.pass c.put_error.result c.args.n c.args.input.now c.args.bytes.now _ _ _
      c.wrapping_add_usize-to.ensures.value c.read_line-command.ensures
      no_more (lent disk c.args.map.now c.args.owner.now table selected held) c.args.text.now (sym c.is_readable.ensures ∙ c.if-is_readable.false) _
      (none_said c.args.pass c.put_error.result _ (lent disk c.args.map.now c.args.owner.now table selected held) c.args.input.now _ c.args.text.now _ refl _
      c.put_error.ensures.text_after));
  counted = λ f. c.put_error.ensures.counted;
}
