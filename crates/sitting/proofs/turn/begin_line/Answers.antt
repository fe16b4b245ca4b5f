use Rattle.std.proofs.Common.{sym, ◌∙◌}
use Rattle.sitting.proofs.Parts.{line_begins, line_refused}
use Rattle.sitting.proofs.turn.begin_line.Goals as goal

pub wrapping_add_usize-to-requires : goal.wrapping_add_usize-to-requires
wrapping_add_usize-to-requires c = tt

pub script_to-answer-requires : goal.script_to-answer-requires
script_to-answer-requires c = tt

pub read_line-command-requires : goal.read_line-command-requires
read_line-command-requires c = tt

pub is_readable-requires : goal.is_readable-requires
is_readable-requires c = tt

pub begun-requires : goal.begun-requires
begun-requires c = tt

pub returns-then-is_readable : goal.returns-then-is_readable
returns-then-is_readable c = line_begins c.args.sitting _ c.args.n c.args.input.now c.args.bytes.now _ c.args.text.now _ _ _ _ c.wrapping_add_usize-to.ensures.value c.script_to-answer.ensures c.read_line-command.ensures (sym c.is_readable.ensures ∙ c.if-is_readable.true) c.begun.ensures

pub put_error-requires : goal.put_error-requires
put_error-requires c = tt

pub returns : goal.returns
returns c = line_refused c.args.sitting _ c.args.n c.args.input.now c.args.bytes.now _ c.args.text.now _ _ _ _ c.wrapping_add_usize-to.ensures.value c.script_to-answer.ensures c.read_line-command.ensures (sym c.is_readable.ensures ∙ c.if-is_readable.false) c.put_error.ensures
