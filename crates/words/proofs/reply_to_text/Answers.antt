use mathlib.Core.Path.{sym, ◌∙◌}
use Rattle.input.proofs.Places.{end_part}
use Rattle.words.specs.Why.{ask_in}
use Rattle.words.proofs.ReplyLaws as laws
use Rattle.words.proofs.reply_to_text.Goals as goal

pub slice_bounds-print_paper-count : goal.slice_bounds-print_paper-count
slice_bounds-print_paper-count c = laws.tab_within _ c.args.line.now _ c.in_ok-number.at (sym c.number_at.ensures ∙ c.in_ok-number.was)

pub slice_bounds-print_paper-start : goal.slice_bounds-print_paper-start
slice_bounds-print_paper-start c = laws.tab_within _ c.args.line.now _ c.in_ok-number.at (sym c.number_at.ensures ∙ c.in_ok-number.was)

pub returns-in_err-number : goal.returns-in_err-number
returns-in_err-number c = rw c.from_residual.ensures (laws.text_bad (ask_in c.args.disk.now c.args.owner.now c.args.table.now c.args.most) c.args.line.now c.args.text.now _ (sym c.number_at.ensures ∙ c.in_err-number.was))

pub returns : goal.returns
returns c =
    laws.text_value (ask_in c.args.disk.now c.args.owner.now c.args.table.now c.args.most) c.args.line.now c.args.text.now _ _ _ (sym c.number_at.ensures ∙ c.in_ok-number.was) _ _
    c.print_paper.result (end_part c.in_ok-number.at c.args.line.now) c.print_paper.ensures
