use Rattle.packet.specs.Names.{bytes_of}
use mathlib.Core.Path.{sym, ◌∙◌}
use Rattle.words.specs.Why.{ask_in}
use Rattle.words.proofs.ReplyLaws as laws
use Rattle.words.proofs.answer_line.Goals as goal

pub returns-then-begins : goal.returns-then-begins
unfolding bytes_of
returns-then-begins c = laws.why_first (ask_in c.args.disk.now c.args.owner.now c.args.table.now c.args.most) c.args.line.now c.args.text.now _ c.reply_to_text.result (sym c.begins.ensures ∙ c.if-begins.true) c.reply_to_text.ensures

pub returns-then-begins-2 : goal.returns-then-begins-2
unfolding bytes_of
returns-then-begins-2 c =
    laws.bytes_first (ask_in c.args.disk.now c.args.owner.now c.args.table.now c.args.most) c.args.line.now c.args.text.now _ c.reply_to_hex.result (sym c.begins.ensures ∙ c.if-begins.false)
    (sym c.begins-2.ensures ∙ c.if-begins-2.true) c.reply_to_hex.ensures

pub returns : goal.returns
unfolding bytes_of
returns c =
    laws.no_word (ask_in c.args.disk.now c.args.owner.now c.args.table.now c.args.most) c.args.line.now c.args.text.now (sym c.begins.ensures ∙ c.if-begins.false) (sym c.begins-2.ensures ∙ c.if-begins-2.false)
