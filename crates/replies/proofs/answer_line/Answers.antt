use mathlib.Core.Path.{sym, ◌∙◌}
use Prim.Native.Nat.{◌-◌}
use native.Mathlib.Omega.{arith}
use lib.ListN.{length, drop, length-drop}
use lib.Seq.{take_all}
use Rattle.packet.specs.Names.{bytes_of}
use Rattle.replies.proofs.LineLaws as laws
use Rattle.replies.proofs.answer_line.Goals as goal

pub returns-then-line-ge5 : goal.returns-then-line-ge5
unfolding bytes_of
returns-then-line-ge5 c =
    let a = c.args in
    laws.text_first a.line.now a.text.now
    (sym c.begins.ensures ∙ c.if-begins.true) _ _
    c.reply_to_text.result (take_all (length a.line.now - 5) (drop 5 a.line.now) (omega (arith, length-drop 5 a.line.now)))
    c.reply_to_text.ensures

pub returns-then-begins : goal.returns-then-begins
unfolding bytes_of
returns-then-begins c =
    let a = c.args in
    laws.text_short a.line.now a.text.now (sym c.begins.ensures ∙ c.if-begins.true) c.if-line-ge5.false

pub returns-then-line-ge6 : goal.returns-then-line-ge6
unfolding bytes_of
returns-then-line-ge6 c =
    let a = c.args in
    laws.bytes_first a.line.now a.text.now
    (sym c.begins.ensures
    ∙ c.if-begins.false)
    (sym c.begins-2.ensures ∙ c.if-begins-2.true) _ _
    c.reply_to_hex.result (take_all (length a.line.now - 6) (drop 6 a.line.now) (omega (arith, length-drop 6 a.line.now)))
    c.reply_to_hex.ensures

pub returns-then-begins-2 : goal.returns-then-begins-2
unfolding bytes_of
returns-then-begins-2 c =
    let a = c.args in
    laws.bytes_short a.line.now a.text.now
    (sym c.begins.ensures ∙ c.if-begins.false)
    (sym c.begins-2.ensures ∙ c.if-begins-2.true) c.if-line-ge6.false

pub returns : goal.returns
unfolding bytes_of
returns c =
    let a = c.args in
    laws.no_word a.line.now a.text.now (sym c.begins.ensures ∙ c.if-begins.false)
    (sym c.begins-2.ensures ∙ c.if-begins-2.false)
