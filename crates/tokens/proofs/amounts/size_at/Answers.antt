use mathlib.Core.Path.{sym, ◌∙◌}
use lib.ListN.{get_or}
use borrow.Author.Tests.{eq-eqb}
use Rattle.tokens.specs.Tokens.{sized_at}
use Rattle.tokens.proofs.TokenLaws as laws
use Rattle.std.proofs.Common.{rules}
use Rattle.tokens.proofs.amounts.size_at.Goals as goal

pub overflow_sub-result : goal.overflow_sub-result
overflow_sub-result c =
    let d = c.byte_of-d in
    let w = c.is_width in
    laws.width_least d.result c.args.v (sym w.ensures ∙ c.if-is_width.true)

pub returns-then-is_width : goal.returns-then-is_width
unfolding sized_at
returns-then-is_width c =
    let b3 = c in
    let b4 = b3 in
    let b6 = b4 in
    let a = b6.args in
    let d = c.byte_of-d in
    let w = c.is_width in
    rw (eq-eqb (get_or a.text.now a.at 0) 58 (sym b4.byte_of.ensures ∙ b3.if-byte_of-eq58.true), ← d.ensures, ← w.ensures, c.if-is_width.true)

pub returns-then-byte_of-eq58 : goal.returns-then-byte_of-eq58
unfolding sized_at
returns-then-byte_of-eq58 c =
    let b3 = c in
    let b4 = b3 in
    let b6 = b4 in
    let a = b6.args in
    let d = c.byte_of-d in
    let w = c.is_width in
    rw (eq-eqb (get_or a.text.now a.at 0) 58 (sym b4.byte_of.ensures ∙ b3.if-byte_of-eq58.true), ← d.ensures, ← w.ensures, c.if-is_width.false)

pub returns : goal.returns
unfolding sized_at
returns c = search rules
