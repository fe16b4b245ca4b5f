use mathlib.Core.Path.{◌∙◌}
use borrow.Author.Tests.{lt-ltb, le-ltb}
use Rattle.names.proofs.RowLaws.{row_width}
use Rattle.grammar.specs.Meaning.{least_width}
use Rattle.tokens.proofs.amounts.width_of.Goals as goal

pub returns-then-v-lt256 : goal.returns-then-v-lt256
unfolding least_width
returns-then-v-lt256 c =
    let a = c.args in
    let r = c.row_of-usual in
    c.max.ensures ∙ rw (r.ensures, row_width a.id, lt-ltb a.v 256 c.if-v-lt256.true)

pub returns-then-v-lt65536 : goal.returns-then-v-lt65536
unfolding least_width
returns-then-v-lt65536 c =
    let a = c.args in
    let r = c.row_of-usual in
    c.max-then-v-lt65536.ensures ∙ rw (r.ensures, row_width a.id, le-ltb a.v 256 c.if-v-lt256.false, lt-ltb a.v 65536 c.if-v-lt65536.true)

pub returns : goal.returns
unfolding least_width
returns c =
    let a = c.args in
    let r = c.row_of-usual in
    c.max-2.ensures ∙ rw (r.ensures, row_width a.id, le-ltb a.v 256 c.if-v-lt256.false, le-ltb a.v 65536 c.if-v-lt65536.false)
