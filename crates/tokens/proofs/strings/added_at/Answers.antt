use borrow.Author.Tests.{lt-ltb, le-ltb}
use Rattle.tokens.specs.Tokens.{added_at}
use Rattle.tokens.proofs.strings.added_at.Goals as goal

pub returns-then-fifth_star : goal.returns-then-fifth_star
unfolding added_at
returns-then-fifth_star c =
    let f = c.fifth_star in
    rw (← f.ensures, c.if-fifth_star.true)

pub returns-then-count-lt255 : goal.returns-then-count-lt255
unfolding added_at
returns-then-count-lt255 c =
    let a = c.args in
    let f = c.fifth_star in
    rw (← f.ensures, c.if-fifth_star.false, lt-ltb a.count 255 c.if-count-lt255.true)

pub returns : goal.returns
unfolding added_at
returns c =
    let a = c.args in
    let f = c.fifth_star in
    rw (← f.ensures, c.if-fifth_star.false, le-ltb a.count 255 c.if-count-lt255.false)
