use borrow.Author.Tests.{lt-ltb, le-ltb}
use Rattle.tokens.specs.Tokens.{code_at}
use Rattle.tokens.proofs.strings.code_at.Goals as goal

pub returns-then-d-lt16 : goal.returns-then-d-lt16
unfolding code_at
returns-then-d-lt16 c =
    let b3 = c in
    let b4 = b3 in
    let b5 = b4 in
    let b6 = b5 in
    let h = b5.hex_value-a in
    let k = c.hex_value-d in
    let b = b6.byte_of in
    let d = b3.byte_of-then-a-lt16 in
    rw (← b.ensures, ← d.ensures, ← h.ensures, ← k.ensures, lt-ltb h.result 16 b4.if-a-lt16.true, lt-ltb k.result 16 c.if-d-lt16.true)
    c.added_at.ensures

pub returns-then-a-lt16 : goal.returns-then-a-lt16
unfolding code_at
returns-then-a-lt16 c =
    let b3 = c in
    let b4 = b3 in
    let b5 = b4 in
    let h = b4.hex_value-a in
    let k = c.hex_value-d in
    let b = b5.byte_of in
    let d = c.byte_of-then-a-lt16 in
    rw (← b.ensures, ← d.ensures, ← h.ensures, ← k.ensures, lt-ltb h.result 16 b3.if-a-lt16.true, le-ltb k.result 16 c.if-d-lt16.false)

pub returns : goal.returns
unfolding code_at
returns c =
    let h = c.hex_value-a in
    let b = c.byte_of in
    rw (← b.ensures, ← h.ensures, le-ltb h.result 16 c.if-a-lt16.false)
