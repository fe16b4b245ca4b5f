use Rattle.readings.proofs.Readers as readers
use Rattle.paper.proofs.sums.begins.Goals as goal

pub returns-then-left-eq0 : goal.returns-then-left-eq0
returns-then-left-eq0 c =
    let a = c.args in
    let q = c.blanks-q in
    let b = c.byte_of in
    readers.start_deep a.text.now a.at a.left q.result q.ensures b.result b.ensures c.if-byte_of-eq40.true c.if-left-eq0.true

pub returns-then-byte_of-eq40 : goal.returns-then-byte_of-eq40
returns-then-byte_of-eq40 c =
    let a = c.args in
    let q = c.blanks-q in
    let b = c.byte_of in
    readers.start_open a.text.now a.at a.left q.result q.ensures b.result b.ensures c.if-byte_of-eq40.true c.if-left-eq0.false

pub returns : goal.returns
returns c =
    let a = c.args in
    let q = c.blanks-q in
    let b = c.byte_of in
    readers.start_relation a.text.now a.at a.left q.result q.ensures b.result b.ensures c.if-byte_of-eq40.false
