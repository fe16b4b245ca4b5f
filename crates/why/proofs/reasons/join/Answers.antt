-- `why::reasons::join` meets its contract: the second part is dropped, or moves down over the first, or both stay.
use Rattle.std.proofs.Common.{◌∙◌}
use Rattle.why.proofs.Rows.{moved, join_first, join_both, join_second}
use Rattle.why.proofs.reasons.join.Goals as goal

pub returns-then-p : goal.returns-then-p
returns-then-p c =
    let a = c.args in
    let p = c.requires in
    let j = join_first a.row.now a.first a.second a.end p.0 p.1 p.2 a.q in
    rw c.if-p.true (record { value = j.0; row_after = j.1 })

pub returns-then-q : goal.returns-then-q
returns-then-q c =
    let a = c.args in
    let p = c.requires in
    let j = join_second a.row.now a.first a.second a.end p.0 p.1 p.2 _ (c.copy_within.ensures.after ∙ moved a.row.now a.first a.second a.end p.0 p.1 p.2) in
    rw (c.if-p.false, c.if-q.true) (record { value = j.0; row_after = j.1 })

pub returns : goal.returns
returns c =
    let a = c.args in
    let p = c.requires in
    let j = join_both a.row.now a.first a.second a.end p.0 p.1 p.2 in
    rw (c.if-p.false, c.if-q.false) (record { value = j.0; row_after = j.1 })
