-- `stored::head_at` meets its contract. Each answer follows from the head's three bytes and the tests that led to it.
use native.Mathlib.Omega.{arith}
use Rattle.stored.specs.Answers.{file_at}
use Rattle.stored.proofs.CursorLaws.{file_length, file_short, file_end, file_zero, file_over, file_item}
use Rattle.stored.proofs.head_at.Goals as goal

pub returns-then-n-lt3 : goal.returns-then-n-lt3
returns-then-n-lt3 c =
    let a = c.args in
    let p = c.requires in
    file_short (file_at a.disk.now a.owner.now a.place a.n) a.n a.at (file_length a.disk.now a.owner.now a.place a.n p.0) (omega arith)

pub returns-then-n-at : goal.returns-then-n-at
returns-then-n-at c =
    let a = c.args in
    let p = c.requires in
    file_short (file_at a.disk.now a.owner.now a.place a.n) a.n a.at (file_length a.disk.now a.owner.now a.place a.n p.0) (omega arith)

pub returns-then-size-eq0 : goal.returns-then-size-eq0
returns-then-size-eq0 c =
    let t = c in
    let a = c.args in
    let p = c.requires in
    file_end (file_at a.disk.now a.owner.now a.place a.n) a.n a.at _ _ _ _ (file_length a.disk.now a.owner.now a.place a.n p.0) (omega arith) t.byte_at-low.ensures t.byte_at-high.ensures t.byte_at-size.ensures t.number16-id.ensures c.if-id-eq0.true c.if-size-eq0.true

pub returns-then-id-eq0 : goal.returns-then-id-eq0
returns-then-id-eq0 c =
    let t = c in
    let a = c.args in
    let p = c.requires in
    file_zero (file_at a.disk.now a.owner.now a.place a.n) a.n a.at _ _ _ _ (file_length a.disk.now a.owner.now a.place a.n p.0) (omega arith) t.byte_at-low.ensures t.byte_at-high.ensures t.byte_at-size.ensures t.number16-id.ensures c.if-id-eq0.true c.if-size-eq0.false

pub returns-then-n-at-2 : goal.returns-then-n-at-2
returns-then-n-at-2 c =
    let t = c in
    let a = c.args in
    let p = c.requires in
    file_over (file_at a.disk.now a.owner.now a.place a.n) a.n a.at _ _ _ _ (file_length a.disk.now a.owner.now a.place a.n p.0) (omega arith) t.byte_at-low.ensures t.byte_at-high.ensures t.byte_at-size.ensures t.number16-id.ensures c.if-id-eq0.false c.if-n-at-2.true

pub returns : goal.returns
returns c =
    let t = c in
    let a = c.args in
    let p = c.requires in
    file_item (file_at a.disk.now a.owner.now a.place a.n) a.n a.at _ _ _ _ (file_length a.disk.now a.owner.now a.place a.n p.0) (omega arith) t.byte_at-low.ensures t.byte_at-high.ensures t.byte_at-size.ensures t.number16-id.ensures c.if-id-eq0.false c.if-n-at-2.false
