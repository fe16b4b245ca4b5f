-- `stored::settle_header` meets its contract. The items count only where the first two bytes are the mark.
use Rattle.equation.specs.Parsed.{relations_by}
use Rattle.stored.specs.Answers.{file_at}
use Rattle.stored.proofs.CursorLaws.{file_length, met_short, met_first, met_second, met_items}
use Rattle.stored.proofs.settle_header.Goals as goal

pub returns-then-n-lt2 : goal.returns-then-n-lt2
returns-then-n-lt2 c =
    let a = c.args in
    let p = c.requires in
    met_short (file_at a.disk.now a.owner.now a.place a.n) a.n (file_length a.disk.now a.owner.now a.place a.n p.0) (relations_by a.eq.now a.steps.now) a.truths.now c.if-n-lt2.true

pub shape_of-truths : goal.shape_of-truths
shape_of-truths c = c.truths-1.given

pub returns-then-byte_at-eq85 : goal.returns-then-byte_at-eq85
returns-then-byte_at-eq85 c =
    let a = c.args in
    let p = c.requires in
    met_items (file_at a.disk.now a.owner.now a.place a.n) a.n (file_length a.disk.now a.owner.now a.place a.n p.0) (relations_by a.eq.now a.steps.now) a.truths.now c.if-n-lt2.false _ c.byte_at.ensures c.if-byte_at.true _ c.byte_at-then-byte_at.ensures c.if-byte_at-eq85.true _ c.settle_items.ensures

pub returns-else-byte_at-eq85 : goal.returns-else-byte_at-eq85
returns-else-byte_at-eq85 c =
    let a = c.args in
    let p = c.requires in
    met_second (file_at a.disk.now a.owner.now a.place a.n) a.n (file_length a.disk.now a.owner.now a.place a.n p.0) (relations_by a.eq.now a.steps.now) a.truths.now c.if-n-lt2.false _ c.byte_at.ensures c.if-byte_at.true _ c.byte_at-then-byte_at.ensures c.if-byte_at-eq85.false

pub returns-else-byte_at : goal.returns-else-byte_at
returns-else-byte_at c =
    let a = c.args in
    let p = c.requires in
    met_first (file_at a.disk.now a.owner.now a.place a.n) a.n (file_length a.disk.now a.owner.now a.place a.n p.0) (relations_by a.eq.now a.steps.now) a.truths.now c.if-n-lt2.false _ c.byte_at.ensures c.if-byte_at.false
