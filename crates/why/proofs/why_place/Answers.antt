-- `why::why_place` meets its contract: by the file's upload time.
use mathlib.Core.Path.{sym, ap, ◌∙◌}
use Rattle.table.specs.Table.{uploaded}
use Rattle.why.proofs.Older.{place_in}
use Rattle.why.proofs.Answers.{place_partial, place_complete}
use Rattle.why.proofs.why_place.Goals as goal

pub returns-then-upload_time_of-eq0 : goal.returns-then-upload_time_of-eq0
returns-then-upload_time_of-eq0 c t e =
    let a = c.args in
    let u = c.upload_time_of.ensures ∙ ap uploaded c.get.ensures in
    place_partial a.eq.now t a.disk.now a.owner.now a.table.now a.most a.named.now a.place (sym u ∙ c.if-upload_time_of-eq0.true)

pub why_file-requires : goal.why_file-requires
why_file-requires c =
    let a = c.args in
    let p = c.requires in
    let u = c.upload_time_of.ensures ∙ ap uploaded c.get.ensures in
    (p.0, p.1, p.2, place_in a.table.now a.place (λ z. c.if-upload_time_of-eq0.false (u ∙ z)) p.2)

pub returns : goal.returns
returns c t e =
    let a = c.args in
    let u = c.upload_time_of.ensures ∙ ap uploaded
    c.get.ensures in
    c.why_file.ensures t e
    ∙ place_complete a.eq.now t a.disk.now a.owner.now a.table.now a.most a.named.now a.place
    (λ z. c.if-upload_time_of-eq0.false (u ∙ z))
