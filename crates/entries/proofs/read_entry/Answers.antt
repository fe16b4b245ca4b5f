-- `entries::read_entry` meets its contract. Each answer follows from the header read.
use Rattle.std.proofs.Common.{sym, ap, ◌∙◌}
use Rattle.refusal.specs.Refusal.{number, numbered}
use Rattle.refusal.proofs.Laws.{refused}
use Rattle.entries.proofs.ReadingLaws.{read_refused, read_long, read_short}
use Rattle.entries.proofs.read_entry.Goals as goal

pub returns-then-long : goal.returns-then-long
returns-then-long c =
    let a = c.args in
    read_long a.disk.now a.owner.now a.place a.received c.in-Ok.header (sym (ap numbered c.in-Ok.is) ∙ c.read_header.ensures) a.skip a.out.now a.long
    c.read_long.new.out c.if-long.true c.read_long.ensures

pub returns : goal.returns
returns c =
    let a = c.args in
    read_short a.disk.now a.owner.now a.place a.received c.in-Ok.header (sym (ap numbered c.in-Ok.is) ∙ c.read_header.ensures) a.skip a.out.now a.long
    c.saturating_sub-at.result c.read_short.new.out
    c.if-long.false c.saturating_sub-at.ensures c.read_short.ensures

pub returns-in_default : goal.returns-in_default
returns-in_default c =
    let a = c.args in
    let e = c.in_default in
    read_refused a.disk.now a.owner.now a.place a.received a.skip a.out.now a.long (number e.field-0) (refused e.field-0) (sym (ap numbered e.is) ∙ c.read_header.ensures)
