use Rattle.table.specs.Table.{files, file_at}
use Rattle.listing.specs.Listing.{entry_in}
use Rattle.listing.proofs.EntryLaws.{put_nothing, entry_outside, read_is}
use Rattle.listing.proofs.read_found.Goals as goal

pub returns-then-place-ge256 : goal.returns-then-place-ge256
unfolding entry_in
returns-then-place-ge256 c =
    let a = c.args in
    rw
    (c.in-Some.is, entry_outside a.long a.disk.now a.owner.now c.in-Some.place (file_at (files a.table.now) c.in-Some.place).received c.if-place-ge256.true)
    (put_nothing a.skip a.out.now)

pub returns-in_default : goal.returns-in_default
unfolding entry_in
returns-in_default c =
    let a = c.args in
    rw c.in_default.is (put_nothing a.skip a.out.now)

pub returns : goal.returns
unfolding entry_in
returns c =
    let a = c.args in
    rw (
      c.in-Some.is,
      ← c.get-f.ensures,
      ← read_is a.long a.disk.now a.owner.now c.in-Some.place c.get-f.result.received a.skip a.out.now,
    )
    c.read_entry.ensures
