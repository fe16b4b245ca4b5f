-- `why::count_older` meets its contract. The invariant: what is counted and what is left to count are all. Each file passed leaves fewer.
use mathlib.Core.Path.{sym, ap, ◌∙◌, subst}
use Prim.Native.Nat.{ℕ, ◌<◌}
use native.Mathlib.Omega.{arith}
use Rattle.header.specs.Items.{fields_of}
use Rattle.equation.specs.Answer.{selects}
use Rattle.stored.specs.Answers.{file_at}
use Rattle.table.specs.declared.File.{File}
use Rattle.table.specs.Table.{files, times, uploaded}
use Rattle.table.proofs.Records.{length_files}
use Rattle.table.proofs.Ordering.{count_above}
use Rattle.why.proofs.Older.{place_in, Counting, count_start, count_none, next_time, next_less, count_end, count_next}
use Rattle.why.proofs.count_older.Goals as goal

pub loop-place-init : goal.loop-place-init
loop-place-init c =
    let a = c.args in
    count_start a.eq.now a.disk.now a.owner.now a.table.now a.time

pub returns-in-None : goal.returns-in-None
returns-in-None c =
    let a = c.args in
    let l = c.loop-place in
    count_none a.eq.now a.disk.now a.owner.now a.table.now a.time l.count l.after l.invariant
    (sym c.next_complete-next.ensures ∙ c.in-None.is)

pub returns-then-time-after : goal.returns-then-time-after
returns-then-time-after c =
    let a = c.args in
    let l = c.loop-place in
    let time = c.upload_time_of-after.ensures ∙ ap uploaded c.get-file.ensures in
    let found = sym c.next_complete-next.ensures ∙ c.in-Some.is in
    count_end a.eq.now a.disk.now a.owner.now a.table.now a.time l.count l.after l.invariant
    c.in-Some.place found
    (omega (arith, time, c.if-time-after.true))

pub meets-met-requires : goal.meets-met-requires
meets-met-requires c =
    let a = c.args in
    let l = c.loop-place in
    let q = c.requires in
    let time = c.upload_time_of-after.ensures ∙ ap uploaded c.get-file.ensures in
    let found = sym c.next_complete-next.ensures ∙ c.in-Some.is in
    let n = next_time a.eq.now a.disk.now a.owner.now a.table.now a.time l.count l.after l.invariant c.in-Some.place found in
    (q.0, q.1, place_in a.table.now c.in-Some.place (λ z. omega arith) q.2)

pub counted-count-requires : goal.counted-count-requires
counted-count-requires c =
    let a = c.args in
    let l = c.loop-place in
    let time = c.upload_time_of-after.ensures ∙ ap uploaded c.get-file.ensures in
    let found = sym c.next_complete-next.ensures ∙ c.in-Some.is in
    let n = next_less a.eq.now a.disk.now a.owner.now a.table.now a.time l.count l.after l.invariant c.in-Some.place found in
    omega (
      arith,
      l.invariant.few,
      length_files a.table.now,
      c.requires.2,
    )

pub loop-place-smaller : goal.loop-place-smaller
loop-place-smaller c =
    let a = c.args in
    let l = c.loop-place in
    let time = c.upload_time_of-after.ensures ∙ ap uploaded c.get-file.ensures in
    let found = sym c.next_complete-next.ensures ∙ c.in-Some.is in
    subst (λ (u : ℕ). count_above u (times (files a.table.now)) < count_above l.after (times (files a.table.now))) (sym time)
    (next_less a.eq.now a.disk.now a.owner.now a.table.now a.time l.count l.after l.invariant c.in-Some.place found)

pub loop-place-preserved : goal.loop-place-preserved
loop-place-preserved c =
    let a = c.args in
    let l = c.loop-place in
    let time = c.upload_time_of-after.ensures ∙ ap uploaded c.get-file.ensures in
    let found = sym c.next_complete-next.ensures ∙ c.in-Some.is in
    let g = c.get-file.ensures in
    let m = c.meets-met.ensures
    ∙ ap (λ (f : File). selects a.eq.now (fields_of (file_at a.disk.now a.owner.now c.in-Some.place f.received))) g in
    subst (λ (u : ℕ). Counting a.eq.now a.disk.now a.owner.now a.table.now a.time c.counted-count.result u) (sym time)
    (count_next a.eq.now a.disk.now a.owner.now a.table.now a.time l.count l.after l.invariant c.in-Some.place found
    (omega (arith, time, c.if-time-after.false)) c.meets-met.result m c.counted-count.result c.counted-count.ensures)
