-- `stored::set_fields` meets its contract. Each answer follows from the tests that led to it.
use mathlib.Core.Path.{sym, ap, ◌∙◌}
use Prim.Native.Nat.{◌+◌}
use native.Mathlib.Omega.{arith}
use lib.ListN.{length}
use Rattle.refusal.specs.Refusal.{number, numbered}
use Rattle.refusal.proofs.Laws.{refused}
use Rattle.blocks.proofs.Owners.{blocks_le}
use Rattle.blocks.proofs.Answers.{disk_fits_law}
use Rattle.stored.proofs.Setting.{refused_sizes, refused_length, refused_items, settable, fields_done}
use Rattle.stored.proofs.set_fields.Goals as goal

pub returns-then-not-sizes_fit-clause-value : goal.returns-then-not-sizes_fit-clause-value
returns-then-not-sizes_fit-clause-value c =
    let a = c.args in
    (refused_sizes a.disk.now a.owner.now a.place a.received a.number a.time (sym c.sizes_fit.ensures ∙ c.if-not-sizes_fit.true)).0

pub overflow_mul-block_count : goal.overflow_mul-block_count
overflow_mul-block_count c =
    let a = c.args in
    let f = disk_fits_law (length a.disk.now) (length a.owner.now) a.place (sym c.sizes_fit.ensures ∙ c.if-not-sizes_fit.false) in
    omega (arith, c.block_count.ensures, blocks_le (a.place + 1) a.owner.now, f.most)

pub returns-then-block_count-received-clause-value : goal.returns-then-block_count-received-clause-value
returns-then-block_count-received-clause-value c =
    let a = c.args in
    (refused_length a.disk.now a.owner.now a.place a.received a.number a.time (sym c.sizes_fit.ensures ∙ c.if-not-sizes_fit.false)
    (omega (arith, c.block_count.ensures))).0

pub returns-in_err-header-clause-value : goal.returns-in_err-header-clause-value
returns-in_err-header-clause-value c =
    let a = c.args in
    let e = refused_items a.disk.now a.owner.now a.place a.received a.number a.time (sym c.sizes_fit.ensures ∙ c.if-not-sizes_fit.false)
    (omega (arith, c.block_count.ensures)) (number c.in_err-header.field-0.0) (refused c.in_err-header.field-0.0)
    (sym (ap numbered c.in_err-header.was) ∙ c.header_at.ensures) in
    let v = e.0 in
    grind (arith, v, c.from_residual.ensures)

pub returns-in_err-header-clause-disk_after : goal.returns-in_err-header-clause-disk_after
returns-in_err-header-clause-disk_after c =
    let a = c.args in
    (refused_items a.disk.now a.owner.now a.place a.received a.number a.time (sym c.sizes_fit.ensures ∙ c.if-not-sizes_fit.false)
    (omega (arith, c.block_count.ensures)) (number c.in_err-header.field-0.0) (refused c.in_err-header.field-0.0)
    (sym (ap numbered c.in_err-header.was) ∙ c.header_at.ensures)).1

pub write_fields-requires : goal.write_fields-requires
write_fields-requires c =
    let a = c.args in
    settable a.disk.now a.owner.now a.place a.received a.number a.time (sym c.sizes_fit.ensures ∙ c.if-not-sizes_fit.false)
    (omega (arith, c.block_count.ensures)) c.in_ok-header.header (sym (ap numbered c.in_ok-header.was) ∙ c.header_at.ensures)

pub returns-clause-value : goal.returns-clause-value
returns-clause-value c =
    let a = c.args in
    (fields_done a.disk.now a.owner.now a.place a.received a.number a.time (sym c.sizes_fit.ensures ∙ c.if-not-sizes_fit.false)
    (omega (arith, c.block_count.ensures)) c.in_ok-header.header (sym (ap numbered c.in_ok-header.was) ∙ c.header_at.ensures) _ c.write_fields.ensures).0

pub returns-clause-disk_after : goal.returns-clause-disk_after
returns-clause-disk_after c =
    let a = c.args in
    (fields_done a.disk.now a.owner.now a.place a.received a.number a.time (sym c.sizes_fit.ensures ∙ c.if-not-sizes_fit.false)
    (omega (arith, c.block_count.ensures)) c.in_ok-header.header (sym (ap numbered c.in_ok-header.was) ∙ c.header_at.ensures) _ c.write_fields.ensures).1
