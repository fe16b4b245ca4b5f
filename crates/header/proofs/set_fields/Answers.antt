use Rattle.std.proofs.Common.{sym, ap, ◌∙◌, arith}
use Rattle.refusal.specs.Refusal.{number, numbered}
use Rattle.refusal.proofs.Laws.{refused}
use Rattle.header.proofs.Written.{bytes_all}
use Rattle.header.proofs.Set.{header_refused, header_accepted, set_refused, settable_of, still_accepted, sum_step}
use Rattle.header.proofs.set_fields.Goals as goal

pub returns-in_err-header-clause-value : goal.returns-in_err-header-clause-value
returns-in_err-header-clause-value c =
    let e = header_refused 18 (number c.in_err-header.field-0.0) c.args.file.now (sym (ap numbered c.in_err-header.was) ∙ c.read_header.ensures) in
    grind (arith, e, c.from_residual.ensures)

pub returns-in_err-header-clause-file_after : goal.returns-in_err-header-clause-file_after
returns-in_err-header-clause-file_after c =
    let e = header_refused 18 (number c.in_err-header.field-0.0) c.args.file.now (sym (ap numbered c.in_err-header.was) ∙ c.read_header.ensures) in
    sym (set_refused c.args.number c.args.time c.args.file.now (λ z. let h = refused c.in_err-header.field-0.0 in absurd (omega arith)))

pub write_rows-requires : goal.write_rows-requires
write_rows-requires c =
    settable_of c.args.file.now c.in_ok-header.header (sym (ap numbered c.in_ok-header.was) ∙ c.read_header.ensures)

pub sum_of-sum-requires : goal.sum_of-sum-requires
sum_of-sum-requires c =
    let a = c.args in
    let i = header_accepted 18 a.file.now c.in_ok-header.header (sym (ap numbered c.in_ok-header.was) ∙ c.read_header.ensures) in
    still_accepted a.number a.time a.file.now c.write_rows.new.file (bytes_all a.file.now (λ k. omega (arith, c.slice_known-1.given k))) i c.write_rows.ensures

pub returns-clause-value : goal.returns-clause-value
returns-clause-value c = sym (header_accepted 18 c.args.file.now c.in_ok-header.header (sym (ap numbered c.in_ok-header.was) ∙ c.read_header.ensures))

pub returns-clause-file_after : goal.returns-clause-file_after
returns-clause-file_after c =
    let a = c.args in
    let i = header_accepted 18 a.file.now c.in_ok-header.header (sym (ap numbered c.in_ok-header.was) ∙ c.read_header.ensures) in
    sum_step a.number a.time a.file.now c.write_rows.new.file c.write16.new.out c.sum_of-sum.result (bytes_all a.file.now (λ k. omega (arith, c.slice_known-1.given k))) i c.write_rows.ensures c.sum_of-sum.ensures c.write16.ensures.out_after
