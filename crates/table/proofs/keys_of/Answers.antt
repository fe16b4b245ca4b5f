-- `table::keys_of` meets its contract. The invariant: the values up to `at` are the keys of the places up to `at`.
use Rattle.std.proofs.Common.{length-set, ◌∙◌, arith}
use Rattle.table.specs.Table.{files}
use Rattle.table.proofs.Records.{length_files, keys_next}
use Rattle.table.proofs.keys_of.Goals as goal

pub record_at-requires : goal.record_at-requires
record_at-requires c = omega (arith, c.places-at-end.ensures, c.loop-at-test.true, length_files c.args.table.now)

pub loop-at-preserved : goal.loop-at-preserved
loop-at-preserved c =
    let l = c.loop-at in
    let s = c.args in (
      length-set l.values l.at c.key_of.result ∙ l.invariant.0,
      keys_next s.key (files s.table.now) l.values l.at c.record_at.result c.key_of.result
          (omega (arith, c.places-at-end.ensures, c.loop-at-test.true)) (omega (arith, l.invariant.0, c.places-at-end.ensures, c.loop-at-test.true, c.requires))
          c.record_at.ensures c.key_of.ensures l.invariant.1,
    )
