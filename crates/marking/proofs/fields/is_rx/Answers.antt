use Rattle.std.proofs.Common.{sym, arith, length-take-le}
use Rattle.packet.specs.Names.{bytes_of}
use Rattle.marking.proofs.FieldLaws.{end_most, first_field}
use Rattle.marking.proofs.fields.is_rx.Goals as goal

pub near_tab-end-requires : goal.near_tab-end-requires
near_tab-end-requires c = tt

pub slice_bounds-is_same-end : goal.slice_bounds-is_same-end
slice_bounds-is_same-end c = sym (length-take-le c.near_tab-end.result c.args.line.now (omega (arith, c.near_tab-end.ensures, end_most 0 c.args.line.now)))

pub is_same-requires : goal.is_same-requires
is_same-requires c = tt

pub returns : goal.returns
unfolding bytes_of
returns c = first_field c.args.line.now _ _ c.near_tab-end.ensures c.is_same.ensures
