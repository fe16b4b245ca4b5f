-- `back::put_item` meets its contract. Assumes nothing.
use mathlib.Core.Path.{ap}
use native.Mathlib.Omega.{arith}
use lib.ListN.{length}
use Rattle.writing.proofs.Parts as parts
use Rattle.writing.proofs.Pieces as pieces
use Rattle.back.proofs.put_item.Goals as goal

pub put_hex-k-requires : goal.put_hex-k-requires
put_hex-k-requires c =
    omega (
      arith,
      c.requires,
      ap length
          (parts.item_coded c.args.id c.row_of-row.result c.row_of-row.ensures (omega arith)
          c.if-size-eq0.true),
    )

pub put_hex-j-requires : goal.put_hex-j-requires
put_hex-j-requires c =
    omega (
      arith,
      c.requires,
      ap length
          (parts.item_coded c.args.id
          c.row_of-row.result c.row_of-row.ensures (omega arith)
          c.if-size-eq0.true),
      c.put_hex-k.ensures.place,
    )

pub put-requires : goal.put-requires
put-requires c =
    let the-row-of = c.row_of-row in
    omega (
      arith,
      c.requires,
      ap length (parts.item_coded c.args.id
          the-row-of.result the-row-of.ensures (omega arith) c.if-size-eq0.true),
      c.put_hex-k.ensures.place,
      c.put_hex-j.ensures.place,
    )

pub returns-then-size-eq0 : goal.returns-then-size-eq0
returns-then-size-eq0 c =
    let a = c.args in
    let the-row-of = c.row_of-row in
    let the-put-hex = c.put_hex-k in
    let the-put-hex2 = c.put_hex-j in
    let the-put = c.put in
    pieces.coded_piece a.id the-row-of.result the-row-of.ensures (omega arith)
    c.if-size-eq0.true a.n the-put-hex.result
    the-put-hex2.result the-put.result a.out.now the-put-hex.new.out the-put-hex2.new.out the-put.new.out the-put-hex.ensures
    the-put-hex2.ensures the-put.ensures

pub slice_bounds-letters-end : goal.slice_bounds-letters-end
slice_bounds-letters-end c =
    parts.letters_within c.args.id c.row_of-row.result c.row_of-row.ensures

pub slice_bounds-put_all-end : goal.slice_bounds-put_all-end
slice_bounds-put_all-end c =
    parts.letters_length c.args.id c.row_of-row.result
    c.row_of-row.ensures

pub put_all-requires : goal.put_all-requires
put_all-requires c =
    omega (
      arith,
      c.requires,
      ap length
          (parts.item_named c.args.id c.row_of-row.result
          c.row_of-row.ensures c.if-size-eq0.false),
    )

pub returns : goal.returns
returns c =
    rw (← parts.item_named c.args.id
    c.row_of-row.result c.row_of-row.ensures
    c.if-size-eq0.false) c.put_all.ensures
