use Rattle.std.proofs.Common.{sym, arith, length-take-le}
use Rattle.replies.proofs.LineLaws as laws
use Rattle.replies.proofs.reply_in.Goals as goal

pub slice_bounds-reply_to_bytes-end : goal.slice_bounds-reply_to_bytes-end
slice_bounds-reply_to_bytes-end c =
    let a = c.args in
    let is = laws.hex_is a.field.now a.bytes.now c.hex.new.bytes c.hex.result c.requires c.in_ok-n.n c.hex.ensures c.in_ok-n.was in
    omega (arith, is.within)

pub slice_bounds-reply_to_bytes-end-2 : goal.slice_bounds-reply_to_bytes-end-2
slice_bounds-reply_to_bytes-end-2 c =
    let a = c.args in
    let is = laws.hex_is a.field.now a.bytes.now c.hex.new.bytes c.hex.result c.requires c.in_ok-n.n c.hex.ensures c.in_ok-n.was in
    sym (length-take-le c.in_ok-n.n c.hex.new.bytes is.within)

pub returns-in_err-n : goal.returns-in_err-n
returns-in_err-n c =
    let a = c.args in
    rw c.from_residual.ensures
    (laws.no_hex a.field.now a.text.now (laws.hex_bad a.field.now a.bytes.now c.hex.new.bytes c.hex.result c.requires c.hex.ensures c.in_err-n.was))

pub returns : goal.returns
returns c =
    let a = c.args in
    laws.hex_line a.field.now a.text.now c.hex.new.bytes _ c.in_ok-n.n c.reply_to_bytes.result
    (laws.hex_is a.field.now a.bytes.now c.hex.new.bytes c.hex.result c.requires c.in_ok-n.n c.hex.ensures c.in_ok-n.was) c.reply_to_bytes.ensures
