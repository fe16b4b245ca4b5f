use mathlib.Core.Path.{sym}
use lib.Seq.{length-take-le}
use Rattle.words.specs.Why.{ask_in}
use Rattle.words.proofs.ReplyLaws as laws
use Rattle.words.proofs.reply_to_field.Goals as goal

pub slice_bounds-bytes-end : goal.slice_bounds-bytes-end
slice_bounds-bytes-end c = (laws.field_is (ask_in c.args.disk.now c.args.owner.now c.args.table.now c.args.most c.args.number) c.args.number c.args.field.now c.blank_bytes-bytes.result c.hex.new.bytes c.hex.result c.blank_bytes-bytes.ensures c.hex.ensures c.in_ok-n.n c.in_ok-n.was).within

pub slice_bounds-print_why-end : goal.slice_bounds-print_why-end
slice_bounds-print_why-end c = sym (length-take-le c.in_ok-n.n c.hex.new.bytes (laws.field_is (ask_in c.args.disk.now c.args.owner.now c.args.table.now c.args.most c.args.number) c.args.number c.args.field.now c.blank_bytes-bytes.result c.hex.new.bytes c.hex.result c.blank_bytes-bytes.ensures c.hex.ensures c.in_ok-n.n c.in_ok-n.was).within)

pub returns-in_err-n : goal.returns-in_err-n
returns-in_err-n c = rw c.from_residual.ensures (laws.field_bad (ask_in c.args.disk.now c.args.owner.now c.args.table.now c.args.most c.args.number) c.args.number c.args.field.now c.blank_bytes-bytes.result c.hex.new.bytes c.hex.result c.blank_bytes-bytes.ensures c.hex.ensures c.args.text.now c.in_err-n.was)

pub returns : goal.returns
returns c =
    laws.field_line (ask_in c.args.disk.now c.args.owner.now c.args.table.now c.args.most c.args.number) c.args.number c.args.field.now c.blank_bytes-bytes.result c.hex.new.bytes c.hex.result c.blank_bytes-bytes.ensures c.hex.ensures c.args.text.now _ c.in_ok-n.n c.print_why.result c.in_ok-n.was c.print_why.ensures
