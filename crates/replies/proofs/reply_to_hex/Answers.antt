use mathlib.Core.Path.{sym}
use Rattle.replies.proofs.LineLaws as laws
use Rattle.replies.proofs.reply_to_hex.Goals as goal

pub blank_equation-short-requires : goal.blank_equation-short-requires
blank_equation-short-requires c = tt

pub slice_bounds-reply_in-end : goal.slice_bounds-reply_in-end
slice_bounds-reply_in-end c = sym c.blank_equation-short.ensures

pub reply_in-requires : goal.reply_in-requires
reply_in-requires c =
    let test = c in
    laws.short_room test.args.field.now _ test.if-field-lt4096.true c.blank_equation-short.ensures

pub returns-then-field-lt4096 : goal.returns-then-field-lt4096
returns-then-field-lt4096 c = c.reply_in.ensures

pub blank_bytes-bytes-requires : goal.blank_bytes-bytes-requires
blank_bytes-bytes-requires c = tt

pub slice_bounds-reply_in-end-2 : goal.slice_bounds-reply_in-end-2
slice_bounds-reply_in-end-2 c = sym c.blank_bytes-bytes.ensures

pub reply_in-requires-2 : goal.reply_in-requires-2
reply_in-requires-2 c =
    laws.long_room c.args.field.now _ c.blank_bytes-bytes.ensures

pub returns : goal.returns
returns c = c.reply_in-2.ensures
