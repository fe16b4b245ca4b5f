use Rattle.pass.proofs.Parts.{error_put_law}
use Rattle.pass.proofs.put_error.Goals as goal

pub returns : goal.returns
returns c = record {
  text_after = error_put_law c.args.pass c.args.text.now _ _ _ c.least-at.ensures.2 _ _ _ _ _ _
      c.wrapping_add_usize.ensures.value c.error_line-n.ensures c.with_more.ensures
      c.put_last.ensures.text_after;
  counted = c.put_last.ensures.counted;
}
