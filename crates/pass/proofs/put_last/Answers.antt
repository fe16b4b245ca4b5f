use Rattle.pass.proofs.Parts.{last_put_law}
use Rattle.pass.proofs.put_last.Goals as goal

pub returns : goal.returns
returns c = record {
  text_after = last_put_law c.args.pass c.args.text.now _ _ _ c.least-at.ensures.2 _ _ _
      c.blocks-n.ensures.text_after c.with_more.ensures;
  counted = c.blocks-n.ensures.counted;
}
