use mathlib.Core.Path.{refl}
use Rattle.replies.proofs.ReplyLaws as laws
use Rattle.words.proofs.push.Goals as goal

pub returns : goal.returns
returns c =
    let a = c.args in
    let s = c.store in
    record {
      end = refl;
      is = laws.stored a.out.now s.new.to a.n a.piece.now c.requires s.ensures.to_after;
    }
