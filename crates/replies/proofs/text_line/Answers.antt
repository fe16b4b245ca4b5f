use mathlib.Core.List.{[], ◌∷◌}
use Rattle.replies.proofs.ReplyLaws as laws
use Rattle.packet.specs.Names.{bytes_of}
use Rattle.replies.specs.Reply.{text_line}
use Rattle.replies.proofs.text_line.Goals as goal

pub returns : goal.returns
unfolding text_line bytes_of
returns c =
    let a = c.args in
    let p = c.push-a in
    let q = c.push-b in
    let r = c.push in record {
      value = laws.size a.out.now p.new.out q.new.out r.new.out (bytes_of "text\t") a.text.now (10 ∷ []) p.result q.result r.result
          p.ensures.value p.ensures.out_after q.ensures.value q.ensures.out_after r.ensures.value r.ensures.out_after;
      out_after = laws.pieces a.out.now p.new.out q.new.out r.new.out (bytes_of "text\t") a.text.now (10 ∷ []) p.result q.result r.result
          p.ensures.value p.ensures.out_after q.ensures.value q.ensures.out_after r.ensures.value r.ensures.out_after;
    }
