use mathlib.Core.Path.{◌∙◌}
use mathlib.Core.List.{[], ◌∷◌}
use Rattle.packet.specs.Names.{bytes_of}
use Rattle.lines.specs.Text.{hex_of}
use Rattle.lines.proofs.TextLaws.{hex_length}
use Rattle.replies.proofs.ReplyLaws as laws
use Rattle.replies.specs.Reply.{bytes_line}
use Rattle.replies.proofs.bytes_line.Goals as goal

pub returns : goal.returns
unfolding bytes_line bytes_of
returns c =
    let a = c.args in
    let p = c.push-a in
    let q = c.push_hex-b in
    let r = c.push in record {
      value = laws.size a.out.now p.new.out q.new.out r.new.out (bytes_of "bytes\t") (hex_of a.bytes.now) (10 ∷ []) p.result q.result r.result
          p.ensures.value p.ensures.out_after (q.ensures.value ∙ rw (hex_length a.bytes.now)) q.ensures.out_after r.ensures.value r.ensures.out_after;
      out_after = laws.pieces a.out.now p.new.out q.new.out r.new.out (bytes_of "bytes\t") (hex_of a.bytes.now) (10 ∷ []) p.result q.result r.result
          p.ensures.value p.ensures.out_after (q.ensures.value ∙ rw (hex_length a.bytes.now)) q.ensures.out_after r.ensures.value r.ensures.out_after;
    }
