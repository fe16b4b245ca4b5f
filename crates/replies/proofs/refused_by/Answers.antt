use mathlib.Core.List.{[], ◌∷◌}
use native.Mathlib.Omega.{arith}
use Rattle.packet.specs.Names.{bytes_of}
use Rattle.lines.specs.Text.{decimal_of}
use Rattle.lines.proofs.TextLaws.{digits_most_8}
use Rattle.replies.proofs.ReplyLaws as laws
use Rattle.replies.specs.Reply.{refused_line}
use Rattle.replies.proofs.refused_by.Goals as goal

pub push_decimal-b-requires : goal.push_decimal-b-requires
push_decimal-b-requires c =
    let p = c.push-a in
    omega (
      arith,
      digits_most_8 c.args.number
          (omega (arith, c.well_formed.0)),
      p.ensures.value,
      p.auto.out,
      c.requires,
    )

pub push-requires : goal.push-requires
push-requires c =
    let p = c.push-a in
    let q = c.push_decimal-b in
    omega (
      arith,
      digits_most_8 c.args.number
          (omega (arith, c.well_formed.0)),
      p.ensures.value,
      p.auto.out,
      q.ensures.value,
      q.auto.out,
      c.requires,
    )

pub returns : goal.returns
unfolding refused_line bytes_of
returns c =
    let a = c.args in
    let p = c.push-a in
    let q = c.push_decimal-b in
    let r = c.push in record {
      value = laws.size a.out.now p.new.out q.new.out r.new.out (bytes_of "refused\t") (decimal_of a.number) (10 ∷ []) p.result q.result r.result
          p.ensures.value p.ensures.out_after q.ensures.value q.ensures.out_after r.ensures.value r.ensures.out_after;
      out_after = laws.pieces a.out.now p.new.out q.new.out r.new.out (bytes_of "refused\t") (decimal_of a.number) (10 ∷ []) p.result q.result
          r.result
          p.ensures.value p.ensures.out_after q.ensures.value q.ensures.out_after r.ensures.value r.ensures.out_after;
    }
