use mathlib.Core.Path.{sym}
use mathlib.Core.List.{[], ◌∷◌}
use native.Mathlib.Omega.{arith}
use lib.Seq.{length-take-le}
use Rattle.packet.specs.Names.{bytes_of}
use Rattle.lines.specs.Text.{decimal_of}
use Rattle.lines.proofs.TextLaws.{digits_most}
use Rattle.replies.proofs.ReplyLaws as laws
use Rattle.replies.specs.Reply.{wrong_line}
use Rattle.replies.proofs.wrong_line.Goals as goal

pub push_decimal-b-requires : goal.push_decimal-b-requires
push_decimal-b-requires c =
    let p = c.push-a in
    omega (
      arith,
      digits_most c.args.place
          (omega (arith, c.well_formed.0)),
      p.ensures.value,
      p.auto.out,
      c.requires,
    )

pub push-c-requires : goal.push-c-requires
push-c-requires c =
    let p = c.push-a in
    let q = c.push_decimal-b in
    omega (
      arith,
      digits_most c.args.place
          (omega (arith, c.well_formed.0)),
      p.ensures.value,
      p.auto.out,
      q.ensures.value,
      q.auto.out,
      c.requires,
    )

pub slice_bounds-letters-end : goal.slice_bounds-letters-end
slice_bounds-letters-end c =
    omega (
      arith,
      laws.word_room
          c.args.why c.word_of-word.result
          c.word_of-word.ensures,
    )

pub push-d-requires : goal.push-d-requires
push-d-requires c =
    let p = c.push-a in
    let q = c.push_decimal-b in
    let r = c.push-c in
    omega (
      arith,
      digits_most
          c.args.place
          (omega (
            arith,
            c.well_formed.0,
          )),
      p.ensures.value,
      p.auto.out,
      q.ensures.value,
      q.auto.out,
      r.ensures.value,
      r.auto.out,
      length-take-le
          c.word_of-word.result.size c.word_of-word.result.bytes
          (laws.word_room
          c.args.why
          c.word_of-word.result
          c.word_of-word.ensures),
      laws.word_length
          c.args.why
          c.word_of-word.result
          c.word_of-word.ensures,
      laws.word_size
          c.args.why,
      c.requires,
    )

pub push-requires : goal.push-requires
push-requires c =
    let p = c.push-a in
    let q = c.push_decimal-b in
    let r = c.push-c in
    let s = c.push-d in
    omega (
      arith,
      digits_most
          c.args.place
          (omega (
            arith,
            c.well_formed.0,
          )),
      p.ensures.value,
      p.auto.out,
      q.ensures.value,
      q.auto.out,
      r.ensures.value,
      r.auto.out,
      s.ensures.value,
      s.auto.out,
      length-take-le
          c.word_of-word.result.size
          c.word_of-word.result.bytes
          (laws.word_room
          c.args.why
          c.word_of-word.result
          c.word_of-word.ensures),
      laws.word_length
          c.args.why
          c.word_of-word.result
          c.word_of-word.ensures,
      laws.word_size
          c.args.why,
      c.requires,
    )

pub returns : goal.returns
unfolding wrong_line bytes_of
returns c = let all =
    let a = c.args in
    let p = c.push-a in
    let q = c.push_decimal-b in
    let r = c.push-c in
    let s = c.push-d in
    let t = c.push in
    laws.five_pieces a.out.now p.new.out q.new.out r.new.out s.new.out t.new.out (bytes_of "wrong\t") (decimal_of a.place) (9 ∷ []) _ _
    (10 ∷ [])
    p.result q.result r.result s.result t.result
    (laws.word_letters
    c.args.why
    c.word_of-word.result
    c.word_of-word.ensures) p.ensures.value p.ensures.out_after q.ensures.value q.ensures.out_after r.ensures.value
    r.ensures.out_after s.ensures.value s.ensures.out_after t.ensures.value t.ensures.out_after in record { value = all.0; out_after = all.1 }

pub slice_bounds-push-end-3 : goal.slice_bounds-push-end-3
slice_bounds-push-end-3 c =
    sym (length-take-le c.word_of-word.result.size c.word_of-word.result.bytes
    (laws.word_room c.args.why c.word_of-word.result c.word_of-word.ensures))
