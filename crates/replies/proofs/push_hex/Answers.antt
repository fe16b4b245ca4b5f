use Rattle.std.proofs.Common.{◌≡◌, ◌+◌, ◌*◌, refl, arith}
use Rattle.lines.proofs.Writing.{hex_step, hex_end}
use Rattle.replies.proofs.push_hex.Goals as goal

pub loop-i-preserved : goal.loop-i-preserved
loop-i-preserved c =
    let l = c.loop-i in
    let e : c.args.n + 2 * (l.i + 1) ≡ c.args.n + 2 * l.i + 2 = omega arith in
    rw (c.hex_digit.ensures, c.hex_digit-in-loop-i.ensures, e) (hex_step l.out (c.args.n + 2 * l.i) l.i c.args.bytes.now _ (omega arith) l.invariant)

pub returns : goal.returns
returns c =
    let l = c.loop-i in
    record { value = refl; out_after = hex_end l.out (c.args.n + 2 * l.i) l.i c.args.bytes.now _ (omega arith) l.invariant }
