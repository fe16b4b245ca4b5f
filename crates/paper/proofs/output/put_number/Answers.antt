use mathlib.Core.List.{[]}
use Prim.Native.Nat.{◌%◌, ◌/◌}
use native.Mathlib.Omega.{arith}
use Rattle.paper.proofs.OutputLaws as output
use Rattle.paper.proofs.output.put_number.Goals as goal

pub returns-then-size-eq1 : goal.returns-then-size-eq1
returns-then-size-eq1 c =
    let a = c.args in
    let p = c.put-a in
    rw c.if-size-eq1.true (record { value = p.ensures.value; out_after = p.ensures.out_after })

pub returns-then-size-eq2 : goal.returns-then-size-eq2
returns-then-size-eq2 c =
    let b3 = c in
    let b8 = b3 in
    let b11 = b8 in
    let a = b11.args in
    let p = b8.put-a in
    let q = b3.put-b in
    rw c.if-size-eq2.true (record {
      value = omega (arith, p.ensures.value, q.ensures.value);
      out_after = output.two_puts a.out.now a.n (a.v % 256) (a.v / 256 % 256) 0 0 p.new.out q.new.out [] [] p.result q.result 0 0 p.ensures.value
          p.ensures.out_after q.ensures.value q.ensures.out_after;
    })

pub returns : goal.returns
returns c =
    let b6 = c in
    let b8 = b6 in
    let b11 = b8 in
    let b13 = b11 in
    let b16 = b13 in
    let b19 = b16 in
    let a = b19.args in
    let p = b16.put-a in
    let q = b11.put-b in
    let r = b6.put-c in
    let s = c.put in
    rw (output.four_wide a.size b19.requires.1 b13.if-size-eq1.false b8.if-size-eq2.false) (record {
      value = omega (arith, p.ensures.value, q.ensures.value, r.ensures.value, s.ensures.value);
      out_after = output.four_puts a.out.now a.n (a.v % 256) (a.v / 256 % 256) (a.v / 65536 % 256) (a.v / 16777216 % 256) p.new.out q.new.out r.new.out
          s.new.out
          p.result q.result r.result s.result p.ensures.value p.ensures.out_after q.ensures.value r.ensures.value q.ensures.out_after r.ensures.out_after
          s.ensures.out_after;
    })
