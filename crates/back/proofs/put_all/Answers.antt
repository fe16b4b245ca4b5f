-- `back::put_all` meets its contract. Assumes nothing.
use Rattle.std.proofs.Common.{◌≡◌, ◌-◌, arith, rules, length, drop}
use Rattle.std.proofs.lemmas.Iterator.Adapters.{YieldsList-from_rev_slice}
use Rattle.std.proofs.lemmas.Iterator.Consumers.{YieldsList-turn, YieldsList-end}
use Rattle.std.proofs.lemmas.List.{length_push, length-reverse}
use Rattle.writing.proofs.Pieces as pieces
use Rattle.back.proofs.Backwards as backwards
use Rattle.back.proofs.put_all.Goals as goal

pub loop-b-init : goal.loop-b-init
loop-b-init c =
    let z : length c.args.s.now - 0 ≡ length c.args.s.now = omega arith in
    rw z (pieces.put_start c.args.s.now c.args.n c.args.out.now c.requires)

pub put-k-requires : goal.put-k-requires
put-k-requires c =
    let t = YieldsList-turn (YieldsList-from_rev_slice c.args.s.now (search rules)) c.loop-b.yielded _ c.loop-b.yielded_by _ _ c.in-Some.b c.in-Some.is c.next.ensures.steps in
    omega (arith, backwards.some_left c.args.s.now (length c.loop-b.yielded) c.in-Some.b.now t, c.loop-b.invariant.room)

pub loop-b-preserved : goal.loop-b-preserved
loop-b-preserved c =
    let l = c.loop-b in
    let s = c.args.s.now in
    let n = length l.yielded in
    let t = YieldsList-turn (YieldsList-from_rev_slice s (search rules)) l.yielded _ l.yielded_by _ _ c.in-Some.b c.in-Some.is c.next.ensures.steps in
    rw (length_push l.yielded c.in-Some.b, backwards.one_less s n c.in-Some.b.now t)
    (pieces.put_next s c.args.n c.args.out.now l.out (length s - n) l.k l.invariant (omega (arith, backwards.some_left s n c.in-Some.b.now t))
    c.put-k.result c.put-k.new.out (rw (backwards.next_byte s n c.in-Some.b.now t) at c.put-k.ensures))

pub shape_of-out : goal.shape_of-out
shape_of-out c =
    pieces.piece_length (drop (length c.args.s.now - length c.loop-b.yielded) c.args.s.now) c.args.n
    c.loop-b.k c.args.out.now c.loop-b.out c.loop-b.invariant.piece

pub returns : goal.returns
returns c =
    let l = c.loop-b in
    let s = c.args.s.now in
    let t = YieldsList-end (YieldsList-from_rev_slice s (search rules)) l.yielded _ l.yielded_by _ _ c.in-None.is c.next.ensures.steps in
    pieces.put_end s c.args.n c.args.out.now l.out (length s - length l.yielded) l.k l.invariant (omega (arith, t.1, length-reverse s))
