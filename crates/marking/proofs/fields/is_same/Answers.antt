use Rattle.std.proofs.Common.{◌≡◌, Bool, true, false, cond, sym, refl, ap, ◌∙◌, arith}
use Rattle.lines.proofs.FieldLaws.{same_next, same_stop, same_end, same_lengths, either}
use Rattle.marking.proofs.fields.is_same.Goals as goal
use Rattle.marking.proofs.fields.is_same.Goals.{then-b-y, else-b-y}

told : (e : Bool) → e ≡ cond e true false
told true = refl
told false = refl

pub returns-then-x-y : goal.returns-then-x-y
returns-then-x-y c = sym (same_lengths c.args.x.now c.args.y.now c.if-x-y.true)

pub loop-i-init : goal.loop-i-init
loop-i-init c = (c.if-x-y.false, refl)

pub loop-i-preserved : goal.loop-i-preserved
loop-i-preserved c = let l = c.loop-i in (
  l.invariant.0,
  elim c.if-b-y.branch [
    | then-b-y w ↦
        rw w.equal-is
        (sym (ap (λ (b : Bool). cond l.equal b false) (same_stop c.args.x.now c.args.y.now l.i (omega arith) (omega arith) w.if-b-y.true) ∙ either l.equal false) ∙ l.invariant.1)
    | else-b-y w ↦
        rw w.equal-is
        (ap (λ (b : Bool). cond l.equal b false) (same_next c.args.x.now c.args.y.now l.i (omega arith) (omega arith) w.if-b-y.false) ∙ l.invariant.1)
  ],
)

pub returns : goal.returns
returns c = let l = c.loop-i in told l.equal ∙ sym (ap (λ (b : Bool). cond l.equal b false) (same_end c.args.x.now c.args.y.now l.i (omega arith) (omega arith))) ∙ l.invariant.1
