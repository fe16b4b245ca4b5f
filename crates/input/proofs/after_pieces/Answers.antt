use Rattle.std.proofs.Common.{sym, arith, ◌∙◌}
use Rattle.input.proofs.InputLaws.{passes_piece}
use Rattle.input.proofs.after_pieces.Goals as goal

pub loop-piece-preserved : goal.loop-piece-preserved
loop-piece-preserved c =
    let l = c.loop-piece in
    let s = rw c.in-Some.is at c.next.ensures.steps in
    let same = s.0 ∙ l.invariant.1 in (l.invariant.0, same, passes_piece _ _ _ _ _ _ l.invariant.2 s.1.0 (s.1.1 ∙ l.invariant.1) (sym c.if-has_newline.false ∙ c.has_newline.ensures), omega (arith, same), tt)
