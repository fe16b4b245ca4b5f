-- `blocks::word_is` meets its contract. The word is 0 where the part has no free block, and all ones where its 64 blocks are free.
use Prim.Native.Nat.{◌*◌}
use mathlib.Core.Path.{sym, ap, ◌∙◌}
use native.Mathlib.Omega.{arith}
use lib.Dec.{eqb}
use Rattle.blocks.proofs.Parts.{owned_part, free_part}
use Rattle.blocks.proofs.word_is.Goals as goal

pub returns-then-free-eq0 : goal.returns-then-free-eq0
returns-then-free-eq0 c =
    let a = c.args in
    let e = c.part_end-end in
    ap (eqb a.w) (sym (owned_part a.owner.now (64 * a.i) e.result (omega arith) e.ensures.1 e.ensures.2 e.ensures.3 (sym c.count_few-free.ensures ∙ c.if-free-eq0.true)))

pub returns-then-free-eq64 : goal.returns-then-free-eq64
returns-then-free-eq64 c =
    let a = c.args in
    let e = c.part_end-end in
    ap (eqb a.w) (sym (free_part a.owner.now (64 * a.i) e.result (omega arith) e.ensures.1 e.ensures.2 e.ensures.3 (sym c.count_few-free.ensures ∙ c.if-free-eq64.true)))

pub returns : goal.returns
returns c =
    let a = c.args in
    ap (eqb a.w) c.word_of.ensures
