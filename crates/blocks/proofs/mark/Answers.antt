-- `blocks::mark` meets its contract. A bit that is 0 is set by a sum; one that is 1 already, or past the last word, changes nothing.
use Prim.Native.Nat.{ℕ, ◌+◌, ◌<◌, ◌%◌, ◌/◌, ◌^◌}
use mathlib.Core.Path.{sym, subst}
use native.Mathlib.Omega.{arith}
use lib.ListN.{get_or}
use borrow.Author.Tests.{eq-eqb, ne_eqb}
use Rattle.blocks.proofs.Bits.{shl_one, put_lt}
use Rattle.blocks.proofs.Steps.{marked_past}
use Rattle.blocks.proofs.mark.Goals as goal

pub overflow_add-map : goal.overflow_add-map
overflow_add-map c =
    let a = c.args in
    record {
      fits = subst (λ (x : ℕ). get_or a.map.now (a.b / 64) 0 + x < 2 ^ 64) (sym (shl_one (a.b % 64) (omega arith)))
          (put_lt 64 (a.b % 64) (get_or a.map.now (a.b / 64) 0) (omega arith) (c.slice_known-1.given (a.b / 64)).fits c.if-w-b-eq0.true);
    }

pub returns-then-w-b-eq0 : goal.returns-then-w-b-eq0
returns-then-w-b-eq0 c =
    let a = c.args in
    simp (eq-eqb _ _ c.if-w-b-eq0.true, shl_one (a.b % 64) (omega arith))

pub returns-else-w-b-eq0 : goal.returns-else-w-b-eq0
returns-else-w-b-eq0 c = simp (ne_eqb _ _ c.if-w-b-eq0.false)

pub returns-else-i-map : goal.returns-else-i-map
returns-else-i-map c = marked_past c.args.map.now c.args.b c.if-i-map.false
