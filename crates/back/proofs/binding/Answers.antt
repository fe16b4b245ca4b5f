-- `back::binding` meets its contract. Assumes nothing.
use native.Mathlib.Omega.{arith}
use borrow.Author.Tests.{eq-eqb, ne_eqb}
use Rattle.back.specs.Steps.{binding_of}
use Rattle.back.proofs.binding.Goals as goal

pub returns-then-step-eq2048 : goal.returns-then-step-eq2048
returns-then-step-eq2048 c = record { value = unfold binding_of in rw (eq-eqb c.args.step 2048 c.if-step-eq2048.true); upper_bound = omega arith }

pub returns-else-step-eq2048 : goal.returns-else-step-eq2048
returns-else-step-eq2048 c = record { value = unfold binding_of in rw (ne_eqb c.args.step 2048 c.if-step-eq2048.false); upper_bound = omega arith }
