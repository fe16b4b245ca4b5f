-- `back::put_operator` meets its contract. Assumes nothing.
use mathlib.Core.Path.{ap}
use native.Mathlib.Omega.{arith}
use lib.ListN.{length}
use Rattle.writing.proofs.Parts as parts
use Rattle.back.proofs.put_operator.Goals as goal

pub put_all-requires : goal.put_all-requires
put_all-requires c = omega (arith, c.requires, ap length (parts.operator_0 c.args.number c.in-0.is))

pub returns-in-0 : goal.returns-in-0
returns-in-0 c = rw (← parts.operator_0 c.args.number c.in-0.is) c.put_all.ensures

pub put_all-requires-in-1 : goal.put_all-requires-in-1
put_all-requires-in-1 c = omega (arith, c.requires, ap length (parts.operator_1 c.args.number c.in-1.is))

pub returns-in-1 : goal.returns-in-1
returns-in-1 c = rw (← parts.operator_1 c.args.number c.in-1.is) c.put_all-in-1.ensures

pub put_all-requires-in-2 : goal.put_all-requires-in-2
put_all-requires-in-2 c = omega (arith, c.requires, ap length (parts.operator_2 c.args.number c.in-2.is))

pub returns-in-2 : goal.returns-in-2
returns-in-2 c = rw (← parts.operator_2 c.args.number c.in-2.is) c.put_all-in-2.ensures

pub put_all-requires-in-3 : goal.put_all-requires-in-3
put_all-requires-in-3 c = omega (arith, c.requires, ap length (parts.operator_3 c.args.number c.in-3.is))

pub returns-in-3 : goal.returns-in-3
returns-in-3 c = rw (← parts.operator_3 c.args.number c.in-3.is) c.put_all-in-3.ensures

pub put_all-requires-in-4 : goal.put_all-requires-in-4
put_all-requires-in-4 c = omega (arith, c.requires, ap length (parts.operator_4 c.args.number c.in-4.is))

pub returns-in-4 : goal.returns-in-4
returns-in-4 c = rw (← parts.operator_4 c.args.number c.in-4.is) c.put_all-in-4.ensures

pub put_all-requires-in_default : goal.put_all-requires-in_default
put_all-requires-in_default c =
    omega (arith, c.requires, ap length (parts.operator_5 c.args.number (λ e. omega arith) (λ e. omega arith) (λ e. omega arith) (λ e. omega arith) (λ e. omega arith)))

pub returns-in_default : goal.returns-in_default
returns-in_default c = rw (← parts.operator_5 c.args.number (λ e. omega arith) (λ e. omega arith) (λ e. omega arith) (λ e. omega arith) (λ e. omega arith)) c.put_all-in_default.ensures
