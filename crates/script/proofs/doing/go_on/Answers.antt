use native.Mathlib.Omega.{arith}
use borrow.Author.Tests.{lt-ltb, le-ltb}
use Rattle.script.specs.Doing.{goes_on}
use Rattle.input.proofs.PartLaws.{rest_size}
use Rattle.script.proofs.doing.go_on.Goals as goal

pub overflow_add-result : goal.overflow_add-result
overflow_add-result c = omega (arith, rest_size _ _ _ _ _ c.rest.ensures c.if-taken-rest.true)

pub returns-then-taken-rest : goal.returns-then-taken-rest
unfolding goes_on
returns-then-taken-rest c = rw (← c.rest.ensures, lt-ltb _ _ c.if-taken-rest.true)

pub returns : goal.returns
unfolding goes_on
returns c = rw (← c.rest.ensures, le-ltb _ _ c.if-taken-rest.false)
