-- `why::tell` meets its contract.
use mathlib.Core.Path.{refl}
use Rattle.why.specs.Answer.{told}
use Rattle.why.proofs.tell.Goals as goal

pub returns-then-matched : goal.returns-then-matched
unfolding told
returns-then-matched c = rw c.if-matched.true refl

pub returns : goal.returns
unfolding told
returns c = rw c.if-matched.false refl
