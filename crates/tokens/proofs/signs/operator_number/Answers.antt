use Rattle.grammar.specs.Meaning.{operator_number}
use Rattle.tokens.proofs.signs.operator_number.Goals as goal

pub returns-in-Equal : goal.returns-in-Equal
unfolding operator_number
returns-in-Equal c = rw c.in-Equal.is

pub returns-in-Greater : goal.returns-in-Greater
unfolding operator_number
returns-in-Greater c = rw c.in-Greater.is

pub returns-in-Less : goal.returns-in-Less
unfolding operator_number
returns-in-Less c = rw c.in-Less.is

pub returns-in-NotEqual : goal.returns-in-NotEqual
unfolding operator_number
returns-in-NotEqual c = rw c.in-NotEqual.is

pub returns-in-GreaterOrEqual : goal.returns-in-GreaterOrEqual
unfolding operator_number
returns-in-GreaterOrEqual c = rw c.in-GreaterOrEqual.is

pub returns-in-LessOrEqual : goal.returns-in-LessOrEqual
unfolding operator_number
returns-in-LessOrEqual c = rw c.in-LessOrEqual.is
