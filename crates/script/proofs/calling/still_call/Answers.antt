use mathlib.Core.Path.{refl}
use Rattle.script.specs.Calling.{still_of}
use Rattle.script.proofs.calling.still_call.Goals as goal

pub login-requires : goal.login-requires
login-requires c = tt

pub lose-requires : goal.lose-requires
lose-requires c = tt

pub request-requires : goal.request-requires
request-requires c = tt

pub returns-in-Rest : goal.returns-in-Rest
unfolding still_of
returns-in-Rest c = rw c.in-Rest.is

pub shape_of-selected-in-Opening : goal.shape_of-selected-in-Opening
shape_of-selected-in-Opening c = refl

pub shape_of-held-in-Opening : goal.shape_of-held-in-Opening
shape_of-held-in-Opening c = refl

pub shape_of-out-in-Opening : goal.shape_of-out-in-Opening
shape_of-out-in-Opening c = c.login.auto.out

pub returns-in-Opening : goal.returns-in-Opening
unfolding still_of
returns-in-Opening c = rw (c.in-Opening.is, ← c.login.ensures)

pub shape_of-selected-in-Dropping : goal.shape_of-selected-in-Dropping
shape_of-selected-in-Dropping c = c.lose.auto.selected

pub shape_of-held-in-Dropping : goal.shape_of-held-in-Dropping
shape_of-held-in-Dropping c = c.lose.auto.held

pub returns-in-Dropping : goal.returns-in-Dropping
unfolding still_of
returns-in-Dropping c = rw (c.in-Dropping.is, ← c.lose.ensures)

pub returns-in-Hearing : goal.returns-in-Hearing
unfolding still_of
returns-in-Hearing c = rw c.in-Hearing.is

pub shape_of-selected-in-Pumping : goal.shape_of-selected-in-Pumping
shape_of-selected-in-Pumping c = refl

pub shape_of-held-in-Pumping : goal.shape_of-held-in-Pumping
shape_of-held-in-Pumping c = refl

pub shape_of-out-in-Pumping : goal.shape_of-out-in-Pumping
shape_of-out-in-Pumping c = c.request.auto.out

pub returns-in-Pumping : goal.returns-in-Pumping
unfolding still_of
returns-in-Pumping c = rw (c.in-Pumping.is, ← c.request.ensures)
