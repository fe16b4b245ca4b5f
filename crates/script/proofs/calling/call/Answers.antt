use mathlib.Core.Path.{◌∙◌}
use native.Mathlib.Omega.{arith}
use Rattle.script.proofs.CallLaws.{heard_fits, heard_call, still_is_call}
use Rattle.script.proofs.calling.call.Goals as goal

pub slice_bounds-receive-count : goal.slice_bounds-receive-count
slice_bounds-receive-count c = let f = heard_fits _ _ _ _ _ _ c.handed.ensures c.in-Some.is in omega (arith, f.0, f.1)

pub slice_bounds-receive-start : goal.slice_bounds-receive-start
slice_bounds-receive-start c = let f = heard_fits _ _ _ _ _ _ c.handed.ensures c.in-Some.is in omega (arith, f.0, f.1)

pub slice_bounds-receive-end : goal.slice_bounds-receive-end
slice_bounds-receive-end c = let f = heard_fits _ _ _ _ _ _ c.handed.ensures c.in-Some.is in omega (arith, f.0, f.1)

pub returns-in-None : goal.returns-in-None
returns-in-None c = still_is_call _ _ _ _ _ _ _ _ c.handed.ensures c.in-None.is c.still_call.ensures

pub returns-in-Some : goal.returns-in-Some
returns-in-Some c = c.receive.ensures ∙ heard_call _ _ _ _ _ _ _ _ _ _ c.handed.ensures c.in-Some.is
