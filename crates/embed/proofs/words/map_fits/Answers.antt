use native.Mathlib.Omega.{arith}
use mathlib.Core.Path.{sym, ◌∙◌}
use Rattle.server.proofs.CheckLaws.{sizes_true}
use Rattle.embed.specs.Calls.{map_fits}
use Rattle.embed.proofs.words.map_fits.Goals as goal

pub overflow_add-result : goal.overflow_add-result
overflow_add-result c = omega (arith, (sizes_true _ _ _ _ (sym c.sizes_fit.ensures ∙ c.if-sizes_fit.true)).blocks)

pub returns-then-sizes_fit : goal.returns-then-sizes_fit
unfolding map_fits
returns-then-sizes_fit c = rw (← c.sizes_fit.ensures, c.if-sizes_fit.true)

pub returns : goal.returns
unfolding map_fits
returns c = rw (← c.sizes_fit.ensures, c.if-sizes_fit.false)
