-- `text::compare` meets its contract: each turn takes one byte off both lists that are left. Assumes nothing.
use mathlib.Core.Path.{sym, ap, ◌∙◌}
use native.Mathlib.Omega.{arith}
use lib.ListN.{length}
use Rattle.std.proofs.lemmas.Slice.Zip.{Zip-more, either_empty_from_Zip}
use Rattle.text.proofs.Greedy.{run_goes, run_stops, run_ends}
use Rattle.text.proofs.Counting.{compared_goes, compared_stops, compared_ends}
use Rattle.text.proofs.compare.Goals as goal

pub returns-then-not-fit : goal.returns-then-not-fit
returns-then-not-fit c =
    let k = Zip-more c.loop-p.p-iterator c.next.new.self c.next.result (c.in-Some.p, c.in-Some.t) c.in-Some.is c.next.ensures.steps in
    let f = sym c.fit.ensures ∙ c.if-not-fit.true in record { fitting_value = omega (arith, run_stops _ _ _ _ _ _ k.0 k.1 f); compared_value = omega (arith, compared_stops _ _ _ _ _ _ k.0 k.1 f) }

pub loop-p-preserved : goal.loop-p-preserved
loop-p-preserved c =
    let k = Zip-more c.loop-p.p-iterator c.next.new.self c.next.result (c.in-Some.p, c.in-Some.t) c.in-Some.is c.next.ensures.steps in
    let f = sym c.fit.ensures ∙ c.if-not-fit.false in record {
      fits = omega (arith, ap length k.0);
      counts = omega arith;
      fitting_on = omega (arith, run_goes _ _ _ _ _ _ k.0 k.1 f);
      compared_on = omega (arith, compared_goes _ _ _ _ _ _ k.0 k.1 f);
    }

pub returns : goal.returns
returns c =
    let k = either_empty_from_Zip c.loop-p.p-iterator c.next.new.self c.next.result c.in-None.is c.next.ensures.steps in record { fitting_value = omega (arith, run_ends _ _ k); compared_value = omega (arith, compared_ends _ _ k) }
