-- `text::counted_match` meets its contract: one run, then after its star. Assumes nothing.
use mathlib.Core.Path.{sym, ◌∙◌}
use Prim.Native.Nat.{◌≤◌, ◌<◌}
use native.Mathlib.Omega.{arith}
use lib.ListN.{length}
use Rattle.text.proofs.Greedy as laws
use Rattle.text.proofs.Counting as counting
use borrow.Author.Rules.{rules}
use Rattle.text.proofs.counted_match.Goals as goal

pub overflow_add-p : goal.overflow_add-p
overflow_add-p c = let f = (let inside : (c.compare-run.result.fitting < length c.args.pattern.now) × (c.compare-run.result.fitting ≤ length c.args.text.now) = let s = c.args in
    let k = c.compare-run.result.fitting in
    (laws.star_in s.pattern.now k (sym c.star.ensures ∙ c.if-star.true), omega (arith, c.compare-run.ensures.fitting_value, (laws.run_le s.pattern.now s.text.now).1)) in inside) in omega arith

pub slice_bounds-after_star-count : goal.slice_bounds-after_star-count
slice_bounds-after_star-count c = let f = (let inside : (c.compare-run.result.fitting < length c.args.pattern.now) × (c.compare-run.result.fitting ≤ length c.args.text.now) = let s = c.args in
    let k = c.compare-run.result.fitting in
    (laws.star_in s.pattern.now k (sym c.star.ensures ∙ c.if-star.true), omega (arith, c.compare-run.ensures.fitting_value, (laws.run_le s.pattern.now s.text.now).1)) in inside) in omega arith

pub slice_bounds-after_star-start : goal.slice_bounds-after_star-start
slice_bounds-after_star-start c = let f = (let inside : (c.compare-run.result.fitting < length c.args.pattern.now) × (c.compare-run.result.fitting ≤ length c.args.text.now) = let s = c.args in
    let k = c.compare-run.result.fitting in
    (laws.star_in s.pattern.now k (sym c.star.ensures ∙ c.if-star.true), omega (arith, c.compare-run.ensures.fitting_value, (laws.run_le s.pattern.now s.text.now).1)) in inside) in search rules

pub slice_bounds-after_star-count-then-star : goal.slice_bounds-after_star-count-then-star
slice_bounds-after_star-count-then-star c = let f = (let inside : (c.compare-run.result.fitting < length c.args.pattern.now) × (c.compare-run.result.fitting ≤ length c.args.text.now) = let s = c.args in
    let k = c.compare-run.result.fitting in
    (laws.star_in s.pattern.now k (sym c.star.ensures ∙ c.if-star.true), omega (arith, c.compare-run.ensures.fitting_value, (laws.run_le s.pattern.now s.text.now).1)) in inside) in omega arith

pub slice_bounds-after_star-start-then-star : goal.slice_bounds-after_star-start-then-star
slice_bounds-after_star-start-then-star c = let f = (let inside : (c.compare-run.result.fitting < length c.args.pattern.now) × (c.compare-run.result.fitting ≤ length c.args.text.now) = let s = c.args in
    let k = c.compare-run.result.fitting in
    (laws.star_in s.pattern.now k (sym c.star.ensures ∙ c.if-star.true), omega (arith, c.compare-run.ensures.fitting_value, (laws.run_le s.pattern.now s.text.now).1)) in inside) in search rules

pub returns-then-star : goal.returns-then-star
returns-then-star c =
    let s = c.args in
    let r = c.compare-run in
    let t = sym c.star.ensures ∙ c.if-star.true in
    let n =
    c.after_star.ensures.comparisons_value
    ∙ sym (counting.first_count_star s.pattern.now s.text.now r.result.fitting r.result.compared r.ensures.fitting_value r.ensures.compared_value t) in record { matched_value = c.after_star.ensures.matched_value ∙ sym (laws.first_star s.pattern.now s.text.now r.result.fitting r.ensures.fitting_value t); comparisons_value = n; comparisons_in_bounds = counting.counted_bound s.pattern.now s.text.now c.after_star.result.comparisons n }

pub returns : goal.returns
returns c =
    let s = c.args in
    let r = c.compare-run in
    let t = sym c.star.ensures ∙ c.if-star.false in
    let l = counting.compared_le s.pattern.now s.text.now in
    let n =
    sym (counting.first_count_stop s.pattern.now s.text.now r.result.fitting r.result.compared r.ensures.fitting_value r.ensures.compared_value t (omega (arith, r.ensures.compared_value, l.0))) in record { matched_value = c.ended.ensures ∙ sym (laws.first_stop s.pattern.now s.text.now r.result.fitting r.ensures.fitting_value t); comparisons_value = n; comparisons_in_bounds = counting.counted_bound s.pattern.now s.text.now r.result.compared n }
