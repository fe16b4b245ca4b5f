-- `text::after_star` meets its contract: each turn tries one place, and what it compared is added to the count. Assumes nothing.
use mathlib.Core.Path.{◌≡◌, refl, sym, ◌∙◌}
use Prim.Native.Nat.{◌+◌, ◌<◌}
use native.Mathlib.Omega.{arith}
use lib.ListN.{length, drop}
use Rattle.text.specs.Match.{matches}
use Rattle.text.specs.Comparisons.{compared}
use Rattle.text.proofs.Greedy as laws
use Rattle.text.proofs.Counting as counting
use Rattle.text.proofs.after_star.Goals as goal

pub loop-back-init : goal.loop-back-init
loop-back-init c = (omega arith, omega arith, refl, refl)

pub slice_bounds-compare-count : goal.slice_bounds-compare-count
slice_bounds-compare-count c = omega arith

pub slice_bounds-compare-count-in-loop-back : goal.slice_bounds-compare-count-in-loop-back
slice_bounds-compare-count-in-loop-back c = omega arith

pub overflow_add-p : goal.overflow_add-p
overflow_add-p c = let f = (let found : laws.Turn c.args.pattern.now c.args.text.now c.loop-back.back c.loop-back.mark c.compare-run.result.fitting = let l = c.loop-back in
    laws.turn c.args.pattern.now c.args.text.now l.back l.mark c.compare-run.result.fitting l.invariant.0 l.invariant.1 c.compare-run.ensures.fitting_value in found) in omega arith

pub overflow_add-t : goal.overflow_add-t
overflow_add-t c = let f = (let found : laws.Turn c.args.pattern.now c.args.text.now c.loop-back.back c.loop-back.mark c.compare-run.result.fitting = let l = c.loop-back in
    laws.turn c.args.pattern.now c.args.text.now l.back l.mark c.compare-run.result.fitting l.invariant.0 l.invariant.1 c.compare-run.ensures.fitting_value in found) in omega arith

pub overflow_add-back : goal.overflow_add-back
overflow_add-back c = let f = (let found : laws.Turn c.args.pattern.now c.args.text.now c.loop-back.back c.loop-back.mark c.compare-run.result.fitting = let l = c.loop-back in
    laws.turn c.args.pattern.now c.args.text.now l.back l.mark c.compare-run.result.fitting l.invariant.0 l.invariant.1 c.compare-run.ensures.fitting_value in found) in omega arith

pub loop-back-smaller-then-star : goal.loop-back-smaller-then-star
loop-back-smaller-then-star c = let f = (let found : laws.Turn c.args.pattern.now c.args.text.now c.loop-back.back c.loop-back.mark c.compare-run.result.fitting = let l = c.loop-back in
    laws.turn c.args.pattern.now c.args.text.now l.back l.mark c.compare-run.result.fitting l.invariant.0 l.invariant.1 c.compare-run.ensures.fitting_value in found) in let g = (let star-at : c.loop-back.back + c.compare-run.result.fitting < length c.args.pattern.now = laws.star_in c.args.pattern.now (c.loop-back.back + c.compare-run.result.fitting) (sym c.star.ensures ∙ c.if-star.true) in star-at) in omega arith

pub loop-back-preserved-then-star : goal.loop-back-preserved-then-star
loop-back-preserved-then-star c =
    let s = c.args in
    let l = c.loop-back in
    let r = c.compare-run.result in
    let f = (let found : laws.Turn c.args.pattern.now c.args.text.now c.loop-back.back c.loop-back.mark c.compare-run.result.fitting = let l = c.loop-back in
    laws.turn c.args.pattern.now c.args.text.now l.back l.mark c.compare-run.result.fitting l.invariant.0 l.invariant.1 c.compare-run.ensures.fitting_value in found) in
    let g = (let star-at : c.loop-back.back + c.compare-run.result.fitting < length c.args.pattern.now = laws.star_in c.args.pattern.now (c.loop-back.back + c.compare-run.result.fitting) (sym c.star.ensures ∙ c.if-star.true) in star-at) in
    let t = sym c.star.ensures ∙ c.if-star.true in (
      omega arith,
      omega arith,
      l.invariant.2 ∙ laws.turn_star s.pattern.now s.text.now l.back l.mark r.fitting f t,
      rw c.count_sum-n.ensures
          (l.invariant.3 ∙ counting.count_star s.pattern.now s.text.now l.back l.mark r.fitting r.compared l.n f (let spent : c.compare-run.result.compared ≡ compared (drop c.loop-back.back c.args.pattern.now) (drop c.loop-back.mark c.args.text.now) = let l = c.loop-back in
          counting.turn_compared c.args.pattern.now c.args.text.now l.back l.mark c.compare-run.result.compared c.compare-run.ensures.compared_value in spent) t),
    )

pub returns-then-ended : goal.returns-then-ended
returns-then-ended c =
    let s = c.args in
    let l = c.loop-back in
    let r = c.compare-run.result in
    let m = (let here : matches (drop c.loop-back.back c.args.pattern.now) (drop c.loop-back.mark c.args.text.now) ≡ c.ended.result = let s = c.args in
    let l = c.loop-back in
    laws.turn_stop s.pattern.now s.text.now l.back l.mark c.compare-run.result.fitting (let found : laws.Turn c.args.pattern.now c.args.text.now c.loop-back.back c.loop-back.mark c.compare-run.result.fitting = let l = c.loop-back in
    laws.turn c.args.pattern.now c.args.text.now l.back l.mark c.compare-run.result.fitting l.invariant.0 l.invariant.1 c.compare-run.ensures.fitting_value in found) l.invariant.0 l.invariant.1 (sym c.star.ensures ∙ c.if-star.false)
    ∙ sym c.ended.ensures in here) ∙ c.if-ended.true in record {
      matched_value = sym (l.invariant.2 ∙ laws.turn_found (matches (drop l.back s.pattern.now)) s.text.now l.mark m);
      comparisons_value = c.count_sum-n.ensures
          ∙ sym (l.invariant.3 ∙ counting.count_done s.pattern.now s.text.now l.back l.mark r.fitting r.compared l.n (let found : laws.Turn c.args.pattern.now c.args.text.now c.loop-back.back c.loop-back.mark c.compare-run.result.fitting = let l = c.loop-back in
          laws.turn c.args.pattern.now c.args.text.now l.back l.mark c.compare-run.result.fitting l.invariant.0 l.invariant.1 c.compare-run.ensures.fitting_value in found) (let spent : c.compare-run.result.compared ≡ compared (drop c.loop-back.back c.args.pattern.now) (drop c.loop-back.mark c.args.text.now) = let l = c.loop-back in
          counting.turn_compared c.args.pattern.now c.args.text.now l.back l.mark c.compare-run.result.compared c.compare-run.ensures.compared_value in spent) (sym c.star.ensures ∙ c.if-star.false) m);
    }

pub returns-then-mark-text : goal.returns-then-mark-text
returns-then-mark-text c =
    let s = c.args in
    let l = c.loop-back in
    let r = c.compare-run.result in record {
      matched_value = sym (l.invariant.2 ∙ laws.turn_last (matches (drop l.back s.pattern.now)) s.text.now l.mark c.if-mark-text.true ((let here : matches (drop c.loop-back.back c.args.pattern.now) (drop c.loop-back.mark c.args.text.now) ≡ c.ended.result = let s = c.args in
          let l = c.loop-back in
          laws.turn_stop s.pattern.now s.text.now l.back l.mark c.compare-run.result.fitting (let found : laws.Turn c.args.pattern.now c.args.text.now c.loop-back.back c.loop-back.mark c.compare-run.result.fitting = let l = c.loop-back in
          laws.turn c.args.pattern.now c.args.text.now l.back l.mark c.compare-run.result.fitting l.invariant.0 l.invariant.1 c.compare-run.ensures.fitting_value in found) l.invariant.0 l.invariant.1 (sym c.star.ensures ∙ c.if-star.false)
          ∙ sym c.ended.ensures in here) ∙ c.if-ended.false));
      comparisons_value = c.count_sum-n.ensures
          ∙ sym (l.invariant.3 ∙ counting.count_last s.pattern.now s.text.now l.back l.mark r.fitting r.compared l.n (let found : laws.Turn c.args.pattern.now c.args.text.now c.loop-back.back c.loop-back.mark c.compare-run.result.fitting = let l = c.loop-back in
          laws.turn c.args.pattern.now c.args.text.now l.back l.mark c.compare-run.result.fitting l.invariant.0 l.invariant.1 c.compare-run.ensures.fitting_value in found) (let spent : c.compare-run.result.compared ≡ compared (drop c.loop-back.back c.args.pattern.now) (drop c.loop-back.mark c.args.text.now) = let l = c.loop-back in
          counting.turn_compared c.args.pattern.now c.args.text.now l.back l.mark c.compare-run.result.compared c.compare-run.ensures.compared_value in spent) c.if-mark-text.true);
    }

pub overflow_add-mark : goal.overflow_add-mark
overflow_add-mark c = omega arith

pub loop-back-smaller : goal.loop-back-smaller
loop-back-smaller c = omega arith

pub loop-back-preserved : goal.loop-back-preserved
loop-back-preserved c =
    let s = c.args in
    let l = c.loop-back in
    let r = c.compare-run.result in
    let n : l.mark < length s.text.now = omega arith in
    let m = (let here : matches (drop c.loop-back.back c.args.pattern.now) (drop c.loop-back.mark c.args.text.now) ≡ c.ended.result = let s = c.args in
    let l = c.loop-back in
    laws.turn_stop s.pattern.now s.text.now l.back l.mark c.compare-run.result.fitting (let found : laws.Turn c.args.pattern.now c.args.text.now c.loop-back.back c.loop-back.mark c.compare-run.result.fitting = let l = c.loop-back in
    laws.turn c.args.pattern.now c.args.text.now l.back l.mark c.compare-run.result.fitting l.invariant.0 l.invariant.1 c.compare-run.ensures.fitting_value in found) l.invariant.0 l.invariant.1 (sym c.star.ensures ∙ c.if-star.false)
    ∙ sym c.ended.ensures in here) ∙ c.if-ended.false in (
      omega arith,
      omega arith,
      l.invariant.2 ∙ laws.turn_next (matches (drop l.back s.pattern.now)) s.text.now l.mark n m,
      rw c.count_sum-n.ensures
          (l.invariant.3 ∙ counting.count_next s.pattern.now s.text.now l.back l.mark r.fitting r.compared l.n (let found : laws.Turn c.args.pattern.now c.args.text.now c.loop-back.back c.loop-back.mark c.compare-run.result.fitting = let l = c.loop-back in
          laws.turn c.args.pattern.now c.args.text.now l.back l.mark c.compare-run.result.fitting l.invariant.0 l.invariant.1 c.compare-run.ensures.fitting_value in found) (let spent : c.compare-run.result.compared ≡ compared (drop c.loop-back.back c.args.pattern.now) (drop c.loop-back.mark c.args.text.now) = let l = c.loop-back in
          counting.turn_compared c.args.pattern.now c.args.text.now l.back l.mark c.compare-run.result.compared c.compare-run.ensures.compared_value in spent) (sym c.star.ensures ∙ c.if-star.false) m),
    )
