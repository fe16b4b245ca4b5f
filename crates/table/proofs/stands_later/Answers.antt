-- `table::stands_later` meets its contract. The invariant: the value was found, or it stands among the rest exactly where it stands later.
use Rattle.std.proofs.Common.{◌≡◌, ◌+◌, ◌-◌, List, ℕ, Bool, true, false, cond, get_or, length, take, drop, take_all, length-drop, sym, ap, ◌∙◌, arith}
use borrow.Author.Tests.{eq-eqb, ne_eqb}
use Rattle.table.specs.Fit.{among}
use Rattle.table.proofs.Fitting.{among_zero, among_more, among_end, or_none}
use Rattle.table.proofs.stands_later.Goals as goal
use Rattle.table.proofs.stands_later.Goals.{then-later-value, else-later-value}

-- the values that are looked at
abbrev later : List ℕ → ℕ → List ℕ
later xs at = take (length xs - (at + 1)) (drop (at + 1) xs)

all_later : (xs : List ℕ) (at : ℕ) → later xs at ≡ drop (at + 1) xs
all_later xs at = take_all (length xs - (at + 1)) (drop (at + 1) xs) (omega (arith, length-drop (at + 1) xs))

pub returns-then-value-eq0 : goal.returns-then-value-eq0
returns-then-value-eq0 c = sym (among_zero _ _ c.if-value-eq0.true)

pub loop-later-preserved : goal.loop-later-preserved
loop-later-preserved c =
    let l = c.loop-later in
    let xs = c.args.values.now in
    let v = get_or xs c.args.at 0 in
    let rest = take (length xs - (c.args.at + 1)) (drop (c.args.at + 1) xs) in
    elim c.if-later-value.branch [
      | then-later-value w ↦ among_more v rest l.later-index (among v rest) l.found c.if-later-value.found true c.loop-later-test.true c.if-value-eq0.false (eq-eqb _ _ (sym w.if-later-value.true)) w.found-is l.invariant
      | else-later-value w ↦ among_more v rest l.later-index (among v rest) l.found c.if-later-value.found false c.loop-later-test.true c.if-value-eq0.false (ne_eqb _ _ (λ e. w.if-later-value.false (sym e))) w.found-is l.invariant
    ]

pub returns : goal.returns
returns c =
    let l = c.loop-later in
    let xs = c.args.values.now in
    let v = get_or xs c.args.at 0 in
    let rest = take (length xs - (c.args.at + 1)) (drop (c.args.at + 1) xs) in
    sym (ap (λ (r : List ℕ). among v r) (sym (all_later xs c.args.at)) ∙ l.invariant ∙ ap (λ (x : Bool). cond l.found true x) (among_end v rest l.later-index c.loop-later-test.false) ∙ or_none l.found)
