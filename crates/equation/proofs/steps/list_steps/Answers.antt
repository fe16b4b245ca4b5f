-- `equation::steps::list_steps` meets its contract. Assumes nothing.
use mathlib.Core.Path.{◌≡◌, sym, ◌∙◌}
use mathlib.Core.Bool.{true, false}
use mathlib.Core.List.{List}
use Prim.Native.Nat.{ℕ, ◌+◌, ◌<◌}
use native.Mathlib.Omega.{arith}
use lib.ListN.{length, drop}
use Rattle.equation.specs.Symbols.{token_of}
use Rattle.equation.specs.declared.tokens.Token.TheVariants.{Bad}
use Rattle.equation.proofs.TokenLaws as tokens
use Rattle.equation.proofs.SymbolLaws as symbol
use Rattle.equation.proofs.StepLaws as laws
use Rattle.equation.proofs.steps.list_steps.Goals as goal

-- what is no token has room for its step
bad_in : (eq start steps : List ℕ) (at n : ℕ) → laws.Listing eq start steps at n → token_of (drop at eq) ≡ Bad → n < length steps
bad_in eq start steps at n h e =
    laws.list_in eq start steps at n h (λ f. let z = sym e ∙ f in let w : ◌≡◌ {A = ℕ} 0 1 = cc in omega arith)

pub loop-steps-init : goal.loop-steps-init
loop-steps-init c = laws.list_start c.args.eq.now c.args.steps.now c.requires.0 c.requires.1

pub offset_bounds-steps-n : goal.offset_bounds-steps-n
offset_bounds-steps-n c = omega (arith, bad_in _ _ _ _ _ c.loop-steps.invariant (sym c.in-Bad.ensures))

pub bounds-steps-n : goal.bounds-steps-n
bounds-steps-n c = bad_in _ _ _ _ _ c.loop-steps.invariant (sym c.in-Bad.ensures)

pub overflow_add-result : goal.overflow_add-result
overflow_add-result c = omega (arith, bad_in _ _ _ _ _ c.loop-steps.invariant (sym c.in-Bad.ensures))

pub shape_of-steps-in-Bad : goal.shape_of-steps-in-Bad
shape_of-steps-in-Bad c =
    let l = c.loop-steps in
    (laws.list_bad c.args.eq.now c.args.steps.now l.steps l.at l.n l.invariant (sym c.in-Bad.ensures)).sized

pub returns-in-Bad : goal.returns-in-Bad
returns-in-Bad c =
    let l = c.loop-steps in
    let d = laws.list_bad c.args.eq.now c.args.steps.now l.steps l.at l.n l.invariant (sym c.in-Bad.ensures) in
    record { value = d.counted; steps_after = d.stored }

pub shape_of-steps-in-End : goal.shape_of-steps-in-End
shape_of-steps-in-End c = c.loop-steps.invariant.sized

pub returns-in-End : goal.returns-in-End
returns-in-End c =
    let l = c.loop-steps in
    let d = laws.list_end c.args.eq.now c.args.steps.now l.steps l.at l.n l.invariant (sym c.in-End.ensures) in
    record { value = d.counted; steps_after = d.stored }

pub offset_bounds-steps-n-in-And : goal.offset_bounds-steps-n-in-And
offset_bounds-steps-n-in-And c =
    let h = c.loop-steps.invariant in
    omega (arith, symbol.join_within c.args.eq.now c.loop-steps.at true (sym c.in-And.ensures), h.few, h.short, h.room, h.sized)

pub bounds-steps-n-in-And : goal.bounds-steps-n-in-And
bounds-steps-n-in-And c =
    let h = c.loop-steps.invariant in
    omega (arith, symbol.join_within c.args.eq.now c.loop-steps.at true (sym c.in-And.ensures), h.few, h.short, h.room, h.sized)

pub overflow_add-n : goal.overflow_add-n
overflow_add-n c =
    let h = c.loop-steps.invariant in
    omega (arith, symbol.join_within c.args.eq.now c.loop-steps.at true (sym c.in-And.ensures), h.few, h.short, h.room, h.sized)

pub overflow_add-at : goal.overflow_add-at
overflow_add-at c =
    let h = c.loop-steps.invariant in
    omega (arith, symbol.join_within c.args.eq.now c.loop-steps.at true (sym c.in-And.ensures), h.few, h.short, h.room, h.sized)

pub loop-steps-smaller-in-And : goal.loop-steps-smaller-in-And
loop-steps-smaller-in-And c = omega (arith, symbol.join_within c.args.eq.now c.loop-steps.at true (sym c.in-And.ensures))

pub loop-steps-preserved-in-And : goal.loop-steps-preserved-in-And
loop-steps-preserved-in-And c =
    let l = c.loop-steps in
    laws.list_join c.args.eq.now c.args.steps.now l.steps l.at l.n l.invariant true (sym c.in-And.ensures)

pub offset_bounds-steps-n-in-Or : goal.offset_bounds-steps-n-in-Or
offset_bounds-steps-n-in-Or c =
    let h = c.loop-steps.invariant in
    omega (arith, symbol.join_within c.args.eq.now c.loop-steps.at false (sym c.in-Or.ensures), h.few, h.short, h.room, h.sized)

pub bounds-steps-n-in-Or : goal.bounds-steps-n-in-Or
bounds-steps-n-in-Or c =
    let h = c.loop-steps.invariant in
    omega (arith, symbol.join_within c.args.eq.now c.loop-steps.at false (sym c.in-Or.ensures), h.few, h.short, h.room, h.sized)

pub overflow_add-n-in-Or : goal.overflow_add-n-in-Or
overflow_add-n-in-Or c =
    let h = c.loop-steps.invariant in
    omega (arith, symbol.join_within c.args.eq.now c.loop-steps.at false (sym c.in-Or.ensures), h.few, h.short, h.room, h.sized)

pub overflow_add-at-in-Or : goal.overflow_add-at-in-Or
overflow_add-at-in-Or c =
    let h = c.loop-steps.invariant in
    omega (arith, symbol.join_within c.args.eq.now c.loop-steps.at false (sym c.in-Or.ensures), h.few, h.short, h.room, h.sized)

pub loop-steps-smaller-in-Or : goal.loop-steps-smaller-in-Or
loop-steps-smaller-in-Or c = omega (arith, symbol.join_within c.args.eq.now c.loop-steps.at false (sym c.in-Or.ensures))

pub loop-steps-preserved-in-Or : goal.loop-steps-preserved-in-Or
loop-steps-preserved-in-Or c =
    let l = c.loop-steps in
    laws.list_join c.args.eq.now c.args.steps.now l.steps l.at l.n l.invariant false (sym c.in-Or.ensures)

pub overflow_cast-steps : goal.overflow_cast-steps
overflow_cast-steps c =
    let h = c.loop-steps.invariant in
    omega (arith, tokens.relation_within _ _ _ _ _ c.loop-steps.invariant.in_equation (sym c.in-Rel.ensures), h.few, h.short, h.room, h.sized)

pub offset_bounds-steps-n-in-Rel : goal.offset_bounds-steps-n-in-Rel
offset_bounds-steps-n-in-Rel c =
    let h = c.loop-steps.invariant in
    omega (arith, tokens.relation_within _ _ _ _ _ c.loop-steps.invariant.in_equation (sym c.in-Rel.ensures), h.few, h.short, h.room, h.sized)

pub bounds-steps-n-in-Rel : goal.bounds-steps-n-in-Rel
bounds-steps-n-in-Rel c =
    let h = c.loop-steps.invariant in
    omega (arith, tokens.relation_within _ _ _ _ _ c.loop-steps.invariant.in_equation (sym c.in-Rel.ensures), h.few, h.short, h.room, h.sized)

pub overflow_add-n-in-Rel : goal.overflow_add-n-in-Rel
overflow_add-n-in-Rel c =
    let h = c.loop-steps.invariant in
    omega (arith, tokens.relation_within _ _ _ _ _ c.loop-steps.invariant.in_equation (sym c.in-Rel.ensures), h.few, h.short, h.room, h.sized)

pub overflow_add-at-in-Rel : goal.overflow_add-at-in-Rel
overflow_add-at-in-Rel c =
    let h = c.loop-steps.invariant in
    omega (arith, tokens.relation_within _ _ _ _ _ c.loop-steps.invariant.in_equation (sym c.in-Rel.ensures), h.few, h.short, h.room, h.sized)

pub overflow_add-at-in-Rel-2 : goal.overflow_add-at-in-Rel-2
overflow_add-at-in-Rel-2 c =
    let h = c.loop-steps.invariant in
    omega (arith, tokens.relation_within _ _ _ _ _ c.loop-steps.invariant.in_equation (sym c.in-Rel.ensures), h.few, h.short, h.room, h.sized)

pub loop-steps-smaller : goal.loop-steps-smaller
loop-steps-smaller c = omega (arith, tokens.relation_within _ _ _ _ _ c.loop-steps.invariant.in_equation (sym c.in-Rel.ensures))

pub loop-steps-preserved : goal.loop-steps-preserved
loop-steps-preserved c =
    let l = c.loop-steps in
    let e : l.at + (4 + c.in-Rel.m) ≡ l.at + 4 + c.in-Rel.m = omega arith in
    rw e (laws.list_rel c.args.eq.now c.args.steps.now l.steps l.at l.n l.invariant _ _ c.in-Rel.m (sym c.in-Rel.ensures))
