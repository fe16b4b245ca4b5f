-- `stored::truth` meets its contract.
use mathlib.Core.Path.{sym, ◌∙◌, ap}
use lib.ListN.{length}
use borrow.Author.Tests.{lt-leb, le-leb}
use Rattle.blocks.proofs.Answers.{disk_fits_law}
use Rattle.equation.specs.Parsed.{outcome_by}
use Rattle.stored.specs.Answers.{truth_by}
use Rattle.stored.proofs.truth.Goals as goal

pub returns-then-eq-gt256 : goal.returns-then-eq-gt256
unfolding truth_by
returns-then-eq-gt256 c = simp (lt-leb _ _ c.if-eq-gt256.true)

pub settle_file-requires : goal.settle_file-requires
settle_file-requires c =
    let a = c.args in
    let f = disk_fits_law (length a.disk.now) (length a.owner.now) a.place (sym c.sizes_fit.ensures ∙ c.if-sizes_fit.true) in
    (f.most, f.bytes, f.place_most)

pub returns-then-sizes_fit : goal.returns-then-sizes_fit
unfolding truth_by
returns-then-sizes_fit c =
    let s = c in
    let a = s.args in
    let t = sym s.sizes_fit.ensures ∙ c.if-sizes_fit.true in
    let l = s.if-eq-gt256.false in
    rw (le-leb (length a.eq.now) 256 l, t)
    (c.outcome.ensures ∙ ap (outcome_by a.steps.now) c.settle_file.ensures)

pub returns : goal.returns
unfolding truth_by
returns c =
    let a = c.args in
    let t = sym c.sizes_fit.ensures ∙ c.if-sizes_fit.false in
    rw (le-leb (length a.eq.now) 256 c.if-eq-gt256.false, t)
