-- `entries::short_form` meets its contract.
use mathlib.Core.Path.{ap, ap₂, ◌∙◌}
use mathlib.Core.List.{List, [], ◌∷◌, ◌++◌}
use Prim.Native.Nat.{ℕ}
use Rattle.blocks.specs.Answers.{read_out}
use Rattle.entries.specs.Reading.{short_read}
use Rattle.entries.proofs.ReadingLaws.{form_within, form_middle, form_whole}
use Rattle.entries.proofs.short_form.Goals as goal

pub slice_bounds-entry-end-2 : goal.slice_bounds-entry-end-2
slice_bounds-entry-end-2 c = form_within c.read.new.out c.read.auto.out

pub returns : goal.returns
unfolding short_read
returns c =
    let r = c.read in
    let s = c.read-2 in
    let a = c.args in
    let l = r.auto.out in
    form_whole r.new.out l s.new.out
    ∙ ap₂ (λ (x y : List ℕ). x ++ (y ++ 0 ∷ 0 ∷ 0 ∷ [])) r.ensures.out_after
    (s.ensures.out_after ∙ ap (read_out a.disk.now a.owner.now a.place a.at) (form_middle r.new.out l))
