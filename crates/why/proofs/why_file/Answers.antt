-- `why::why_file` meets its contract: the reasons are copied, and the older files counted.
use mathlib.Core.Path.{◌≡◌, sym, ap, ◌∙◌, subst}
use mathlib.Core.Bool.{cond}
use mathlib.Core.List.{List, ◌++◌}
use mathlib.Core.Option.{some}
use Prim.Native.Nat.{ℕ}
use lib.ListN.{length, drop}
use Rattle.header.specs.Items.{fields_of}
use Rattle.equation.specs.Tree.{Tree}
use Rattle.equation.proofs.Trees.{accepted}
use Rattle.files.specs.View.{record_at}
use Rattle.stored.specs.Answers.{file_at}
use Rattle.table.specs.declared.File.{File}
use Rattle.table.specs.Table.{uploaded}
use Rattle.why.specs.Answer.{items_at, older_of}
use Rattle.why.specs.Run.{result_on, Tells}
use Rattle.why.specs.declared.reasons.Decided.{Decided}
use Rattle.why.proofs.Rows.{take_fits}
use Rattle.why.proofs.Answers.{file_short, file_told}
use borrow.Author.Rules.{rules}
use Rattle.why.proofs.why_file.Goals as goal

-- what was decided on the file's items
decided : (disk owner table : List ℕ) (place : ℕ) (file : File) (r : Decided) (row : List ℕ) (t : Tree) → file ≡ record_at table place
    → Tells (some (result_on (fields_of (file_at disk owner place file.received)) t)) r row
    → Tells (some (result_on (items_at disk owner table place) t)) r row
decided disk owner table place file r row t g h =
    subst (λ (x : File). Tells (some (result_on (fields_of (file_at disk owner place x.received)) t)) r row) g h

pub returns-then-named-count : goal.returns-then-named-count
returns-then-named-count c t e =
    let a = c.args in
    let d = decided a.disk.now a.owner.now a.table.now a.place c.get-file.result c.decide_file-decided.result
    c.decide_file-decided.new.row t c.get-file.ensures (c.decide_file-decided.ensures t e) in
    file_short a.eq.now t a.disk.now a.owner.now a.table.now a.most a.named.now a.place _ d.1 c.if-named-count.true

pub slice_bounds-row-end : goal.slice_bounds-row-end
slice_bounds-row-end c =
    let a = c.args in
    let y = accepted a.eq.now c.requires.0.valid in
    let d = decided a.disk.now a.owner.now a.table.now a.place c.get-file.result c.decide_file-decided.result
    c.decide_file-decided.new.row y.tree c.get-file.ensures (c.decide_file-decided.ensures y.tree y.parsed) in
    take_fits _ _ (ap length d.2 ∙ sym d.1)

pub slice_bounds-copy_from_slice-end-3 : goal.slice_bounds-copy_from_slice-end-3
slice_bounds-copy_from_slice-end-3 c =
    let a = c.args in
    let y = accepted a.eq.now c.requires.0.valid in
    let d = decided a.disk.now a.owner.now a.table.now a.place c.get-file.result c.decide_file-decided.result
    c.decide_file-decided.new.row y.tree c.get-file.ensures (c.decide_file-decided.ensures y.tree y.parsed) in
    let w = take_fits _ _ (ap length d.2 ∙ sym d.1) in
    search rules

pub copy_from_slice-requires : goal.copy_from_slice-requires
copy_from_slice-requires c =
    let a = c.args in
    let y = accepted a.eq.now c.requires.0.valid in
    let d = decided a.disk.now a.owner.now a.table.now a.place c.get-file.result c.decide_file-decided.result
    c.decide_file-decided.new.row y.tree c.get-file.ensures (c.decide_file-decided.ensures y.tree y.parsed) in
    let w = take_fits _ _ (ap length d.2 ∙ sym d.1) in
    search rules

pub returns : goal.returns
returns c t e =
    let a = c.args in
    let d = decided a.disk.now a.owner.now a.table.now a.place c.get-file.result c.decide_file-decided.result
    c.decide_file-decided.new.row t c.get-file.ensures (c.decide_file-decided.ensures t e) in
    let g = c.get-file.ensures in
    let o = c.older_where-older.ensures
    ∙ ap (λ (u : ℕ). cond c.decide_file-decided.result.matched
    (older_of a.eq.now a.disk.now a.owner.now a.table.now u) 0)
    (c.upload_time_of-time.ensures ∙ ap uploaded g) in
    let n = ap (λ (l : List ℕ). l ++ drop
    c.decide_file-decided.result.count a.named.now) (c.copy_from_slice.ensures.after ∙ d.2) in
    file_told a.eq.now t a.disk.now a.owner.now a.table.now a.most a.named.now a.place
    c.decide_file-decided.result.matched
    c.older_where-older.result c.decide_file-decided.result.count _ _
    d.0 o d.1 c.if-named-count.false n c.tell.ensures
