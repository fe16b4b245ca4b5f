-- `stored::settle_file` meets its contract. As many bytes are read as are received and there, from the file's first block on.
use mathlib.Core.Path.{◌∙◌, ap}
use Prim.Native.Nat.{ℕ, ◌+◌}
use mathlib.Core.List.{List}
use native.Mathlib.Omega.{arith}
use Rattle.blocks.proofs.Owners.{blocks_le}
use Rattle.header.specs.Items.{fields_of}
use Rattle.equation.specs.Marks.{settled_by}
use Rattle.equation.specs.Parsed.{relations_by}
use Rattle.stored.proofs.CursorLaws.{lies, first_stands, same_file}
use Rattle.stored.proofs.settle_file.Goals as goal

pub overflow_mul-block_count : goal.overflow_mul-block_count
overflow_mul-block_count c =
    let a = c.args in
    omega (arith, c.block_count.ensures, blocks_le (a.place + 1) a.owner.now, c.requires.0)

pub settle_header-requires : goal.settle_header-requires
settle_header-requires c =
    let a = c.args in
    let p = c.requires in
    let n = c.min-n in (
      lies a.disk.now a.owner.now a.place c.block_count.result n.result c.block_count.ensures p.0 p.1 (omega arith),
      first_stands a.owner.now a.place c.next_block.result c.next_block.ensures,
    )

pub shape_of-truths : goal.shape_of-truths
shape_of-truths c = c.truths-1.given

pub returns : goal.returns
returns c =
    let a = c.args in
    let p = c.requires in
    let n = c.min-n in
    c.settle_header.ensures
    ∙ ap (λ (xs : List ℕ). settled_by (fields_of xs) (relations_by a.eq.now a.steps.now) a.truths.now)
    (same_file a.disk.now a.owner.now a.place c.block_count.result a.received n.result c.block_count.ensures p.1 (omega arith) (omega arith) (λ h. omega arith))
