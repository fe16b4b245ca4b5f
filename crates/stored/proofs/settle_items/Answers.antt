-- `stored::settle_items` meets its contract. The invariant is that of the equation's walk over the items, which begin at byte 2, with the cursor
-- at or before the next item.
use Prim.Native.Nat.{◌+◌}
use native.Mathlib.Omega.{arith}
use lib.ListN.{drop, length-drop}
use Rattle.header.specs.declared.items.Head.TheVariants.{Broken, End}
use Rattle.equation.specs.Parsed.{relations_by}
use Rattle.equation.proofs.MarkLaws as marks
use Rattle.stored.specs.Answers.{file_at}
use Rattle.stored.proofs.CursorLaws.{Met, stands_on, stands_later, file_length, file_bytes, item_head, item_met, item_bytes_law}
use Rattle.stored.proofs.settle_items.Goals as goal

pub loop-id-init : goal.loop-id-init
loop-id-init c =
    let a = c.args in
    let p = c.requires in (
      marks.walk_start (relations_by a.eq.now a.steps.now) (drop 2 (file_at a.disk.now a.owner.now a.place a.n)) a.truths.now,
      stands_later a.owner.now a.place a.cursor.index a.cursor.block 0 (2 + 0) p.1 (omega arith),
    )

pub overflow_add-at : goal.overflow_add-at
overflow_add-at c =
    let a = c.args in
    let p = c.requires in
    omega (arith, c.loop-id.invariant.0.in_file, length-drop 2 (file_at a.disk.now a.owner.now a.place a.n), file_length a.disk.now a.owner.now a.place a.n p.0)

pub head_at-h-requires : goal.head_at-h-requires
head_at-h-requires c = (c.requires.0, c.loop-id.invariant.1)

pub shape_of-truths-in-Broken : goal.shape_of-truths-in-Broken
shape_of-truths-in-Broken c = c.loop-id.invariant.0.sized

pub returns-in-Broken : goal.returns-in-Broken
returns-in-Broken c =
    let s = c in
    let a = c.args in
    marks.walk_broken (relations_by a.eq.now a.steps.now) (drop 2 (file_at a.disk.now a.owner.now a.place a.n)) a.truths.now s.loop-id.truths s.loop-id.at s.loop-id.invariant.0
    (item_head (file_at a.disk.now a.owner.now a.place a.n) s.loop-id.at Broken _ c.head_at-h.ensures c.in-Broken.is)

pub shape_of-truths-in-End : goal.shape_of-truths-in-End
shape_of-truths-in-End c = c.loop-id.invariant.0.sized

pub returns-in-End : goal.returns-in-End
returns-in-End c =
    let s = c in
    let a = c.args in
    marks.walk_end (relations_by a.eq.now a.steps.now) (drop 2 (file_at a.disk.now a.owner.now a.place a.n)) a.truths.now s.loop-id.truths s.loop-id.at s.loop-id.invariant.0
    (item_head (file_at a.disk.now a.owner.now a.place a.n) s.loop-id.at End _ c.head_at-h.ensures c.in-End.is)

pub overflow_add-at-in-Item : goal.overflow_add-at-in-Item
overflow_add-at-in-Item c = omega (
  arith,
  (let met : Met (file_at c.args.disk.now c.args.owner.now c.args.place c.args.n) c.args.n c.loop-id.at c.in-Item.id c.in-Item.size = let a = c.args in
      let p = c.requires in
      item_met (file_at a.disk.now a.owner.now a.place a.n) a.n c.loop-id.at c.in-Item.id c.in-Item.size _
      (file_length a.disk.now a.owner.now a.place a.n p.0)
      (file_bytes a.disk.now a.owner.now a.place a.n (λ k. omega (arith, c.type_inv.disk k)))
      c.head_at-h.ensures c.in-Item.is in met).room,
)

pub overflow_add-at-in-Item-2 : goal.overflow_add-at-in-Item-2
overflow_add-at-in-Item-2 c = omega (
  arith,
  (let met : Met (file_at c.args.disk.now c.args.owner.now c.args.place c.args.n) c.args.n c.loop-id.at c.in-Item.id c.in-Item.size = let a = c.args in
      let p = c.requires in
      item_met (file_at a.disk.now a.owner.now a.place a.n) a.n c.loop-id.at c.in-Item.id c.in-Item.size _
      (file_length a.disk.now a.owner.now a.place a.n p.0)
      (file_bytes a.disk.now a.owner.now a.place a.n (λ k. omega (arith, c.type_inv.disk k)))
      c.head_at-h.ensures c.in-Item.is in met).room,
)

pub settle_item-requires : goal.settle_item-requires
settle_item-requires c =
    let f = (let met : Met (file_at c.args.disk.now c.args.owner.now c.args.place c.args.n) c.args.n c.loop-id.at c.in-Item.id c.in-Item.size = let a = c.args in
    let p = c.requires in
    item_met (file_at a.disk.now a.owner.now a.place a.n) a.n c.loop-id.at c.in-Item.id c.in-Item.size _
    (file_length a.disk.now a.owner.now a.place a.n p.0)
    (file_bytes a.disk.now a.owner.now a.place a.n (λ k. omega (arith, c.type_inv.disk k)))
    c.head_at-h.ensures c.in-Item.is in met) in
    let a = c.args in
    let l = c.loop-id in (
      c.requires.0,
      stands_later a.owner.now a.place l.here.index l.here.block (2 + l.at) (2 + l.at + 3) l.invariant.1 (omega arith),
      f.room,
      f.little,
    )

pub overflow_add-at-in-Item-3 : goal.overflow_add-at-in-Item-3
overflow_add-at-in-Item-3 c = omega (
  arith,
  (let met : Met (file_at c.args.disk.now c.args.owner.now c.args.place c.args.n) c.args.n c.loop-id.at c.in-Item.id c.in-Item.size = let a = c.args in
      let p = c.requires in
      item_met (file_at a.disk.now a.owner.now a.place a.n) a.n c.loop-id.at c.in-Item.id c.in-Item.size _
      (file_length a.disk.now a.owner.now a.place a.n p.0)
      (file_bytes a.disk.now a.owner.now a.place a.n (λ k. omega (arith, c.type_inv.disk k)))
      c.head_at-h.ensures c.in-Item.is in met).room,
)

pub overflow_add-at-in-Item-4 : goal.overflow_add-at-in-Item-4
overflow_add-at-in-Item-4 c = omega (
  arith,
  (let met : Met (file_at c.args.disk.now c.args.owner.now c.args.place c.args.n) c.args.n c.loop-id.at c.in-Item.id c.in-Item.size = let a = c.args in
      let p = c.requires in
      item_met (file_at a.disk.now a.owner.now a.place a.n) a.n c.loop-id.at c.in-Item.id c.in-Item.size _
      (file_length a.disk.now a.owner.now a.place a.n p.0)
      (file_bytes a.disk.now a.owner.now a.place a.n (λ k. omega (arith, c.type_inv.disk k)))
      c.head_at-h.ensures c.in-Item.is in met).room,
)

pub overflow_add-at-in-Item-5 : goal.overflow_add-at-in-Item-5
overflow_add-at-in-Item-5 c = omega (
  arith,
  (let met : Met (file_at c.args.disk.now c.args.owner.now c.args.place c.args.n) c.args.n c.loop-id.at c.in-Item.id c.in-Item.size = let a = c.args in
      let p = c.requires in
      item_met (file_at a.disk.now a.owner.now a.place a.n) a.n c.loop-id.at c.in-Item.id c.in-Item.size _
      (file_length a.disk.now a.owner.now a.place a.n p.0)
      (file_bytes a.disk.now a.owner.now a.place a.n (λ k. omega (arith, c.type_inv.disk k)))
      c.head_at-h.ensures c.in-Item.is in met).room,
)

pub moved-here-requires : goal.moved-here-requires
moved-here-requires c =
    let a = c.args in
    let l = c.loop-id in
    let t = c in (
      c.requires.0.few,
      stands_later a.owner.now a.place l.here.index l.here.block (2 + l.at) (2 + (l.at + 3 + t.in-Item.size)) l.invariant.1 (omega arith),
    )

pub loop-id-smaller : goal.loop-id-smaller
loop-id-smaller c = omega (
  arith,
  (let met : Met (file_at c.args.disk.now c.args.owner.now c.args.place c.args.n) c.args.n c.loop-id.at c.in-Item.id c.in-Item.size = let a = c.args in
      let p = c.requires in
      item_met (file_at a.disk.now a.owner.now a.place a.n) a.n c.loop-id.at c.in-Item.id c.in-Item.size _
      (file_length a.disk.now a.owner.now a.place a.n p.0)
      (file_bytes a.disk.now a.owner.now a.place a.n (λ k. omega (arith, c.type_inv.disk k)))
      c.head_at-h.ensures c.in-Item.is in met).inside,
)

pub loop-id-preserved : goal.loop-id-preserved
loop-id-preserved c =
    let t = c in
    let l = c.loop-id in
    let a = c.args in
    let m = c.moved-here in (
      marks.walk_item (relations_by a.eq.now a.steps.now) (drop 2 (file_at a.disk.now a.owner.now a.place a.n)) a.truths.now l.truths l.at l.invariant.0 t.in-Item.id t.in-Item.size _ (let met : Met (file_at t.args.disk.now t.args.owner.now t.args.place t.args.n) t.args.n t.loop-id.at t.in-Item.id t.in-Item.size = let a = t.args in
          let p = t.requires in
          item_met (file_at a.disk.now a.owner.now a.place a.n) a.n t.loop-id.at t.in-Item.id t.in-Item.size _
          (file_length a.disk.now a.owner.now a.place a.n p.0)
          (file_bytes a.disk.now a.owner.now a.place a.n (λ k. omega (arith, t.type_inv.disk k)))
          t.head_at-h.ensures t.in-Item.is in met).head
          (rw (← item_bytes_law (file_at a.disk.now a.owner.now a.place a.n) l.at t.in-Item.size) c.settle_item.ensures),
      stands_on a.owner.now a.place m.result.index m.result.block (2 + (l.at + 3 + t.in-Item.size)) (2 + (l.at + 3 + t.in-Item.size)) m.ensures.0 m.ensures.1 (omega arith),
    )
