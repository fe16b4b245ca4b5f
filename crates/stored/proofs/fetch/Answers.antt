-- `stored::fetch` meets its contract. The invariant: the bytes copied so far are the file's, and the cursor stands at or before the next one.
use Prim.Native.Nat.{◌+◌}
use mathlib.Core.Path.{refl, sym, ◌∙◌}
use native.Mathlib.Omega.{arith}
use lib.ListN.{length, take, drop}
use Rattle.blocks.proofs.Steps.{fill_step, fill_done}
use Rattle.stored.specs.Answers.{file_at}
use Rattle.stored.proofs.CursorLaws.{stands_on, stands_later, window_get, window_length}
use Rattle.stored.proofs.fetch.Goals as goal

pub loop-i-init : goal.loop-i-init
loop-i-init c =
    let a = c.args in
    let p = c.requires in
    (refl, stands_later a.owner.now a.place a.cursor.index a.cursor.block a.at (a.at + 0) p.1 (omega arith))

pub overflow_add-at : goal.overflow_add-at
overflow_add-at c = let p = c.requires in omega (arith, p.2)

pub moved-here-requires : goal.moved-here-requires
moved-here-requires c = (c.requires.0.few, c.loop-i.invariant.1)

pub overflow_add-at-in-loop-i : goal.overflow_add-at-in-loop-i
overflow_add-at-in-loop-i c = let p = c.requires in omega (arith, p.2)

pub byte_at-requires : goal.byte_at-requires
byte_at-requires c =
    let a = c.args in
    let p = c.requires in
    let l = c.loop-i in
    let m = c.moved-here in (
      p.0,
      stands_on a.owner.now a.place m.result.index m.result.block (a.at + l.i) (a.at + l.i) m.ensures.0 m.ensures.1 (omega arith),
      omega (arith, p.2),
    )

pub loop-i-preserved : goal.loop-i-preserved
loop-i-preserved c =
    let a = c.args in
    let p = c.requires in
    let l = c.loop-i in
    let m = c.moved-here in
    let w = window_length a.disk.now a.owner.now a.place a.n p.0 a.at (length a.out.now) p.2 in (
      fill_step l.out (take (length a.out.now) (drop a.at (file_at a.disk.now a.owner.now a.place a.n))) l.i _ (omega arith) (omega arith)
          (c.byte_at.ensures ∙ sym (window_get (file_at a.disk.now a.owner.now a.place a.n) a.at (length a.out.now) l.i (omega arith))) l.invariant.0,
      stands_on a.owner.now a.place m.result.index m.result.block (a.at + l.i) (a.at + (l.i + 1)) m.ensures.0 m.ensures.1 (omega arith),
    )

pub returns : goal.returns
returns c =
    let a = c.args in
    let p = c.requires in
    let l = c.loop-i in
    let w = window_length a.disk.now a.owner.now a.place a.n p.0 a.at (length a.out.now) p.2 in
    fill_done l.out (take (length a.out.now) (drop a.at (file_at a.disk.now a.owner.now a.place a.n))) l.i (omega (arith, w)) (omega arith) l.invariant.0
