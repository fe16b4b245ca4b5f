use Rattle.words.proofs.PieceLaws.{joins}
use native.Mathlib.Omega.{arith}
use Rattle.words.proofs.Room as room
use Rattle.words.proofs.WhyLaws as laws
use mathlib.Core.Path.{ap, ◌∙◌}
use Rattle.refusal.specs.Refusal.{numbered}
use mathlib.Core.List.{List}
use Prim.Native.Nat.{ℕ}
use Rattle.words.specs.Why.{why_line}
use Rattle.words.proofs.why_line.Goals as goal

pub push_told-requires : goal.push_told-requires
push_told-requires c = (
  omega (
    arith,
    c.requires,
    c.push_front-a.auto.out,
    c.push_front-a.ensures.end,
    laws.front_most c.args.number (omega (arith, c.well_formed)),
    room.told_short c.args.disk.now c.args.owner.now c.args.table.now c.args.most c.args.number c.args.equation.now (numbered c.why-told.result) c.why-told.new.named c.why-told.ensures,
  ),
  λ w i. omega (arith, c.why-told.auto.named, room.count_short c.args.disk.now c.args.owner.now c.args.table.now c.args.most c.args.number c.args.equation.now (numbered c.why-told.result) c.why-told.new.named c.why-told.ensures w i),
)

pub returns : goal.returns
returns c =
    rw (laws.why_line_law c.args.number _
    ∙ ap (λ (x : List ℕ). why_line c.args.number x)
    (room.told_is c.args.disk.now c.args.owner.now c.args.table.now c.args.most c.args.number c.args.equation.now (numbered c.why-told.result) c.why-told.new.named c.why-told.ensures)) at
    (joins c.push_front-a.ensures c.push_told.ensures)
