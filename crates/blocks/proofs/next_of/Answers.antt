-- `blocks::next_of` meets its contract. Where block `from` is not the owner's, parts that are none of the owner's are passed over first.
use mathlib.Core.Path.{sym, ◌∙◌}
use Rattle.blocks.proofs.Owners.{next_here, next_end}
use Rattle.blocks.proofs.Parts.{next_some, next_no}
use Rattle.blocks.proofs.next_of.Goals as goal

pub returns-then-owner-from : goal.returns-then-owner-from
returns-then-owner-from c = sym (next_end c.args.v c.args.owner.now c.args.from c.if-owner-from.true)

pub returns-then-owner-from-2 : goal.returns-then-owner-from-2
returns-then-owner-from-2 c =
    let a = c.args in
    sym (next_here a.v a.owner.now a.from c.if-owner-from.false c.if-owner-from-2.true)

pub returns-in-Some : goal.returns-in-Some
returns-in-Some c =
    let a = c.args in
    let p = c.pass_parts-left in
    next_some a.v a.owner.now p.result p.ensures.0 _ (sym c.first_of.ensures ∙ c.in-Some.is) ∙ sym p.ensures.1

pub returns-in-None : goal.returns-in-None
returns-in-None c =
    let a = c.args in
    let p = c.pass_parts-left in
    next_no a.v a.owner.now p.result p.ensures.0 (sym c.first_of.ensures ∙ c.in-None.is) ∙ sym p.ensures.1
