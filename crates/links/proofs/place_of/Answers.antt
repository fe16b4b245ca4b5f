-- `links::place_of` meets its contract. A record with the number is the only one that has it, so it need not be the first that is looked at.
use borrow.Author.Tests.{eq-eqb}
use Rattle.table.specs.Table.{files}
use Rattle.links.proofs.Names.{place_own}
use Rattle.links.proofs.place_of.Goals as goal

pub returns-then-number-eq0 : goal.returns-then-number-eq0
returns-then-number-eq0 c = rw (eq-eqb c.args.number 0 c.if-number-eq0.true)

pub loop-at-init : goal.loop-at-init
loop-at-init c = c.places-n.ensures

pub returns-then-get-number : goal.returns-then-get-number
returns-then-get-number c =
    let a = c.args in
    let l = c.loop-at in
    place_own (files a.table.now) c.requires c.get.result l.at a.number c.get.ensures c.if-get-number.true c.if-number-eq0.false

pub loop-at-preserved : goal.loop-at-preserved
loop-at-preserved c = c.loop-at.invariant

pub returns : goal.returns
returns c = c.find.ensures
