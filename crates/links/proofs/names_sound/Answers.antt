-- `links::names_sound` meets its contract. Assumes nothing.
use mathlib.Core.Path.{sym, ◌∙◌}
use Rattle.table.specs.declared.Key.TheVariants.{Number}
use Rattle.table.specs.Table.{files}
use Rattle.table.proofs.Fitting.{distinct_facts}
use Rattle.links.proofs.Names.{none_selected}
use Rattle.links.proofs.names_sound.Goals as goal

pub returns-then-count-eq0 : goal.returns-then-count-eq0
returns-then-count-eq0 c = none_selected _ _ _ c.if-count-eq0.true

pub names_in_order-requires : goal.names_in_order-requires
names_in_order-requires c = (c.requires, distinct_facts (files c.args.table.now) (sym c.distinct.ensures ∙ c.if-distinct.true) Number)

pub returns-then-distinct : goal.returns-then-distinct
returns-then-distinct c = c.names_in_order.ensures

pub returns : goal.returns
returns c = c.names_each.ensures
