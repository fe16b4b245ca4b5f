use Rattle.std.proofs.Common.{arith}
use Rattle.marking.proofs.TabLaws.{none_before}
use Rattle.marking.proofs.fields.far_tab.Goals as goal

pub after_pieces-whole-requires : goal.after_pieces-whole-requires
after_pieces-whole-requires c = (omega arith, none_before _)

pub after_pieces-near-requires : goal.after_pieces-near-requires
after_pieces-near-requires c = (omega arith, c.after_pieces-whole.ensures)

pub tab_from-requires : goal.tab_from-requires
tab_from-requires c = c.after_pieces-near.ensures

pub returns : goal.returns
returns c = c.tab_from.ensures
