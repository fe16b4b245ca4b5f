use Rattle.std.proofs.Common.{arith}
use Rattle.input.proofs.InputLaws.{none_passed}
use Rattle.input.proofs.line_length.Goals as goal

pub after_pieces-whole-requires : goal.after_pieces-whole-requires
after_pieces-whole-requires c = (omega arith, none_passed _)

pub after_pieces-near-requires : goal.after_pieces-near-requires
after_pieces-near-requires c = (omega arith, c.after_pieces-whole.ensures)

pub newline_from-requires : goal.newline_from-requires
newline_from-requires c = c.after_pieces-near.ensures

pub returns : goal.returns
returns c = c.newline_from.ensures
