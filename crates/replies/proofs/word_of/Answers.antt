use Rattle.packet.specs.Names.{bytes_of}
use Rattle.replies.specs.Reply.{word_of}
use Rattle.replies.specs.Words.{word_for}
use Rattle.std.proofs.Common.{rules}
use Rattle.replies.proofs.word_of.Goals as goal

pub returns-in-Item : goal.returns-in-Item
unfolding word_for word_of bytes_of
returns-in-Item c = search rules

pub returns-in-Deeper : goal.returns-in-Deeper
unfolding word_for word_of bytes_of
returns-in-Deeper c = search rules

pub returns-in-Operator : goal.returns-in-Operator
unfolding word_for word_of bytes_of
returns-in-Operator c = search rules

pub returns-in-Order : goal.returns-in-Order
unfolding word_for word_of bytes_of
returns-in-Order c = search rules

pub returns-in-Constant : goal.returns-in-Constant
unfolding word_for word_of bytes_of
returns-in-Constant c = search rules

pub returns-in-Large : goal.returns-in-Large
unfolding word_for word_of bytes_of
returns-in-Large c = search rules

pub returns-in-Width : goal.returns-in-Width
unfolding word_for word_of bytes_of
returns-in-Width c = search rules

pub returns-in-String : goal.returns-in-String
unfolding word_for word_of bytes_of
returns-in-String c = search rules

pub returns-in-Stars : goal.returns-in-Stars
unfolding word_for word_of bytes_of
returns-in-Stars c = search rules

pub returns-in-Long : goal.returns-in-Long
unfolding word_for word_of bytes_of
returns-in-Long c = search rules

pub returns-in-Connective : goal.returns-in-Connective
unfolding word_for word_of bytes_of
returns-in-Connective c = search rules

pub returns-in-Bracket : goal.returns-in-Bracket
unfolding word_for word_of bytes_of
returns-in-Bracket c = search rules
