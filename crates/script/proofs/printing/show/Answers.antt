use Rattle.script.specs.Printing.{line_for, show_of}
use Rattle.script.proofs.Written.{no_line}
use Rattle.script.proofs.printing.show.Goals as goal

pub returns-in-Quiet : goal.returns-in-Quiet
unfolding show_of line_for
returns-in-Quiet c = rw c.in-Quiet.is (no_line _)

pub returns-in-Sent : goal.returns-in-Sent
unfolding show_of line_for
returns-in-Sent c = rw c.in-Sent.is c.show_packet.ensures

pub returns-in-Closed : goal.returns-in-Closed
unfolding show_of line_for
returns-in-Closed c = rw c.in-Closed.is c.closed_line.ensures

pub returns-in-Refused : goal.returns-in-Refused
unfolding show_of line_for
returns-in-Refused c = rw c.in-Refused.is c.refused_line.ensures
