use Rattle.sitting.specs.Turn.{on_found}
use Rattle.sitting.proofs.turn.next_line.Goals as goal

pub find_line-requires : goal.find_line-requires
find_line-requires c = tt

pub flush_or_fill-requires : goal.flush_or_fill-requires
flush_or_fill-requires c = tt

pub returns-in-Part : goal.returns-in-Part
unfolding on_found
returns-in-Part c = rw (← c.find_line.ensures, c.in-Part.is) c.flush_or_fill.ensures

pub returns-in-Line : goal.returns-in-Line
unfolding on_found
returns-in-Line c = rw (← c.find_line.ensures, c.in-Line.is)

pub returns-in-TooLong : goal.returns-in-TooLong
unfolding on_found
returns-in-TooLong c = rw (← c.find_line.ensures, c.in-TooLong.is)

pub returns-in-Nothing : goal.returns-in-Nothing
unfolding on_found
returns-in-Nothing c = rw (← c.find_line.ensures, c.in-Nothing.is)
