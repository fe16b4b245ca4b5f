use Rattle.embed.specs.Calls.{tell_of}
use Rattle.embed.proofs.tell.Goals as goal

pub returns-in-Quiet : goal.returns-in-Quiet
unfolding tell_of
returns-in-Quiet c = record { counts_after = rw (c.in-Quiet.is, ← c.encode.ensures.state_after, ← c.write_counts.ensures); state_after = c.encode.ensures.state_after_2 }

pub returns-in-Sent : goal.returns-in-Sent
unfolding tell_of
returns-in-Sent c = record { counts_after = rw (c.in-Sent.is, ← c.encode-in-Sent.ensures.state_after, ← c.write_counts-in-Sent.ensures); state_after = c.encode-in-Sent.ensures.state_after_2 }

pub returns-in-Closed : goal.returns-in-Closed
unfolding tell_of
returns-in-Closed c = record { counts_after = rw (c.in-Closed.is, ← c.encode-in-Closed.ensures.state_after, ← c.write_counts-in-Closed.ensures); state_after = c.encode-in-Closed.ensures.state_after_2 }

pub returns-in-Refused : goal.returns-in-Refused
unfolding tell_of
returns-in-Refused c = record { counts_after = rw c.in-Refused.is; state_after = c.requires.2 }
