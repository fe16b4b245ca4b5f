use Rattle.making.proofs.new_server.Goals as goal

pub returns : goal.returns
returns c = rw c.closed-c.ensures
