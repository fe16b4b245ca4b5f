use Prim.Native.Nat.{◌+◌}
use lib.ListN.{take}
use Rattle.header.specs.Fields.{server_set}
use Rattle.header.proofs.Written.{Bytes}
use Rattle.header.proofs.Set.{stored_rows}
use Rattle.stored.specs.Answers.{file_at}
use Rattle.stored.specs.Settable.{Settable}
use Rattle.stored.proofs.Disks.{Changed}
use Rattle.stored.proofs.write_rows.Given as goal

abbrev pub invariant-loop-k : goal.invariant-loop-k
invariant-loop-k l =
    Bytes l.initial.disk
    × Settable l.initial.disk l.owner l.place l.received l.at
    × Changed l.initial.disk l.owner l.disk (l.place + 1) l.received
    (stored_rows (take l.k (server_set l.number l.time)) (file_at l.initial.disk l.owner l.place l.received) (file_at l.initial.disk l.owner l.place l.received))
