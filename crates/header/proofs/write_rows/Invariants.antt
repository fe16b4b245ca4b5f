use Rattle.std.proofs.Common.{◌≡◌, take}
use Rattle.header.specs.Fields.{server_set, Settable}
use Rattle.header.proofs.Written.{Bytes}
use Rattle.header.proofs.Set.{stored_rows}
use Rattle.header.proofs.write_rows.Given as goal

abbrev pub invariant-loop-k : goal.invariant-loop-k
invariant-loop-k l =
    Bytes l.initial.file
    × Settable l.initial.file l.upload
    × (l.file ≡ stored_rows (take l.k (server_set l.number l.time)) l.initial.file l.initial.file)
