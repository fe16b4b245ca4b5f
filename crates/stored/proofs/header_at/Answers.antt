-- `stored::header_at` meets its contract. What the machine says of the header is the header's definition on the contents.
use mathlib.Core.Path.{◌∙◌, ap}
use Prim.Native.Nat.{◌+◌}
use native.Mathlib.Omega.{arith}
use Rattle.header.specs.Scan.{scan_header}
use Rattle.header.proofs.Written.{bytes_all}
use Rattle.header.proofs.Verdict.{header_only}
use Rattle.stored.specs.Answers.{file_at}
use Rattle.stored.proofs.Feeding.{bytes_contents, short_contents}
use Rattle.stored.proofs.header_at.Goals as goal

pub returns : goal.returns
returns c =
    let s = c in
    let a = s.args in
    let p = s.requires in
    let b = bytes_all a.disk.now (λ k. omega (arith, s.type_inv.disk k)) in
    c.header_of.ensures ∙ ap scan_header c.scan_header.ensures
    ∙ header_only a.want (file_at a.disk.now a.owner.now a.place a.received) (bytes_contents (a.place + 1) a.owner.now a.disk.now a.received b)
    (short_contents (a.place + 1) a.owner.now a.disk.now a.received p.0 p.1)
