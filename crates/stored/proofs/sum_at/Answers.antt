-- `stored::sum_at` meets its contract. What the machine says of the sum is the header's definition on the contents.
use mathlib.Core.Path.{◌∙◌, ap}
use Prim.Native.Nat.{◌+◌}
use native.Mathlib.Omega.{arith}
use Rattle.header.specs.Scan.{scan_sum}
use Rattle.header.specs.declared.scan.Scan.{Scan}
use Rattle.header.proofs.Written.{bytes_all}
use Rattle.header.proofs.Verdict.{sum_only}
use Rattle.stored.specs.Answers.{file_at}
use Rattle.stored.proofs.Feeding.{bytes_contents, short_contents}
use Rattle.stored.proofs.sum_at.Goals as goal

pub returns : goal.returns
returns c =
    let a = c.args in
    let p = c.requires in
    let b = bytes_all a.disk.now (λ k. omega (arith, c.type_inv.disk k)) in
    c.header_sum.ensures ∙ ap (λ (s : Scan). scan_sum s.passed s.seen) c.scan_header.ensures
    ∙ sum_only 10 (file_at a.disk.now a.owner.now a.place a.received) (bytes_contents (a.place + 1) a.owner.now a.disk.now a.received b)
    (short_contents (a.place + 1) a.owner.now a.disk.now a.received p.0 p.1) p.3
