use Rattle.std.proofs.Common.{length, ap, ◌∙◌, arith}
use Rattle.header.specs.Scan.{scan_from, scan_verdict}
use Rattle.header.specs.declared.scan.Scan.{Scan}
use Rattle.header.proofs.Written.{bytes_all}
use Rattle.header.proofs.Verdict.{verdict_scanned}
use Rattle.header.proofs.check.Goals as goal

pub returns : goal.returns
returns c = c.verdict_of.ensures ∙ ap (λ (s : Scan). scan_verdict s (length c.args.file.now) c.args.announced) (c.feed-s.ensures ∙ ap (λ (s : Scan). scan_from s c.args.file.now) c.start.ensures) ∙ verdict_scanned 18 c.args.file.now (bytes_all c.args.file.now (λ k. omega (arith, c.type_inv.file k))) (omega arith) c.args.announced
