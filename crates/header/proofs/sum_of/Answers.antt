use Rattle.std.proofs.Common.{ap, ◌∙◌, arith}
use Rattle.header.specs.Scan.{header_from, scan_sum}
use Rattle.header.specs.declared.scan.Scan.{Scan}
use Rattle.header.proofs.Written.{bytes_all}
use Rattle.header.proofs.Verdict.{sum_only}
use Rattle.header.proofs.sum_of.Goals as goal

pub returns : goal.returns
returns c = c.header_sum.ensures ∙ ap (λ (s : Scan). scan_sum s.passed s.seen) (c.feed_header.ensures ∙ ap (λ (s : Scan). header_from s c.args.file.now) c.start.ensures) ∙ sum_only 10 c.args.file.now (bytes_all c.args.file.now (λ k. omega (arith, c.type_inv.file k))) (omega arith) c.requires
