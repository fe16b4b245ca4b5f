use Rattle.std.proofs.Common.{ap, ◌∙◌, arith}
use Rattle.header.specs.Scan.{header_from, scan_header}
use Rattle.header.specs.declared.scan.Scan.{Scan}
use Rattle.header.proofs.Written.{bytes_all}
use Rattle.header.proofs.Verdict.{header_only}
use Rattle.header.proofs.read_header.Goals as goal

pub returns : goal.returns
returns c = c.header_of.ensures ∙ ap scan_header (c.feed_header.ensures ∙ ap (λ (s : Scan). header_from s c.args.file.now) c.start.ensures) ∙ header_only c.args.want c.args.file.now (bytes_all c.args.file.now (λ k. omega (arith, c.type_inv.file k))) (omega arith)
