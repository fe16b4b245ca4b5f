use Rattle.std.proofs.Common.{ℕ, List, ap, ◌∙◌, arith}
use Rattle.lines.proofs.LineLaws.{no_head, too_long, no_type, has_line}
use Rattle.lines.specs.Lines.{printed_in}
use Rattle.lines.proofs.print.packet_line.Goals as goal

pub returns-then-packet-lt2 : goal.returns-then-packet-lt2
returns-then-packet-lt2 c = no_head c.args.session c.args.packet.now c.args.text.now (omega arith)

pub returns-then-packet-gt258 : goal.returns-then-packet-gt258
returns-then-packet-gt258 c = too_long c.args.session c.args.packet.now c.args.text.now (omega arith)

pub returns-then-kind-gt17 : goal.returns-then-kind-gt17
returns-then-kind-gt17 c = no_type c.args.session c.args.packet.now c.args.text.now (omega arith) (omega arith) (omega arith)

pub returns : goal.returns
returns c = let e = c in c.sent_line.ensures ∙ ap (λ (line : List ℕ). printed_in line e.args.text.now) (has_line e.args.session e.args.packet.now e.args.text.now (omega arith) (omega arith) (omega arith))
