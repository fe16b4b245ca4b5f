use Rattle.std.proofs.Common.{sym, ◌∙◌, arith}
use Rattle.lines.proofs.NumeralLaws.{hex_empty, hex_short, hex_whole, hex_bad, bytes_of}
use Rattle.lines.proofs.numeral.hex.Goals as goal

pub returns-then-line-at : goal.returns-then-line-at
returns-then-line-at c = hex_empty c.args.line.now c.args.at c.args.bytes.now (omega arith)

pub returns-then-bytes-count : goal.returns-then-bytes-count
returns-then-bytes-count c = let e = c.args in hex_short e.line.now e.at e.bytes.now (bytes_of e.line.now
    e.at e.bytes.now) (omega arith)

pub put_pairs-requires : goal.put_pairs-requires
put_pairs-requires c = let e = c.args in record { line_value = sym c.has_pairs.ensures ∙ c.if-not-has_pairs.false; line_in_bounds = omega (arith, bytes_of e.line.now e.at e.bytes.now) }

pub returns : goal.returns
returns c = let e = c.args in rw c.put_pairs.ensures (hex_whole e.line.now e.at e.bytes.now (bytes_of e.line.now e.at e.bytes.now) (sym c.has_pairs.ensures ∙ c.if-not-has_pairs.false) (omega arith))

pub returns-then-not-has_pairs : goal.returns-then-not-has_pairs
returns-then-not-has_pairs c = let e = c.args in hex_bad e.line.now e.at e.bytes.now (sym c.has_pairs.ensures ∙ c.if-not-has_pairs.true)
