use Rattle.std.proofs.Common.{drop, sym, ◌∙◌}
use Rattle.packet.specs.Names.{bytes_of}
use Rattle.lines.proofs.FieldLaws.{rx_bad, rx_bytes_law, rx_other}
use Rattle.lines.proofs.commands.read_rx.Goals as goal

pub returns-in-None : goal.returns-in-None
unfolding bytes_of
returns-in-None c = let e = c.args in rx_bad e.name.now e.session (drop e.at e.line.now) e.bytes.now _ _ (sym c.same_text.ensures ∙ c.if-not-same_text.false) c.hex.ensures c.in-None.is

pub returns-in-Some : goal.returns-in-Some
unfolding bytes_of
returns-in-Some c = let e = c.args in
    rx_bytes_law e.name.now e.session (drop e.at e.line.now) e.bytes.now _ _ _ (sym c.same_text.ensures ∙ c.if-not-same_text.false) c.hex.ensures c.in-Some.is

pub returns-then-not-same_text : goal.returns-then-not-same_text
unfolding bytes_of
returns-then-not-same_text c = let e = c.args in rx_other e.name.now e.session (drop e.at e.line.now) e.bytes.now (sym c.same_text.ensures ∙ c.if-not-same_text.true)
