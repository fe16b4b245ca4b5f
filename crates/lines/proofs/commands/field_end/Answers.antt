use Rattle.lines.proofs.FieldLaws.{end_found, end_none}
use Rattle.lines.proofs.commands.field_end.Goals as goal

pub returns-in-Some : goal.returns-in-Some
returns-in-Some c = end_found c.args.line.now c.args.at c.requires c.first_tab.result c.in-Some.n c.first_tab.ensures c.in-Some.is

pub returns-in-None : goal.returns-in-None
returns-in-None c = end_none c.args.line.now c.args.at c.requires c.first_tab.result c.first_tab.ensures c.in-None.is
