use Rattle.marking.proofs.VerdictLaws.{begun_desk, begun_sheet}
use Rattle.marking.proofs.verdict.begin.Goals as goal

pub put-requires : goal.put-requires
put-requires c = tt

pub returns-in-Desk : goal.returns-in-Desk
returns-in-Desk c = begun_desk c.args.kind c.args.line.now c.args.text.now c.args.at c.in-Desk.is

pub returns-in-Sheet : goal.returns-in-Sheet
returns-in-Sheet c = begun_sheet c.args.kind c.args.line.now c.args.text.now _ c.args.at _ c.in-Sheet.is c.put.ensures
