use Rattle.marking.proofs.FieldLaws.{script_rx, script_other, script_all}
use Rattle.marking.proofs.fields.script_end.Goals as goal

pub is_rx-requires : goal.is_rx-requires
is_rx-requires c = tt

pub fields_end-requires : goal.fields_end-requires
fields_end-requires c = tt

pub returns-then-is_rx : goal.returns-then-is_rx
returns-then-is_rx c = script_rx _ c.args.line.now _ _ c.in-Desk.is c.is_rx.ensures c.if-is_rx.true c.fields_end.ensures

pub fields_end-requires-in-Desk : goal.fields_end-requires-in-Desk
fields_end-requires-in-Desk c = tt

pub returns-else-is_rx : goal.returns-else-is_rx
returns-else-is_rx c = script_other _ c.args.line.now _ _ c.in-Desk.is c.is_rx.ensures c.if-is_rx.false c.fields_end-in-Desk.ensures

pub returns-in-Sheet : goal.returns-in-Sheet
returns-in-Sheet c = script_all _ c.args.line.now c.in-Sheet.is
