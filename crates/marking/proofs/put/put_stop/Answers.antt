use Rattle.packet.specs.Names.{bytes_of}
use Rattle.marking.proofs.PutLaws.{refused_put, error_put_law, line_put}
use Rattle.marking.proofs.put.put_stop.Goals as goal

pub put_number-requires : goal.put_number-requires
put_number-requires c = tt

pub put_number-requires-in-Sheet : goal.put_number-requires-in-Sheet
put_number-requires-in-Sheet c = tt

pub returns-in-Desk : goal.returns-in-Desk
unfolding bytes_of
returns-in-Desk c = line_put c.args.at _ _ _ c.args.text.now _ (refused_put c.args.kind c.args.number c.in-Desk.is) c.put_number.ensures

pub returns-in-Sheet : goal.returns-in-Sheet
unfolding bytes_of
returns-in-Sheet c = line_put c.args.at _ _ _ c.args.text.now _ (error_put_law c.args.kind c.args.number c.in-Sheet.is) c.put_number-in-Sheet.ensures
