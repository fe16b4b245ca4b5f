use Rattle.packet.specs.Names.{bytes_of}
use Rattle.marking.proofs.PutLaws.{marks_put, none_put, line_put}
use Rattle.marking.proofs.put.put_last.Goals as goal

pub put_number-requires : goal.put_number-requires
put_number-requires c = tt

pub put-requires : goal.put-requires
put-requires c = tt

pub returns-in-Desk : goal.returns-in-Desk
unfolding bytes_of
returns-in-Desk c = line_put c.args.at _ _ _ c.args.text.now _ (marks_put c.args.kind c.args.right c.in-Desk.is) c.put_number.ensures

pub returns-in-Sheet : goal.returns-in-Sheet
unfolding bytes_of
returns-in-Sheet c = line_put c.args.at _ _ _ c.args.text.now _ (none_put c.args.kind c.args.right c.in-Sheet.is) c.put.ensures
