use Rattle.words.proofs.PieceLaws.{joins, room_first, room_then}
use Rattle.packet.specs.Names.{bytes_of}
use Rattle.lines.specs.Text.{decimal_of}
use Rattle.words.proofs.WhyLaws as laws
use Rattle.words.proofs.push_outcome.Goals as goal

pub push-a-requires : goal.push-a-requires
unfolding bytes_of
push-a-requires c =
    room_first c.args.out.now c.args.n (bytes_of "beyond\t") (decimal_of c.args.told.older)
    (rw (laws.outcome_beyond c.args.told c.if-told.true) at c.requires)

pub push_decimal-requires : goal.push_decimal-requires
unfolding bytes_of
push_decimal-requires c =
    room_then c.args.out.now c.args.n (bytes_of "beyond\t") (decimal_of c.args.told.older)
    (rw (laws.outcome_beyond c.args.told c.if-told.true) at c.requires) c.push-a.result c.push-a.new.out c.push-a.auto.out
    c.push-a.ensures

pub returns-then-told : goal.returns-then-told
unfolding bytes_of
returns-then-told c =
    rw (laws.outcome_beyond c.args.told c.if-told.true) (joins c.push-a.ensures c.push_decimal.ensures)

pub push-requires : goal.push-requires
unfolding bytes_of
push-requires c = rw (laws.outcome_matched c.args.told c.if-told.false c.if-told-2.true) at c.requires

pub returns-then-told-2 : goal.returns-then-told-2
unfolding bytes_of
returns-then-told-2 c = rw (laws.outcome_matched c.args.told c.if-told.false c.if-told-2.true) c.push.ensures

pub push-requires-2 : goal.push-requires-2
unfolding bytes_of
push-requires-2 c = rw (laws.outcome_unmatched c.args.told c.if-told.false c.if-told-2.false) at c.requires

pub returns : goal.returns
unfolding bytes_of
returns c = rw (laws.outcome_unmatched c.args.told c.if-told.false c.if-told-2.false) c.push-2.ensures
