use Rattle.std.proofs.Common.{◌+◌, length, refl}
use Rattle.marking.proofs.PutLaws.{pieces_stored}
use Rattle.marking.proofs.put.put_pieces.Goals as goal

pub store-requires : goal.store-requires
store-requires c = tt

pub store-requires-2 : goal.store-requires-2
store-requires-2 c = tt

pub store-requires-3 : goal.store-requires-3
store-requires-3 c = tt

pub returns : goal.returns
returns c =
    let a = c.args in
    pieces_stored a.text.now a.first.now a.second.now a.third.now _ _ _ a.at (a.at + length a.first.now) c.requires refl
    c.store.ensures.to_after c.store-2.ensures.to_after c.store-3.ensures.to_after
