-- `back::put_string` meets its contract. Assumes nothing.
use mathlib.Core.List.{[], ◌∷◌, ◌++◌}
use Rattle.writing.specs.Places.{quoted}
use Rattle.writing.proofs.Pieces as pieces
use Rattle.back.proofs.put_string.Goals as goal

pub returns : goal.returns
returns c =
    let a = c.args in
    let the-put = c.put-k in
    let the-put-characters = c.put_characters-j in
    let the-put2 = c.put in
    pieces.before (34 ∷ []) (quoted a.s.now ++ 34 ∷ []) a.n the-put-characters.result the-put2.result a.out.now
    the-put-characters.new.out the-put2.new.out (pieces.before (quoted a.s.now) (34 ∷ []) a.n the-put.result
    the-put-characters.result a.out.now the-put.new.out the-put-characters.new.out the-put.ensures the-put-characters.ensures)
    the-put2.ensures
