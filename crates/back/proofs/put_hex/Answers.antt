-- `back::put_hex` meets its contract. Assumes nothing.
use Rattle.writing.proofs.Pieces as pieces
use Rattle.back.proofs.put_hex.Goals as goal

pub returns : goal.returns
returns c =
    let a = c.args in
    let the-hex-digit = c.hex_digit in
    let the-put = c.put-k in
    let the-hex-digit2 = c.hex_digit-2 in
    let the-put2 = c.put in
    pieces.hex_piece a.b a.n the-put.result the-put2.result a.out.now the-put.new.out the-put2.new.out the-hex-digit.result
    the-hex-digit2.result the-hex-digit.ensures the-hex-digit2.ensures the-put.ensures the-put2.ensures
