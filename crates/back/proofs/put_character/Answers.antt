-- `back::put_character` meets its contract. Assumes nothing.
use mathlib.Core.Path.{sym, ap, ◌∙◌}
use mathlib.Core.List.{[], ◌∷◌}
use Prim.Native.Nat.{◌/◌, ◌%◌}
use native.Mathlib.Omega.{arith}
use lib.ListN.{length}
use Rattle.numbers.specs.Hex.{hex_digit}
use Rattle.writing.proofs.Parts as parts
use Rattle.writing.proofs.Pieces as pieces
use Rattle.back.proofs.put_character.Goals as goal

pub put_all-requires : goal.put_all-requires
put_all-requires c = omega (arith, c.requires, ap length (parts.character_quote c.args.b c.in-34.is))

pub returns-in-34 : goal.returns-in-34
returns-in-34 c = rw (parts.character_quote c.args.b c.in-34.is) c.put_all.ensures

pub put_all-requires-in-92 : goal.put_all-requires-in-92
put_all-requires-in-92 c = omega (arith, c.requires, ap length (parts.character_escape c.args.b c.in-92.is))

pub returns-in-92 : goal.returns-in-92
returns-in-92 c = rw (parts.character_escape c.args.b c.in-92.is) c.put_all-in-92.ensures

pub put-requires : goal.put-requires
put-requires c = omega (arith, c.requires, ap length (parts.character_plain c.args.b (λ e. omega arith) (λ e. omega arith) (sym c.is_printed.ensures ∙ c.if-is_printed.true)))

pub returns-in_default : goal.returns-in_default
returns-in_default c = rw (parts.character_plain c.args.b (λ e. omega arith) (λ e. omega arith) (sym c.is_printed.ensures ∙ c.if-is_printed.true)) c.put.ensures

pub put_hex-k-requires : goal.put_hex-k-requires
put_hex-k-requires c = omega (arith, c.requires, ap length (parts.character_coded c.args.b (λ e. omega arith) (λ e. omega arith) (sym c.is_printed.ensures ∙ c.if-is_printed.false)))

pub put_all-requires-in_default-2 : goal.put_all-requires-in_default-2
put_all-requires-in_default-2 c = omega (arith, c.requires, ap length (parts.character_coded c.args.b (λ e. omega arith) (λ e. omega arith) (sym c.is_printed.ensures ∙ c.if-is_printed.false)), c.put_hex-k.ensures.place)

pub returns-in_default-2 : goal.returns-in_default-2
returns-in_default-2 c =
    let a = c.args in
    let k = c.put_hex-k in
    let e = c.put_all-in_default-2 in
    rw (parts.character_coded c.args.b (λ e. omega arith) (λ e. omega arith) (sym c.is_printed.ensures ∙ c.if-is_printed.false))
    (pieces.before (92 ∷ 120 ∷ []) (hex_digit (a.b / 16) ∷ hex_digit (a.b % 16) ∷ []) a.n k.result e.result a.out.now k.new.out e.new.out k.ensures e.ensures)
