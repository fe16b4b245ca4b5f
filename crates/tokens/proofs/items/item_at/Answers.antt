use Prim.Native.Nat.{◌-◌}
use native.Mathlib.Omega.{arith}
use lib.ListN.{length, drop, length-drop}
use lib.Seq.{take_all}
use Rattle.tokens.proofs.ItemLaws as laws
use Rattle.tokens.proofs.items.item_at.Goals as goal

pub returns-then-text-at : goal.returns-then-text-at
returns-then-text-at c =
    let a = c.args in
    laws.item_end a.text.now a.at c.if-text-at.true

pub returns-then-byte_of-eq35 : goal.returns-then-byte_of-eq35
returns-then-byte_of-eq35 c =
    let a = c.args in
    let b = c.byte_of in
    laws.item_hash a.text.now a.at b.result b.ensures c.if-byte_of-eq35.true c.hash_from.result c.hash_from.ensures

pub overflow_add-result : goal.overflow_add-result
overflow_add-result c =
    let b3 = c in
    let b7 = b3 in
    let b9 = b7 in
    let a = b9.args in
    let f = b3.find_name in
    let t = take_all (length a.text.now - a.at) (drop a.at a.text.now) (omega (arith, length-drop a.at a.text.now)) in
    let h = laws.known_in a.text.now a.at (omega (arith, b7.if-text-at.false)) f.result _ t f.ensures c.in-Ok.id c.in-Ok.n c.in-Ok.is in
    omega (arith, h, b9.well_formed.0.0)

pub overflow_add-result-in-Err : goal.overflow_add-result-in-Err
overflow_add-result-in-Err c =
    let b3 = c in
    let b7 = b3 in
    let b9 = b7 in
    let a = b9.args in
    let f = b3.find_name in
    let t = take_all (length a.text.now - a.at) (drop a.at a.text.now) (omega (arith, length-drop a.at a.text.now)) in
    let h = laws.unknown_in a.text.now a.at (omega (arith, b7.if-text-at.false)) f.result _ t f.ensures c.in-Err.n c.in-Err.is in
    omega (arith, h, b9.well_formed.0.0)

pub returns-in-Ok : goal.returns-in-Ok
returns-in-Ok c =
    let b3 = c in
    let b5 = b3 in
    let b6 = b5 in
    let b9 = b6 in
    let a = b9.args in
    let f = b3.find_name in
    let t = take_all (length a.text.now - a.at) (drop a.at a.text.now) (omega (arith, length-drop a.at a.text.now)) in
    let b = b6.byte_of in
    laws.item_known a.text.now a.at b.result b.ensures b5.if-byte_of-eq35.false f.result _ t f.ensures c.in-Ok.id c.in-Ok.n c.in-Ok.is

pub returns-in-Err : goal.returns-in-Err
returns-in-Err c =
    let b3 = c in
    let b5 = b3 in
    let b6 = b5 in
    let b9 = b6 in
    let a = b9.args in
    let f = b3.find_name in
    let t = take_all (length a.text.now - a.at) (drop a.at a.text.now) (omega (arith, length-drop a.at a.text.now)) in
    let b = b6.byte_of in
    laws.item_unknown a.text.now a.at b.result b.ensures b5.if-byte_of-eq35.false f.result _ t f.ensures c.in-Err.n c.in-Err.is
