use mathlib.Core.Path.{refl}
use native.Mathlib.Omega.{arith}
use lib.ListN.{replicate}
use Rattle.paper.proofs.Answering as laws
use Rattle.paper.proofs.to_bytes.Goals as goal

pub overflow_add-result : goal.overflow_add-result
overflow_add-result c =
    let b4 = c in
    let b8 = b4 in
    let a = b8.args in
    omega (
      arith,
      laws.place_within a.text.now a.out.now (replicate 256 0) c.in-Err.wrong b4.sum.result
          b4.sum.new.out c.in-Err.is b4.sum.ensures,
      b8.well_formed.0.0,
    )

pub returns-then-e-text : goal.returns-then-e-text
returns-then-e-text c =
    let b5 = c in
    let b9 = b5 in
    let a = b9.args in
    laws.text_over a.text.now a.out.now (replicate 256 0) c.in-Ok.e c.in-Ok.m b5.sum.result
    b5.sum.new.out c.in-Ok.is b5.sum.ensures c.if-e-text.true

pub returns-in-Err : goal.returns-in-Err
returns-in-Err c =
    let b4 = c in
    let b8 = b4 in
    let a = b8.args in
    laws.text_wrong a.text.now a.out.now (replicate 256 0) c.in-Err.wrong b4.sum.result
    b4.sum.new.out c.in-Err.is b4.sum.ensures

pub returns-else-e-text : goal.returns-else-e-text
returns-else-e-text c =
    let b5 = c in
    let b7 = b5 in
    let b10 = b7 in
    let b14 = b10 in
    let a = b14.args in
    laws.text_whole a.text.now a.out.now (replicate 256 0) b7.in-Ok.e b7.in-Ok.m b10.sum.result
    b10.sum.new.out b7.in-Ok.is b10.sum.ensures _ refl b5.if-e-text.false c.deliver.ensures
