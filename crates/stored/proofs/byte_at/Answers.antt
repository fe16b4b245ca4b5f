-- `stored::byte_at` meets its contract. The block of the byte is the file's, so it is on the disk.
use native.Mathlib.Omega.{arith}
use Rattle.stored.proofs.CursorLaws.{block_there, byte_there}
use Rattle.stored.proofs.byte_at.Goals as goal

pub moved-block-requires : goal.moved-block-requires
moved-block-requires c = let p = c.requires in (p.0.few, p.1)

pub overflow_mul-result : goal.overflow_mul-result
overflow_mul-result c =
    let a = c.args in
    let p = c.requires in
    let m = c.moved-block in
    omega (arith, block_there a.disk.now a.owner.now a.place a.n p.0 a.at m.result.block p.2 m.ensures.1)

pub overflow_add-result : goal.overflow_add-result
overflow_add-result c =
    let a = c.args in
    let p = c.requires in
    let m = c.moved-block in
    omega (arith, block_there a.disk.now a.owner.now a.place a.n p.0 a.at m.result.block p.2 m.ensures.1)

pub bounds-disk-block : goal.bounds-disk-block
bounds-disk-block c =
    let a = c.args in
    let p = c.requires in
    let m = c.moved-block in
    omega (arith, block_there a.disk.now a.owner.now a.place a.n p.0 a.at m.result.block p.2 m.ensures.1)

pub returns : goal.returns
returns c =
    let a = c.args in
    let p = c.requires in
    let m = c.moved-block in
    byte_there a.disk.now a.owner.now a.place a.n p.0 a.at m.result.block p.2 m.ensures.1
