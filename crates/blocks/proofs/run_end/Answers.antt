-- `blocks::run_end` meets its contract. The run goes on from its first block by single blocks, by parts and by single blocks again.
use Prim.Native.Nat.{◌+◌}
use mathlib.Core.Path.{refl}
use native.Mathlib.Omega.{arith}
use lib.ListN.{get_or}
use Rattle.blocks.proofs.Parts.{run_one, run_join}
use Rattle.blocks.proofs.run_end.Goals as goal

pub returns-then-b-soon : goal.returns-then-b-soon
returns-then-b-soon c =
    let a = c.args in
    let o = a.owner.now in
    let s = c.scan_other-b in
    let e = c.part_end-soon in
    (omega (arith, s.ensures.0), omega (arith, s.ensures.1, e.ensures.1), run_join o (get_or o a.from 0) a.from (a.from + 1) s.result (omega arith) s.ensures.0 (run_one o (get_or o a.from 0) a.from c.requires refl) s.ensures.2)

pub returns : goal.returns
returns c =
    let a = c.args in
    let o = a.owner.now in
    let s = c.scan_other-b in
    let p = c.pass_whole in
    let r = c.scan_other in
    let v = get_or o a.from 0 in
    let m = run_join o v a.from (a.from + 1) s.result (omega arith) s.ensures.0 (run_one o v a.from c.requires refl) s.ensures.2 in
    let w = run_join o v a.from s.result p.result (omega (arith, s.ensures.0)) p.ensures.0 m p.ensures.2 in
    (omega (arith, s.ensures.0, p.ensures.0, r.ensures.0), r.ensures.1, run_join o v a.from p.result r.result (omega (arith, s.ensures.0, p.ensures.0)) r.ensures.0 w r.ensures.2)
