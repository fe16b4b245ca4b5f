-- `stored::check` meets its contract. The scan of the contents says what the definition says, with as many bytes as are received and there.
use mathlib.Core.Path.{◌≡◌, sym, ◌∙◌, ap}
use Prim.Native.Nat.{ℕ, ◌+◌, ◌*◌}
use native.Mathlib.Omega.{arith}
use lib.ListN.{length}
use Rattle.blocks.specs.Owners.{blocks}
use Rattle.blocks.proofs.Owners.{blocks_le}
use Rattle.blocks.proofs.Answers.{disk_fits_law}
use Rattle.header.specs.Scan.{start_of, scan_from, scan_verdict}
use Rattle.header.specs.declared.scan.Scan.{Scan}
use Rattle.header.proofs.Written.{bytes_all}
use Rattle.header.proofs.Verdict.{verdict_scanned}
use Rattle.stored.specs.Answers.{file_at, check_at}
use Rattle.stored.proofs.Feeding.{cut, bytes_contents, short_contents}
use Rattle.stored.proofs.check.Goals as goal

pub overflow_mul-block_count : goal.overflow_mul-block_count
overflow_mul-block_count c =
    let a = c.args in
    let f = disk_fits_law (length a.disk.now) (length a.owner.now) a.place (sym c.sizes_fit.ensures ∙ c.if-not-sizes_fit.false) in
    omega (arith, c.block_count.ensures, blocks_le (a.place + 1) a.owner.now, f.most)

pub scan_file-s-requires : goal.scan_file-s-requires
scan_file-s-requires c =
    let a = c.args in
    let f = disk_fits_law (length a.disk.now) (length a.owner.now) a.place (sym c.sizes_fit.ensures ∙ c.if-not-sizes_fit.false) in
    (f.most, f.bytes, f.place_most)

pub returns : goal.returns
unfolding check_at
returns c =
    let s = c in
    let a = s.args in
    let t = sym s.sizes_fit.ensures ∙ c.if-not-sizes_fit.false in
    let f = disk_fits_law (length a.disk.now) (length a.owner.now) a.place t in
    let b = bytes_all a.disk.now (λ k. omega (arith, s.type_inv.disk k)) in
    let v = a.place + 1 in
    let n = c.min-n in
    let e = c.block_count.ensures in
    let m : 256 * c.block_count.result ≡ 256 * blocks (a.place + 1) a.owner.now = ap (λ (k : ℕ). 256 * k) e in
    let w = cut (a.place + 1) a.owner.now a.disk.now a.received n.result f.bytes (omega arith) (omega arith) (λ h. omega arith) in
    rw t (c.verdict_of.ensures ∙ ap (λ (z : Scan). scan_verdict z n.result a.announced) (c.scan_file-s.ensures ∙ ap (scan_from (start_of 18)) w.same)
    ∙ ap (λ (k : ℕ). scan_verdict (scan_from (start_of 18) (file_at a.disk.now a.owner.now a.place a.received)) k a.announced) (sym w.size)
    ∙ verdict_scanned 18 (file_at a.disk.now a.owner.now a.place a.received) (bytes_contents (a.place + 1) a.owner.now a.disk.now a.received b)
    (short_contents (a.place + 1) a.owner.now a.disk.now a.received f.most f.bytes) a.announced)
