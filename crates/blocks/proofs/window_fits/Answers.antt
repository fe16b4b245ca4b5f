-- `blocks::window_fits` meets its contract: as many bytes as 4,096 blocks have can be counted.
use Rattle.std.proofs.Common.{◌+◌, length, sym, ◌∙◌, arith}
use Rattle.blocks.proofs.Owners.{blocks_le}
use Rattle.blocks.proofs.Answers.{disk_fits_law}
use Rattle.blocks.proofs.window_fits.Goals as goal

pub overflow_mul-most : goal.overflow_mul-most
overflow_mul-most c =
    let a = c.args in
    let f = disk_fits_law a.size (length a.owner.now) a.place (sym c.disk_fits.ensures ∙ c.if-not-disk_fits.false) in
    omega (arith, c.count_of-most.ensures, blocks_le (a.place + 1) a.owner.now, f.most)
