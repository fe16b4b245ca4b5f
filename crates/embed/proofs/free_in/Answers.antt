use native.Mathlib.Omega.{arith}
use mathlib.Core.Path.{sym, ap, ◌∙◌}
use Prim.Native.Nat.{ℕ}
use lib.Seq.{length-take-le}
use Rattle.embed.specs.Calls.{with_counts}
use Rattle.embed.proofs.Checked.{map_fits_law, free_part}
use Rattle.embed.proofs.free_in.Goals as goal

pub overflow_add-w : goal.overflow_add-w
overflow_add-w c = omega (arith, (map_fits_law _ _ c.requires.0).blocks)

pub slice_bounds-free_count-end : goal.slice_bounds-free_count-end
slice_bounds-free_count-end c = sym (length-take-le _ _ (map_fits_law _ _ c.requires.0).room)

pub write_counts-requires : goal.write_counts-requires
write_counts-requires c = c.requires.1

pub returns : goal.returns
returns c = let e = c in c.write_counts.ensures ∙ ap (λ (n : ℕ). with_counts n e.args.server.blocks e.args.counts.now) (c.free_count-free.ensures ∙ free_part e.args.server.blocks e.args.map.now (map_fits_law _ _ e.requires.0).blocks)
