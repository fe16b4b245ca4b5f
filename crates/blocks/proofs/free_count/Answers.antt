-- `blocks::free_count` meets its contract: the words counted are the first 64.
use Rattle.std.proofs.Common.{◌≡◌, ℕ, take, length, ap, ◌∙◌, arith}
use Prim.Native.Nat.{min}
use Rattle.std.proofs.lemmas.List.{take_min}
use Rattle.blocks.specs.FreeMap.{free_count}
use Rattle.blocks.proofs.free_count.Goals as goal

pub returns : goal.returns
returns c =
    let map = c.args.map.now in
    let e : c.min.result ≡ min 64 (length map) = omega arith in
    c.count_bits.ensures ∙ ap (λ (k : ℕ). free_count (take k map)) e ∙ ap free_count (take_min 64 map)
