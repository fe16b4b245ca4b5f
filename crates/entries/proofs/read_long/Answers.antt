-- `entries::read_long` meets its contract.
use mathlib.Core.Path.{ap, ◌∙◌}
use mathlib.Core.List.{List, ◌++◌}
use Prim.Native.Nat.{ℕ}
use lib.ListN.{length, drop}
use Rattle.entries.specs.Reading.{least_of, read_front}
use Rattle.entries.proofs.ReadingLaws.{least_is_min}
use Rattle.entries.proofs.read_long.Goals as goal

pub returns : goal.returns
returns c =
    let b = c in
    let a = b.args in
    let n = b.min-n.ensures ∙ least_is_min _ _ ∙ ap (λ (k : ℕ). least_of k (length a.out.now)) b.saturating_sub.ensures in
    ap (λ (x : List ℕ). x ++ drop b.min-n.result a.out.now) c.read.ensures.out_after
    ∙ ap (λ (k : ℕ). read_front a.disk.now a.owner.now a.place a.skip k a.out.now) n
