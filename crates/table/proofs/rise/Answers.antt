-- `table::rise` meets its contract. The invariant is `Down`, on the numbers or the times of the records.
use Rattle.std.proofs.Common.{◌≡◌, ℕ, ◌-◌, List, length, sym, ap, ◌∙◌, subst, arith}
use lib.ListN.{length-map}
use Rattle.table.specs.declared.File.{File}
use Rattle.table.specs.declared.Key.{Key}
use Rattle.table.specs.Table.{files, key_of, keys}
use Rattle.table.proofs.Fitting.{Down, down_start, down_lower}
use Rattle.table.proofs.Records.{key_at}
use Rattle.table.proofs.rise.Goals as goal

start : (key : Key) (fs : List File) (n low : ℕ) → n ≡ length fs → Down (keys key fs) n low
start key fs n low e = subst (λ (k : ℕ). Down (keys key fs) k low) (length-map fs (key_of key) ∙ sym e) (down_start (keys key fs) low)

pub loop-at-init : goal.loop-at-init
loop-at-init c = start c.args.key (files c.args.table.now) c.places-at.result 4294967295 c.places-at.ensures

pub loop-at-preserved : goal.loop-at-preserved
loop-at-preserved c =
    let l = c.loop-at in
    let a = c.args in
    let k = c.key_of-value.ensures ∙ ap (key_of a.key) c.get.ensures ∙ sym (key_at a.key (files a.table.now) (l.at - 1)) in
    down_lower (keys a.key (files a.table.now)) l.at l.low l.invariant (l.at - 1) (omega (arith, c.loop-at-test.true)) c.key_of-value.result c.lower-low.result k c.if-low-value.false c.lower-low.ensures
