-- `blocks::word_of` meets its contract. The invariant: the word reached is that of the blocks from the one reached on.
use Rattle.std.proofs.Common.{◌≡◌, ℕ, ◌+◌, ◌*◌, ◌-◌, ◌<◌, ◌^◌, List, drop, refl, ◌∙◌, arith}
use mathlib.Core.Path.{ap₂}
use Rattle.blocks.specs.Owners.{word_of}
use Rattle.blocks.proofs.Steps.{word_start, word_down, word_fits}
use Rattle.blocks.proofs.word_of.Goals as goal

-- the word of one block more, and that it is a 64-bit number
record Down (w bit : ℕ) (owner : List ℕ) (e b : ℕ) : Type 0 where
  word : bit + 2 * w ≡ word_of (e - b) (drop b owner)
  small : bit + 2 * w < 2 ^ 64

down : (c : goal.After-free_bit) → Down c.loop-b.w c.free_bit.result c.args.owner.now (64 * c.args.i + 64) (c.loop-b.b - 1)
down c =
    let l = c.loop-b in
    let o = c.args.owner.now in
    let e = 64 * c.args.i + 64 in
    let d = word_down o e l.b (omega arith) (omega arith) (omega arith) in
    let f = word_fits (e - (l.b - 1)) (drop (l.b - 1) o) (omega arith) in
    record { word = omega arith; small = omega arith }

pub loop-b-init : goal.loop-b-init
loop-b-init c =
    let e = c.part_end-end.ensures in
    (refl, omega arith, word_start c.args.owner.now (64 * c.args.i + 64) c.part_end-end.result e.2 e.3)

pub overflow_mul-w : goal.overflow_mul-w
overflow_mul-w c = omega (arith, (down c).small)

pub overflow_add-w : goal.overflow_add-w
overflow_add-w c = omega (arith, (down c).small)

pub loop-b-preserved : goal.loop-b-preserved
loop-b-preserved c = (refl, omega arith, (down c).word)

pub returns : goal.returns
returns c =
    let l = c.loop-b in
    let a = c.args in
    let e : l.b ≡ 64 * a.i = omega arith in
    let z : 64 * a.i + 64 - l.b ≡ 64 = omega arith in
    l.invariant.2 ∙ ap₂ (λ (k m : ℕ). word_of k (drop m a.owner.now)) z e
