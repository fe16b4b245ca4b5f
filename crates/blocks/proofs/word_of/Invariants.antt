use Rattle.std.proofs.Common.{◌≡◌, ◌+◌, ◌-◌, ◌≤◌, ◌*◌, drop}
use Rattle.blocks.specs.Owners.{word_of}
use Rattle.blocks.proofs.word_of.Given as goal

abbrev pub invariant-loop-b : goal.invariant-loop-b
invariant-loop-b l = (l.start ≡ 64 * l.i) × (l.start ≤ l.b) × (l.w ≡ word_of (l.start + 64 - l.b) (drop l.b l.owner))
