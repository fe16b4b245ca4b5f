use Prim.Native.Nat.{◌≤◌, ◌<◌, ◌-◌}
use mathlib.Core.Path.{◌≡◌}
use lib.ListN.{length, drop}
use Rattle.packet.specs.Feed.{feed_of, fed_more}
use Rattle.packet.proofs.frame.feed.Given as goal

abbrev pub invariant-loop-i : goal.invariant-loop-i
invariant-loop-i l = (l.n < 258) × (l.i ≤ length l.input) × (length l.part ≡ 258) × (feed_of l.initial.part l.held l.input ≡ fed_more l.i (feed_of l.part l.n (drop l.i l.input)))

abbrev pub decreases-loop-i : goal.decreases-loop-i
decreases-loop-i l = length l.input - l.i
