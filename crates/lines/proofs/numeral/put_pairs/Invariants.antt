use Rattle.std.proofs.Common.{◌≡◌, ◌+◌, ◌-◌, ◌≤◌, true, length, drop}
use lib.Seq.{sets}
use Rattle.lines.specs.Numerals.{is_hex, bytes_in}
use Rattle.lines.proofs.numeral.put_pairs.Given as goal

abbrev pub invariant-loop-i : goal.invariant-loop-i
invariant-loop-i l =
    (is_hex (drop l.i l.line) ≡ true)
    × (length l.bytes ≡ length l.initial.bytes)
    × (l.k + length (bytes_in (drop l.i l.line)) ≤ length l.initial.bytes)
    × (sets l.bytes l.k (bytes_in (drop l.i l.line)) ≡ sets l.initial.bytes 0 (bytes_in (drop l.at l.line)))

abbrev pub decreases-loop-i : goal.decreases-loop-i
decreases-loop-i l = length l.line - l.i
