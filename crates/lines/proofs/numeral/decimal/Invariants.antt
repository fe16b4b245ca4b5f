use Rattle.std.proofs.Common.{◌≡◌, ◌+◌, ◌≤◌, max, length, drop}
use Rattle.lines.specs.Numerals.{digits, decimal_by}
use Rattle.lines.proofs.numeral.decimal.Given as goal

abbrev pub invariant-loop-i : goal.invariant-loop-i
invariant-loop-i l =
    record {
      within : l.i ≤ max l.at (length l.line);
      fits : l.value ≤ 4294967295;
      count : l.i + length (digits (drop l.i l.line)) ≡ l.at + length (digits (drop l.at l.line));
      same : decimal_by l.value l.i (digits (drop l.i l.line)) ≡ decimal_by 0 l.at (digits (drop l.at l.line));
    }
