-- No reply is longer than 8,192 bytes. Assumes nothing.
use Rattle.std.proofs.Common.{None, Some}
use Rattle.std.proofs.Common as std
use native.Mathlib.Omega.{arith}
use mathlib.Core.Path.{◌≡◌, refl}
use mathlib.Core.Bool.{Bool, true, false, cond}
use mathlib.Core.List.{List}
use mathlib.Core.Option.{Option, none, some}
use Prim.Native.Nat.{ℕ, ◌+◌, ◌≤◌, ◌<◌}
use lib.Dec.{eqb, ltb, leb}
use lib.ListN.{length, drop, get_or, length-drop}
use borrow.Author.Tests.{leb-true}
use Rattle.packet.specs.Names.{bytes_of}
use Rattle.lines.specs.Numerals.{digits, value_from, decimal_by, decimal_at, is_hex, bytes_in}
use Rattle.names.specs.Names.{begins_with}
use Rattle.words.specs.Why.{told_by, why_line, hex_told, tabbed, text_reply, hex_reply, reply_by, ask_in, why_reply}
use Rattle.words.proofs.Room.{why_fits, paper_fits}

-- ---- a number that was read has 32 bits

Within : std.Option (ℕ × ℕ) → Type 0
Within None = Unit {0}
Within (Some (v, next)) = v < 4294967296

within_decimal : (line : List ℕ) (at : ℕ) → Within (decimal_at line at)
unfolding Within decimal_at decimal_by
within_decimal line at = by (ltb 0 (length (digits (drop at line)))) (leb (value_from 0 (digits (drop at line))) 4294967295) refl
  where
    by : (s t : Bool) → leb (value_from 0 (digits (drop at line))) 4294967295 ≡ t
        → Within (cond s (cond t (Some (value_from 0 (digits (drop at line)), at + length (digits (drop at line)))) None) None)
    by true true e = omega (arith, leb-true (value_from 0 (digits (drop at line))) 4294967295 e)
    by true false e = tt
    by false t e = tt

within_tabbed : (d : std.Option (ℕ × ℕ)) (line : List ℕ) → Within d → Within (tabbed d line)
unfolding Within tabbed
within_tabbed None line h = tt
within_tabbed (Some (v, next)) line h = by (eqb (get_or line next 0) 9)
  where
    by : (t : Bool) → Within (cond t (Some (v, next + 1)) None)
    by true = h
    by false = tt

-- ---- a reply, where there is one

Short : Option (List ℕ) → Type 0
Short none = Unit {0}
Short (some line) = length line ≤ 8192

short_cond : (t : Bool) (a b : Option (List ℕ)) → Short a → Short b → Short (cond t a b)
short_cond true a b h i = h
short_cond false a b h i = i

module _ (disk owner table : List ℕ) (most : ℕ) (line : List ℕ) (h : length line < 9223372036854775808) where
  short_text : (d : std.Option (ℕ × ℕ)) → Within d → Short (text_reply (ask_in disk owner table most) line d)
  unfolding Short Within text_reply
  short_text None w = tt
  short_text (Some (number, at)) w = paper_fits disk owner table most number w (drop at line) (omega (arith, h, length-drop at line))

  short_hex : (d : std.Option (ℕ × ℕ)) → Within d → Short (hex_reply (ask_in disk owner table most) line d)
  unfolding Short Within hex_reply hex_told
  short_hex None w = tt
  short_hex (Some (number, at)) w =
      short_cond (is_hex (drop at line)) _ none
      (short_cond (leb (length (bytes_in (drop at line))) 65536)
      (some (why_line number (told_by (ask_in disk owner table most number (bytes_in (drop at line)))))) none
      (why_fits disk owner table most number w (bytes_in (drop at line))) tt) tt

  short_reply : Short (why_reply disk owner table most line)
  unfolding Short reply_by
  short_reply =
      short_cond (begins_with (bytes_of "why\t") line) (text_reply (ask_in disk owner table most) line (tabbed (decimal_at line 4) line)) _
      (short_text (tabbed (decimal_at line 4) line) (within_tabbed (decimal_at line 4) line (within_decimal line 4)))
      (short_cond (begins_with (bytes_of "why-bytes\t") line) (hex_reply (ask_in disk owner table most) line (tabbed (decimal_at line 10) line)) none
      (short_hex (tabbed (decimal_at line 10) line) (within_tabbed (decimal_at line 10) line (within_decimal line 10))) tt)

pub reply_most : (disk owner table : List ℕ) (most : ℕ) (line reply : List ℕ) → length line < 9223372036854775808
    → why_reply disk owner table most line ≡ some reply → length reply ≤ 8192
unfolding Short
reply_most disk owner table most line reply h e = by (why_reply disk owner table most line) (short_reply disk owner table most line h) e
  where
    by : (o : Option (List ℕ)) → Short o → o ≡ some reply → length reply ≤ 8192
    by none s f = let z : ◌≡◌ {A = ℕ} 0 1 = cc in absurd (omega arith)
    by (some line0) s f = let z : line0 ≡ reply = cc in rw (← z) s
