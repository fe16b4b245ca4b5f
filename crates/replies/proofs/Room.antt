-- No reply is longer than 4,096 bytes. Assumes nothing.
use native.Mathlib.Omega.{arith}
use mathlib.Core.Path.{◌≡◌}
use mathlib.Core.Bool.{Bool, true, false, cond}
use mathlib.Core.List.{List}
use mathlib.Core.Option.{Option, none, some}
use Prim.Native.Nat.{ℕ, ◌≤◌, ◌<◌}
use lib.Dec.{leb}
use lib.ListN.{length, drop, length-drop}
use Rattle.packet.specs.Names.{bytes_of}
use Rattle.lines.specs.Numerals.{is_hex, bytes_in}
use Rattle.names.specs.Names.{begins_with}
use Rattle.grammar.specs.Machine.{outcome_of}
use Rattle.back.specs.Answer.{written_of}
use Rattle.replies.specs.Reply.{said_of, told_by, room, hex_reply, replies_to}
use Rattle.replies.proofs.SaidLaws.{said_fits, told_fits}

-- a reply, where there is one, has at most 4,096 bytes
Short : Option (List ℕ) → Type 0
Short none = Unit {0}
Short (some line) = length line ≤ 4096

short_cond : (t : Bool) (a b : Option (List ℕ)) → Short a → Short b → Short (cond t a b)
short_cond true a b h i = h
short_cond false a b h i = i

short_hex : (field : List ℕ) → Short (hex_reply field)
unfolding Short hex_reply
short_hex field =
    short_cond (is_hex field) _ none
    (short_cond (leb (length (bytes_in field)) 65536) (some (told_by (written_of (bytes_in field) room))) none (told_fits (bytes_in field)) tt) tt

short_reply : (line : List ℕ) → length line < 9223372036854775808 → Short (replies_to line)
unfolding Short replies_to
short_reply line h =
    short_cond (begins_with (bytes_of "text\t") line) (some (said_of (outcome_of (drop 5 line)))) _
    (said_fits (drop 5 line) (omega (arith, h, length-drop 5 line)))
    (short_cond (begins_with (bytes_of "bytes\t") line) (hex_reply (drop 6 line)) none (short_hex (drop 6 line)) tt)

pub reply_most : (line reply : List ℕ) → length line < 9223372036854775808 → replies_to line ≡ some reply → length reply ≤ 4096
unfolding Short
reply_most line reply h e = by (replies_to line) (short_reply line h) e
  where
    by : (o : Option (List ℕ)) → Short o → o ≡ some reply → length reply ≤ 4096
    by none s f = let z : ◌≡◌ {A = ℕ} 0 1 = cc in absurd (omega arith)
    by (some line0) s f = let z : line0 ≡ reply = cc in rw (← z) s
