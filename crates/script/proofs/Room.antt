-- No line is lost: a text of 560 bytes has room for any line that a step prints. Assumes nothing.
use native.Mathlib.Omega.{arith}
use mathlib.Core.Path.{◌≡◌, refl}
use mathlib.Core.List.{List, ◌++◌}
use Prim.Native.Nat.{ℕ, ◌≤◌, ◌<◌}
use lib.ListN.{length, take, drop}
use Rattle.session.specs.declared.reply.Answer.{Answer}
use Rattle.session.specs.declared.reply.Answer.TheVariants as answer
use Rattle.lines.specs.Lines.{printed}
use Rattle.lines.proofs.LineLaws.{packet_most, closed_most, refused_most}
use Rattle.input.proofs.Places.{printed_all}
use Rattle.script.specs.Printing.{line_for, show_of}

-- a session number has 32 bits, and a refusal's number 8
pub line_most : (session : ℕ) (a : Answer) (out : List ℕ) → session < 4294967296 → ((number : ℕ) → a ≡ answer.Refused number → number < 256)
    → length (line_for session a out) ≤ 560
unfolding line_for
line_most session (answer.Quiet taken) out p q = omega arith
line_most session (answer.Sent taken size) out p q = omega (arith, packet_most session (take size out) p)
line_most session (answer.Closed taken) out p q = omega (arith, closed_most session p)
line_most session (answer.Refused number) out p q = omega (arith, refused_most session number p (q number refl))

-- a step prints the whole line of its answer
pub shown_whole : (session : ℕ) (a : Answer) (out text : List ℕ) → session < 4294967296
    → ((number : ℕ) → a ≡ answer.Refused number → number < 256) → 560 ≤ length text
    → show_of session a out text ≡ printed (length (line_for session a out)) (line_for session a out ++ drop (length (line_for session a out)) text)
unfolding show_of
shown_whole session a out text p q r = printed_all (line_for session a out) text (omega (arith, r, line_most session a out p q))
