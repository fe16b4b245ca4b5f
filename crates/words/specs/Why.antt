-- The lines of `why` and `why-bytes`: "`why` TAB file number TAB an equation as on paper (the rest of the line, tabs included); `why-bytes` TAB file number
-- TAB hex" is read, and "one of: `why` TAB number TAB `matched` TAB relation numbers, each a field; .. TAB `unmatched` TAB relation numbers; .. TAB `beyond`
-- TAB how many older files matched TAB relation numbers; .. TAB `refused` TAB `33` (why-bytes above 2,047 bytes), `8`, `4` or `11`, in this order; .. TAB
-- `wrong` TAB place TAB reason (the equation is judged first); .. TAB `refused` TAB `bytes`" is printed. TAB is 9, the newline 10. Assumes nothing.
use Rattle.std.specs.Prelude.{Bool, cond, List, [], ◌∷◌, ◌++◌, ℕ, ◌+◌, eqb, leb, length, take, drop, replicate, get_or, None, Some, Result, Ok, Err}
use Rattle.std.specs.Prelude as std
use Rattle.std.proofs.Math.Option.{Option, none, some}
use Rattle.packet.specs.Names.{bytes_of}
use Rattle.lines.specs.Numerals.{decimal_at, is_hex, bytes_in}
use Rattle.lines.specs.Text.{decimal_of}
use Rattle.names.specs.Names.{begins_with}
use Rattle.grammar.specs.Formula.{postfix}
use Rattle.grammar.specs.Machine.{Outcome, accepted, refused, outcome_of}
use Rattle.replies.specs.Reply.{said_of, refused_line}
use Rattle.why.specs.declared.Explained.{Explained}
use Rattle.why.specs.Answer.{Whys, why_of}

-- ---- the printed line

-- "relation numbers, each a field"
unfoldable pub number_fields : List ℕ → List ℕ
number_fields [] = []
number_fields (k ∷ ks) = (9 ∷ decimal_of k) ++ number_fields ks

-- "`matched` ..; `unmatched` ..; `beyond` TAB how many older files matched"
unfoldable pub outcome_word : Explained → List ℕ
outcome_word w = cond w.beyond (bytes_of "beyond\t" ++ decimal_of w.older) (cond w.matched (bytes_of "matched") (bytes_of "unmatched"))

-- what stands behind the file's number
unfoldable pub told_of : Result Explained ℕ → List ℕ → List ℕ
told_of (Ok w) named = outcome_word w ++ (number_fields (take w.count named) ++ (10 ∷ []))
told_of (Err n) named = refused_line (decimal_of n)

abbrev pub told_by : Whys → List ℕ
told_by w = told_of w.answer w.named

-- "`why` TAB number TAB .."
unfoldable pub why_line : ℕ → List ℕ → List ℕ
why_line number rest = bytes_of "why\t" ++ (decimal_of number ++ (9 ∷ rest))

-- ---- what is printed for a line; `ask` is the answer for an equation's bytes

-- "the equation is judged first": one that is not turned into bytes has the line that the program `equations` prints for it
unfoldable pub paper_told : (List ℕ → Whys) → Outcome → List ℕ
paper_told ask (accepted f) = cond (leb (length (postfix f)) 256) (told_by (ask (postfix f))) (said_of (accepted f))
paper_told ask (refused p reason) = said_of (refused p reason)

-- a field of hex, of at most 65,536 bytes; no line has more. Nothing, where it is none
unfoldable pub hex_told : (List ℕ → Whys) → ℕ → List ℕ → Option (List ℕ)
hex_told ask number field =
    cond (is_hex field) (cond (leb (length (bytes_in field)) 65536) (some (why_line number (told_by (ask (bytes_in field))))) none) none

-- a number that a tab follows, with the place behind the tab
unfoldable pub tabbed : std.Option (ℕ × ℕ) → List ℕ → std.Option (ℕ × ℕ)
tabbed None line = None
tabbed (Some (v, next)) line = cond (eqb (get_or line next 0) 9) (Some (v, next + 1)) None

abbrev pub Asking : Type 0
Asking = ℕ → List ℕ → Whys

unfoldable pub text_reply : Asking → List ℕ → std.Option (ℕ × ℕ) → Option (List ℕ)
text_reply ask line None = none
text_reply ask line (Some (number, at)) = some (why_line number (paper_told (ask number) (outcome_of (drop at line))))

unfoldable pub hex_reply : Asking → List ℕ → std.Option (ℕ × ℕ) → Option (List ℕ)
hex_reply ask line None = none
hex_reply ask line (Some (number, at)) = hex_told (ask number) number (drop at line)

-- nothing, where the line is none of the two or can't be read
unfoldable pub reply_by : Asking → List ℕ → Option (List ℕ)
reply_by ask line =
    cond (begins_with (bytes_of "why\t") line) (text_reply ask line (tabbed (decimal_at line 4) line))
    (cond (begins_with (bytes_of "why-bytes\t") line) (hex_reply ask line (tabbed (decimal_at line 10) line)) none)

-- ---- of a store

-- an equation of 2,047 bytes has at most 511 relations
abbrev pub room : List ℕ
room = replicate 511 0

abbrev pub ask_in : List ℕ → List ℕ → List ℕ → ℕ → Asking
ask_in disk owner table most number eq = why_of eq number disk owner table most room

abbrev pub why_reply : List ℕ → List ℕ → List ℕ → ℕ → List ℕ → Option (List ℕ)
why_reply disk owner table most line = reply_by (ask_in disk owner table most) line
