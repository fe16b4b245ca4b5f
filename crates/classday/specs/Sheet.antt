-- All that `classday` prints for a script: as `passday` (Rattle.script.specs.Sheet), and a line for each line of `why` and `why-bytes`. Assumes nothing.
use Rattle.std.specs.Prelude.{ℕ, ◌*◌, List, ◌++◌, length, take, drop}
use Rattle.std.proofs.Math.Option.{Option, none, some}
use Rattle.server.specs.declared.Server.{Server}
use Rattle.server.specs.State.{Lent}
use Rattle.history.specs.Calls.{Start}
use Rattle.script.specs.declared.Day.{Day}
use Rattle.script.specs.Line.{Ran, ran}
use Rattle.pass.specs.Sheets.{More, sheet_by}
use Rattle.input.specs.Parts.{least_of}
use Rattle.replies.specs.Reply.{Replies, replies, replied}
use Rattle.words.specs.Why.{why_reply}

-- a line that only prints: the script and the store stay as they are
unfoldable pub only_prints : Day → Lent → Option (List ℕ) → Option Ran
only_prints day l none = none
only_prints day l (some line) = some (ran day l line)

-- what a line of the words that passday does not know prints: the store that is asked is the server's, of its blocks and file places, and MAXSEL is its
-- own; nothing, where the line can't be read
abbrev pub prints_at : Server → List ℕ → List ℕ → List ℕ → List ℕ → Option (List ℕ)
prints_at sv disk owner table line = why_reply disk (take sv.blocks owner) (take (4 * sv.files) table) sv.most line

unfoldable pub class_words : More
class_words day l line = only_prints day l (prints_at day.server l.disk l.owner l.table line)

-- THE SHEET of a class
unfoldable pub class_sheet_of : Start → List ℕ → List ℕ
class_sheet_of s script = sheet_by class_words s script

-- ---- a reply in a text in which something stands already: it is printed behind that

abbrev pub behind : ℕ → List ℕ → Replies → Replies
behind at text r = replies r.reply (take at text ++ r.text)

abbrev pub reply_behind : ℕ → Option (List ℕ) → List ℕ → Replies
reply_behind at reply text = behind (least_of at (length text)) text (replied reply (drop (least_of at (length text)) text))
