-- A script's lines (document 01, "The script program"): what a line begins, and a step of it. Assumes nothing.
use Rattle.std.specs.Prelude.{cond, List, ◌++◌, ℕ, ltb, length, take, drop, replicate}
use Rattle.server.specs.declared.Server.{Server}
use Rattle.server.specs.State.{Lent, Outcome}
use Rattle.lines.specs.declared.commands.Command.{Command}
use Rattle.lines.specs.declared.commands.Command.TheVariants as command
use Rattle.lines.specs.Lines.{Printed}
use Rattle.script.specs.declared.doing.Doing.{Doing}
use Rattle.script.specs.declared.doing.Doing.TheVariants as doing
use Rattle.script.specs.declared.Day.{Day}
use Rattle.script.specs.declared.Stepped.{Stepped}
use Rattle.script.specs.Doing.{session_of, after_of}
use Rattle.script.specs.Calling.{call_of}
use Rattle.script.specs.Printing.{show_of}

abbrev pub day_of : Server → ℕ → Doing → Day
day_of sv clock doing = record { server = sv; clock = clock; doing = doing }

-- "`time` and a decimal clock, `open` and a session, `drop` and a session, `rx`, session and hex bytes"; an `rx` hands over its bytes from the
-- first on, by one call at least
unfoldable pub begin_of : Day → Command → Day
begin_of day command.Unreadable = day
begin_of day (command.Time clock) = day_of day.server clock doing.Rest
begin_of day (command.Open session) = day_of day.server day.clock (doing.Opening session)
begin_of day (command.Drop session) = day_of day.server day.clock (doing.Dropping session)
begin_of day (command.Rx session n) = day_of day.server day.clock (doing.Hearing session 0 n)

-- ---- a step

-- what a step answers and leaves
pub record Stepping : Type 0 where
  pub stepped : Stepped
  pub lent : Lent
  pub text : List ℕ

abbrev pub stepping : Stepped → Lent → List ℕ → Stepping
stepping s l text = record { stepped = s; lent = l; text = text }

abbrev pub stepped_to : Day → ℕ → Stepped
stepped_to day written = record { day = day; written = written }

-- the call's line is printed, and the script goes on
unfoldable pub prints_of : Day → ℕ → Outcome → Printed → Stepping
prints_of day size o p =
    stepping (stepped_to (day_of o.done.server day.clock (after_of day.doing o.done.answer size)) p.size) o.lent p.text

unfoldable pub answered_of : Day → ℕ → List ℕ → Outcome → Stepping
answered_of day size text o = prints_of day size o (show_of (session_of day.doing) o.done.answer o.out text)

-- one call of the server, with room for one packet
unfoldable pub turn_of : Day → Lent → List ℕ → List ℕ → Stepping
turn_of day l bytes text = answered_of day (length bytes) text (call_of day.server day.clock day.doing bytes l (replicate 258 0))

-- nothing happens where the text is shorter than any line can be
unfoldable pub step_of : Day → Lent → List ℕ → List ℕ → Stepping
step_of day l bytes text = cond (ltb (length text) 560) (stepping (stepped_to day 0) l text) (turn_of day l bytes text)

-- ---- a step in a text in which something stands already: it is printed behind that

-- a place, cut to the text
abbrev pub place_in : ℕ → List ℕ → ℕ
place_in at text = cond (ltb at (length text)) at (length text)

-- what stands before the place stays
abbrev pub behind : ℕ → List ℕ → Stepping → Stepping
behind at text s = stepping s.stepped s.lent (take at text ++ s.text)

unfoldable pub step_behind : ℕ → Day → Lent → List ℕ → List ℕ → Stepping
step_behind at day l bytes text = behind (place_in at text) text (step_of day l bytes (drop (place_in at text) text))
