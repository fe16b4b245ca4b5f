-- The steps of a line, one after the other, and what they print (document 01, "The script program"). Assumes nothing.
use Rattle.std.specs.Prelude.{true, false, List, [], ◌++◌, ℕ, zero, suc, take, replicate}
use Rattle.server.specs.State.{Lent}
use Rattle.script.specs.declared.Day.{Day}
use Rattle.script.specs.Doing.{rests_of}
use Rattle.script.specs.Day.{Stepping, step_of}

-- the script after some steps, what is lent, and what was printed
pub record Ran : Type 0 where
  pub day : Day
  pub lent : Lent
  pub printed : List ℕ

abbrev pub ran : Day → Lent → List ℕ → Ran
ran day l printed = record { day = day; lent = l; printed = printed }

-- what a step printed stands before what the further ones print
abbrev pub printing : Stepping → Ran → Ran
printing s r = ran r.day r.lent (take s.stepped.written s.text ++ r.printed)

-- a text with room for any line
abbrev pub room : List ℕ
room = replicate 560 0

-- at most k steps, until the script rests; `elim` lets a computed example stop there
unfoldable pub line_of : ℕ → Day → Lent → List ℕ → Ran
line_of zero day l bytes = ran day l []
line_of (suc k) day l bytes =
    elim (rests_of day.doing) [
      | true ↦ ran day l []
      | false ↦ printing (step_of day l bytes room) (line_of k (step_of day l bytes room).stepped.day (step_of day l bytes room).lent bytes)
    ]
