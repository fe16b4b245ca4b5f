-- WHAT A DRIVER SEES: the calls that it makes, and what each of them answers. Nothing here is of the server's state, so what is defined of a transcript
-- is told by the calls and their answers alone. Assumes nothing.
use Rattle.std.specs.Prelude.{List, ℕ, ◌-◌}
use Rattle.calls.specs.Call.{Call, History, start, ◌▸◌}
use Rattle.session.specs.Reply.{Told}
use Rattle.model.specs.State.{Model}
use Rattle.model.specs.Step.{step, run}
use Rattle.steps.specs.Parts.{session_in, sent_by}

-- a call, and what it is told: the answer, and the whole output afterwards
pub record Exchange : Type 0 where
  pub call : Call
  pub told : Told

abbrev pub exchange : Call → Told → Exchange
exchange c t = record { call = c; told = t }

-- the session of a call, counted from 0
abbrev pub session_of : Call → ℕ
session_of c = session_in c - 1

-- the packet that a call sent, no byte where it sent none
abbrev pub sent_in : Exchange → List ℕ
sent_in x = sent_by x.told.answer x.told.out

-- one after the other: `t ▹ x` is the transcript t and then the exchange x
infixl 20 ◌▹◌
pub data Transcript : Type 0 where
  blank : Transcript
  ◌▹◌ : Transcript → Exchange → Transcript

-- what the machine answers in a state; and the transcript of a history from a state on
abbrev pub exchanged : Model → Call → Exchange
exchanged m c = exchange c (step m c).told

unfoldable pub transcript : Model → History → Transcript
transcript m start = blank
transcript m (h ▸ c) = transcript m h ▹ exchanged (run m h) c
