-- THE SERVER IS THE MACHINE: each call of the server is a step of the machine of crates/model. Assumes nothing.
use Rattle.std.specs.Prelude.{◌≡◌, true}
use Rattle.session.specs.Reply.{told}
use Rattle.server.specs.declared.Server.{Server}
use Rattle.server.specs.State.{Lent}
use Rattle.history.specs.Good.{Good}
use Rattle.history.specs.Calls.{Call, call_of, Start, legal, History, after}
use Rattle.model.specs.State.{empty}
use Rattle.model.specs.Step.{step, run}
use Rattle.views.specs.View.{view}

-- a call answers, sends and leaves what the machine does
pub record Refines (sv : Server) (l : Lent) (c : Call) : Type 0 where
  pub told : told (call_of sv l c).done.answer (call_of sv l c).out ≡ (step (view sv l) c).told
  pub after : view (call_of sv l c).done.server (call_of sv l c).lent ≡ (step (view sv l) c).after

abbrev pub EveryCall : Type 0
EveryCall = (sv : Server) (l : Lent) → Good sv l → (c : Call) → Refines sv l c

-- after any calls from an empty store, the state stands for the machine after the same calls from its empty store
abbrev pub EveryHistory : Type 0
EveryHistory =
    (s : Start) → legal s ≡ true → (h : History)
    → view (after s h).server (after s h).lent ≡ run (empty s.blocks s.files s.sessions s.most) h
