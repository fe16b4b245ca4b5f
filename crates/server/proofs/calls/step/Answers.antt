use mathlib.Core.Path.{◌≡◌}
use mathlib.Core.List.{List}
use Prim.Native.Nat.{ℕ}
use Rattle.packet.specs.declared.frame.Framed.{Framed}
use Rattle.session.specs.declared.state.Session.{Session}
use Rattle.session.specs.declared.reply.Answer.{Answer}
use Rattle.session.specs.State.{with_held}
use Rattle.session.specs.Reply.{told, answered}
use Rattle.carry.specs.declared.turn.Turn.{Turn}
use Rattle.carry.specs.Turn.{mem, turned}
use Rattle.server.specs.declared.Server.{Server}
use Rattle.server.specs.State.{Lent, lent, outcome, done_with, link_of, with_turn}
use Rattle.server.specs.Turns.{heard_in, hear_of, act_of}
use Rattle.server.specs.Calls.{step_of, heard_by, answered_by}
use Rattle.server.proofs.calls.step.Goals as goal

pub act_on-turn-requires : goal.act_on-turn-requires
act_on-turn-requires c = c.requires.act

pub with_turn-next-requires : goal.with_turn-next-requires
with_turn-next-requires c = c.requires.act.session

pub shape_of-disk : goal.shape_of-disk
shape_of-disk c = c.disk-1.given

pub shape_of-map : goal.shape_of-map
shape_of-map c = c.map-1.given

pub shape_of-owner : goal.shape_of-owner
shape_of-owner c = c.owner-1.given

pub shape_of-table : goal.shape_of-table
shape_of-table c = c.table-1.given

pub shape_of-selected : goal.shape_of-selected
shape_of-selected c = c.selected-1.given

pub shape_of-held : goal.shape_of-held
shape_of-held c = c.hear-f.auto.held

pub shape_of-out : goal.shape_of-out
shape_of-out c = c.out-1.given

-- the parts of a step, one after the other, are the step
stepped : (sv next : Server) (i clock : ℕ) (input : List ℕ) (l : Lent) (out : List ℕ) (f : Framed) (held : List ℕ) (s : Session) (t : Turn) (disk map owner table selected : List ℕ) (a : Answer) (sent : List ℕ) → heard_in f held ≡ hear_of l.held i (link_of sv i).held input → s ≡ with_held (link_of sv i) f.held → turned t (mem disk map owner table selected) ≡ act_of sv i s f.frame clock f.info (mem l.disk l.map l.owner l.table l.selected) → next ≡ with_turn sv i t → told a sent ≡ answered t.reply f.taken out → outcome (done_with next a) (lent disk map owner table selected held) sent ≡ step_of sv i clock input l out
unfolding step_of heard_by answered_by
stepped sv next i clock input l out f held s t disk map owner table selected a sent heard with-held acted after told =
    rw (after, ← heard, ← rw with-held at acted, ← told)

pub returns : goal.returns
returns c = stepped _ _ _ _ _ _ _ _ _ _ _ _ _ _ _ _ _ _ c.hear-f.ensures c.with_held-t.ensures c.act_on-turn.ensures c.with_turn-next.ensures c.send-answer.ensures
