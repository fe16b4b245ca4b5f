-- What a turn of a session leaves is what the machine's does: the frame of the proof for each packet, and the acts that leave the files alone.
use mathlib.Core.Path.{◌≡◌, refl, sym, ap, ◌∙◌}
use mathlib.Core.Bool.{Bool, true, false, cond}
use mathlib.Core.List.{List, []}
use mathlib.Core.Option.{Option}
use Prim.Native.Nat.{ℕ, ◌*◌, ◌≤◌, ◌<◌}
use lib.ListN.{length}
use Rattle.packet.specs.Frame.{padded}
use Rattle.session.specs.declared.state.Session.{Session}
use Rattle.session.specs.declared.reply.Reply.{Reply}
use Rattle.session.specs.declared.reply.Reply.TheVariants as reply
use Rattle.session.specs.State.{with_held}
use Rattle.table.specs.declared.File as table
use Rattle.table.specs.Table.{files}
use Rattle.decide.specs.declared.act.Act.{Act}
use Rattle.decide.specs.declared.act.Act.TheVariants as act
use Rattle.carry.specs.Turn.{turn_of, turned}
use Rattle.carry.specs.Download as download
use Rattle.carry.specs.Carry.{on_chooses, carry_out}
use Rattle.server.specs.declared.Server.{Server}
use Rattle.server.specs.State.{Lent, link_of, part, table_part}
use Rattle.acts.specs.Change.{Files}
use Rattle.history.specs.Good.{Good}
use Rattle.history.specs.Stored.{files_of}
use Rattle.model.specs.State as model
use Rattle.model.specs.State.{File, Model, in_session, Turn, turn, closing}
use Rattle.views.specs.View.{numbered, open_from, view}
use Rattle.views.proofs.Views.{open_from_law, open_view}
use Rattle.refines.proofs.Turns.{mk, parts, turn_view, set_mk, with_mk}

-- a good state in which a packet of an open session is whole: `part` is the session's part of the unfinished packets, of which it holds no byte
pub record Here : Type 0 where
  pub sv : Server
  pub l : Lent
  pub good : Good sv l
  pub i : ℕ
  pub inside : i < sv.sessions
  pub linked : (link_of sv i).linked ≡ true
  pub part : List ℕ
  pub clock : ℕ
  pub info : List ℕ
  pub short : length info ≤ 256

module _ (c : Here) where
  abbrev pub sv : Server
  sv = c.sv

  abbrev pub l : Lent
  l = c.l

  abbrev pub g : Good c.sv c.l
  g = c.good

  abbrev i : ℕ
  i = c.i

  abbrev p : List ℕ
  p = c.part

  abbrev clock : ℕ
  clock = c.clock

  abbrev info : List ℕ
  info = c.info

  abbrev inside : c.i < c.sv.sessions
  inside = c.inside

  abbrev linked : (link_of c.sv c.i).linked ≡ true
  linked = c.linked

  abbrev pub F : Files
  F = files_of sv l

  abbrev pub N : ℕ → Option File
  N = numbered sv l

  abbrev pub fs : List table.File
  fs = files (table_part sv l)

  abbrev pub sel : List ℕ
  sel = part (i * sv.most) sv.most l.selected

  -- the session when the packet is whole: it holds no byte
  abbrev pub s0 : Session
  s0 = with_held (link_of sv i) 0

  abbrev pub k0 : model.Session
  k0 = open_from F N sel p s0

  abbrev pub M : Model
  M = mk sv l i sv.last.number sv.last.time (view sv l).files k0

  pub M_is : in_session i (model.with_held []) (view sv l) ≡ M
  M_is = ap (λ (k : model.Session). model.with_session (view sv l) i (model.with_held [] k)) (open_view sv l g i inside linked)

  -- what an act says and leaves
  abbrev pub does : Act → Turn
  does a = turn_view sv l i p (carry_out a s0 sv.last clock sv.most (length info) (padded info) (parts sv l i))

  pub on : (b : Bool) (x y : Act) (X Y : Turn) → (b ≡ true → does x ≡ X) → (b ≡ false → does y ≡ Y) → does (cond b x y) ≡ cond b X Y
  on true x y X Y e f = e refl
  on false x y X Y e f = f refl

  -- the session changes alone
  pub moves : (s : Session) (h : model.Session → model.Session) → s.linked ≡ true → open_from F N sel p s ≡ h k0 → (r : Reply)
      → turn_view sv l i p (turned (turn_of s sv.last r) (parts sv l i)) ≡ turn r (in_session i h M)
  moves s h o e r =
      ap (λ (k : model.Session). turn r (mk sv l i sv.last.number sv.last.time (view sv l).files k)) (open_from_law F N sel p s o ∙ e)
      ∙ ap (turn r) (sym (set_mk sv l g i inside h sv.last.number sv.last.time (view sv l).files k0))

  -- nothing changes
  pub stays : (r : Reply) → turn_view sv l i p (turned (turn_of s0 sv.last r) (parts sv l i)) ≡ turn r M
  stays r = ap (λ (k : model.Session). turn r (mk sv l i sv.last.number sv.last.time (view sv l).files k)) (open_from_law F N sel p s0 linked)

  pub tells : (r : Reply) → does (act.Tell r) ≡ turn r M
  unfolding carry_out
  tells r = stays r

  pub ignores : does act.Ignore ≡ turn reply.Nothing M
  unfolding carry_out
  ignores = stays reply.Nothing

  pub closes_all : does act.Close ≡ closing M i
  unfolding carry_out on_chooses download.close_turn
  closes_all = ap (turn reply.Closing) (sym (with_mk sv l g i inside sv.last.number sv.last.time (view sv l).files k0 model.closed_session))
