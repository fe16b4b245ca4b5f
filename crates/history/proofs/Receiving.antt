-- Bytes of a link, heard and acted on, leave a good state good.
use mathlib.Core.Path.{◌≡◌, refl, sym, subst}
use mathlib.Core.Bool.{true}
use mathlib.Core.List.{List}
use Prim.Native.Nat.{ℕ, ◌≤◌, ◌<◌}
use Rattle.session.specs.declared.state.Session.{Session}
use Rattle.session.specs.State.{with_held}
use Rattle.table.specs.Table.{files}
use Rattle.links.proofs.Facts.{LinkFacts, Unfinished, selection_of, packet_of}
use Rattle.carry.specs.Turn.{Mem, Turned}
use Rattle.server.specs.declared.Server.{Server}
use Rattle.server.specs.State.{Lent, link_of, table_part}
use Rattle.server.specs.Turns.{HeardIn, hear_of, parts_of, put_back}
use Rattle.server.specs.Calls.{answered_by, heard_by, step_of}
use Rattle.history.specs.Good.{Good}
use Rattle.acts.proofs.Interface.{Kept}
use Rattle.acts.proofs.Acts.{act_kept, turn_after}
use Rattle.history.proofs.Sessions.{turn_acted, turn_links}
use Rattle.history.proofs.GoodFacts.{Facts, good_facts}
use Rattle.history.proofs.InUse.{act_in_use}
use Rattle.history.proofs.Hearing.{HeardOf, hear_well}
use Rattle.history.proofs.Leaves.{Leaves, mem_of, stored_parts, leaves_turn}

module _ (sv : Server) (l : Lent) (g : Good sv l) (i : ℕ) (inside : i < sv.sessions) (linked : (link_of sv i).linked ≡ true) where
  facts : Facts sv l
  facts = good_facts sv l g

  own : LinkFacts (files (table_part sv l)) sv.most (selection_of sv.most l.selected i) (packet_of l.held i) (link_of sv i)
  own = facts.sessions.each i inside linked

  module _ (clock : ℕ) (h : HeardIn) where
    abbrev session : Session
    session = with_held (link_of sv i) h.framed.held

    abbrev parts : Mem
    parts = parts_of sv i (mem_of l)

    abbrev turned : Turned
    turned = turn_after session sv.links h.framed.frame h.framed.info parts sv.last clock sv.most

    kept : Kept parts sv.last turned
    kept =
        act_kept session sv.links h.framed.frame h.framed.info parts sv.last clock sv.most (stored_parts sv l g i)
        own.receiving

    -- two bytes or more are held: an unfinished packet
    packet_left : HeardOf l.held i h → 2 ≤ turned.turn.session.held → Unfinished turned.turn.session.held (packet_of h.held i)
    packet_left w two =
        let e : turned.turn.session.held ≡ h.framed.held =
        (turn_acted sv.sessions sv.most l.selected l.held sv.links i h.framed.held parts sv.last clock h.framed.frame
        h.framed.info facts.sessions inside linked (stored_parts sv l g i) refl).held two in
        subst (λ (n : ℕ). Unfinished n (packet_of h.held i)) (sym e) (w.own.fewer (subst (λ (n : ℕ). 2 ≤ n) e two))

    -- what was heard is acted on
    heard_leaves : (out : List ℕ) → HeardOf l.held i h
        → Leaves sv l (heard_by sv i clock l out h).done.server (heard_by sv i clock l out h).lent
    unfolding heard_by answered_by put_back
    heard_leaves out w =
        rw (act_in_use sv facts.sessions.beyond i session h.framed.frame clock h.framed.info (mem_of l))
        (leaves_turn sv l g i inside turned kept h.held w.lengths
        (turn_links sv.sessions sv.most l.selected l.held h.held sv.links i h.framed.held parts sv.last clock
        h.framed.frame h.framed.info facts.sessions inside linked facts.links (stored_parts sv l g i) kept refl w.lengths
        w.others (packet_left w)))

  pub step_leaves : (clock : ℕ) (input out : List ℕ)
      → Leaves sv l (step_of sv i clock input l out).done.server (step_of sv i clock input l out).lent
  unfolding step_of
  step_leaves clock input out =
      heard_leaves clock (hear_of l.held i (link_of sv i).held input) out
      (hear_well sv.sessions i l.held inside facts.room.held (link_of sv i).held input own.packet)
