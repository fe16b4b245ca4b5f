-- After any calls the server's numbers fit their types: so its words are read back as it. Assumes nothing.
use mathlib.Core.Path.{◌≡◌, refl, sym, subst}
use mathlib.Core.Bool.{Bool, true, false}
use Prim.Native.Nat.{ℕ, ◌+◌, ◌<◌}
use native.Mathlib.Omega.{arith}
use borrow.Author.Tests.{ltb-true, ltb-false}
use lib.Dec.{ltb}
use Rattle.session.specs.declared.state.Uplink.{Uplink}
use Rattle.session.specs.declared.state.Uplink.TheVariants as up
use Rattle.session.specs.declared.state.Downlink.{Downlink}
use Rattle.session.specs.declared.state.Downlink.TheVariants as down
use Rattle.session.specs.State.{closed_session}
use Rattle.blocks.proofs.Owners.{blocks_le}
use Rattle.table.specs.Table.{files, file_at}
use Rattle.files.proofs.Soundness.{file_fits_law, file_room}
use Rattle.links.proofs.Facts.{LinkFacts, selection_of, packet_of}
use Rattle.server.specs.declared.Server.{Server}
use Rattle.server.specs.State.{Lent, link_of, map_part, owner_part, table_part}
use Rattle.embed.specs.Fit.{UpFits, DownFits, SessionFits, ServerFits}
use Rattle.embed.proofs.Fitting as fitting
use Rattle.history.specs.Good.{Good}
use Rattle.history.proofs.GoodFacts.{Facts, good_facts}
use Rattle.driver.proofs.Given.{Kept}

module _ (sv : Server) (l : Lent) (g : Good sv l) where
  facts : Facts sv l
  facts = good_facts sv l g

  -- a file has no more bytes than the store
  file_small : (q : ℕ) → ((file_at (files (table_part sv l)) q).number ≡ 0 → ⊥)
      → ((file_at (files (table_part sv l)) q).size < 4294967296) × ((file_at (files (table_part sv l)) q).received < 4294967296)
  file_small q n =
      let room = file_room (map_part sv l) (owner_part sv l) (table_part sv l) sv.last.number sv.last.time facts.store q n in
      let fits = file_fits_law (map_part sv l) (owner_part sv l) (table_part sv l) sv.last.number sv.last.time facts.store q n in
      let most = blocks_le (q + 1) (owner_part sv l) in
      (omega (arith, room, most, facts.disk.most), omega (arith, room, fits.received, most, facts.disk.most))

  module _ (i : ℕ) (f : LinkFacts (files (table_part sv l)) sv.most (selection_of sv.most l.selected i) (packet_of l.held i) (link_of sv i)) where
    up_small : (u : Uplink) → (link_of sv i).up ≡ u → UpFits u
    up_small up.Idle e = fitting.idle_up
    up_small (up.Receiving place offset received) e =
        let p = f.receiving place offset received e in
        let b = (file_small place p.number).1 in
        fitting.receiving place offset received (omega (arith, p.agree, b)) (omega (arith, p.agree, b))
    up_small up.Ignoring e = fitting.ignoring

    down_small : (d : Downlink) → (link_of sv i).down ≡ d → DownFits d
    down_small down.Idle e = fitting.idle_down
    down_small (down.Sending place offset sent) e =
        let p = f.sending place offset sent e in
        let b = (file_small place p.complete.number).0 in
        fitting.sending place offset sent (omega (arith, p.within, b)) (omega (arith, p.within, b))
    down_small (down.Ended place) e = fitting.ended place
    down_small (down.Aborting place) e = fitting.aborting place
    down_small (down.Listing t long done sent) e = fitting.listing t long done sent

    link_small : SessionFits (link_of sv i)
    link_small = record { up = up_small (link_of sv i).up refl; down = down_small (link_of sv i).down refl }

  closed_fits : SessionFits closed_session
  closed_fits = record { up = fitting.idle_up; down = fitting.idle_down }

  session_fits : Kept sv → (i : ℕ) → i < 4 → SessionFits (link_of sv i)
  session_fits k i h = go (link_of sv i).linked refl (ltb i sv.sessions) refl
    where
      go : (b : Bool) → (link_of sv i).linked ≡ b → (c : Bool) → ltb i sv.sessions ≡ c → SessionFits (link_of sv i)
      go false e c d = subst SessionFits (sym (k.rests i e)) closed_fits
      go true e true d = link_small i (facts.sessions.each i (ltb-true i sv.sessions d) e)
      go true e false d =
          let z = facts.sessions.beyond i (ltb-false i sv.sessions d) h in
          absurd (let y : ◌≡◌ {A = ℕ} 0 1 = cc in omega arith)

  pub good_fits : Kept sv → ServerFits sv
  good_fits k = record { last = k.last; each = session_fits k }
