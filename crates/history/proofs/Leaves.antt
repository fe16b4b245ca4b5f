-- A turn's parts put back into what is lent: the state stays good, its files changed as the turn's did, and the sizes are as they were.
use mathlib.Core.Path.{◌≡◌, refl, sym, ◌∙◌, subst}
use mathlib.Core.List.{List, ◌++◌}
use Prim.Native.Nat.{ℕ, ◌+◌, ◌*◌, ◌≤◌, ◌<◌}
use native.Mathlib.Omega.{arith}
use lib.ListN.{length, drop, set, length-set}
use Rattle.session.specs.declared.state.Session.{Session}
use Rattle.table.specs.Table.{files}
use Rattle.files.specs.View.{view_at}
use Rattle.links.proofs.Facts.{LinksFacts, part_end}
use Rattle.carry.specs.Turn.{Mem, mem, Turned}
use Rattle.server.specs.declared.Server.{Server}
use Rattle.server.specs.State.{Lent, lent, words, with_part, with_link, with_turn, map_part, owner_part, table_part}
use Rattle.server.specs.Turns.{parts_of}
use Rattle.acts.specs.Change.{Change, same}
use Rattle.history.specs.Good.{Good}
use Rattle.history.specs.Stored.{files_of}
use Rattle.acts.proofs.Interface.{Stored, Kept}
use Rattle.history.proofs.Parts.{front_back, front_length, part_size}
use Rattle.history.proofs.Sessions.{part_length}
use Rattle.history.proofs.GoodFacts.{Facts, good_facts, facts_good}

pub record SameSizes (sv sv' : Server) : Type 0 where
  pub blocks : sv'.blocks ≡ sv.blocks
  pub files : sv'.files ≡ sv.files
  pub sessions : sv'.sessions ≡ sv.sessions
  pub most : sv'.most ≡ sv.most

-- what a call leaves of a good state
pub record Leaves (sv : Server) (l : Lent) (sv' : Server) (l' : Lent) : Type 0 where
  pub good : Good sv' l'
  pub change : Change sv.last (files_of sv l) sv'.last (files_of sv' l')
  pub sizes : SameSizes sv sv'

-- the slices of the store and the selections
abbrev pub mem_of : Lent → Mem
mem_of l = mem l.disk l.map l.owner l.table l.selected

-- the parts of a turn put back, and all unfinished packets
abbrev pub back_in : Server → ℕ → Lent → Mem → List ℕ → Lent
back_in sv i l m held =
    lent m.disk (m.map ++ drop (words sv.blocks) l.map) (m.owner ++ drop sv.blocks l.owner)
    (m.table ++ drop (4 * sv.files) l.table) (with_part (i * sv.most) sv.most m.selected l.selected) held

module _ (sv : Server) (l : Lent) (g : Good sv l) where
  -- a call that refuses
  pub leaves_all : Leaves sv l sv l
  leaves_all =
      record {
        good = g;
        change = same (record { files = λ q. refl; given = refl });
        sizes = record { blocks = refl; files = refl; sessions = refl; most = refl };
      }

  facts : Facts sv l
  facts = good_facts sv l g

  module _ (i : ℕ) where
    -- a call that changes a session, the selections and the unfinished packets alone
    pub leaves_store : (s : Session) (selected held : List ℕ) → length selected ≡ length l.selected → length held ≡ length l.held
        → LinksFacts (files (table_part sv l)) sv.sessions sv.most selected held (set sv.links i s)
        → Leaves sv l (with_link sv i s) (lent l.disk l.map l.owner l.table selected held)
    leaves_store s selected held x h k =
        record {
          good = facts_good (with_link sv i s) (lent l.disk l.map l.owner l.table selected held) (rw (x, h) g.fits) facts.store k
              (length-set sv.links i s ∙ g.links);
          change = same (record { files = λ q. refl; given = refl });
          sizes = record { blocks = refl; files = refl; sessions = refl; most = refl };
        }

    -- the store that a turn is handed
    pub stored_parts : Stored (parts_of sv i (mem_of l)) sv.last
    stored_parts = record { sound = facts.store; sizes = facts.disk }

    -- a call that hears: a turn's parts are put back
    module _ (inside : i < sv.sessions) (t : Turned) (kept : Kept (parts_of sv i (mem_of l)) sv.last t) (held : List ℕ) where
      abbrev left : Lent
      left = back_in sv i l t.mem held

      abbrev server : Server
      server = with_turn sv i t.turn

      map_back : map_part server left ≡ t.mem.map
      map_back = front_back (words sv.blocks) t.mem.map l.map facts.room.map kept.lengths.map

      owner_back : owner_part server left ≡ t.mem.owner
      owner_back = front_back sv.blocks t.mem.owner l.owner facts.room.owner kept.lengths.owner

      table_back : table_part server left ≡ t.mem.table
      table_back = front_back (4 * sv.files) t.mem.table l.table facts.room.table kept.lengths.table

      selected_room : i * sv.most + sv.most ≤ length l.selected
      selected_room = omega (arith, part_end i sv.sessions sv.most inside, facts.room.selected)

      pub leaves_turn : length held ≡ length l.held
          → LinksFacts (files t.mem.table) sv.sessions sv.most (with_part (i * sv.most) sv.most t.mem.selected l.selected) held
          (set sv.links i t.turn.session)
          → Leaves sv l server left
      leaves_turn h k =
          let mine : length t.mem.selected ≡ sv.most =
          kept.lengths.selected ∙ part_size (i * sv.most) sv.most l.selected selected_room in
          record {
            good = facts_good server left
                (rw (
                  kept.lengths.disk,
                  front_length (words sv.blocks) t.mem.map l.map facts.room.map kept.lengths.map,
                  front_length sv.blocks t.mem.owner l.owner facts.room.owner kept.lengths.owner,
                  front_length (4 * sv.files) t.mem.table l.table facts.room.table kept.lengths.table,
                  part_length (i * sv.most) sv.most t.mem.selected l.selected mine selected_room,
                  h,
                ) g.fits)
                (rw (map_back, owner_back, table_back) kept.stored.sound)
                (rw table_back k)
                (length-set sv.links i t.turn.session ∙ g.links);
            change =
                subst (λ (o : List ℕ). Change sv.last (files_of sv l) t.turn.last (λ q. view_at t.mem.disk o (table_part server left) q))
                (sym owner_back)
                (subst (λ (r : List ℕ). Change sv.last (files_of sv l) t.turn.last (λ q. view_at t.mem.disk t.mem.owner r q))
                (sym table_back)
                kept.change);
            sizes = record { blocks = refl; files = refl; sessions = refl; most = refl };
          }
