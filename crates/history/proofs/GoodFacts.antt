-- A good state as facts: the sizes and the room, the store's soundness and the sessions', with what calls keep of them, and back.
use Rattle.std.specs.Prelude.{Result, Ok, Err}
use mathlib.Core.Path.{◌≡◌, refl}
use mathlib.Core.Bool.{Bool, true, false, cond}
use Prim.Native.Nat.{ℕ, ◌-◌, ◌≤◌, ◌<◌}
use native.Mathlib.Omega.{arith}
use borrow.Author.Tests.{leb-true, ltb-false, eqb-false, not-true}
use lib.Dec.{leb, ltb, eqb}
use lib.ListN.{length}
use lib.Seq.{length-take-le}
use Rattle.table.specs.Table.{files}
use Rattle.files.specs.Sound.{Sound, Sizes, sound_test}
use Rattle.files.proofs.Soundness as store
use Rattle.links.specs.Sound.{links_sound}
use Rattle.links.proofs.Facts.{LinksFacts}
use Rattle.links.proofs.Facts as links
use Rattle.server.specs.declared.Server.{Server}
use Rattle.server.specs.State.{Lent, link_of, map_part, owner_part, table_part}
use Rattle.server.specs.Check.{sizes_fit, room_fits, fits, sound_parts, in_state, session_check, check_by, check_of}
use Rattle.server.proofs.CheckLaws.{sizes_true, Room, room_true, both_true}
use Rattle.server.proofs.CheckLaws as check
use Rattle.history.specs.Good.{Good}

-- ---- the facts

pub record Facts (sv : Server) (l : Lent) : Type 0 where
  pub some : 1 ≤ sv.blocks
  pub sizes : check.Sizes sv.blocks sv.files sv.sessions sv.most
  pub room : Room sv.blocks sv.files sv.sessions sv.most (length l.disk) (length l.map) (length l.owner) (length l.table)
      (length l.selected) (length l.held)
  pub store : Sound (map_part sv l) (owner_part sv l) (table_part sv l) sv.last.number sv.last.time
  pub disk : Sizes l.disk (owner_part sv l)
  pub sessions : LinksFacts (files (table_part sv l)) sv.sessions sv.most l.selected l.held sv.links
  pub links : length sv.links ≡ 4

pub least_blocks : (b f s m : ℕ) → sizes_fit b f s m ≡ true → 1 ≤ b
unfolding sizes_fit
least_blocks b f s m e = leb-true 1 b (both_true (leb 1 b) _ e).0

record Tests (sv : Server) (l : Lent) : Type 0 where
  sizes : sizes_fit sv.blocks sv.files sv.sessions sv.most ≡ true
  room : room_fits sv.blocks sv.files sv.sessions sv.most (length l.disk) (length l.map) (length l.owner) (length l.table)
      (length l.selected) (length l.held) ≡ true
  store : sound_test (map_part sv l) (owner_part sv l) (table_part sv l) sv.last.number sv.last.time ≡ true
  sessions : links_sound (files (table_part sv l)) sv.sessions sv.most l.selected l.held sv.links ≡ true

pub linked_as : (w k : Bool) → in_state w k ≡ true → k ≡ w
unfolding in_state
linked_as true k e = e
linked_as false k e = not-true k e

module _ (sv : Server) (l : Lent) where
  tests : Good sv l → Tests sv l
  unfolding sound_parts
  tests g =
      let f = both_true (sizes_fit sv.blocks sv.files sv.sessions sv.most) _ g.fits in
      let s = both_true (sound_test (map_part sv l) (owner_part sv l) (table_part sv l) sv.last.number sv.last.time) _ g.sound in
      record { sizes = f.0; room = f.1; store = s.0; sessions = s.1 }

  pub good_facts : Good sv l → Facts sv l
  good_facts g = go (tests g)
    where
      go : Tests sv l → Facts sv l
      go t =
          let some : 1 ≤ sv.blocks = least_blocks sv.blocks sv.files sv.sessions sv.most t.sizes in
          let s = sizes_true sv.blocks sv.files sv.sessions sv.most t.sizes in
          let r =
          room_true sv.blocks sv.files sv.sessions sv.most (length l.disk) (length l.map) (length l.owner) (length l.table)
          (length l.selected) (length l.held) t.room in
          let n : length (owner_part sv l) ≡ sv.blocks = length-take-le sv.blocks l.owner r.owner in
          record {
            some = some;
            sizes = s;
            room = r;
            store = store.sound_facts (map_part sv l) (owner_part sv l) (table_part sv l) sv.last.number sv.last.time t.store;
            disk = record { some = omega arith; most = omega (arith, s.blocks); bytes = omega (arith, r.disk) };
            sessions = links.kept_facts (files (table_part sv l)) sv.sessions sv.most l.selected l.held sv.links
                (links.sound_facts (files (table_part sv l)) sv.sessions sv.most l.selected l.held sv.links t.sessions) g.kept;
            links = g.links;
          }

  -- and back: the sizes and the room fit, the store and the sessions are sound
  pub facts_good : fits sv (length l.disk) l.map l.owner l.table l.selected l.held ≡ true
      → Sound (map_part sv l) (owner_part sv l) (table_part sv l) sv.last.number sv.last.time
      → LinksFacts (files (table_part sv l)) sv.sessions sv.most l.selected l.held sv.links
      → length sv.links ≡ 4
      → Good sv l
  unfolding sound_parts
  facts_good f s k n =
      record {
        fits = f;
        sound = rw (store.facts_sound (map_part sv l) (owner_part sv l) (table_part sv l) sv.last.number sv.last.time s)
            (links.facts_sound (files (table_part sv l)) sv.sessions sv.most l.selected l.held sv.links
            (links.facts_tested (files (table_part sv l)) sv.sessions sv.most l.selected l.held sv.links k));
        kept = links.facts_kept (files (table_part sv l)) sv.sessions sv.most l.selected l.held sv.links k;
        links = n;
      }

  -- ---- the check of a call: 33 and 35 are not given

  pub good_check : Good sv l → (session : ℕ) (wanted : Bool) (out : ℕ) → check_of sv l session wanted out ≡ session_check sv session wanted out
  unfolding check_by
  good_check g session wanted out = rw (g.fits, g.sound)

  -- what holds of 34, of 32 and of a session that is there and as wanted, holds of the check
  pub checked : Good sv l → (session : ℕ) (wanted : Bool) (out : ℕ) (P : Result ℕ ℕ → Type 0) → P (Err 34) → P (Err 32)
      → ((i : ℕ) → i < sv.sessions → (link_of sv i).linked ≡ wanted → 258 ≤ out → P (Ok i))
      → P (check_of sv l session wanted out)
  unfolding session_check
  checked g session wanted out P a b c =
      rw (good_check g session wanted out)
      (go (eqb session 0) refl (ltb sv.sessions session) refl (in_state wanted (link_of sv (session - 1)).linked) refl (ltb out 258) refl)
    where
      go : (t : Bool) → eqb session 0 ≡ t → (u : Bool) → ltb sv.sessions session ≡ u
          → (v : Bool)
          → in_state wanted (link_of sv (session - 1)).linked ≡ v
          → (w : Bool)
          → ltb out 258 ≡ w
          → P (cond t (Err 34) (cond u (Err 34) (cond v (cond w (Err 32) (Ok (session - 1))) (Err 34))))
      go true d u e v f w h = a
      go false d true e v f w h = a
      go false d false e false f w h = a
      go false d false e true f true h = b
      go false d false e true f false h =
          c (session - 1) (omega (arith, ltb-false sv.sessions session e, eqb-false session 0 d))
          (linked_as wanted (link_of sv (session - 1)).linked f) (ltb-false out 258 h)
