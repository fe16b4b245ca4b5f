-- The local refusals of a call, by their reasons, and what is known of a call that goes through. Assumes nothing.
use Rattle.std.specs.Prelude.{Ok, Err, Result}
use mathlib.Core.Path.{◌≡◌, refl, sym, ap, ◌∙◌, subst}
use mathlib.Core.Bool.{Bool, true, false, cond}
use mathlib.Core.List.{List, [], ◌∷◌}
use Prim.Native.Nat.{ℕ, ◌*◌, ◌-◌, ◌≤◌, ◌<◌}
use native.Mathlib.Omega.{arith}
use borrow.Author.Tests.{le-ltb, ne_eqb, ltb-true, ltb-false, leb-true, eqb-false}
use lib.Dec.{eqb, leb, ltb}
use lib.ListN.{length, drop, length-drop}
use lib.Seq.{length-take-le}
use Rattle.table.specs.Table.{files}
use Rattle.files.specs.Sound.{sound_test, Sound, Sizes}
use Rattle.files.proofs.Soundness.{sound_facts}
use Rattle.links.specs.Sound.{links_sound}
use Rattle.links.proofs.Facts as links
use Rattle.server.specs.declared.Server.{Server}
use Rattle.server.specs.State.{Lent, link_of, map_part, owner_part, table_part, part}
use Rattle.server.specs.Check.{sizes_fit, fits, sound_parts, in_state, session_check, check_by, check_of}
use Rattle.server.proofs.CheckLaws as laws
use Rattle.promises.specs.Parts.{one_of}
use Rattle.promises.specs.Demand1.{Fits, IsSound}

clash : false ≡ true → ⊥
clash e = let z : ◌≡◌ {A = ℕ} 0 1 = cc in omega arith

-- a test that is not true is false
pub not-true : (b : Bool) → (b ≡ true → ⊥) → b ≡ false
not-true true h = absurd (h refl)
not-true false h = refl

refused_clash : (n i : ℕ) → ◌≡◌ {A = Result ℕ ℕ} (Err n) (Ok i) → ⊥
refused_clash n i e = let z : ◌≡◌ {A = ℕ} 0 1 = cc in omega arith

-- ---- the state of a session

pub state_is : (wanted linked : Bool) → in_state wanted linked ≡ true → linked ≡ wanted
unfolding in_state
state_is true linked e = e
state_is false true e = absurd (clash e)
state_is false false e = refl

pub is_state : (wanted linked : Bool) → linked ≡ wanted → in_state wanted linked ≡ true
unfolding in_state
is_state true linked e = e
is_state false true e = absurd (clash (sym e))
is_state false false e = refl

-- ---- what a call that goes through has

pub record Through (sv : Server) (l : Lent) (session : ℕ) (wanted : Bool) (output i : ℕ) : Type 0 where
  pub index : i ≡ session - 1
  pub from_one : 1 ≤ session
  pub in_range : session ≤ sv.sessions
  pub in_state_law : (link_of sv (session - 1)).linked ≡ wanted
  pub room : 258 ≤ output
  pub fit : Fits sv l
  pub is_sound : IsSound sv l

module _ (sv : Server) (l : Lent) (session : ℕ) (wanted : Bool) (room : ℕ) where
  -- 33
  pub check_33 : (Fits sv l → ⊥) → check_of sv l session wanted room ≡ Err 33
  unfolding check_by
  check_33 h =
      ap (λ (t : Bool). cond t
      (cond (sound_parts sv l.map l.owner l.table l.selected l.held) (session_check sv session wanted room) (Err 35)) (Err 33))
      (not-true _ h)

  -- the rest of the order, where the sizes fit
  fitted : Fits sv l
      → check_of sv l session wanted room
      ≡ cond (sound_parts sv l.map l.owner l.table l.selected l.held) (session_check sv session wanted room) (Err 35)
  unfolding check_by
  fitted h =
      ap (λ (t : Bool). cond t
      (cond (sound_parts sv l.map l.owner l.table l.selected l.held) (session_check sv session wanted room) (Err 35)) (Err 33))
      h

  -- 35
  pub check_35 : Fits sv l → (IsSound sv l → ⊥) → check_of sv l session wanted room ≡ Err 35
  check_35 f h = fitted f ∙ ap (λ (t : Bool). cond t (session_check sv session wanted room) (Err 35)) (not-true _ h)

  -- on a sound state the check is that of the session and the output
  pub check_sound : Fits sv l → IsSound sv l → check_of sv l session wanted room ≡ session_check sv session wanted room
  check_sound f s = fitted f ∙ ap (λ (t : Bool). cond t (session_check sv session wanted room) (Err 35)) s

  pub session_through : 1 ≤ session → session ≤ sv.sessions → (link_of sv (session - 1)).linked ≡ wanted
      → session_check sv session wanted room ≡ cond (ltb room 258) (Err 32) (Ok (session - 1))
  unfolding session_check
  session_through a b e =
      rw (
        ne_eqb session 0 (λ z. omega arith),
        le-ltb sv.sessions session b,
        is_state wanted (link_of sv (session - 1)).linked e,
      )

  -- 34
  pub session_34 : ((1 ≤ session) → (session ≤ sv.sessions) → ((link_of sv (session - 1)).linked ≡ wanted) → ⊥)
      → session_check sv session wanted room ≡ Err 34
  unfolding session_check
  session_34 h = go (eqb session 0) refl (ltb sv.sessions session) refl (in_state wanted (link_of sv (session - 1)).linked) refl
    where
      go : (a : Bool) → eqb session 0 ≡ a → (b : Bool) → ltb sv.sessions session ≡ b
          → (d : Bool)
          → in_state wanted (link_of sv (session - 1)).linked ≡ d
          → cond {A = Result ℕ ℕ} a (Err 34) (cond b (Err 34) (cond d (cond (ltb room 258) (Err 32) (Ok (session - 1))) (Err 34))) ≡ Err 34
      go true p b q d r = refl
      go false p true q d r = refl
      go false p false q false r = refl
      go false p false q true r =
          absurd
          (h (omega (arith, eqb-false session 0 p)) (omega (arith, ltb-false sv.sessions session q))
          (state_is wanted (link_of sv (session - 1)).linked r))

  session_go : (i : ℕ) → session_check sv session wanted room ≡ Ok i → Fits sv l → IsSound sv l → Through sv l session wanted room i
  unfolding session_check
  session_go i e f s =
      go (eqb session 0) refl (ltb sv.sessions session) refl (in_state wanted (link_of sv (session - 1)).linked) refl (ltb room 258) refl e
    where
      go : (a : Bool) → eqb session 0 ≡ a → (b : Bool) → ltb sv.sessions session ≡ b
          → (d : Bool)
          → in_state wanted (link_of sv (session - 1)).linked ≡ d
          → (w : Bool)
          → ltb room 258 ≡ w
          → cond {A = Result ℕ ℕ} a (Err 34) (cond b (Err 34) (cond d (cond w (Err 32) (Ok (session - 1))) (Err 34))) ≡ Ok i
          → Through sv l session wanted room i
      go true p b q d r w t e = absurd (refused_clash 34 i e)
      go false p true q d r w t e = absurd (refused_clash 34 i e)
      go false p false q false r w t e = absurd (refused_clash 34 i e)
      go false p false q true r true t e = absurd (refused_clash 32 i e)
      go false p false q true r false t e =
          record {
            index = let z : i ≡ session - 1 = cc in z;
            from_one = omega (arith, eqb-false session 0 p);
            in_range = ltb-false sv.sessions session q;
            in_state_law = state_is wanted (link_of sv (session - 1)).linked r;
            room = ltb-false room 258 t;
            fit = f;
            is_sound = s;
          }

  session_refuses : (n : ℕ) → session_check sv session wanted room ≡ Err n → one_of n (32 ∷ 33 ∷ 34 ∷ 35 ∷ []) ≡ true
  unfolding session_check
  session_refuses n e = go (eqb session 0) (ltb sv.sessions session) (in_state wanted (link_of sv (session - 1)).linked) (ltb room 258) e
    where
      is : (m : ℕ) → ◌≡◌ {A = Result ℕ ℕ} (Err m) (Err n) → one_of m (32 ∷ 33 ∷ 34 ∷ 35 ∷ []) ≡ true → one_of n (32 ∷ 33 ∷ 34 ∷ 35 ∷ []) ≡ true
      is m e h = let z : m ≡ n = cc in subst (λ (k : ℕ). one_of k (32 ∷ 33 ∷ 34 ∷ 35 ∷ []) ≡ true) z h

      go : (a b d w : Bool)
          → cond {A = Result ℕ ℕ} a (Err 34) (cond b (Err 34) (cond d (cond w (Err 32) (Ok (session - 1))) (Err 34))) ≡ Err n
          → one_of n (32 ∷ 33 ∷ 34 ∷ 35 ∷ []) ≡ true
      go true b d w e = is 34 e refl
      go false true d w e = is 34 e refl
      go false false false w e = is 34 e refl
      go false false true true e = is 32 e refl
      go false false true false e = absurd (refused_clash n (session - 1) (sym e))

  pub check_through : (i : ℕ) → check_of sv l session wanted room ≡ Ok i → Through sv l session wanted room i
  unfolding check_by
  check_through i e =
      go (fits sv (length l.disk) l.map l.owner l.table l.selected l.held) refl
      (sound_parts sv l.map l.owner l.table l.selected l.held) refl e
    where
      go : (a : Bool) → fits sv (length l.disk) l.map l.owner l.table l.selected l.held ≡ a
          → (b : Bool)
          → sound_parts sv l.map l.owner l.table l.selected l.held ≡ b
          → cond {A = Result ℕ ℕ} a (cond b (session_check sv session wanted room) (Err 35)) (Err 33) ≡ Ok i
          → Through sv l session wanted room i
      go false p b q e = absurd (refused_clash 33 i e)
      go true p false q e = absurd (refused_clash 35 i e)
      go true p true q e = session_go i e p q

  pub check_refuses : (n : ℕ) → check_of sv l session wanted room ≡ Err n → one_of n (32 ∷ 33 ∷ 34 ∷ 35 ∷ []) ≡ true
  unfolding check_by
  check_refuses n e =
      go (fits sv (length l.disk) l.map l.owner l.table l.selected l.held)
      (sound_parts sv l.map l.owner l.table l.selected l.held) e
    where
      is : (m : ℕ) → ◌≡◌ {A = Result ℕ ℕ} (Err m) (Err n) → one_of m (32 ∷ 33 ∷ 34 ∷ 35 ∷ []) ≡ true → one_of n (32 ∷ 33 ∷ 34 ∷ 35 ∷ []) ≡ true
      is m e h = let z : m ≡ n = cc in subst (λ (k : ℕ). one_of k (32 ∷ 33 ∷ 34 ∷ 35 ∷ []) ≡ true) z h

      go : (a b : Bool)
          → cond {A = Result ℕ ℕ} a (cond b (session_check sv session wanted room) (Err 35)) (Err 33) ≡ Err n
          → one_of n (32 ∷ 33 ∷ 34 ∷ 35 ∷ []) ≡ true
      go false b e = is 33 e refl
      go true false e = is 35 e refl
      go true true e = session_refuses n e

  -- a call that goes through goes through with other output that has the room
  pub through_again : (i : ℕ) (room' : ℕ) → Through sv l session wanted room i → 258 ≤ room' → session_check sv session wanted room' ≡ Ok i
  unfolding session_check
  through_again i room' t h =
      rw (
        ne_eqb session 0 (λ z. omega (arith, t.from_one)),
        le-ltb sv.sessions session t.in_range,
        is_state wanted (link_of sv (session - 1)).linked t.in_state_law,
        le-ltb room' 258 h,
        t.index,
      )

-- ---- the facts of a state that is not refused by 33 or 35

pub record StateFacts (sv : Server) (l : Lent) : Type 0 where
  pub sizes : laws.Sizes sv.blocks sv.files sv.sessions sv.most
  pub some_blocks : 1 ≤ sv.blocks
  pub some_most : 1 ≤ sv.most
  pub room : laws.Room sv.blocks sv.files sv.sessions sv.most (length l.disk) (length l.map) (length l.owner)
      (length l.table) (length l.selected) (length l.held)
  pub store : Sound (map_part sv l) (owner_part sv l) (table_part sv l) sv.last.number sv.last.time
  pub store_sizes : Sizes l.disk (owner_part sv l)
  pub sessions : links.LinksTested (files (table_part sv l)) sv.sessions sv.most l.selected l.held sv.links

some_sizes : (b f s m : ℕ) → sizes_fit b f s m ≡ true → (1 ≤ b) × (1 ≤ m)
unfolding sizes_fit
some_sizes b f s m e =
    let e2 = laws.both_true (leb 1 b) _ e in
    let e3 = laws.both_true (leb b 4096) _ e2.1 in
    let e4 = laws.both_true (leb 1 f) _ e3.1 in
    let e5 = laws.both_true (leb f 256) _ e4.1 in
    let e6 = laws.both_true (leb 1 s) _ e5.1 in
    let e7 = laws.both_true (leb s 4) _ e6.1 in
    let e8 = laws.both_true (leb 1 m) _ e7.1 in
    (leb-true 1 b e2.0, leb-true 1 m e8.0)

pub state_facts : (sv : Server) (l : Lent) → Fits sv l → IsSound sv l → StateFacts sv l
unfolding sound_parts
state_facts sv l f s =
    let b = laws.both_true (sizes_fit sv.blocks sv.files sv.sessions sv.most) _ f in
    let t = laws.both_true (sound_test (map_part sv l) (owner_part sv l) (table_part sv l) sv.last.number sv.last.time) _ s in
    go (laws.sizes_true _ _ _ _ b.0) (some_sizes _ _ _ _ b.0) (laws.room_true _ _ _ _ _ _ _ _ _ _ b.1) t.0 t.1
  where
    go : laws.Sizes sv.blocks sv.files sv.sessions sv.most
        → (1 ≤ sv.blocks) × (1 ≤ sv.most)
        → laws.Room sv.blocks sv.files sv.sessions sv.most (length l.disk) (length l.map) (length l.owner) (length l.table)
        (length l.selected) (length l.held)
        → sound_test (map_part sv l) (owner_part sv l) (table_part sv l) sv.last.number sv.last.time ≡ true
        → links_sound (files (table_part sv l)) sv.sessions sv.most l.selected l.held sv.links ≡ true
        → StateFacts sv l
    go z some r t u =
        let n : length (owner_part sv l) ≡ sv.blocks = length-take-le sv.blocks l.owner r.owner in
        record {
          sizes = z;
          some_blocks = some.0;
          some_most = some.1;
          room = r;
          store = sound_facts (map_part sv l) (owner_part sv l) (table_part sv l) sv.last.number sv.last.time t;
          store_sizes = record { some = omega (arith, some.0); most = omega (arith, z.blocks); bytes = omega (arith, r.disk) };
          sessions = links.sound_facts (files (table_part sv l)) sv.sessions sv.most l.selected l.held sv.links u;
        }

-- a session's part of the unfinished packets, and of the selections, is lent whole
pub part_length : (l : List ℕ) (i parts n : ℕ) → i < parts → parts * n ≤ length l → length (part (i * n) n l) ≡ n
part_length l i parts n h m =
    length-take-le n (drop (i * n) l) (rw (length-drop (i * n) l) (omega (arith, links.part_end i parts n h)))

-- an open session holds less than a packet
pub held_few : (sv : Server) (l : Lent) → StateFacts sv l → (i : ℕ) → i < sv.sessions → (link_of sv i).linked ≡ true → (link_of sv i).held < 258
held_few sv l f i h e = go (ltb (link_of sv i).held 2) refl
  where
    go : (t : Bool) → ltb (link_of sv i).held 2 ≡ t → (link_of sv i).held < 258
    go true q = omega (arith, ltb-true (link_of sv i).held 2 q)
    go false q = let u = (f.sessions.each i h e).packet (ltb-false (link_of sv i).held 2 q) in omega (arith, u.announces, u.fewer)
