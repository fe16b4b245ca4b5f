-- A session that holds other bytes of an unfinished packet: nothing but that session's next packet depends on it. Assumes nothing.
use mathlib.Core.Path.{◌≡◌, refl, sym, ap, ◌∙◌}
use mathlib.Core.Bool.{Bool, true, false, cond}
use mathlib.Core.List.{List}
use Prim.Native.Nat.{ℕ, ◌*◌, ◌<◌}
use borrow.Author.Tests.{eqb-true, eqb-false}
use lib.Dec.{eqb, ltb}
use lib.ListN.{length, take}
use lib.Seq.{get_or-set_same, get_or-set_other}
use Rattle.packet.specs.declared.frame.Frame.{Frame}
use Rattle.session.specs.declared.state.Session.{Session}
use Rattle.session.specs.State.{closed_session, with_held}
use Rattle.table.specs.Table.{files}
use Rattle.carry.specs.declared.turn.Last.{Last}
use Rattle.carry.specs.Turn.{Mem}
use Rattle.carry.specs.Carry.{carry_out}
use Rattle.decide.specs.Uplink.{uploads, uploading}
use Rattle.decide.specs.declared.act.Act.{Act}
use Rattle.server.specs.declared.Server.{Server}
use Rattle.server.specs.State.{Lent, lent, link_of, with_link, part, with_part}
use Rattle.server.specs.Turns.{size_in, used_of, in_use, parts_of, put_back, act_of}
use Rattle.history.proofs.InUse.{decide_same, four_same}

-- session i holds n bytes of a packet, which are p
abbrev pub hold : Server → ℕ → ℕ → Server
hold sv i n = with_link sv i (with_held (link_of sv i) n)

abbrev pub keep : Lent → ℕ → List ℕ → Lent
keep l i p = lent l.disk l.map l.owner l.table l.selected (with_part (i * 258) 258 p l.held)

-- a server with other sessions and another last number and time
abbrev pub with_links : Server → Last → List Session → Server
with_links sv last links =
    record { blocks = sv.blocks; files = sv.files; sessions = sv.sessions; most = sv.most; last = last; links = links }

-- ---- the sessions

module _ (sv : Server) (i n : ℕ) (h : i < length sv.links) where
  pub hold_own : link_of (hold sv i n) i ≡ with_held (link_of sv i) n
  hold_own = get_or-set_same sv.links i (with_held (link_of sv i) n) closed_session h

  pub hold_other : (k : ℕ) → (k ≡ i → ⊥) → link_of (hold sv i n) k ≡ link_of sv k
  hold_other k d = get_or-set_other sv.links i k (with_held (link_of sv i) n) closed_session d

  -- what does not depend on the bytes held
  pub hold_seen : {A : Type 0} (f : Session → A) → ((s : Session) (m : ℕ) → f (with_held s m) ≡ f s) → (k : ℕ)
      → f (link_of (hold sv i n) k) ≡ f (link_of sv k)
  hold_seen f e k = go (eqb k i) refl
    where
      go : (t : Bool) → eqb k i ≡ t → f (link_of (hold sv i n) k) ≡ f (link_of sv k)
      go true q =
          let z : k ≡ i = eqb-true k i q in
          ap (λ (j : ℕ). f (link_of (hold sv i n) j)) z ∙ ap f hold_own ∙ e (link_of sv i) n ∙ ap (λ (j : ℕ). f (link_of sv j)) (sym z)
      go false q = ap f (hold_other k (eqb-false k i q))

  -- ---- what is decided

  uploading_same : (place : ℕ) → uploading (in_use (hold sv i n)) place ≡ uploading (in_use sv) place
  uploading_same place = four_same _ _ _ _ _ _ _ _ (e 0) (e 1) (e 2) (e 3)
    where
      by : (b : Bool) (s : Session) (m : ℕ) → uploads (cond b (with_held s m) closed_session) place ≡ uploads (cond b s closed_session) place
      by true s m = refl
      by false s m = refl

      e : (k : ℕ) → uploads (used_of sv.sessions k (link_of (hold sv i n) k)) place ≡ uploads (used_of sv.sessions k (link_of sv k)) place
      e k = hold_seen (λ s. uploads (used_of sv.sessions k s) place) (λ s m. by (ltb k sv.sessions) s m) k

  -- and carried out, for any session
  pub act_same : (j : ℕ) (s : Session) (frame : Frame) (clock : ℕ) (info : List ℕ) (m : Mem)
      → act_of (hold sv i n) j s frame clock info m ≡ act_of sv j s frame clock info m
  unfolding act_of put_back
  act_same j s frame clock info m =
      ap (λ (a : Act). put_back sv j m (carry_out a s sv.last clock sv.most (size_in frame) info (parts_of sv j m)))
      (decide_same (in_use sv) (in_use (hold sv i n)) uploading_same s frame info (files (take (4 * sv.files) m.table)) (part (j * sv.most) sv.most m.selected))
