-- The bytes that a session holds of an unfinished packet, and the calls that have nothing to do with them: those for another session, and its own
-- request. A lost link forgets them. Assumes nothing.
use Rattle.std.specs.Prelude.{Result, Ok, Err}
use mathlib.Core.Path.{◌≡◌, refl, sym, ap, ◌∙◌, subst}
use mathlib.Core.Bool.{Bool, true, false, cond}
use mathlib.Core.List.{List}
use Prim.Native.Nat.{ℕ, ◌+◌, ◌*◌, ◌<◌}
use native.Mathlib.Omega.{arith}
use lib.Dec.{ltb, eqb}
use lib.ListN.{length, set, replicate}
use lib.Seq.{get_or-set_same, set-set}
use Rattle.session.specs.declared.state.Session.{Session}
use Rattle.session.specs.declared.state.Downlink.{Downlink}
use Rattle.session.specs.declared.state.Downlink.TheVariants as down
use Rattle.session.specs.State.{closed_session, with_held}
use Rattle.table.specs.declared.File.{File}
use Rattle.table.specs.Table.{file_at, files}
use Rattle.server.specs.declared.Server.{Server}
use Rattle.server.specs.State.{Lent, outcome, done_with, link_of, with_link, part, owner_part, table_part}
use Rattle.server.specs.Check.{check_of}
use Rattle.listing.specs.Listing.{entries_of, fill_of}
use Rattle.sending.specs.Sending.{Due, asked, asked_of, data_of, sending_of, listed_as, due_of}
use Rattle.server.specs.Calls.{on_lose, lose_of, due_as, on_request, request_of, request_by, lose_by}
use Rattle.history.specs.Calls.{Call, request, lose, call_of}
use Rattle.history.specs.Good.{Good}
use Rattle.promises.specs.Parts.{session_in}
use Rattle.answers.proofs.Checks.{check_through, state_facts}
use Rattle.cutting.proofs.Parts.{with_over}
use Rattle.cutting.proofs.Held.{hold, keep, with_links, hold_own}
use Rattle.cutting.proofs.Others.{others_link, others_part, moved, apart_call, check_same, part_room}

-- a call that leaves the bytes of a session, and does the same whatever they are
pub record Free (sv : Server) (l : Lent) (c : Call) (i : ℕ) : Type 0 where
  pub linked : (link_of (call_of sv l c).done.server i).linked ≡ (link_of sv i).linked
  pub held : (link_of (call_of sv l c).done.server i).held ≡ (link_of sv i).held
  pub packet : part (i * 258) 258 (call_of sv l c).lent.held ≡ part (i * 258) 258 l.held
  pub moves : (n : ℕ) (p : List ℕ) → Good (hold sv i n) (keep l i p) → i < sv.sessions → length p ≡ 258
      → call_of (hold sv i n) (keep l i p) c ≡ moved i n p (call_of sv l c)

pub others_free : (sv : Server) (l : Lent) → Good sv l → (c : Call) (i : ℕ) → (session_in c ≡ i + 1 → ⊥) → Free sv l c i
others_free sv l good c i apart =
    record {
      linked = ap (λ (s : Session). s.linked) (others_link sv l c i apart);
      held = ap (λ (s : Session). s.held) (others_link sv l c i apart);
      packet = others_part sv l c i apart;
      moves = λ n p good' below whole. apart_call sv l i n p good good' below whole c apart;
    }

-- ---- what is due on the downlink

abbrev held_in : ℕ → Due → Due
held_in n d = asked (asked_of (with_held d.asked.session n) d.asked.answer) d.out

due_cond : (t : Bool) (n : ℕ) (a b a' b' : Due) → a' ≡ held_in n a → b' ≡ held_in n b → cond t a' b' ≡ held_in n (cond t a b)
due_cond true n a b a' b' e f = e
due_cond false n a b a' b' e f = f

due_held : (d : Downlink) (s : Session) (n : ℕ) (disk owner : List ℕ) (fs : List File) (selected out : List ℕ)
    → due_of d (with_held s n) disk owner fs selected out ≡ held_in n (due_of d s disk owner fs selected out)
unfolding due_of sending_of data_of listed_as
due_held down.Idle s n disk owner fs selected out = refl
due_held (down.Sending place offset sent) s n disk owner fs selected out =
    due_cond (ltb (offset + sent) (file_at fs place).size) n _ _ _ _ refl refl
due_held (down.Ended place) s n disk owner fs selected out = refl
due_held (down.Aborting place) s n disk owner fs selected out = refl
due_held (down.Listing t long done sent) s n disk owner fs selected out =
    due_cond (eqb (fill_of (entries_of t long s.next disk owner fs selected) done sent).size 0) n _ _ _ _ refl refl

-- the session stays open and holds what it held
record Stays (s t : Session) : Type 0 where
  linked : t.linked ≡ s.linked
  held : t.held ≡ s.held

stays_cond : (t : Bool) (s : Session) (a b : Due) → Stays s a.asked.session → Stays s b.asked.session → Stays s (cond t a b).asked.session
stays_cond true s a b e f = e
stays_cond false s a b e f = f

due_stays : (d : Downlink) (s : Session) (disk owner : List ℕ) (fs : List File) (selected out : List ℕ)
    → Stays s (due_of d s disk owner fs selected out).asked.session
unfolding due_of sending_of data_of listed_as
due_stays down.Idle s disk owner fs selected out = record { linked = refl; held = refl }
due_stays (down.Sending place offset sent) s disk owner fs selected out =
    stays_cond (ltb (offset + sent) (file_at fs place).size) s _ _ (record { linked = refl; held = refl }) (record { linked = refl; held = refl })
due_stays (down.Ended place) s disk owner fs selected out = record { linked = refl; held = refl }
due_stays (down.Aborting place) s disk owner fs selected out = record { linked = refl; held = refl }
due_stays (down.Listing t long done sent) s disk owner fs selected out =
    stays_cond (eqb (fill_of (entries_of t long s.next disk owner fs selected) done sent).size 0) s _ _ (record { linked = refl; held = refl })
    (record { linked = refl; held = refl })

-- ---- a request of the session itself

module _ (sv : Server) (l : Lent) (good : Good sv l) (i : ℕ) where
  -- what is due to session k, counted from 0, in this state
  abbrev due : ℕ → List ℕ → Session → Due
  due k out s = due_of s.down s l.disk (owner_part sv l) (files (table_part sv l)) (part (k * sv.most) sv.most l.selected) out

  -- a call that goes through goes to a session that is there
  goes : (session : ℕ) (room : ℕ) (j : ℕ) → session ≡ i + 1 → check_of sv l session true room ≡ Ok j → (j ≡ i) × (i < length sv.links)
  goes session room j own e =
      let t = check_through sv l session true room j e in
      let f = state_facts sv l good.fits good.sound in
      (omega (arith, t.index, t.from_one), omega (arith, good.links, f.sizes.sessions, t.in_range))

  -- the session after the other bytes, or before them
  own_comm : (n : ℕ) (t : Session) → i < length sv.links → with_link (hold sv i n) i (with_held t n) ≡ hold (with_link sv i t) i n
  own_comm n t below =
      ap (λ (ks : List Session). with_links sv sv.last ks)
      (set-set sv.links i (with_held (link_of sv i) n) (with_held t n)
      ∙ sym (set-set sv.links i t (with_held t n))
      ∙ ap (λ (x : Session). set (set sv.links i t) i (with_held x n)) (sym (get_or-set_same sv.links i t closed_session below)))

  request_stays : (k : Result ℕ ℕ) (out : List ℕ) → ((j : ℕ) → k ≡ Ok j → (j ≡ i) × (i < length sv.links))
      → Stays (link_of sv i) (link_of (on_request k sv l out).done.server i)
  unfolding on_request due_as
  request_stays (Err m) out h = record { linked = refl; held = refl }
  request_stays (Ok j) out h =
      let p = h j refl in
      subst (λ (k : ℕ). Stays (link_of sv i) (link_of (with_link sv k (due k out (link_of sv k)).asked.session) i)) (sym p.0)
      (subst (λ (t : Session). Stays (link_of sv i) t)
      (sym (get_or-set_same sv.links i (due i out (link_of sv i)).asked.session closed_session p.1))
      (due_stays (link_of sv i).down (link_of sv i) l.disk (owner_part sv l) (files (table_part sv l)) (part (i * sv.most) sv.most l.selected) out))

  request_moved : (k : Result ℕ ℕ) (out : List ℕ) (n : ℕ) (p : List ℕ) → ((j : ℕ) → k ≡ Ok j → (j ≡ i) × (i < length sv.links))
      → outcome (on_request k (hold sv i n) (keep l i p) out).done (keep l i p) (on_request k (hold sv i n) (keep l i p) out).out
      ≡ moved i n p (outcome (on_request k sv l out).done l (on_request k sv l out).out)
  unfolding on_request due_as
  request_moved (Err m) out n p h = refl
  request_moved (Ok j) out n p h = let q = h j refl in subst (λ (k : ℕ). Moved k) (sym q.0) (here q.1)
    where
      Moved : ℕ → Type 0
      Moved k =
          outcome
          (done_with (with_link (hold sv i n) k (due k out (link_of (hold sv i n) k)).asked.session) (due k out (link_of (hold sv i n) k)).asked.answer)
          (keep l i p) (due k out (link_of (hold sv i n) k)).out
          ≡ moved i n p
          (outcome (done_with (with_link sv k (due k out (link_of sv k)).asked.session) (due k out (link_of sv k)).asked.answer) l
          (due k out (link_of sv k)).out)

      here : i < length sv.links → Moved i
      here below =
          ap
          (λ (s : Session).
          outcome (done_with (with_link (hold sv i n) i (due i out s).asked.session) (due i out s).asked.answer) (keep l i p) (due i out s).out)
          (hold_own sv i n below)
          ∙ ap
          (λ (d : Due). outcome (done_with (with_link (hold sv i n) i d.asked.session) d.asked.answer) (keep l i p) d.out)
          (due_held (link_of sv i).down (link_of sv i) n l.disk (owner_part sv l) (files (table_part sv l)) (part (i * sv.most) sv.most l.selected) out)
          ∙ ap (λ (x : Server). outcome (done_with x (due i out (link_of sv i)).asked.answer) (keep l i p) (due i out (link_of sv i)).out)
          (own_comm n (due i out (link_of sv i)).asked.session below)

  pub request_free : (session : ℕ) (out : List ℕ) → session ≡ i + 1 → Free sv l (request session out) i
  unfolding request_of request_by
  request_free session out own =
      let k = check_of sv l session true (length out) in
      let s = request_stays k out (λ j. goes session (length out) j own) in
      record {
        linked = s.linked;
        held = s.held;
        packet = refl;
        moves = λ n p good' below whole.
            ap
            (λ (k : Result ℕ ℕ).
            outcome (on_request k (hold sv i n) (keep l i p) out).done (keep l i p) (on_request k (hold sv i n) (keep l i p) out).out)
            (check_same sv l i n p good good' below whole session true (length out))
            ∙ request_moved k out n p (λ j. goes session (length out) j own);
      }

  -- ---- a lost link

  pub lose_over : (session n : ℕ) (p : List ℕ) → Good (hold sv i n) (keep l i p) → i < sv.sessions → length p ≡ 258
      → check_of sv l session true 258 ≡ Ok i
      → call_of (hold sv i n) (keep l i p) (lose session) ≡ call_of sv l (lose session)
  unfolding lose_of lose_by on_lose
  lose_over session n p good' below whole e =
      rw (
        check_same sv l i n p good good' below whole session true 258,
        e,
        set-set sv.links i (with_held (link_of sv i) n) closed_session,
        with_over (i * 258) 258 p l.held whole (part_room sv l (state_facts sv l good.fits good.sound) i below) (replicate 258 0),
      )
