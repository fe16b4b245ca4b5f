-- A good state and its view: files are found by number as they are found by place, sessions stand in their order, and a call is refused alike.
use Rattle.std.specs.Prelude.{Result, Ok, Err}
use mathlib.Core.Path.{◌≡◌, refl, sym, ap, ap₂, ◌∙◌}
use mathlib.Core.Bool.{Bool, true, false, cond, not}
use mathlib.Core.List.{List}
use mathlib.Core.Option.{Option, none, some}
use Prim.Native.Nat.{ℕ, ◌-◌, ◌*◌, ◌≤◌, ◌<◌}
use native.Mathlib.Omega.{arith}
use borrow.Author.Tests.{eqb-false, ltb-false}
use lib.Dec.{eqb, ltb}
use lib.ListN.{length, set}
use lib.Seq.{get_or-set_same, get_or-set_other, set-get_or}
use Rattle.session.specs.declared.state.Session.{Session}
use Rattle.session.specs.State.{closed_session}
use Rattle.std.proofs.Common.{Some, None}
use Rattle.std.specs.Prelude as std
use Rattle.table.specs.Table.{files, find_of}
use Rattle.table.proofs.Finding.{find_found, find_number_law, find_absent, find_own}
use Rattle.table.proofs.Keeping.{number_le}
use Rattle.server.specs.declared.Server.{Server}
use Rattle.server.specs.State.{Lent, lent, link_of, with_link, part, table_part}
use Rattle.server.specs.Check.{in_state, session_check, check_of}
use Rattle.acts.specs.Change.{Files}
use Rattle.history.specs.Good.{Good}
use Rattle.history.specs.Stored.{files_of}
use Rattle.history.proofs.GoodFacts.{Facts, good_facts, good_check}
use Rattle.model.specs.State as model
use Rattle.model.specs.State.{File, in_session}
use Rattle.model.specs.Files.{find}
use Rattle.model.specs.Step.{refusal}
use Rattle.views.specs.View.{file_of, file_in, numbered, open_from, session_from, session_of, each, view}
use Rattle.views.proofs.Lists.{Own, find_any, each_length, each_at, each_set}

clash : {A : Type 0} {x : A} → none ≡ some x → ⊥
clash e = let z : ◌≡◌ {A = ℕ} 0 1 = cc in omega arith

-- ---- files

own_in : (sv : Server) (l : Lent) (n : ℕ) (r : std.Option ℕ) → find_of (files (table_part sv l)) n ≡ r → (f : File) → file_in (files_of sv l) r ≡ some f → f.number ≡ n
own_in sv l n None e f h = absurd (clash h)
own_in sv l n (Some p) e f h =
    let z : file_of (files_of sv l p) ≡ f = cc in
    ap (λ (g : File). g.number) (sym z) ∙ find_number_law (files (table_part sv l)) n p e

pub numbered_own : (sv : Server) (l : Lent) → Own (numbered sv l)
numbered_own sv l n f h = own_in sv l n (find_of (files (table_part sv l)) n) refl f h

module _ (sv : Server) (l : Lent) (g : Good sv l) where
  abbrev pub facts : Facts sv l
  facts = good_facts sv l g

  -- a file at a place
  pub record Placed (f : File) : Type 0 where
    pub place : ℕ
    pub live : (files_of sv l place).file.number ≡ 0 → ⊥
    pub is : file_of (files_of sv l place) ≡ f

  numbered_past : (n : ℕ) → sv.last.number < n → numbered sv l n ≡ none
  numbered_past n h =
      ap (file_in (files_of sv l))
      (find_absent (files (table_part sv l)) n
      (λ k e. let q = number_le sv.last.number sv.last.time _ (files (table_part sv l)) facts.store.files k in omega arith))

  -- a file is found in the view as it is in the table
  pub find_view : (n : ℕ) → find n (view sv l).files ≡ numbered sv l n
  find_view n = find_any (numbered sv l) (numbered_own sv l) sv.last.number n refl numbered_past

  -- a file that stands at a place is found under its number
  pub found_at : (place : ℕ) → ((files_of sv l place).file.number ≡ 0 → ⊥)
      → find (files_of sv l place).file.number (view sv l).files ≡ some (file_of (files_of sv l place))
  found_at place n =
      find_view (files_of sv l place).file.number
      ∙ ap (file_in (files_of sv l)) (find_own (files (table_part sv l)) facts.store.files.numbers place n)

  -- and one that is found stands at a place
  pub placed_at : (n : ℕ) (f : File) → find n (view sv l).files ≡ some f → Placed f
  placed_at n f e = go (find_of (files (table_part sv l)) n) refl (sym (find_view n) ∙ e)
    where
      go : (r : std.Option ℕ) → find_of (files (table_part sv l)) n ≡ r → file_in (files_of sv l) r ≡ some f → Placed f
      go None q h = absurd (clash h)
      go (Some p) q h =
          record {
            place = p;
            live = λ z. (find_found (files (table_part sv l)) n p q).0 (sym (find_number_law (files (table_part sv l)) n p q) ∙ z);
            is = cc;
          }

  -- ---- sessions

  pub link_view : (i : ℕ) → i < sv.sessions → model.session_at (view sv l) i ≡ session_of sv l i
  link_view i h = each_at sv.sessions (session_of sv l) i h

pub linked_from : (F : Files) (N : ℕ → Option File) (selected held : List ℕ) (s : Session) → (session_from F N selected held s).linked ≡ s.linked
linked_from F N selected held s = go s.linked
  where
    go : (b : Bool) → (cond b (open_from F N selected held s) model.closed_session).linked ≡ b
    go true = refl
    go false = refl

pub open_from_law : (F : Files) (N : ℕ → Option File) (selected held : List ℕ) (s : Session) → s.linked ≡ true → session_from F N selected held s ≡ open_from F N selected held s
open_from_law F N selected held s e = ap (λ (b : Bool). cond b (open_from F N selected held s) model.closed_session) e

-- ---- the check

abbrev pub by_refusal : ℕ → ℕ → Result ℕ ℕ
by_refusal n i = cond (eqb n 0) (Ok i) (Err n)

-- a call that is not refused
pub record Through (sv : Server) (session : ℕ) (wanted : Bool) (out : ℕ) : Type 0 where
  pub from_one : 1 ≤ session
  pub inside : session - 1 < sv.sessions
  pub linked : (link_of sv (session - 1)).linked ≡ wanted
  pub room : 258 ≤ out

asked_state : (wanted a b : Bool) → a ≡ b → cond wanted a (not a) ≡ in_state wanted b
unfolding in_state
asked_state true a b e = e
asked_state false a b e = ap not e

state_is : (wanted a : Bool) → cond wanted a (not a) ≡ true → a ≡ wanted
state_is true a e = e
state_is false true e = let z : ◌≡◌ {A = ℕ} 0 1 = cc in absurd (omega arith)
state_is false false e = refl

module _ (sv : Server) (l : Lent) (g : Good sv l) (session : ℕ) (wanted : Bool) (out : ℕ) where
  abbrev i : ℕ
  i = session - 1

  abbrev there : Bool
  there = (model.session_at (view sv l) i).linked

  linked_is : i < sv.sessions → there ≡ (link_of sv i).linked
  linked_is h = ap (λ (k : model.Session). k.linked) (link_view sv l g i h)
      ∙ linked_from (files_of sv l) (numbered sv l) (part (i * sv.most) sv.most l.selected) (part (i * 258) 258 l.held) (link_of sv i)

  refusal_is : refusal (view sv l) session wanted out
      ≡ cond (eqb session 0) 34 (cond (ltb sv.sessions session) 34 (cond (cond wanted there (not there)) (cond (ltb out 258) 32 0) 34))
  unfolding refusal
  refusal_is = rw (each_length sv.sessions (session_of sv l))

  both : (t w : Bool) → cond t (cond w (Err 32) (Ok i)) (Err 34) ≡ by_refusal (cond t (cond w 32 0) 34) i
  both true true = refl
  both true false = refl
  both false w = refl

  pub check_is : check_of sv l session wanted out ≡ by_refusal (refusal (view sv l) session wanted out) i
  unfolding session_check
  check_is =
      good_check sv l g session wanted out
      ∙ go (eqb session 0) refl (ltb sv.sessions session) refl
      ∙ ap (λ (n : ℕ). by_refusal n i) (sym refusal_is)
    where
      go : (a : Bool) → eqb session 0 ≡ a → (b : Bool) → ltb sv.sessions session ≡ b
          → cond {A = Result ℕ ℕ} a (Err 34) (cond b (Err 34) (cond (in_state wanted (link_of sv i).linked) (cond (ltb out 258) (Err 32) (Ok i)) (Err 34)))
          ≡ by_refusal (cond a 34 (cond b 34 (cond (cond wanted there (not there)) (cond (ltb out 258) 32 0) 34))) i
      go true d b e = refl
      go false d true e = refl
      go false d false e =
          let h : i < sv.sessions = omega (arith, eqb-false session 0 d, ltb-false sv.sessions session e) in
          ap (λ (t : Bool). cond t (cond (ltb out 258) (Err 32) (Ok i)) (Err 34)) (sym (asked_state wanted there (link_of sv i).linked (linked_is h)))
          ∙ both (cond wanted there (not there)) (ltb out 258)

  pub through : refusal (view sv l) session wanted out ≡ 0 → Through sv session wanted out
  through z =
      go (eqb session 0) refl (ltb sv.sessions session) refl (cond wanted there (not there)) refl (ltb out 258) refl (sym refusal_is ∙ z)
    where
      go : (a : Bool) → eqb session 0 ≡ a → (b : Bool) → ltb sv.sessions session ≡ b → (t : Bool) → cond wanted there (not there) ≡ t
          → (w : Bool) → ltb out 258 ≡ w → ◌≡◌ {A = ℕ} (cond a 34 (cond b 34 (cond t (cond w 32 0) 34))) 0 → Through sv session wanted out
      go true d b e t f w k z = absurd (omega arith)
      go false d true e t f w k z = absurd (omega arith)
      go false d false e false f w k z = absurd (omega arith)
      go false d false e true f true k z = absurd (omega arith)
      go false d false e true f false k z =
          let h : i < sv.sessions = omega (arith, eqb-false session 0 d, ltb-false sv.sessions session e) in
          record {
            from_one = omega (arith, eqb-false session 0 d);
            inside = h;
            linked = sym (linked_is h) ∙ state_is wanted there f;
            room = ltb-false out 258 k;
          }

-- ---- one session is another one, and the files are as they were

module _ (sv : Server) (l : Lent) (g : Good sv l) (i : ℕ) (inside : i < sv.sessions) where
  pub four : i < length sv.links
  four = omega (arith, (facts sv l g).sizes.sessions, g.links)

  pub link_moved : (s : Session) (selected held : List ℕ)
      → ((j : ℕ) → (j ≡ i → ⊥) → part (j * sv.most) sv.most selected ≡ part (j * sv.most) sv.most l.selected)
      → ((j : ℕ) → (j ≡ i → ⊥) → part (j * 258) 258 held ≡ part (j * 258) 258 l.held)
      → view (with_link sv i s) (lent l.disk l.map l.owner l.table selected held)
      ≡ model.with_session (view sv l) i
      (session_from (files_of sv l) (numbered sv l) (part (i * sv.most) sv.most selected) (part (i * 258) 258 held) s)
  link_moved s selected held p q =
      ap (λ (ks : List model.Session). model.model (view sv l) sv.last.number sv.last.time (view sv l).files ks)
      (each_set sv.sessions (session_of sv l) now i inside others ∙ ap (set (each sv.sessions (session_of sv l)) i) here)
    where
      now : ℕ → model.Session
      now = session_of (with_link sv i s) (lent l.disk l.map l.owner l.table selected held)

      here : now i ≡ session_from (files_of sv l) (numbered sv l) (part (i * sv.most) sv.most selected) (part (i * 258) 258 held) s
      here =
          ap (session_from (files_of sv l) (numbered sv l) (part (i * sv.most) sv.most selected) (part (i * 258) 258 held))
          (get_or-set_same sv.links i s closed_session four)

      others : (j : ℕ) → j < sv.sessions → (j ≡ i → ⊥) → now j ≡ session_of sv l j
      others j h n =
          ap (session_from (files_of sv l) (numbered sv l) (part (j * sv.most) sv.most selected) (part (j * 258) 258 held))
          (get_or-set_other sv.links i j s closed_session n)
          ∙ ap₂ (λ (a b : List ℕ). session_from (files_of sv l) (numbered sv l) a b (link_of sv j)) (p j n) (q j n)

  -- ---- an open session, changed

  module _ (linked : (link_of sv i).linked ≡ true) where
    pub open_view : model.session_at (view sv l) i
        ≡ open_from (files_of sv l) (numbered sv l) (part (i * sv.most) sv.most l.selected) (part (i * 258) 258 l.held) (link_of sv i)
    open_view =
        link_view sv l g i inside
        ∙ open_from_law (files_of sv l) (numbered sv l) (part (i * sv.most) sv.most l.selected) (part (i * 258) 258 l.held) (link_of sv i) linked

    -- its own part of what is lent is as it was
    pub state_moved : (s : Session) (h : model.Session → model.Session) → s.linked ≡ true
        → open_from (files_of sv l) (numbered sv l) (part (i * sv.most) sv.most l.selected) (part (i * 258) 258 l.held) s
        ≡ h (open_from (files_of sv l) (numbered sv l) (part (i * sv.most) sv.most l.selected) (part (i * 258) 258 l.held) (link_of sv i))
        → view (with_link sv i s) l ≡ in_session i h (view sv l)
    state_moved s h o e =
        link_moved s l.selected l.held (λ j n. refl) (λ j n. refl)
        ∙ ap (model.with_session (view sv l) i)
        (open_from_law (files_of sv l) (numbered sv l) (part (i * sv.most) sv.most l.selected) (part (i * 258) 258 l.held) s o ∙ e ∙ ap h (sym open_view))

  pub link_stays : model.with_session (view sv l) i (model.session_at (view sv l) i) ≡ view sv l
  link_stays =
      ap (λ (ks : List model.Session). model.model (view sv l) sv.last.number sv.last.time (view sv l).files ks)
      (set-get_or (each sv.sessions (session_of sv l)) i model.closed_session)

  pub view_stays : view (with_link sv i (link_of sv i)) l ≡ view sv l
  view_stays =
      link_moved (link_of sv i) l.selected l.held (λ j n. refl) (λ j n. refl)
      ∙ ap (model.with_session (view sv l) i) (sym (link_view sv l g i inside)) ∙ link_stays
