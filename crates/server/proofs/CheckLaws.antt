-- What the tests of the local refusals say where they are true. Assumes nothing.
use Rattle.std.specs.Prelude.{Result, Ok, Err}
use mathlib.Core.Path.{◌≡◌, refl, ap, ◌∙◌}
use mathlib.Core.Bool.{Bool, true, false, cond}
use Prim.Native.Nat.{ℕ, ◌+◌, ◌-◌, ◌*◌, ◌≤◌, ◌<◌}
use native.Mathlib.Omega.{arith}
use native.Mathlib.Nat.{le_trans}
use borrow.Author.Tests.{leb-true, ltb-false, eqb-false}
use lib.Dec.{leb, ltb, eqb}
use lib.ListN.{length}
use mathlib.Core.List.{List, []}
use Rattle.links.proofs.Facts.{part_end}
use Rattle.server.specs.declared.Server.{Server}
use Rattle.server.specs.declared.check.Lengths.{Lengths}
use Rattle.server.specs.State.{Lent, lent, words, link_of}
use Rattle.server.specs.Check.{lengths_of, sizes_fit, room_fits, fits, in_state, session_check, check_by, check_for}
use Rattle.server.specs.Calls.{StepPre, LosePre, DuePre, on_request}

-- what is judged by the lengths of slices is judged for these slices
pub judged : (sound : Bool) (sv : Server) (l : Lent) (session : ℕ) (wanted : Bool) (out : ℕ) (n : Lengths) (k : Result ℕ ℕ) → n ≡ lengths_of l
    → k ≡ check_by sound sv session wanted out n.disk n.map n.owner n.table n.selected n.held → k ≡ check_for sound sv l session wanted out
judged sound sv l session wanted out n k e f =
    f ∙ ap (λ (m : Lengths). check_by sound sv session wanted out m.disk m.map m.owner m.table m.selected m.held) e

-- a test and then another
first : (t a : Bool) → cond t a false ≡ true → t ≡ true
first true a e = refl
first false a e = e

second : (t a : Bool) → cond t a false ≡ true → a ≡ true
second true a e = e
second false a e = let z : ◌≡◌ {A = ℕ} 0 1 = cc in absurd (omega arith)

pub record Sizes (b f s m : ℕ) : Type 0 where
  pub blocks : b ≤ 4096
  pub files : f ≤ 256
  pub sessions : s ≤ 4
  pub most : m ≤ 50

pub sizes_true : (b f s m : ℕ) → sizes_fit b f s m ≡ true → Sizes b f s m
unfolding sizes_fit
sizes_true b f s m e =
    let e2 = second (leb 1 b) _ e in
    let e3 = second (leb b 4096) _ e2 in
    let e4 = second (leb 1 f) _ e3 in
    let e5 = second (leb f 256) _ e4 in
    let e6 = second (leb 1 s) _ e5 in
    let e7 = second (leb s 4) _ e6 in
    record {
      blocks = leb-true b 4096 (first (leb b 4096) _ e2);
      files = leb-true f 256 (first (leb f 256) _ e4);
      sessions = leb-true s 4 (first (leb s 4) _ e6);
      most = leb-true m 50 (second (leb 1 m) _ e7);
    }

pub record Room (b f s m d p o t x h : ℕ) : Type 0 where
  pub disk : 256 * b ≤ d
  pub map : words b ≤ p
  pub owner : b ≤ o
  pub table : 4 * f ≤ t
  pub selected : s * m ≤ x
  pub held : s * 258 ≤ h

pub room_true : (b f s m d p o t x h : ℕ) → room_fits b f s m d p o t x h ≡ true → Room b f s m d p o t x h
unfolding room_fits
room_true b f s m d p o t x h e =
    let e2 = second (leb (256 * b) d) _ e in
    let e3 = second (leb (words b) p) _ e2 in
    let e4 = second (leb b o) _ e3 in
    let e5 = second (leb (4 * f) t) _ e4 in
    record {
      disk = leb-true (256 * b) d (first (leb (256 * b) d) _ e);
      map = leb-true (words b) p (first (leb (words b) p) _ e2);
      owner = leb-true b o (first (leb b o) _ e3);
      table = leb-true (4 * f) t (first (leb (4 * f) t) _ e4);
      selected = leb-true (s * m) x (first (leb (s * m) x) _ e5);
      held = leb-true (s * 258) h (second (leb (s * m) x) _ e5);
    }

-- both, as the check has them
pub both_true : (t a : Bool) → cond t a false ≡ true → (t ≡ true) × (a ≡ true)
both_true t a e = (first t a e, second t a e)

-- ---- a call that goes through

pub record Passed (sv : Server) (i disk o : ℕ) (map owner table selected held : List ℕ) : Type 0 where
  pub sizes : Sizes sv.blocks sv.files sv.sessions sv.most
  pub room : Room sv.blocks sv.files sv.sessions sv.most disk (length map) (length owner) (length table) (length selected) (length held)
  pub index : i < sv.sessions
  pub out : 258 ≤ o

session_go : (sv : Server) (session : ℕ) (wanted : Bool) (out i : ℕ) → session_check sv session wanted out ≡ Ok i → (i < sv.sessions) × (258 ≤ out)
unfolding session_check
session_go sv session wanted out i e =
    go (eqb session 0) refl (ltb sv.sessions session) refl (in_state wanted (link_of sv (session - 1)).linked) (ltb out 258) refl e
  where
    go : (a : Bool) → eqb session 0 ≡ a → (b : Bool) → ltb sv.sessions session ≡ b → (d f : Bool)
        → ltb out 258 ≡ f
        → cond {A = Result ℕ ℕ} a (Err 34) (cond b (Err 34) (cond d (cond f (Err 32) (Ok (session - 1))) (Err 34))) ≡ Ok i
        → (i < sv.sessions) × (258 ≤ out)
    go true p b q d f r e = let z : ◌≡◌ {A = ℕ} 0 1 = cc in absurd (omega arith)
    go false p true q d f r e = let z : ◌≡◌ {A = ℕ} 0 1 = cc in absurd (omega arith)
    go false p false q false f r e = let z : ◌≡◌ {A = ℕ} 0 1 = cc in absurd (omega arith)
    go false p false q true true r e = let z : ◌≡◌ {A = ℕ} 0 1 = cc in absurd (omega arith)
    go false p false q true false r e =
        let s : session - 1 ≡ i = cc in
        (omega (arith, ltb-false sv.sessions session q, eqb-false session 0 p), ltb-false out 258 r)

-- where sizes and lengths fit, the session's check says the rest
passed : (sv : Server) (session : ℕ) (wanted : Bool) (out disk : ℕ) (map owner table selected held : List ℕ) (i : ℕ)
    → fits sv disk map owner table selected held ≡ true → session_check sv session wanted out ≡ Ok i
    → Passed sv i disk out map owner table selected held
passed sv session wanted out disk map owner table selected held i f e =
    let t = both_true (sizes_fit sv.blocks sv.files sv.sessions sv.most) _ f in
    record {
      sizes = sizes_true sv.blocks sv.files sv.sessions sv.most t.0;
      room = room_true sv.blocks sv.files sv.sessions sv.most disk (length map) (length owner) (length table) (length selected) (length held) t.1;
      index = (session_go sv session wanted out i e).0;
      out = (session_go sv session wanted out i e).1;
    }

pub check_go : (sound : Bool) (sv : Server) (session : ℕ) (wanted : Bool) (out disk : ℕ) (map owner table selected held : List ℕ) (i : ℕ)
    → check_by sound sv session wanted out disk (length map) (length owner) (length table) (length selected) (length held) ≡ Ok i
    → Passed sv i disk out map owner table selected held
unfolding check_by
check_go sound sv session wanted out disk map owner table selected held i e = go (fits sv disk map owner table selected held) refl sound e
  where
    go : (a : Bool) → fits sv disk map owner table selected held ≡ a → (d : Bool)
        → cond {A = Result ℕ ℕ} a (cond d (session_check sv session wanted out) (Err 35)) (Err 33) ≡ Ok i → Passed sv i disk out map owner table selected held
    go false p d e = let z : ◌≡◌ {A = ℕ} 0 1 = cc in absurd (omega arith)
    go true p false e = let z : ◌≡◌ {A = ℕ} 0 1 = cc in absurd (omega arith)
    go true p true e = passed sv session wanted out disk map owner table selected held i p e

-- ---- so there is room for each call

module _ (sv : Server) (i disk o : ℕ) (map owner table selected held : List ℕ) (p : Passed sv i disk o map owner table selected held) where
  pub go_index : i ≤ 3
  go_index = omega (arith, p.index, p.sizes.sessions)

  go_selections : i * sv.most + sv.most ≤ length selected
  go_selections = le_trans (part_end i sv.sessions sv.most p.index) p.room.selected

  go_part : i * 258 + 258 ≤ length held
  go_part = le_trans (part_end i sv.sessions 258 p.index) p.room.held

  pub go_step : StepPre sv i map owner table selected held
  go_step =
      record {
        act =
            record {
              blocks = p.sizes.blocks;
              files = p.sizes.files;
              most = p.sizes.most;
              session = go_index;
              words = p.room.map;
              owners = p.room.owner;
              records = p.room.table;
              selections = go_selections;
            };
        part = go_part;
      }

  pub go_lose : LosePre sv i selected held
  go_lose = record { session = go_index; most = p.sizes.most; selections = go_selections; part = go_part }

  pub go_due : (out : List ℕ) → o ≡ length out → DuePre sv i owner table selected out
  go_due out e =
      record {
        session = go_index;
        files = p.sizes.files;
        most = p.sizes.most;
        owners = p.room.owner;
        records = p.room.table;
        selections = go_selections;
        packet = omega (arith, p.out, e);
      }

-- a request looks at the storage, the owners, the file table and the selections alone
pub request_parts : (k : Result ℕ ℕ) (sv : Server) (l : Lent) (out : List ℕ)
    → on_request k sv (lent l.disk [] l.owner l.table l.selected []) out ≡ on_request k sv l out
unfolding on_request
request_parts (Ok i) sv l out = refl
request_parts (Err n) sv l out = refl
