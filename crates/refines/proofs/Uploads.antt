-- UPLOAD_CMD that continues a file is a step of the machine: another session is uploading it by place exactly where one is by number.
use mathlib.Core.Path.{◌≡◌, refl, sym, ap, ap₂, ◌∙◌, subst}
use mathlib.Core.Bool.{Bool, true, false, cond}
use mathlib.Core.List.{List, [], ◌∷◌}
use mathlib.Core.Option.{Option}
use Prim.Native.Nat.{ℕ, zero, suc, ◌≤◌, ◌<◌}
use native.Mathlib.Omega.{arith}
use borrow.Author.Tests.{eq-eqb, ne_eqb}
use lib.Dec.{eqb}
use lib.ListN.{length, get_or, set}
use Rattle.session.specs.declared.state.Session.{Session}
use Rattle.session.specs.declared.state.Uplink.{Uplink}
use Rattle.session.specs.declared.state.Uplink.TheVariants as up
use Rattle.session.specs.declared.reply.Reply.TheVariants as reply
use Rattle.session.specs.State.{closed_session, with_up}
use Rattle.std.proofs.Common.{Some, None}
use Rattle.std.specs.Prelude as std
use Rattle.table.specs.Table.{numbers, file_at, find_of}
use Rattle.table.specs.Fit.{Distinct}
use Rattle.table.proofs.Finding.{by_equal, find_number_law, find_own}
use Rattle.decide.specs.Uplink.{uploads_in, uploads, on_continued}
use Rattle.decide.specs.Uplink as decide
use Rattle.decide.specs.declared.act.Act.TheVariants as act
use Rattle.carry.specs.Carry.{carry_out}
use Rattle.server.specs.declared.Server.{Server}
use Rattle.server.specs.State.{Lent, link_of}
use Rattle.model.specs.State as model
use Rattle.model.specs.State.{File, in_session, turn}
use Rattle.model.specs.Files.{find, receives, uploading}
use Rattle.model.specs.Uplink.{upload_continued}
use Rattle.views.specs.View.{file_in, up_of, open_from, session_from, session_of, each}
use Rattle.views.proofs.Views.{facts, find_view, open_view}
use Rattle.views.proofs.Bytes as bytes
use Rattle.refines.proofs.Packets.{Here, F, N, fs, s0, k0, M, does, on, moves, tells}

-- ---- one of the first n numbers passes a test

any : ℕ → (ℕ → Bool) → Bool
any zero h = false
any (suc n) h = cond (h 0) true (any n (λ j. h (suc j)))

any_same : (n : ℕ) (g h : ℕ → Bool) → ((j : ℕ) → j < n → g j ≡ h j) → any n g ≡ any n h
unfolding any
any_same zero g h e = refl
any_same (suc n) g h e =
    ap₂ (λ (x y : Bool). cond x true y) (e 0 (omega arith)) (any_same n (λ j. g (suc j)) (λ j. h (suc j)) (λ j k. e (suc j) (omega arith)))

any_none : (n : ℕ) (h : ℕ → Bool) → ((j : ℕ) → j < n → h j ≡ false) → any n h ≡ false
unfolding any
any_none zero h e = refl
any_none (suc n) h e = rw (e 0 (omega arith)) (any_none n (λ j. h (suc j)) (λ j k. e (suc j) (omega arith)))

-- the others do not pass it
any_more : (n m : ℕ) (h : ℕ → Bool) → n ≤ m → ((j : ℕ) → n ≤ j → j < m → h j ≡ false) → any m h ≡ any n h
unfolding any
any_more zero m h k e = any_none m h (λ j b. e j (omega arith) b)
any_more (suc n) zero h k e = absurd (omega arith)
any_more (suc n) (suc m) h k e =
    ap (cond (h 0) true) (any_more n m (λ j. h (suc j)) (omega arith) (λ j a b. e (suc j) (omega arith) (omega arith)))

or-false : (b : Bool) → b ≡ cond b true false
or-false true = refl
or-false false = refl

-- of the four sessions
four_any : (links : List Session) (place : ℕ) → decide.uploading links place ≡ any 4 (λ j. uploads (get_or links j closed_session) place)
unfolding any
four_any links place =
    ap (λ (x : Bool). cond (uploads (get_or links 0 closed_session) place) true
    (cond (uploads (get_or links 1 closed_session) place) true (cond (uploads (get_or links 2 closed_session) place) true x)))
    (or-false (uploads (get_or links 3 closed_session) place))

each_any : (n : ℕ) (f : ℕ → model.Session) (k : ℕ) → uploading (each n f) k ≡ any n (λ j. receives (f j).up k)
unfolding any uploading each
each_any zero f k = refl
each_any (suc n) f k = ap (cond (receives (f 0).up k) true) (each_any n (λ j. f (suc j)) k)

uploading_set : (ks : List model.Session) (i : ℕ) (x : model.Session) (k : ℕ) → (get_or ks i model.closed_session).up ≡ x.up → uploading (set ks i x) k ≡ uploading ks k
unfolding uploading
uploading_set [] i x k e = refl
uploading_set (y ∷ ks) zero x k e = ap (λ (u : model.Uplink). cond (receives u k) true (uploading ks k)) (sym e)
uploading_set (y ∷ ks) (suc i) x k e = ap (cond (receives y.up k) true) (uploading_set ks i x k e)

module _ (c : Here) where
  abbrev sv : Server
  sv = c.sv

  abbrev l : Lent
  l = c.l

  one : Distinct (numbers (fs c))
  one = (facts sv l c.good).store.files.numbers

  module _ (place n : ℕ) (file : (F c place).file.number ≡ 0 → ⊥) (is : (F c place).file.number ≡ n) where
    -- the places of two files are the same exactly where their numbers are
    same_place : (q : ℕ) → ((F c q).file.number ≡ 0 → ⊥) → eqb (F c q).file.number n ≡ eqb q place
    same_place q live =
        by_equal q place
        (λ z. eq-eqb (F c q).file.number n (ap (λ (k : ℕ). (F c k).file.number) z ∙ is) ∙ sym (eq-eqb q place z))
        (λ z. ne_eqb (F c q).file.number n (λ e. z (apart e)) ∙ sym (ne_eqb q place z))
      where
        apart : (F c q).file.number ≡ n → q ≡ place
        apart e =
            let a = find_own (fs c) one q live in
            let b = find_own (fs c) one place file in
            let x : Some q ≡ Some place = sym a ∙ ap (find_of (fs c)) (e ∙ sym is) ∙ b in
            cc

    receives_same : (u : Uplink) → ((q o r : ℕ) → u ≡ up.Receiving q o r → (F c q).file.number ≡ 0 → ⊥) → receives (up_of (F c) u) n ≡ uploads_in u place
    receives_same up.Idle h = refl
    receives_same (up.Receiving q o r) h = same_place q (h q o r refl)
    receives_same up.Ignoring h = refl

    link_same : (a b : List ℕ) (s : Session) → (s.linked ≡ true → (q o r : ℕ) → s.up ≡ up.Receiving q o r → (F c q).file.number ≡ 0 → ⊥)
        → receives (session_from (F c) (N c) a b s).up n ≡ uploads s place
    link_same a b s h = go s.linked h
      where
        go : (t : Bool) → (t ≡ true → (q o r : ℕ) → s.up ≡ up.Receiving q o r → (F c q).file.number ≡ 0 → ⊥)
            → receives (cond t (open_from (F c) (N c) a b s) model.closed_session).up n ≡ cond t (uploads_in s.up place) false
        go true h = receives_same s.up (h refl)
        go false h = refl

    closed_none : (s : Session) → s.linked ≡ false → uploads s place ≡ false
    closed_none s e = rw e

    uploading_is : uploading (M c).sessions n ≡ decide.uploading sv.links place
    uploading_is =
        uploading_set (each sv.sessions (session_of sv l)) c.i (k0 c) n
        (ap (λ (k : model.Session). k.up) (open_view sv l c.good c.i c.inside c.linked))
        ∙ each_any sv.sessions (session_of sv l) n
        ∙ any_same sv.sessions (λ j. receives (session_of sv l j).up n) (λ j. uploads (link_of sv j) place)
        (λ j h. link_same _ _ (link_of sv j) (λ o q a b e. (((facts sv l c.good).sessions.each j h o).receiving q a b e).number))
        ∙ sym (any_more sv.sessions 4 (λ j. uploads (link_of sv j) place) (facts sv l c.good).sizes.sessions
        (λ j a b. closed_none (link_of sv j) ((facts sv l c.good).sessions.beyond j a b)))
        ∙ sym (four_any sv.links place)

  resumes : (place n : ℕ) → ((F c place).file.number ≡ 0 → ⊥) → (F c place).file.number ≡ n
      → does c (act.Resume place n (file_at (fs c) place).received)
      ≡ turn (reply.Go n (length (F c place).bytes)) (in_session c.i (model.with_up (model.receiving n)) (M c))
  unfolding carry_out
  resumes place n file is =
      moves c (with_up (s0 c) (up.Receiving place (file_at (fs c) place).received 0)) (model.with_up (model.receiving n)) c.linked
      (ap (λ (k : ℕ). model.with_up (model.receiving k) (k0 c)) is) (reply.Go n (file_at (fs c) place).received)
      ∙ ap (λ (k : ℕ). turn (reply.Go n k) (in_session c.i (model.with_up (model.receiving n)) (M c)))
      (sym (bytes.bytes_received sv l (facts sv l c.good) place file))

  continued_does : (found : std.Option ℕ) (n size : ℕ) → find_of (fs c) n ≡ found → (n ≡ 0 → ⊥)
      → does c (on_continued found n size sv.links (fs c)) ≡ upload_continued (file_in (F c) found) (M c) c.i n size
  unfolding on_continued upload_continued
  continued_does None n size e z = tells c (reply.UploadError 4)
  continued_does (Some place) n size e z =
      on c (eqb (file_at (fs c) place).time 0) _ _ _ _
      (λ _.
      on c (eqb (file_at (fs c) place).size size) _ _ _ _
      (λ _.
      subst (λ (b : Bool).
      does c (cond b (act.Tell (reply.UploadError 2)) (act.Resume place n (file_at (fs c) place).received))
      ≡ cond (uploading (M c).sessions n) (turn (reply.UploadError 2) (M c)) (turn (reply.Go n (length (F c place).bytes)) (in_session c.i (model.with_up (model.receiving n)) (M c))))
      (uploading_is place n file is)
      (on c (uploading (M c).sessions n) _ _ _ _ (λ _. tells c (reply.UploadError 2)) (λ _. resumes place n file is)))
      (λ _. tells c (reply.UploadError 2)))
      (λ _. tells c (reply.UploadError 12))
    where
      is : (F c place).file.number ≡ n
      is = find_number_law (fs c) n place e

      file : (F c place).file.number ≡ 0 → ⊥
      file y = z (sym is ∙ y)

  pub continues : (n size : ℕ) → (n ≡ 0 → ⊥)
      → does c (on_continued (find_of (fs c) n) n size sv.links (fs c)) ≡ upload_continued (find n (M c).files) (M c) c.i n size
  continues n size z =
      continued_does (find_of (fs c) n) n size refl z
      ∙ ap (λ (f : Option File). upload_continued f (M c) c.i n size) (sym (find_view sv l c.good n))
