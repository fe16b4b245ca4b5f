-- What a call leaves of the last number and time given, and of a session without a link: the two stay numbers of 32 bits where the clock of a receive call
-- is one, and the session is the closed one. Assumes nothing.
use Rattle.std.specs.Prelude.{Result}
use mathlib.Core.Path.{◌≡◌, refl, sym, ◌∙◌}
use mathlib.Core.Bool.{true, false}
use mathlib.Core.List.{List, [], ◌∷◌}
use Prim.Native.Nat.{ℕ, zero, suc, ◌+◌, ◌<◌}
use native.Mathlib.Omega.{arith}
use lib.Dec.{eqb, ltb}
use lib.ListN.{length, get_or, set, take}
use borrow.Author.Tests.{eqb-false}
use Rattle.session.specs.declared.state.Session.{Session}
use Rattle.session.specs.declared.state.Downlink.{Downlink}
use Rattle.session.specs.declared.state.Downlink.TheVariants as down
use Rattle.session.specs.declared.reply.Reply.{Reply}
use Rattle.session.specs.State.{closed_session, fresh_session}
use Rattle.table.specs.declared.File.{File}
use Rattle.std.proofs.Common.{Option, Some, None, Result, Ok, Err}
use Rattle.table.specs.Table.{file_at}
use Rattle.table.specs.Given.{next_number, upload_time}
use Rattle.files.specs.Uploads as files
use Rattle.files.specs.Completion.{check_of, complete_of, destinations_at}
use Rattle.files.specs.Selection.{refusal_in, select_of}
use Rattle.decide.specs.declared.act.Act.{Act}
use Rattle.decide.specs.declared.act.Act.TheVariants as act
use Rattle.carry.specs.declared.turn.Last.{Last}
use Rattle.carry.specs.declared.turn.Turn.{Turn}
use Rattle.carry.specs.Turn.{last_of, turn_of, Mem, Writes, Chooses}
use Rattle.carry.specs.Upload as upload
use Rattle.carry.specs.Download as download
use Rattle.carry.specs.Carry.{on_frees, on_writes, on_moves, on_chooses, carry_out}
use Rattle.server.specs.declared.Server.{Server}
use Rattle.server.specs.State.{Lent, link_of}
use Rattle.server.specs.Turns.{put_back, act_of}
use Rattle.server.specs.Calls.{answered_by, heard_by, step_of, on_check, receive_of, on_login, login_of, on_lose, lose_of, due_as, on_request, request_of, login_by, request_by, receive_by, lose_by}
use Rattle.listing.specs.Listing.{entries_of, fill_of}
use Rattle.sending.specs.Sending.{Due, data_of, sending_of, listed_as, due_of}
use Rattle.embed.specs.Fit.{LastFits}
use Rattle.history.specs.Calls.{Call, login, receive, request, lose, call_of}
use Rattle.history.specs.Good.{Good}
use Rattle.history.proofs.Acted.{by_test}
use Rattle.history.proofs.GoodFacts.{checked}
use Rattle.driver.specs.Driver.{Clocked}

-- ---- what is kept

-- a session without a link is the closed one
abbrev pub Rests : Session → Type 0
Rests s = s.linked ≡ false → s ≡ closed_session

clash : true ≡ false → ⊥
clash e = let z : ◌≡◌ {A = ℕ} 0 1 = cc in omega arith

linked_rests : (s : Session) → s.linked ≡ true → Rests s
linked_rests s e d = absurd (clash (sym e ∙ d))

-- of a turn
record Keeps (t : Turn) : Type 0 where
  last : LastFits t.last
  rests : Rests t.session

-- ---- what is given

abbrev Below : Option ℕ → Type 0
Below None = Unit {0}
Below (Some n) = n < 4294967296

number_below : (last : ℕ) → last < 4294967296 → Below (next_number last)
number_below last h = by_test Below (eqb last 4294967295) _ _ (λ e. tt) (λ e. omega (arith, eqb-false last 4294967295 e))

time_below : (clock last : ℕ) → clock < 4294967296 → last < 4294967296 → Below (upload_time clock last)
time_below clock last c h =
    by_test Below (eqb last 4294967295) _ _ (λ e. tt)
    (λ e. by_test (λ (n : ℕ). n < 4294967296) (ltb clock (last + 1)) _ _ (λ d. omega (arith, eqb-false last 4294967295 e)) (λ d. c))

-- ---- the acts

module _ (s : Session) (last : Last) (fits : LastFits last) (linked : s.linked ≡ true) where
  -- a session that stays linked, with nothing given
  stays : (x : Session) (r : Reply) → x.linked ≡ true → Keeps (turn_of x last r)
  stays x r e = record { last = fits; rests = linked_rests x e }

  gives : (x : Session) (given : Last) (r : Reply) → LastFits given → x.linked ≡ true → Keeps (turn_of x given r)
  gives x given r f e = record { last = f; rests = linked_rests x e }

  begun_keeps : (b : Result ℕ ℕ) (number : ℕ) → number < 4294967296 → Keeps (upload.begun_turn b s last number)
  unfolding upload.begun_turn
  begun_keeps (Err n) number h = stays s _ linked
  begun_keeps (Ok place) number h = gives _ (last_of number last.time) _ (record { number = h; time = fits.time }) linked

  begin_keeps : (g : Option ℕ) → Below g → (size : ℕ) (map owner table : List ℕ) → Keeps (upload.begin_with g s last size map owner table).turn
  unfolding upload.begin_with upload.begun_as
  begin_keeps None h size map owner table = stays s _ linked
  begin_keeps (Some number) h size map owner table = begun_keeps (files.begin_of map owner table last.number size).answer number h

  store_keeps : (place offset received size : ℕ) (info disk owner table : List ℕ)
      → Keeps (upload.store_turn s last place offset received size info disk owner table).turn
  unfolding upload.store_turn upload.appended_as upload.stored_as
  store_keeps place offset received size info disk owner table =
      by_test (λ (w : Writes). Keeps w.turn) (ltb (length info) size) _ _ (λ e. stays s _ linked)
      (λ e.
      by_test Keeps (eqb (files.append_of disk owner table place (take size info)).answer 0) _ _ (λ d. stays _ _ linked) (λ d. stays s _ linked))

  accepted_keeps : (n time : ℕ) → time < 4294967296 → Keeps (upload.accepted_as n s last time)
  unfolding upload.accepted_as
  accepted_keeps n time h =
      by_test Keeps (eqb n 0) _ _ (λ e. gives _ (last_of last.number time) _ (record { number = fits.number; time = h }) linked)
      (λ e. stays _ _ linked)

  timed_keeps : (g : Option ℕ) → Below g → (place : ℕ) (disk map owner table : List ℕ)
      → Keeps (upload.finish_as (upload.timed g) s last place disk map owner table).turn
  unfolding upload.finish_as upload.timed upload.with_disk upload.with_blocks upload.discard_turn upload.accept_turn
  timed_keeps None h place disk map owner table = stays _ _ linked
  timed_keeps (Some time) h place disk map owner table = accepted_keeps (complete_of disk owner table place time).answer time h

  finish_keeps : (place clock : ℕ) (disk map owner table : List ℕ) → clock < 4294967296
      → Keeps (upload.finish_turn s last place clock disk map owner table).turn
  unfolding upload.judged_at upload.finish_as upload.with_disk upload.discard_turn
  finish_keeps place clock disk map owner table c =
      by_test (λ j. Keeps (upload.finish_as j s last place disk map owner table).turn) (eqb (check_of disk owner table place) 0) _ _
      (λ e. timed_keeps (upload_time clock last.time) (time_below clock last.time c fits.time) place disk map owner table)
      (λ e. stays _ _ linked)

  select_keeps : (most size : ℕ) (info disk owner table selected : List ℕ)
      → Keeps (download.select_turn s last most size info disk owner table selected).turn
  unfolding download.select_turn download.selected_as
  select_keeps most size info disk owner table selected =
      by_test (λ (x : Chooses). Keeps x.turn) (ltb (length info) size) _ _ (λ e. stays s _ linked)
      (λ e.
      by_test (λ (x : Chooses). Keeps x.turn) (eqb (refusal_in (select_of (take size info) disk owner table selected most).answer) 0) _ _
      (λ d. stays _ _ linked) (λ d. stays s _ linked))

  send_keeps : (place offset lock passed : ℕ) (disk owner table : List ℕ)
      → Keeps (download.begin_turn s last place offset lock passed disk owner table)
  unfolding download.begin_turn
  send_keeps place offset lock passed disk owner table =
      by_test Keeps (ltb (destinations_at disk owner table place) lock) _ _ (λ e. stays s _ linked) (λ e. stays _ _ linked)

  confirm_keeps : (place destination : ℕ) (disk owner table : List ℕ) → Keeps (download.confirm_turn s last place destination disk owner table)
  unfolding download.confirm_turn
  confirm_keeps place destination disk owner table =
      by_test Keeps (ltb (destinations_at disk owner table place) destination) _ _ (λ e. stays _ _ linked) (λ e. stays _ _ linked)

  carry_keeps : (a : Act) (clock most size : ℕ) (info : List ℕ) (m : Mem) → clock < 4294967296
      → Keeps (carry_out a s last clock most size info m).turn
  unfolding carry_out on_frees on_writes on_moves on_chooses download.close_turn upload.discard_turn
  carry_keeps act.Close clock most size info m c = record { last = fits; rests = λ e. refl }
  carry_keeps act.Ignore clock most size info m c = stays s _ linked
  carry_keeps (act.Tell r) clock most size info m c = stays s _ linked
  carry_keeps (act.Begin n) clock most size info m c =
      begin_keeps (next_number last.number) (number_below last.number fits.number) n m.map m.owner m.table
  carry_keeps (act.Resume place number received) clock most size info m c = stays _ _ linked
  carry_keeps (act.Store place offset received) clock most size info m c = store_keeps place offset received size info m.disk m.owner m.table
  carry_keeps (act.Overrun place) clock most size info m c = stays _ _ linked
  carry_keeps act.Stop clock most size info m c = stays _ _ linked
  carry_keeps (act.Finish place) clock most size info m c = finish_keeps place clock m.disk m.map m.owner m.table c
  carry_keeps act.Select clock most size info m c = select_keeps most size info m.disk m.owner m.table m.selected
  carry_keeps (act.Send place offset lock passed) clock most size info m c = send_keeps place offset lock passed m.disk m.owner m.table
  carry_keeps (act.Confirm place destination) clock most size info m c = confirm_keeps place destination m.disk m.owner m.table
  carry_keeps (act.End r) clock most size info m c = stays _ _ linked
  carry_keeps (act.Abort place) clock most size info m c = stays _ _ linked
  carry_keeps (act.List t long passed) clock most size info m c = unfold download.list_turn in stays _ _ linked

-- ---- a request

due_linked : (d : Downlink) (s : Session) (disk owner : List ℕ) (fs : List File) (selected out : List ℕ) → s.linked ≡ true
    → (due_of d s disk owner fs selected out).asked.session.linked ≡ true
unfolding due_of sending_of data_of listed_as
due_linked down.Idle s disk owner fs selected out e = e
due_linked (down.Sending place offset sent) s disk owner fs selected out e =
    by_test (λ (x : Due). x.asked.session.linked ≡ true) (ltb (offset + sent) (file_at fs place).size) _ _ (λ d. e) (λ d. e)
due_linked (down.Ended place) s disk owner fs selected out e = e
due_linked (down.Aborting place) s disk owner fs selected out e = e
due_linked (down.Listing t long done sent) s disk owner fs selected out e =
    by_test (λ (x : Due). x.asked.session.linked ≡ true)
    (eqb (fill_of (entries_of t long s.next disk owner fs selected) done sent).size 0) _ _ (λ d. e) (λ d. e)

-- ---- the calls

-- a list's entry after another was set is that one or the entry before
set_either : {A : Type 0} (P : A → Type 0) (l : List A) (k i : ℕ) (x d : A) → P x → P (get_or l i d) → P (get_or (set l k x) i d)
set_either P [] k i x d p q = q
set_either P (y ∷ l) zero zero x d p q = p
set_either P (y ∷ l) zero (suc i) x d p q = q
set_either P (y ∷ l) (suc k) zero x d p q = q
set_either P (y ∷ l) (suc k) (suc i) x d p q = set_either P l k i x d p q

-- a server whose last number and time have 32 bits, and whose sessions without a link are closed ones
pub record Kept (sv : Server) : Type 0 where
  pub last : LastFits sv.last
  pub rests : (i : ℕ) → Rests (link_of sv i)

module _ (sv : Server) (l : Lent) (g : Good sv l) (k : Kept sv) where
  moved : (i : ℕ) (s : Session) → Rests s → (j : ℕ) → Rests (get_or (set sv.links i s) j closed_session)
  moved i s r j = set_either Rests sv.links i j s closed_session r (k.rests j)

  step_kept : (i clock : ℕ) (input out : List ℕ) → (link_of sv i).linked ≡ true → clock < 4294967296
      → Kept (step_of sv i clock input l out).done.server
  unfolding step_of heard_by answered_by act_of put_back
  step_kept i clock input out linked c =
      let t = carry_keeps _ sv.last k.last linked _ clock sv.most _ _ _ c in
      record { last = t.last; rests = moved i _ t.rests }

  -- THE LAW
  pub call_kept : (c : Call) → Clocked c → Kept (call_of sv l c).done.server
  unfolding receive_of receive_by on_check login_of login_by on_login lose_of lose_by on_lose request_of request_by on_request due_as
  call_kept (login session clock out) c =
      checked sv l g session false (length out) (λ (x : Result ℕ ℕ). Kept (on_login x sv out clock).done.server) k k
      (λ i inside linked room. record { last = k.last; rests = moved i fresh_session (linked_rests fresh_session refl) })
  call_kept (receive session clock input out) c =
      checked sv l g session true (length out) (λ (x : Result ℕ ℕ). Kept (on_check x sv l out clock input).done.server) k k
      (λ i inside linked room. step_kept i clock input out linked c)
  call_kept (request session out) c =
      checked sv l g session true (length out) (λ (x : Result ℕ ℕ). Kept (on_request x sv l out).done.server) k k
      (λ i inside linked room. record {
        last = k.last;
        rests = moved i _ (linked_rests _ (due_linked (link_of sv i).down (link_of sv i) l.disk _ _ _ out linked));
      })
  call_kept (lose session) c =
      checked sv l g session true 258 (λ (x : Result ℕ ℕ). Kept (on_lose x sv l.selected l.held).done.server) k k
      (λ i inside linked room. record { last = k.last; rests = moved i closed_session (λ e. refl) })
