-- One call on words that are a state: it is the server's own call on the server that they stand for, or it lacks room for its counts. Assumes nothing.
use Rattle.std.specs.Prelude.{Ok, Err}
use mathlib.Core.Path.{◌≡◌, refl, sym, ap, ◌∙◌}
use mathlib.Core.Bool.{Bool, true, cond}
use mathlib.Core.List.{List}
use Prim.Native.Nat.{ℕ, ◌≤◌, ◌<◌}
use native.Mathlib.Omega.{arith}
use borrow.Author.Tests.{lt-ltb, le-ltb, le-leb}
use lib.Dec.{ltb}
use lib.ListN.{length}
use Rattle.session.specs.declared.reply.Answer.{Answer}
use Rattle.session.specs.declared.reply.Answer.TheVariants as answer
use Rattle.blocks.specs.FreeMap.{free_count}
use Rattle.server.specs.declared.Server.{Server}
use Rattle.server.specs.State.{Lent, Outcome, words, map_part}
use Rattle.server.specs.Check.{sizes_fit}
use Rattle.server.specs.Calls.{Opened, Lost}
use Rattle.server.proofs.Answering.{is_refused}
use Rattle.server.proofs.CheckLaws.{both_true}
use Rattle.embed.specs.Words.{encode_of, server_at, is_state, ready_of}
use Rattle.embed.specs.Calls.{told, tell_of, received, received_by, on_receive, receive_by, on_open, open_by, on_request, request_by, on_lose, lose_by, filled, with_counts, fits_at, map_fits, on_free, free_by}
use Rattle.embed.proofs.Reading.{written_back}
use Rattle.embed.proofs.Refusals.{Ended, through, refused, receive_ended, login_ended, request_ended, lose_ended}
use Rattle.history.specs.Calls.{Call, login, receive, request, lose, call_of}
use Rattle.history.specs.Good.{Good}
use Rattle.history.proofs.GoodFacts.{good_facts}
use Rattle.steps.specs.Parts.{out_in}
use Rattle.driver.specs.Driver.{call_by}

-- ---- the driver's own mistake: counts too short

ready_is : (fit : Bool) (w : List ℕ) (counts : ℕ) → 54 ≤ length w → is_state w ≡ true
    → ready_of fit w counts ≡ cond (ltb counts 2) (Err 33) (cond fit (Ok tt) (Err 33))
unfolding ready_of
ready_is fit w counts h e = rw (le-ltb (length w) 54 h, e)

module _ (w : List ℕ) (l : Lent) (room : 54 ≤ length w) (words_are : is_state w ≡ true) where
  pub call_short : (c : Call) (counts : List ℕ) → length counts < 2 → call_by w l c counts ≡ received (told 33 w counts) l (out_in c)
  unfolding call_by open_by on_open receive_by on_receive request_by on_request lose_by on_lose
  call_short (login session clock out) counts h = rw (ready_is (fits_at w l) w (length counts) room words_are, lt-ltb (length counts) 2 h)
  call_short (receive session clock input out) counts h = rw (ready_is (fits_at w l) w (length counts) room words_are, lt-ltb (length counts) 2 h)
  call_short (request session out) counts h = rw (ready_is (fits_at w l) w (length counts) room words_are, lt-ltb (length counts) 2 h)
  call_short (lose session) counts h = rw (ready_is (fits_at w l) w (length counts) room words_are, lt-ltb (length counts) 2 h)

  pub call_own : fits_at w l ≡ true → (c : Call) (counts : List ℕ) → 2 ≤ length counts → call_by w l c counts ≡ received_by w counts (call_of (server_at w) l c)
  unfolding call_by open_by on_open receive_by on_receive request_by on_request lose_by on_lose
  call_own fit (login session clock out) counts h = rw (ready_is (fits_at w l) w (length counts) room words_are, le-ltb (length counts) 2 h, fit)
  call_own fit (receive session clock input out) counts h = rw (ready_is (fits_at w l) w (length counts) room words_are, le-ltb (length counts) 2 h, fit)
  call_own fit (request session out) counts h = rw (ready_is (fits_at w l) w (length counts) room words_are, le-ltb (length counts) 2 h, fit)
  call_own fit (lose session) counts h = rw (ready_is (fits_at w l) w (length counts) room words_are, le-ltb (length counts) 2 h, fit)

  pub free_own : (counts : List ℕ) → 2 ≤ length counts → Good (server_at w) l
      → free_by w l.map counts ≡ filled 0 (with_counts (free_count (map_part (server_at w) l)) (server_at w).blocks counts)
  unfolding free_by on_free map_fits
  free_own counts h g =
      let sv = server_at w in
      let sizes = (both_true (sizes_fit sv.blocks sv.files sv.sessions sv.most) _ g.fits).0 in
      let maps = (good_facts sv l g).room.map in
      rw (
        ready_is (map_fits sv (length l.map)) w (length counts) room words_are,
        le-ltb (length counts) 2 h,
        sizes,
        le-leb (words sv.blocks) (length l.map) maps,
      )

-- ---- a refused call leaves the server

by_end : {R : Type 0} (answer_of : R → Answer) (serverOf : R → Server) (same : ℕ → R) (r : R) (sv : Server) → ((n : ℕ) → serverOf (same n) ≡ sv)
    → Ended answer_of same r → is_refused (answer_of r) ≡ true → serverOf r ≡ sv
by_end answer_of serverOf same r sv f (through p) e = absurd (let z : ◌≡◌ {A = ℕ} 0 1 = cc in omega arith)
by_end answer_of serverOf same r sv f (refused n h p) e = ap serverOf p ∙ f n

module _ (sv : Server) (l : Lent) where
  refused_same : (c : Call) → is_refused (call_of sv l c).done.answer ≡ true → (call_of sv l c).done.server ≡ sv
  refused_same (login session clock out) =
      by_end (λ (o : Opened). o.done.answer) (λ (o : Opened). o.done.server) _ _ sv (λ n. refl) (login_ended sv l session out clock)
  refused_same (receive session clock input out) =
      by_end (λ (o : Outcome). o.done.answer) (λ (o : Outcome). o.done.server) _ _ sv (λ n. refl) (receive_ended sv l session out clock input)
  refused_same (request session out) =
      by_end (λ (o : Opened). o.done.answer) (λ (o : Opened). o.done.server) _ _ sv (λ n. refl) (request_ended sv l session out)
  refused_same (lose session) =
      by_end (λ (o : Lost). o.done.answer) (λ (o : Lost). o.done.server) _ _ sv (λ n. refl) (lose_ended sv l session)

-- so the words afterwards are those of the server afterwards, on a refusal too
tell_words : (a : Answer) (sv : Server) (w counts : List ℕ) → is_state w ≡ true → (is_refused a ≡ true → sv ≡ server_at w)
    → (tell_of a sv w counts).state ≡ encode_of sv w
unfolding tell_of
tell_words (answer.Quiet taken) sv w counts e f = refl
tell_words (answer.Sent taken size) sv w counts e f = refl
tell_words (answer.Closed taken) sv w counts e f = refl
tell_words (answer.Refused n) sv w counts e f = sym (ap (λ (x : Server). encode_of x w) (f refl) ∙ written_back w e)

pub call_words : (w counts : List ℕ) (l : Lent) (c : Call) → is_state w ≡ true
    → (received_by w counts (call_of (server_at w) l c)).told.state ≡ encode_of (call_of (server_at w) l c).done.server w
call_words w counts l c e =
    tell_words (call_of (server_at w) l c).done.answer (call_of (server_at w) l c).done.server w counts e (refused_same (server_at w) l c)

-- ---- the numbers

-- the number of an answer is n, above 2, only where the call was refused by n
pub code_refused : (a : Answer) (sv : Server) (w counts : List ℕ) (n : ℕ) → 2 < n → (tell_of a sv w counts).code ≡ n → a ≡ answer.Refused n
unfolding tell_of
code_refused (answer.Quiet taken) sv w counts n h e = absurd (omega arith)
code_refused (answer.Sent taken size) sv w counts n h e = absurd (omega arith)
code_refused (answer.Closed taken) sv w counts n h e = absurd (omega arith)
code_refused (answer.Refused k) sv w counts n h e = ap (λ (x : ℕ). answer.Refused x) e
