-- A driver whose memory nobody else writes makes a history, and plays the machine. Assumes nothing.
use Rattle.std.specs.Prelude.{Ok, Err}
use mathlib.Core.Path.{◌≡◌, refl, sym, ap, ◌∙◌, subst}
use mathlib.Core.Bool.{Bool, true, false, cond}
use mathlib.Core.List.{List}
use mathlib.Core.Logic.{◌⊎◌, inl, inr}
use Prim.Native.Nat.{ℕ, ◌≤◌, ◌<◌}
use native.Mathlib.Omega.{arith}
use borrow.Author.Tests.{le-ltb, ltb-true, ltb-false}
use lib.Dec.{ltb}
use lib.ListN.{length, length-append, drop}
use Rattle.session.specs.declared.reply.Answer.{Answer}
use Rattle.session.specs.declared.reply.Answer.TheVariants as answer
use Rattle.session.specs.State.{closed_session}
use Rattle.session.specs.Reply as replies
use Rattle.blocks.specs.FreeMap.{free_count}
use Rattle.server.specs.declared.Server.{Server}
use Rattle.server.specs.State.{Lent, map_part}
use Rattle.server.specs.Making.{Emptied, emptied, new_server, empty_of, makes, make_of}
use Rattle.embed.specs.Words.{words_of, encode_of, server_at, is_state}
use Rattle.embed.specs.Calls.{tell_of, Received, received_by, begun, begun_by, keep_of, make_by, filled, with_counts}
use Rattle.embed.proofs.Reading.{read_back, encoded_state}
use Rattle.embed.proofs.Writing.{length_words}
use Rattle.history.specs.Calls.{Call, call_of, State, state, next, Start, legal, History, ◌▸◌, after}
use Rattle.history.specs.Calls as history
use Rattle.history.specs.Good.{Good}
use Rattle.history.proofs.Made.{made_good}
use Rattle.history.proofs.Kept.{good_kept}
use Rattle.history.proofs.Never.{never_33, never_35}
use Rattle.model.specs.State.{Model}
use Rattle.model.specs.Step.{step}
use Rattle.views.specs.View.{view}
use Rattle.refines.proofs.Refining.{all_same, made_server, every_call, every_history}
use Rattle.driver.specs.Driver as driver
use Rattle.driver.specs.Driver.{Memory, memory, made, Asked, answered, Calls, nothing, ◌▹◌, reached, Clocked, Clocks, further, calls_of, StandsFor, EveryDriver, EveryMake, Plays, DriverPlays}
use Rattle.driver.proofs.Given.{Kept, call_kept}
use Rattle.driver.proofs.Fits.{good_fits}
use Rattle.driver.proofs.Answers.{call_short, call_own, free_own, call_words, code_refused}

-- ---- memory that holds a state

-- words with room that are read as the server, whose numbers fit
pub record Holds (m : Memory) (t : State) : Type 0 where
  pub words : is_state m.words ≡ true
  pub room : 54 ≤ length m.words
  pub is : state (server_at m.words) m.lent ≡ t
  pub kept : Kept t.server
  pub good : Good t.server t.lent

length_encoded : (sv : Server) (w : List ℕ) → 54 ≤ length (encode_of sv w)
unfolding encode_of
length_encoded sv w = omega (arith, length-append (words_of sv) (drop 54 w), length_words sv)

-- the words of a good server
encoded_holds : (sv : Server) (l : Lent) (w : List ℕ) → Good sv l → Kept sv → Holds (memory (encode_of sv w) l) (state sv l)
encoded_holds sv l w g k =
    let f = good_fits sv l g k in
    record {
      words = encoded_state sv w f;
      room = length_encoded sv w;
      is = ap (λ (x : Server). state x l) (read_back sv w f g.links);
      kept = k;
      good = g;
    }

-- ---- one call more

module _ (w : List ℕ) (l : Lent) (a : Asked) (h : Holds (memory w l) (state (server_at w) l)) where
  -- the server's own call
  own_holds : 2 ≤ length a.counts → Clocked a.call
      → Holds (memory (answered (memory w l) a).told.state (answered (memory w l) a).lent) (next (state (server_at w) l) a.call)
  own_holds two c =
      let o = call_of (server_at w) l a.call in
      let e : memory (answered (memory w l) a).told.state (answered (memory w l) a).lent ≡ memory (encode_of o.done.server w) o.lent =
      ap (λ (r : Received). memory r.told.state r.lent) (call_own w l h.room h.words h.good.fits a.call a.counts two)
      ∙ ap (λ (x : List ℕ). memory x o.lent) (call_words w a.counts l a.call h.words) in
      subst (λ (x : Memory). Holds x (next (state (server_at w) l) a.call)) (sym e)
      (encoded_holds o.done.server o.lent w (good_kept (server_at w) l h.good a.call) (call_kept (server_at w) l h.good h.kept a.call c))

  -- none: the memory is as it was
  short_holds : length a.counts < 2
      → Holds (memory (answered (memory w l) a).told.state (answered (memory w l) a).lent) (state (server_at w) l)
  short_holds short =
      let e : memory (answered (memory w l) a).told.state (answered (memory w l) a).lent ≡ memory w l =
      ap (λ (r : Received). memory r.told.state r.lent) (call_short w l h.room h.words a.call a.counts short) in
      subst (λ (x : Memory). Holds x (state (server_at w) l)) (sym e) h

-- memory that holds a state holds the one that its words are read as
own_state : (m : Memory) (t : State) → Holds m t → Holds m (state (server_at m.words) m.lent)
own_state m t h = subst (λ (x : State). Holds m x) (sym h.is) h

module _ (s : Start) where
  step_holds : (m : Memory) (h : History) → Holds m (after s h) → (a : Asked) → Clocked a.call
      → Holds (memory (answered m a).told.state (answered m a).lent) (after s (further h a))
  unfolding further after
  step_holds m h i a c = go (ltb (length a.counts) 2) refl
    where
      go : (b : Bool) → ltb (length a.counts) 2 ≡ b
          → Holds (memory (answered m a).told.state (answered m a).lent) (after s (cond b h (h ▸ a.call)))
      go true e =
          subst (λ (x : State). Holds (memory (answered m a).told.state (answered m a).lent) x) i.is
          (short_holds m.words m.lent a (own_state m (after s h) i) (ltb-true (length a.counts) 2 e))
      go false e =
          subst (λ (x : State). Holds (memory (answered m a).told.state (answered m a).lent) (next x a.call)) i.is
          (own_holds m.words m.lent a (own_state m (after s h) i) (ltb-false (length a.counts) 2 e) c)

-- ---- a server just made

new_kept : (blocks files sessions most : ℕ) → Kept (new_server blocks files sessions most)
new_kept blocks files sessions most =
    record { last = record { number = omega arith; time = omega arith }; rests = λ i e. all_same 4 i closed_session }

module _ (s : Start) (words : List ℕ) where
  abbrev slices : Emptied
  slices = emptied s.lent.map s.lent.owner s.lent.table s.lent.selected s.lent.held

  -- making answers 0 where nothing is too short
  pub make_answers : legal s ≡ true → 54 ≤ length words → (driver.makes s words).code ≡ 0
  unfolding make_by make_of
  make_answers e h = rw (le-ltb (length words) 54 h, e)

  -- and only there
  record Room : Type 0 where
    legal : legal s ≡ true
    long : 54 ≤ length words

  make_room : (driver.makes s words).code ≡ 0 → Room
  unfolding make_by make_of
  make_room e = go (ltb (length words) 54) refl (legal s) refl e
    where
      go : (a : Bool) → ltb (length words) 54 ≡ a → (b : Bool) → legal s ≡ b
          → (cond a (begun 33 words slices)
          (begun_by words
          (cond b
          (makes (Ok (new_server s.blocks s.files s.sessions s.most))
          (empty_of s.blocks s.files s.sessions s.most s.lent.map s.lent.owner s.lent.table s.lent.selected s.lent.held))
          (makes (Err 33) slices)))
          ).code ≡ 0
          → Room
      go true p b q e = absurd (omega arith)
      go false p true q e = record { legal = q; long = ltb-false (length words) 54 p }
      go false p false q e = absurd (omega arith)

  made_memory : Room → made s words ≡ memory (encode_of (history.made s).server words) (history.made s).lent
  unfolding made history.made make_by make_of keep_of
  made_memory r = rw (le-ltb (length words) 54 r.long, r.legal)

  made_holds : Room → Holds (made s words) (history.made s)
  made_holds r =
      subst (λ (m : Memory). Holds m (history.made s)) (sym (made_memory r))
      (encoded_holds (history.made s).server (history.made s).lent words (made_good s r.legal)
      (subst Kept (sym (made_server s r.legal)) (new_kept s.blocks s.files s.sessions s.most)))

  -- ---- any calls

  reached_holds : Room → (cs : Calls) → Clocks cs → Holds (reached s words cs) (after s (calls_of cs))
  unfolding reached calls_of after
  reached_holds r nothing c = made_holds r
  reached_holds r (cs ▹ a) c = step_holds s (reached s words cs) (calls_of cs) (reached_holds r cs c.0) a c.1

-- ---- what memory that holds a state answers

module _ (m : Memory) (t : State) (h : Holds m t) where
  own : (a : Asked) → 2 ≤ length a.counts → answered m a ≡ received_by m.words a.counts (call_of t.server t.lent a.call)
  own a two =
      call_own m.words m.lent h.room h.words (own_state m t h).good.fits a.call a.counts two
      ∙ ap (λ (x : State). received_by m.words a.counts (call_of x.server x.lent a.call)) h.is

  -- a refusal by a number is that of the server's call, or 33 for the counts
  refused_by_law : (a : Asked) (n : ℕ) → 2 < n → (answered m a).told.code ≡ n
      → ((length a.counts < 2) × (n ≡ 33)) ⊎ ((call_of t.server t.lent a.call).done.answer ≡ answer.Refused n)
  refused_by_law a n above e = go (ltb (length a.counts) 2) refl
    where
      go : (b : Bool) → ltb (length a.counts) 2 ≡ b
          → ((length a.counts < 2) × (n ≡ 33)) ⊎ ((call_of t.server t.lent a.call).done.answer ≡ answer.Refused n)
      go true p =
          let short = ltb-true (length a.counts) 2 p in
          inl (short, sym e ∙ ap (λ (r : Received). r.told.code) (call_short m.words m.lent h.room h.words a.call a.counts short))
      go false p =
          inr (code_refused _ _ m.words a.counts n above
          (sym (ap (λ (r : Received). r.told.code) (own a (ltb-false (length a.counts) 2 p))) ∙ e))

  unsound_never : (a : Asked) → (answered m a).told.code ≡ 35 → ⊥
  unsound_never a e = go (refused_by_law a 35 (omega arith) e)
    where
      go : ((length a.counts < 2) × (◌≡◌ {A = ℕ} 35 33)) ⊎ ((call_of t.server t.lent a.call).done.answer ≡ answer.Refused 35) → ⊥
      go (inl p) = let z = p.1 in omega arith
      go (inr p) = never_35 t.server t.lent h.good a.call p

  counts_alone : (a : Asked) → (answered m a).told.code ≡ 33 → length a.counts < 2
  counts_alone a e = go (refused_by_law a 33 (omega arith) e)
    where
      go : ((length a.counts < 2) × (◌≡◌ {A = ℕ} 33 33)) ⊎ ((call_of t.server t.lent a.call).done.answer ≡ answer.Refused 33)
          → length a.counts < 2
      go (inl p) = p.0
      go (inr p) = absurd (never_33 t.server t.lent h.good a.call p)

  stands : StandsFor m t
  stands =
      record {
        words = h.words;
        room = h.room;
        is = h.is;
        own = own;
        short = λ a short. call_short m.words m.lent h.room h.words a.call a.counts short;
        never_35 = unsound_never;
        only_counts = counts_alone;
        free = λ counts two.
            free_own m.words m.lent h.room h.words counts two (own_state m t h).good
            ∙ ap (λ (x : State). filled 0 (with_counts (free_count (map_part x.server x.lent)) x.server.blocks counts)) h.is;
      }

-- THEOREM
pub every_driver : EveryDriver
every_driver s words e cs c =
    stands (reached s words cs) (after s (calls_of cs)) (reached_holds s words (make_room s words e) cs c)

pub every_make : EveryMake
every_make s words e h = make_answers s words e h

-- ---- the machine

-- the number and the counts of an answer do not depend on the server
tell_code : (a : Answer) (sv sv' : Server) (w counts : List ℕ) → (tell_of a sv w counts).code ≡ (tell_of a sv' w counts).code
unfolding tell_of
tell_code (answer.Quiet taken) sv sv' w counts = refl
tell_code (answer.Sent taken size) sv sv' w counts = refl
tell_code (answer.Closed taken) sv sv' w counts = refl
tell_code (answer.Refused n) sv sv' w counts = refl

tell_counts : (a : Answer) (sv sv' : Server) (w counts : List ℕ) → (tell_of a sv w counts).counts ≡ (tell_of a sv' w counts).counts
unfolding tell_of
tell_counts (answer.Quiet taken) sv sv' w counts = refl
tell_counts (answer.Sent taken size) sv sv' w counts = refl
tell_counts (answer.Closed taken) sv sv' w counts = refl
tell_counts (answer.Refused n) sv sv' w counts = refl

module _ (m : Memory) (t : State) (h : Holds m t) (k : Model) (same : view t.server t.lent ≡ k) where
  steps : (c : Call) → replies.told (call_of t.server t.lent c).done.answer (call_of t.server t.lent c).out ≡ (step k c).told
  steps c = (every_call t.server t.lent h.good c).told ∙ ap (λ (x : Model). (step x c).told) same

  plays : Plays m k
  plays =
      record {
        view = ap (λ (x : State). view x.server x.lent) h.is ∙ same;
        code = λ a two.
            ap (λ (r : Received). r.told.code) (own m t h a two)
            ∙ tell_code (call_of t.server t.lent a.call).done.answer (call_of t.server t.lent a.call).done.server
            (server_at m.words) m.words a.counts
            ∙ ap (λ (x : replies.Told). (tell_of x.answer (server_at m.words) m.words a.counts).code) (steps a.call);
        counts = λ a two.
            ap (λ (r : Received). r.told.counts) (own m t h a two)
            ∙ tell_counts (call_of t.server t.lent a.call).done.answer (call_of t.server t.lent a.call).done.server
            (server_at m.words) m.words a.counts
            ∙ ap (λ (x : replies.Told). (tell_of x.answer (server_at m.words) m.words a.counts).counts) (steps a.call);
        out = λ a two. ap (λ (r : Received). r.out) (own m t h a two) ∙ ap (λ (x : replies.Told). x.out) (steps a.call);
      }

-- THEOREM
pub driver_plays : DriverPlays
driver_plays s words e cs c =
    let r = make_room s words e in
    plays (reached s words cs) (after s (calls_of cs)) (reached_holds s words r cs c) _ (every_history s r.legal (calls_of cs))
