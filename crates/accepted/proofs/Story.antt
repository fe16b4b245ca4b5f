-- What the packets say of the files holds of the machine after every history: by one step for each call. Assumes nothing.
use mathlib.Core.Path.{◌≡◌, refl, sym, ap, ap₂, ◌∙◌, subst}
use mathlib.Core.Bool.{Bool, cond}
use mathlib.Core.List.{List, [], ◌∷◌}
use mathlib.Core.Option.{none}
use Prim.Native.Nat.{ℕ, zero, suc, ◌≤◌, ◌<◌}
use native.Mathlib.Omega.{arith}
use borrow.Author.Tests.{eq-eqb, ne_eqb}
use lib.Dec.{eqb}
use lib.ListN.{get_or}
use Rattle.table.specs.Given.{most_given}
use Rattle.calls.specs.Call.{Call, History, start, ◌▸◌}
use Rattle.model.specs.State.{Session, Model, empty, session_at}
use Rattle.model.specs.Files.{find}
use Rattle.model.specs.Step.{ends_in, step, run}
use Rattle.steps.specs.Sound.{Sound}
use Rattle.steps.specs.Naming.{Named}
use Rattle.steps.proofs.Changes.{own_session, sound_step}
use Rattle.steps.proofs.Naming.{by_eq, named_step}
use Rattle.steps.proofs.Start.{sound_empty, named_empty, all_closed}
use Rattle.accepted.specs.Exchange.{session_of, Transcript, blank, ◌▹◌, exchanged, transcript}
use Rattle.accepted.specs.Link.{bytes_by, link_bytes, heard_by}
use Rattle.accepted.specs.Events.{Event, upload_by, upload_of, event_by, event_in}
use Rattle.accepted.specs.Accepted.{accepted, announced, numbers_given, from_one, completions, last_from}
use Rattle.accepted.specs.Effect.{Effect}
use Rattle.accepted.specs.Agreement.{UnfinishedPacket, Standing, Contents, number_of, UnderNumber, Told}
use Rattle.accepted.proofs.Calls.{Acts, call_acts}
use Rattle.accepted.proofs.Steps.{Timed, Own, Kept, standing_step, bound_step, numbers_step, fresh_step, contents_step, own_step, kept_step, times_step}

pub record Story (m : Model) (t : Transcript) : Type 0 where
  pub sound : Sound m
  pub named : Named m
  pub bound : m.last_number ≤ most_given
  pub waits : (i : ℕ) → ends_in (session_at m i).held ≡ none
  pub unfinished : UnfinishedPacket m t
  pub under : UnderNumber m t
  pub fresh : (n : ℕ) → m.last_number < n → accepted t n ≡ []
  pub contents : Contents m t
  pub standing : Standing m t
  pub numbers : numbers_given t ≡ from_one m.last_number
  pub timed : Timed (completions t) m.last_time
  pub own : Own m.files (completions t)
  pub kept : Kept m.files (completions t)

-- ---- one call more

module _ (m : Model) (t : Transcript) (y : Story m t) (c : Call) where
  acts : Acts m c (step m c)
  acts = call_acts m y.named y.sound y.bound y.waits c

  abbrev i : ℕ
  i = session_of c

  -- THEOREM: the event that the packets tell is what happened
  pub as_told : Told m t c
  as_told =
      subst (λ (e : Event). Effect e m (step m c).after)
      (ap₂ (λ (n : ℕ) (bytes : List ℕ). event_by n (heard_by c (step m c).told.answer bytes) c (step m c).told.answer (step m c).told.out) (y.under i)
      (y.unfinished i))
      acts.effect

  -- the call's own session, or another one
  abbrev own_or : (A : Type 0) → (Session → A) → (ℕ → A) → (A → A) → Type 0
  own_or A seen old new = (j : ℕ) → seen (session_at (step m c).after j) ≡ cond (eqb i j) (new (old j)) (old j)

  each_session : {A : Type 0} (seen : Session → A) (old : ℕ → A) (new : A → A) → ((j : ℕ) → seen (session_at m j) ≡ old j)
      → seen (session_at (step m c).after i) ≡ new (old i) → own_or A seen old new
  each_session {A} seen old new before here j =
      by_eq i j
      (λ z. ap (λ (k : ℕ). seen (session_at (step m c).after k)) (sym z) ∙ here ∙ ap (λ (k : ℕ). new (old k)) z
      ∙ sym (ap (λ (b : Bool). cond b (new (old j)) (old j)) (eq-eqb i j z)))
      (λ z. ap seen (own_session m c j (λ w. z (sym w))) ∙ before j ∙ sym (ap (λ (b : Bool). cond b (new (old j)) (old j)) (ne_eqb i j z)))

  pub story_step : Story (step m c).after (t ▹ exchanged m c)
  unfolding link_bytes upload_of accepted announced numbers_given completions
  story_step =
      let m' = (step m c).after in
      let e = event_in t (exchanged m c) in
      let x = as_told in
      record {
        sound = sound_step m c y.sound;
        named = named_step m y.named y.sound c;
        bound = bound_step m m' y.sound y.bound e x;
        waits = λ j. by_eq j i (λ z. ap (λ (k : ℕ). ends_in (session_at m' k).held) z ∙ acts.waits)
            (λ z. ap (λ (k : Session). ends_in k.held) (own_session m c j z) ∙ y.waits j);
        unfinished = each_session (λ k. k.held) (link_bytes t) (bytes_by c (step m c).told.answer) y.unfinished
            (acts.held ∙ ap (bytes_by c (step m c).told.answer) (y.unfinished i));
        under = each_session (λ k. number_of k.up) (upload_of t) (upload_by c (step m c).told.answer (step m c).told.out) y.under
            (acts.under ∙ ap (upload_by c (step m c).told.answer (step m c).told.out) (y.under i));
        fresh = fresh_step m m' y.sound (accepted t) y.fresh e x;
        contents = contents_step m m' y.sound (accepted t) y.fresh y.contents e x;
        standing = standing_step m m' y.sound (announced t) y.standing e x;
        numbers = numbers_step m m' y.sound (numbers_given t) y.numbers e x;
        timed = times_step m m' y.sound (completions t) y.timed e x;
        own = own_step m m' y.sound (completions t) y.timed.last_is y.own e x;
        kept = kept_step m m' y.sound (completions t) y.timed.last_is y.kept e x;
      }

-- ---- the empty store, and every history

module _ (blocks places sessions maxsel : ℕ) where
  abbrev m₀ : Model
  m₀ = empty blocks places sessions maxsel

  story_start : Story m₀ blank
  unfolding ends_in link_bytes upload_of accepted announced numbers_given completions from_one last_from find
  story_start =
      record {
        sound = sound_empty blocks places sessions maxsel;
        named = named_empty blocks places sessions maxsel;
        bound = omega arith;
        waits = λ j. ap (λ (k : Session). ends_in k.held) (all_closed sessions j);
        unfinished = λ j. ap (λ (k : Session). k.held) (all_closed sessions j);
        under = λ j. ap (λ (k : Session). number_of k.up) (all_closed sessions j);
        fresh = λ n h. refl;
        contents = λ n f e. let z : ◌≡◌ {A = ℕ} 0 1 = cc in absurd (omega arith);
        standing = λ n. refl;
        numbers = refl;
        timed = record { last_is = refl; rising = λ i j l h. absurd (omega arith); bounded = first };
        own = λ n f e. let z : ◌≡◌ {A = ℕ} 0 1 = cc in absurd (omega arith);
        kept = λ c l. absurd (omega (arith, l.below));
      }
    where
      first : (i : ℕ) → i < 1 → ◌≤◌ (get_or (0 ∷ []) i 0) 0
      first zero h = omega arith
      first (suc i) h = absurd (omega arith)

  -- THEOREM
  pub story : (h : History) → Story (run m₀ h) (transcript m₀ h)
  unfolding run transcript
  story start = story_start
  story (h ▸ c) = story_step (run m₀ h) (transcript m₀ h) (story h) c
