-- From one station to another: what a download of the machine brings is what the server accepted. Assumes nothing.
use mathlib.Core.Path.{◌≡◌, sym, ap, ◌∙◌, subst}
use mathlib.Core.Bool.{true}
use mathlib.Core.List.{List, ◌++◌}
use mathlib.Core.Option.{some}
use Prim.Native.Nat.{ℕ, ◌-◌}
use lib.ListN.{drop}
use Rattle.header.specs.Fields.{fields_set}
use Rattle.decide.specs.Words.{word_at}
use Rattle.history.specs.Calls.{Call, receive, Start, legal, History}
use Rattle.model.specs.State.{File, sending, Model, session_at}
use Rattle.model.specs.Files.{find}
use Rattle.model.specs.Step.{ends_in, step}
use Rattle.steps.specs.Sound.{Sound}
use Rattle.steps.specs.Naming.{Complete, DownOk, Named}
use Rattle.transfers.specs.Downloads.{number_asked, Begins}
use Rattle.steps.proofs.Changes.{sound_step}
use Rattle.steps.proofs.Naming.{named_step}
use Rattle.transfers.proofs.Downloads.{download_brings}
use Rattle.transfers.proofs.Begins.{download_begins}
use Rattle.accepted.specs.Accepted.{accepted}
use Rattle.accepted.proofs.Story.{story}
use Rattle.demands.specs.Demand3.{model_at, transcript_at}
use Rattle.demands.specs.Downloads.{accepted_set, FromPupilToPupil, AskedAndSent}
use Rattle.demands.proofs.Theorems.{agrees}

-- ---- the machine after a history

pub sound_at : (s : Start) (h : History) → Sound (model_at s h)
sound_at s h = (story s.blocks s.files s.sessions s.most h).sound

pub named_at_law : (s : Start) (h : History) → Named (model_at s h)
named_at_law s h = (story s.blocks s.files s.sessions s.most h).named

-- a complete file is what was accepted under its number
stored_as_law : (s : Start) → legal s ≡ true → (h : History) (n : ℕ) (f : File) → find n (model_at s h).files ≡ some f → (f.time ≡ 0 → ⊥)
    → f.bytes ≡ accepted_set s h n f.time
stored_as_law s ok h n f e late =
    ((agrees s ok h).contents n f e).complete late
    ∙ ap (λ (k : ℕ). fields_set k f.time (accepted (transcript_at s h) n)) ((agrees s ok h).numbers.own n f e)

-- ---- THEOREMS

-- a file that is downloaded is complete
late : (m : Model) (i n offset : ℕ) (f : File) → Named m → (session_at m i).down ≡ sending n offset → find n m.files ≡ some f
    → f.time ≡ 0 → ⊥
late m i n offset f k e w =
    let c : Complete n m.files = subst (DownOk m.files) e (k.down i) in
    let q : some c.file ≡ some f = sym c.found ∙ w in
    let z : c.file ≡ f = cc in
    λ y. c.time (ap (λ (g : File). g.time) z ∙ y)

-- THEOREM: what is brought is what was accepted, with the five fields set
pub from_pupil_to_pupil : FromPupilToPupil
from_pupil_to_pupil s ok h session n f d cs only e =
    (download_brings (model_at s h) (sound_at s h) (named_at_law s h) session n 0 f d cs only).whole e
    ∙ stored_as_law s ok h n f d.found (late (model_at s h) (session - 1) n 0 f (named_at_law s h) d.down d.found)

-- THEOREM: and from DOWNLOAD_CMD on
pub asked_and_sent : AskedAndSent
asked_and_sent s ok h session clock taken input out info came first quiet cs only e =
    record {
      file = b.file;
      was = b.was;
      sent = (download_brings (step m c).after (sound_step m c (sound_at s h)) (named_step m (named_at_law s h) (sound_at s h) c) session n (word_at info 4)
          b.file b.downloading cs only).whole e
          ∙ ap (λ (k : ℕ). drop k b.file.bytes) first
          ∙ stored_as_law s ok h n b.file b.was b.complete;
    }
  where
    m : Model
    m = model_at s h

    c : Call
    c = receive session clock input out

    n : ℕ
    n = number_asked (session_at (model_at s h) (session - 1)) info

    b : Begins (model_at s h) session clock input out info
    b =
        download_begins (model_at s h) session clock taken input out info
        (ap (λ (bytes : List ℕ). ends_in (bytes ++ input)) ((agrees s ok h).unfinished (session - 1)) ∙ came) quiet
