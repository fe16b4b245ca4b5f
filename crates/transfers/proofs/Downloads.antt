-- Whoever downloads a file gets its bytes: the file, which is complete, stays as it was. Assumes nothing.
use mathlib.Core.Path.{◌≡◌, refl, ap, ◌∙◌, subst}
use mathlib.Core.Bool.{Bool, true, false, cond, not}
use mathlib.Core.List.{List, [], ◌∷◌}
use mathlib.Core.Option.{Option, some}
use Prim.Native.Nat.{ℕ, ◌+◌, ◌-◌, ◌≤◌, ◌<◌}
use native.Mathlib.Omega.{arith}
use borrow.Author.Tests.{lt-ltb, le-ltb}
use lib.Dec.{eqb}
use lib.ListN.{length, take, drop}
use Rattle.session.specs.declared.reply.Reply.TheVariants as reply
use Rattle.session.specs.Reply.{sent_info, tell}
use Rattle.calls.specs.Call.{Call, login, receive, request, lose}
use Rattle.model.specs.State.{File, sending, ended, with_down, Model, session_at, in_session, stepped}
use Rattle.model.specs.Files.{find}
use Rattle.model.specs.Downlink.{data_due, on_request}
use Rattle.model.specs.Step.{step}
use Rattle.steps.specs.Sound.{Sound}
use Rattle.steps.specs.Naming.{DownOk, Named}
use Rattle.transfers.specs.Downloads.{request_or_uplink, own_or_other, requests_and_uplink, Downloading, DownloadBrings, DownloadEnds}
use Rattle.steps.proofs.Calls.{complete_stays}
use Rattle.transfers.proofs.Uplink.{clash}
use Rattle.transfers.proofs.Sent.{first_is, Source, Has, sent_all_law, all_ended}

-- ---- a session that is being sent the file f, of number n

module _ (i n : ℕ) (f : File) where
  file_kept : (m : Model) (c : Call) (at : ℕ) → Sound m → Named m → (session_at m i).down ≡ sending n at → find n m.files ≡ some f
      → find n (step m c).after.files ≡ some f
  file_kept m c at s k d e = complete_stays m c n s k (subst (DownOk m.files) d (k.down i)) ∙ e

  -- what is due of the file
  due_is : (m : Model) (at : ℕ) (out : List ℕ) → find n m.files ≡ some f → on_request (sending n at) m i out ≡ data_due (some f) m i n at out
  unfolding on_request
  due_is m at out e = ap (λ (x : Option File). data_due x m i n at out) e

  due_more : (m : Model) (at : ℕ) (out : List ℕ) → at < length f.bytes
      → data_due (some f) m i n at out
      ≡ stepped (sent_info 0 (take 256 (drop at f.bytes)) 0 out) (in_session i (with_down (sending n (at + length (take 256 (drop at f.bytes))))) m)
  unfolding data_due
  due_more m at out k = rw (lt-ltb at (length f.bytes) k)

  due_end : (m : Model) (at : ℕ) (out : List ℕ) → length f.bytes ≤ at
      → data_due (some f) m i n at out ≡ stepped (tell reply.DataEnd 0 out) (in_session i (with_down (ended n)) m)
  unfolding data_due
  due_end m at out k = rw (le-ltb at (length f.bytes) k)

  due_none : (m : Model) (out : List ℕ) → on_request (ended n) m i out ≡ stepped (tell reply.Nothing 0 out) m
  unfolding on_request
  due_none m out = refl

  abbrev file_source : Source i f.bytes
  file_source =
      record {
        going = sending n;
        over = ended n;
        Stays = λ m. find n m.files ≡ some f;
        kept = file_kept;
        more = λ m at out e k. due_is m at out e ∙ due_more m at out k;
        end = λ m at out e k. due_is m at out e ∙ due_end m at out k;
        rests = due_none;
      }

-- ---- THEOREMS

begins : (m : Model) → Sound m → Named m → (session n offset : ℕ) (f : File) (d : Downloading m session n offset f)
    → Has session d.from_one f.bytes (file_source (session - 1) n f) (session_at m (session - 1)) m offset
begins m s k session n offset f d =
    record { linked = d.linked; down = d.down; place = record { selected = refl; next = refl }; stays = d.found; sound = s; named = k }

-- THEOREM: whoever downloads a file gets its bytes
pub download_brings : DownloadBrings
download_brings m s k session n offset f d cs only =
    let r =
    sent_all_law session d.from_one f.bytes (file_source (session - 1) n f) (session_at m (session - 1)) cs m offset
    (begins m s k session n offset f d) only in
    record { back = r.back; front = r.front; whole = r.whole }

-- THEOREM: and gets all of them
pub download_ends : DownloadEnds
download_ends m s k session n offset f d cs only many =
    all_ended session d.from_one f.bytes (file_source (session - 1) n f) (session_at m (session - 1)) cs m offset
    (begins m s k session n offset f d) only (omega arith)

-- ---- requests alone

-- each call for this session is a request
unfoldable pub request_only : ℕ → Call → Bool
request_only session (login k clock out) = not (eqb k session)
request_only session (receive k clock input out) = not (eqb k session)
request_only session (request k out) = true
request_only session (lose k) = not (eqb k session)

unfoldable pub requests_only : ℕ → List Call → Bool
requests_only session [] = true
requests_only session (c ∷ cs) = cond (request_only session c) (requests_only session cs) false

other : (b x : Bool) → not b ≡ true → cond b x true ≡ true
other true x e = clash e
other false x e = refl

one_only : (m : Model) (session : ℕ) (c : Call) → request_only session c ≡ true → own_or_other m session c ≡ true
unfolding request_only own_or_other request_or_uplink
one_only m session (login k clock out) e = other (eqb k session) false e
one_only m session (receive k clock input out) e = other (eqb k session) _ e
one_only m session (request k out) e = either (eqb k session)
  where
    either : (b : Bool) → cond b true true ≡ true
    either true = refl
    either false = refl
one_only m session (lose k) e = other (eqb k session) false e

-- THEOREM: such calls may come, whatever the state
pub requests_only_law : (m : Model) (session : ℕ) (cs : List Call) → requests_only session cs ≡ true → requests_and_uplink m session cs ≡ true
unfolding requests_only requests_and_uplink
requests_only_law m session [] e = refl
requests_only_law m session (c ∷ cs) e =
    let p = first_is (request_only session c) (requests_only session cs) e in
    rw (one_only m session c p.0) (requests_only_law (step m c).after session cs p.1)
