-- Requests and downloads at work: the statements on them are applied to small cases, and what is sent is stated byte by byte. Assumes nothing.
use mathlib.Core.Path.{◌≡◌, refl, ap, ◌∙◌, sym, subst}
use mathlib.Core.Bool.{true, false}
use mathlib.Core.List.{List, [], ◌∷◌, ◌++◌}
use mathlib.Core.Option.{some}
use Prim.Native.Nat.{ℕ, zero, suc, ◌≤◌}
use native.Mathlib.Omega.{arith}
use lib.ListN.{length, get_or, take, drop}
use Rattle.header.proofs.Examples.{smallest}
use Rattle.header.specs.Fields.{fields_set}
use Rattle.session.specs.declared.reply.Answer.TheVariants as answer
use Rattle.session.specs.Reply.{told}
use Rattle.server.specs.State.{outcome, done_with}
use Rattle.history.specs.Calls.{Call, request, call_of, History, ◌▸◌}
use Rattle.model.specs.State as model
use Rattle.model.specs.State.{File, file, no_upload, receiving, ignoring, Session, closed_session, Model, session_at}
use Rattle.model.specs.Files.{find}
use Rattle.model.specs.Step.{step}
use Rattle.steps.specs.Parts.{sent_by}
use Rattle.steps.specs.Sound.{Sound}
use Rattle.steps.specs.Naming.{Complete, AllComplete, UpOk, DownOk, Named}
use Rattle.transfers.specs.Downloads.{for_uplink, request_or_uplink, own_or_other, requests_and_uplink, asks_in, asks, sent_to, data_in, data_to, end_to, Downloading}
use Rattle.transfers.specs.Downloads.{number_asked, Begins}
use Rattle.promises.specs.Demand2.{Demand2}
use Rattle.worked.proofs.Passes.{small, output, rx, nak, download, next_file, lost_once, picked, downloading, downloading40, sent_all, complete80}
use Rattle.worked.proofs.Passes.{two, crowded, at_once, server_after, lent_after, machine, crowd, crowded_model}
use Rattle.worked.proofs.Computed.{packet_told, computed}
use Rattle.worked.proofs.Machine.{tells, at_work, as_the_machine}

-- the small server is asked by its driver: this packet is sent; nothing is sent
abbrev pub Brings : History → List ℕ → Type 0
Brings h p = tells h (request 1 output) ≡ packet_told p

abbrev pub BringsNothing : History → Type 0
BringsNothing h = tells h (request 1 output) ≡ told (answer.Quiet 0) output

-- the packets that a session is sent in calls, one list of bytes a call
unfoldable pub sent_in : Model → ℕ → List Call → List (List ℕ)
sent_in m session [] = []
sent_in m session (c ∷ cs) = sent_to m session c ∷ sent_in (step m c).after session cs

-- ---- what the sessions of a state name is there

-- what is so of each session of a list, and of a closed one, is so at every place
abbrev Each : (Session → Type 0) → List Session → Type 0
Each P [] = P closed_session
Each P (s ∷ ss) = P s × Each P ss

each_at : (P : Session → Type 0) (ss : List Session) → Each P ss → (j : ℕ) → P (get_or ss j closed_session)
each_at P [] p zero = p
each_at P [] p (suc j) = p
each_at P (s ∷ ss) p zero = p.0
each_at P (s ∷ ss) p (suc j) = each_at P ss p.1 j

-- a session that uploads no file
abbrev NoFile : Session → Type 0
NoFile s = (n : ℕ) → s.up ≡ receiving n → ⊥

idle : (n : ℕ) → no_upload ≡ receiving n → ⊥
idle n e = let z : ◌≡◌ {A = ℕ} 0 1 = cc in omega arith

ignores : (n : ℕ) → ignoring ≡ receiving n → ⊥
ignores n e = let z : ◌≡◌ {A = ℕ} 0 1 = cc in omega arith

-- the first session alone may upload one
named_by : (m : Model) (s : Session) (ss : List Session) → m.sessions ≡ s ∷ ss → Each (λ x. UpOk m.files x.up) (s ∷ ss)
    → Each (λ x. DownOk m.files x.down) (s ∷ ss)
    → Each (λ x. AllComplete m.files x.selected) (s ∷ ss)
    → Each NoFile ss
    → Named m
named_by m s ss e u d l p =
    record {
      up = λ j. subst (λ (xs : List Session). UpOk m.files (get_or xs j closed_session).up) (sym e) (each_at (λ x. UpOk m.files x.up) (s ∷ ss) u j);
      down = λ j.
          subst (λ (xs : List Session). DownOk m.files (get_or xs j closed_session).down) (sym e) (each_at (λ x. DownOk m.files x.down) (s ∷ ss) d j);
      selected = λ j.
          subst (λ (xs : List Session). AllComplete m.files (get_or xs j closed_session).selected) (sym e)
          (each_at (λ x. AllComplete m.files x.selected) (s ∷ ss) l j);
      alone = λ j k n a b. first j n (at j n a) ∙ sym (first k n (at k n b));
    }
  where
    at : (j n : ℕ) → (session_at m j).up ≡ receiving n → (get_or (s ∷ ss) j closed_session).up ≡ receiving n
    at j n a = subst (λ (xs : List Session). (get_or xs j closed_session).up ≡ receiving n) e a

    first : (j n : ℕ) → (get_or (s ∷ ss) j closed_session).up ≡ receiving n → j ≡ 0
    first zero n a = refl
    first (suc j) n a = absurd (each_at NoFile ss p j n a)

-- file 1, complete at time 4
abbrev file80 : File
file80 = file 1 80 complete80 4

sound_downloading : Sound (machine downloading)
unfolding at_work
sound_downloading = record { numbers = (omega arith, omega arith, omega arith, tt); room = omega arith }

named_downloading : Named (machine downloading)
unfolding at_work
named_downloading =
    named_by (machine downloading) _ [] refl (tt, tt) (record { file = file80; found = refl; time = λ e. omega (arith, e) }, tt) (tt, tt) idle

sound_40 : Sound (machine downloading40)
unfolding at_work
sound_40 = record { numbers = (omega arith, omega arith, omega arith, tt); room = omega arith }

named_40 : Named (machine downloading40)
unfolding at_work
named_40 =
    named_by (machine downloading40) _ [] refl (tt, tt) (record { file = file80; found = refl; time = λ e. omega (arith, e) }, tt) (tt, tt) idle

-- ---- a whole download

size_80 : length file80.bytes ≡ 80
unfolding complete80
size_80 = refl

begun_0 : Downloading (machine downloading) 1 1 0 file80
unfolding at_work
begun_0 = record { from_one = omega arith; linked = refl; down = refl; found = refl }

begun_40 : Downloading (machine downloading40) 1 1 40 file80
unfolding at_work
begun_40 = record { from_one = omega arith; linked = refl; down = refl; found = refl }

only_two : (h : History) → requests_and_uplink (machine h) 1 two ≡ true
unfolding requests_and_uplink own_or_other request_or_uplink
only_two h = refl

asks_two : asks 1 two ≡ 2
unfolding asks asks_in
asks_two = refl

-- a front of a file
pub record FrontOf (sent file : List ℕ) : Type 0 where
  pub back : List ℕ
  pub is : sent ++ back ≡ file

only_one : requests_and_uplink (machine downloading) 1 (request 1 output ∷ []) ≡ true
unfolding requests_and_uplink own_or_other request_or_uplink
only_one = refl

pub not_yet : end_to (machine downloading) 1 (request 1 output ∷ []) ≡ false
unfolding at_work end_to sent_to sent_by
not_yet = refl

-- ---- a download while the same session uploads

-- file 1, complete at time 7
abbrev file7 : File
file7 = file 1 80 (fields_set 1 7 smallest) 7

-- it is what the pass leaves
pub crowded_is : crowd crowded ≡ crowded_model
unfolding at_work crowded_model
crowded_is = refl

begun_crowded : Downloading crowded_model 3 1 0 file7
unfolding at_work crowded_model
begun_crowded = record { from_one = omega arith; linked = refl; down = refl; found = refl }

sound_crowded : Sound crowded_model
unfolding at_work crowded_model
sound_crowded = record { numbers = (omega arith, omega arith, omega arith, (omega arith, omega arith, omega arith, tt)); room = omega arith }

named_crowded : Named crowded_model
unfolding at_work crowded_model
named_crowded =
    named_by crowded_model _ _ refl (record { file = file 3 80 (take 40 smallest) 0; found = refl; time = refl }, (tt, (tt, tt)))
    (whole, (whole, (whole, tt))) (tt, (tt, (tt, tt))) (ignores, (idle, idle))
  where
    whole : Complete 1 crowded_model.files
    whole = record { file = file7; found = refl; time = λ e. omega (arith, e) }

-- each of its calls is a request or for its uplink, and two of them are requests
may_come : requests_and_uplink crowded_model 3 at_once ≡ true
unfolding at_work crowded_model requests_and_uplink own_or_other request_or_uplink for_uplink
may_come = refl

asks_at_once : asks 3 at_once ≡ 2
unfolding asks asks_in
asks_at_once = refl

size_7 : length file7.bytes ≡ 80
unfolding at_work
size_7 = refl

-- what it is sent, call by call: UL_GO_RESP for file 4, DATA, nothing for a piece, nothing at the calls of others and for the DATA of the upload, DATA_END,
-- UL_ACK_RESP
pub sent_at_once :
    sent_in crowded_model 3 at_once
    ≡ (8 ∷ 4 ∷ 4 ∷ 0 ∷ 0 ∷ 0 ∷ 0 ∷ 0 ∷ 0 ∷ 0 ∷ []) ∷ (80 ∷ 0 ∷ fields_set 1 7 smallest) ∷ [] ∷ [] ∷ [] ∷ [] ∷ (0 ∷ 1 ∷ []) ∷ (0 ∷ 6 ∷ []) ∷ []
unfolding at_work crowded_model sent_in sent_to sent_by
sent_at_once = refl

module _ (d : Demand2) where
  -- ---- one request

  -- where no file is being sent: nothing
  pub nothing_due : BringsNothing lost_once
  unfolding at_work
  nothing_due = as_the_machine d lost_once (request 1 output) _ refl

  -- and all is as it was
  pub nothing_changed : call_of (server_after sent_all) (lent_after sent_all) (request 1 output)
      ≡ outcome (done_with (server_after sent_all) (answer.Quiet 0)) (lent_after sent_all) output
  nothing_changed = d.nothing_due (server_after sent_all) (lent_after sent_all) 1 output 0 computed.requests.goes computed.requests.not_due

  -- the file from 0 on: one DATA with all 80 bytes; from 40 on: one with the last 40
  pub all_80 : Brings downloading (80 ∷ 0 ∷ complete80)
  unfolding at_work
  all_80 = as_the_machine d downloading (request 1 output) _ refl

  pub last_40 : Brings downloading40 (40 ∷ 0 ∷ drop 40 complete80)
  unfolding at_work
  last_40 = as_the_machine d downloading40 (request 1 output) _ refl

  -- behind them DATA_END, and then nothing
  pub then_end : Brings (downloading ▸ request 1 output) (0 ∷ 1 ∷ [])
  unfolding at_work
  then_end = as_the_machine d (downloading ▸ request 1 output) (request 1 output) _ refl

  pub then_nothing : BringsNothing sent_all
  unfolding at_work
  then_nothing = as_the_machine d sent_all (request 1 output) _ refl

  -- after a DL_NAK_CMD that brought DATA_END: DL_ABORTED_RESP
  pub aborted : Brings (downloading ▸ rx 13 nak) (0 ∷ 10 ∷ [])
  unfolding at_work
  aborted = as_the_machine d (downloading ▸ rx 13 nak) (request 1 output) _ refl

  -- ---- DOWNLOAD_CMD

  -- file 1 from byte 40 on
  pub by_number : Begins (machine lost_once) 1 12 (download 40 0) output (drop 2 (download 40 0))
  unfolding at_work
  by_number = d.download_begins (machine lost_once) 1 12 11 (download 40 0) output (drop 2 (download 40 0)) refl refl

  pub its_number : number_asked (session_at (machine lost_once) 0) (drop 2 (download 40 0)) ≡ 1
  unfolding at_work number_asked
  its_number = refl

  -- it is there, and complete
  pub its_file : (by_number.file ≡ file80) × (by_number.file.time ≡ 0 → ⊥)
  unfolding at_work number_asked
  its_file =
      let q : some file80 ≡ some by_number.file = by_number.was in
      let e : by_number.file ≡ file80 = cc in
      (e, by_number.complete)

  -- the session is linked, and is to be sent it from byte 40 on
  pub its_offset :
      (1 ≤ 1) × ((session_at (step (machine lost_once) (rx 12 (download 40 0))).after 0).linked ≡ true)
      × ((session_at (step (machine lost_once) (rx 12 (download 40 0))).after 0).down ≡ model.sending 1 40)
      × (find 1 (step (machine lost_once) (rx 12 (download 40 0))).after.files ≡ some by_number.file)
  unfolding at_work number_asked
  its_offset = (by_number.downloading.from_one, by_number.downloading.linked, by_number.downloading.down, by_number.downloading.found)

  -- the next selected file
  pub next_selected : Begins (machine picked) 1 13 next_file output (drop 2 next_file)
  unfolding at_work
  next_selected = d.download_begins (machine picked) 1 13 11 next_file output (drop 2 next_file) refl refl

  pub next_number_law : number_asked (session_at (machine picked) 0) (drop 2 next_file) ≡ 1
  unfolding at_work number_asked
  next_number_law = refl

  -- ---- a whole download

  -- 80 bytes in one DATA, and DATA_END: two requests are enough
  pub whole_ends : end_to (machine downloading) 1 two ≡ true
  whole_ends =
      d.download_ends (machine downloading) sound_downloading named_downloading 1 1 0 file80 begun_0 two (only_two downloading)
      (omega (arith, size_80, asks_two))

  pub whole_80 : data_to (machine downloading) 1 two ≡ complete80
  whole_80 = (d.download (machine downloading) sound_downloading named_downloading 1 1 0 file80 begun_0 two (only_two downloading)).whole whole_ends

  -- from byte 40 on
  pub behind_40 : data_to (machine downloading40) 1 two ≡ drop 40 complete80
  behind_40 =
      (d.download (machine downloading40) sound_40 named_40 1 1 40 file80 begun_40 two (only_two downloading40)).whole
      (d.download_ends (machine downloading40) sound_40 named_40 1 1 40 file80 begun_40 two (only_two downloading40)
      (omega (arith, size_80, asks_two)))

  -- before DATA_END it is a front of the file
  pub first_front : FrontOf (data_to (machine downloading) 1 (request 1 output ∷ [])) complete80
  first_front =
      let r =
      d.download (machine downloading) sound_downloading named_downloading 1 1 0 file80 begun_0 (request 1 output ∷ []) only_one in
      record { back = r.back; is = r.front }

  -- 80 bytes and DATA_END: the two requests among its uploads are enough
  pub at_once_ends : end_to crowded_model 3 at_once ≡ true
  at_once_ends =
      d.download_ends crowded_model sound_crowded named_crowded 3 1 0 file7 begun_crowded at_once may_come (omega (arith, size_7, asks_at_once))

  -- and what it is sent is the file
  pub at_once_brings : data_to crowded_model 3 at_once ≡ fields_set 1 7 smallest
  at_once_brings = (d.download crowded_model sound_crowded named_crowded 3 1 0 file7 begun_crowded at_once may_come).whole at_once_ends
