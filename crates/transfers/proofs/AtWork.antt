-- Directories at work: the statements on them are hypotheses here and are applied to a crowded server, so that one made weaker no longer gives what a case
-- says. Assumes nothing.
use mathlib.Core.Path.{◌≡◌, refl, sym, ap, ◌∙◌}
use mathlib.Core.Bool.{Bool, true, false, cond}
use mathlib.Core.List.{List, [], ◌∷◌, ◌++◌}
use mathlib.Core.Option.{some}
use Prim.Native.Nat.{ℕ, zero, suc, ◌+◌, ◌-◌, ◌≤◌}
use native.Mathlib.Omega.{arith}
use lib.ListN.{length, get_or, take, drop}
use Rattle.numbers.specs.Numbers.{four}
use Rattle.packet.specs.Packet.{packet_of}
use Rattle.calls.specs.Call.{Call, receive, request, lose}
use Rattle.model.specs.State.{file, no_upload, receiving, ignoring, Uplink, no_download, sending, ended, aborting, listing, Downlink, Session}
use Rattle.model.specs.State.{closed_session, Model, session_at}
use Rattle.model.specs.Files.{find}
use Rattle.model.specs.Downlink.{directory_of}
use Rattle.model.specs.Step.{step}
use Rattle.cases.specs.Pass.{output, rx, pump}
use Rattle.cases.specs.Packets.{smallest, complete_as, landrover_as, data', data_end, dir_long, nak}
use Rattle.cases.specs.Computing.{computing}
use Rattle.steps.specs.Parts.{sent_by}
use Rattle.steps.specs.Sound.{Sound}
use Rattle.steps.specs.Naming.{Complete, AllComplete, UpOk, DownOk, Named}
use Rattle.transfers.specs.Downloads.{for_uplink, request_or_uplink, own_or_other, requests_and_uplink, asks_in, asks, sent_to, data_in, data_to, end_to}
use Rattle.transfers.specs.Directories.{state_after, Listing, numbers_listed, place_after, Lists, BringsDirectory, BrokenOff}
use Rattle.transfers.specs.Directories.{DirectoryBegins, DirectoryBrings, DirectoryEnds, DirectoryBreaks}

-- ---- a crowded server

abbrev session : Uplink → Downlink → List ℕ → ℕ → Session
session up down selected next = record { linked = true; up = up; down = down; selected = selected; next = next; held = [] }

-- files 1 and 2 are complete, of file 4 there are 40 bytes; session 1 uploads it and has selected the others, session 2 is sent file 1 and ignores DATA,
-- session 3 was sent it, session 4 broke the download of file 2 off
abbrev crowd : Downlink → ℕ → Model
crowd down next =
    record {
      blocks = 4;
      places = 4;
      maxsel = 50;
      last_number = 4;
      last_time = 5;
      files = file 1 80 (complete_as 1 4) 4 ∷ file 2 92 (landrover_as 2 5) 5 ∷ file 4 80 (take 40 smallest) 0 ∷ [];
      sessions = session (receiving 4) down (1 ∷ 2 ∷ []) next ∷ session ignoring (sending 1 0) [] 0 ∷ session no_upload (ended 1) [] 0
          ∷ session no_upload (aborting 2) [] 0 ∷ [];
    }

-- before the command, and behind it
unfoldable pub before : Model
before = crowd no_download 0

unfoldable pub begun : Model
begun = crowd (listing true (1 ∷ 2 ∷ []) 0) 2

-- ---- what the sessions name is there

-- what is so of each session of a list, and of a closed one, is so at every place
abbrev Each : (Session → Type 0) → List Session → Type 0
Each P [] = P closed_session
Each P (s ∷ ss) = P s × Each P ss

each_at : (P : Session → Type 0) (ss : List Session) → Each P ss → (j : ℕ) → P (get_or ss j closed_session)
each_at P [] p zero = p
each_at P [] p (suc j) = p
each_at P (s ∷ ss) p zero = p.0
each_at P (s ∷ ss) p (suc j) = each_at P ss p.1 j

module _ (down : Downlink) (next : ℕ) where
  first_file : Complete 1 (crowd down next).files
  unfolding computing
  first_file = record { file = file 1 80 (complete_as 1 4) 4; found = refl; time = λ e. omega (arith, e) }

  second_file : Complete 2 (crowd down next).files
  unfolding computing
  second_file = record { file = file 2 92 (landrover_as 2 5) 5; found = refl; time = λ e. omega (arith, e) }

  named_by : DownOk (crowd down next).files down → Named (crowd down next)
  unfolding computing
  named_by d =
      record {
        up = λ j.
            each_at (λ s. UpOk (crowd down next).files s.up) (crowd down next).sessions
            (record { file = file 4 80 (take 40 smallest) 0; found = refl; time = refl }, (tt, (tt, (tt, tt)))) j;
        down = λ j.
            each_at (λ s. DownOk (crowd down next).files s.down) (crowd down next).sessions (d, (first_file, (first_file, (second_file, tt)))) j;
        selected = λ j.
            each_at (λ s. AllComplete (crowd down next).files s.selected) (crowd down next).sessions
            ((first_file, (second_file, tt)), (tt, (tt, (tt, tt)))) j;
        alone = λ j k n a b. alone j n a ∙ sym (alone k n b);
      }
    where
      idle : (n : ℕ) → no_upload ≡ receiving n → ⊥
      idle n e = let z : ◌≡◌ {A = ℕ} 0 1 = cc in omega arith

      ignores : (n : ℕ) → ignoring ≡ receiving n → ⊥
      ignores n e = let z : ◌≡◌ {A = ℕ} 0 1 = cc in omega arith

      alone : (j n : ℕ) → (session_at (crowd down next) j).up ≡ receiving n → j ≡ 0
      alone zero n a = refl
      alone (suc j) n a =
          absurd (each_at (λ s. s.up ≡ receiving n → ⊥) (drop 1 (crowd down next).sessions) (ignores n, (idle n, (idle n, idle n))) j a)

named_before : Named before
unfolding before
named_before = named_by no_download 0 tt

named_begun : Named begun
unfolding begun
named_begun = named_by (listing true (1 ∷ 2 ∷ []) 0) 2 (first_file (listing true (1 ∷ 2 ∷ []) 0) 2, (second_file (listing true (1 ∷ 2 ∷ []) 0) 2, tt))

sound_begun : Sound begun
unfolding begun computing
sound_begun =
    record {
      numbers = (omega arith, omega arith, omega arith, (omega arith, omega arith, omega arith, (omega arith, omega arith, omega arith, tt)));
      room = omega arith;
    }

listing_begun : Listing begun 1 true (1 ∷ 2 ∷ []) 0
unfolding begun
listing_begun = record { from_one = omega arith; linked = refl; down = refl }

-- ---- the calls

-- session 1 goes on with its upload, which it completes, and asks three times; session 2 sends DATA and asks, session 3 is lost
abbrev calls : List Call
calls =
    rx 6 (data' (drop 40 smallest)) ∷ pump ∷ receive 2 6 (data' []) output ∷ request 2 output ∷ rx 6 data_end ∷ pump ∷ lose 3 ∷ pump ∷ []

may_come : requests_and_uplink begun 1 calls ≡ true
unfolding begun computing requests_and_uplink own_or_other request_or_uplink for_uplink
may_come = refl

asks_three : asks 1 calls ≡ 3
unfolding asks asks_in
asks_three = refl

one_may_come : requests_and_uplink begun 1 (pump ∷ []) ≡ true
unfolding requests_and_uplink own_or_other request_or_uplink
one_may_come = refl

-- the headers of files 1 and 2, 172 bytes
abbrev entries : List ℕ
entries = complete_as 1 4 ++ landrover_as 2 5

its_bytes : directory_of true (1 ∷ 2 ∷ []) begun.files ≡ entries
unfolding begun computing
its_bytes = refl

its_length : length (directory_of true (1 ∷ 2 ∷ []) begun.files) ≡ 172
unfolding begun computing
its_length = refl

not_ended : end_to begun 1 (pump ∷ []) ≡ false
unfolding begun computing end_to sent_to sent_by
not_ended = refl

all_sent : length (data_to begun 1 (pump ∷ [])) ≡ 172
unfolding begun computing data_to data_in sent_to sent_by
all_sent = refl

-- ---- DIR_LONG_CMD of number 0

module _ (begins : DirectoryBegins) where
  abbrev command : Call
  command = rx 6 (dir_long 0)

  pub begun_by_law : Lists before 1 (step before command).after true (1 ∷ 2 ∷ []) 2
  unfolding before computing numbers_listed place_after
  begun_by_law = begins before named_before true 1 6 6 (dir_long 0) output (four 0) refl refl

  -- session 1 is to be sent the directory of files 1 and 2 from its first byte on
  pub to_be_sent :
      (1 ≤ 1) × ((session_at (step before command).after 0).linked ≡ true)
      × ((session_at (step before command).after 0).down ≡ listing true (1 ∷ 2 ∷ []) 0)
  to_be_sent = (begun_by_law.listing.from_one, begun_by_law.listing.linked, begun_by_law.listing.down)

  -- there are two, and both are complete
  pub both_complete :
      (1 ≤ 2) × (find 1 before.files ≡ some begun_by_law.complete.0.file) × (begun_by_law.complete.0.file.time ≡ 0 → ⊥)
      × (begun_by_law.complete.1.0.file.time ≡ 0 → ⊥)
  both_complete = (begun_by_law.some, begun_by_law.complete.0.found, begun_by_law.complete.0.time, begun_by_law.complete.1.0.time)

  -- the files and the selection are as they were, and the place in it is 2
  pub place_moved :
      ((step before command).after.files ≡ before.files) × ((session_at (step before command).after 0).selected ≡ 1 ∷ 2 ∷ [])
      × ((session_at (step before command).after 0).next ≡ 2)
  unfolding before
  place_moved = (begun_by_law.files, begun_by_law.selected, begun_by_law.next)

-- ---- what is sent

-- a front of bytes
pub record FrontOf (sent all : List ℕ) : Type 0 where
  pub back : List ℕ
  pub is : sent ++ back ≡ all

module _ (brings : DirectoryBrings) where
  -- at one request a front of the entries
  pub first_request : BringsDirectory begun 1 (pump ∷ []) true (1 ∷ 2 ∷ []) 0
  first_request = brings begun sound_begun named_begun 1 true (1 ∷ 2 ∷ []) 0 listing_begun (pump ∷ []) one_may_come

  pub a_front : FrontOf (data_to begun 1 (pump ∷ [])) entries
  a_front = record { back = first_request.brings.back; is = first_request.brings.front ∙ its_bytes }

  -- and until DATA_END goes out the session names both files
  pub still_named :
      ((session_at (state_after begun (pump ∷ [])) 0).linked ≡ true)
      × ((session_at (state_after begun (pump ∷ [])) 0).down ≡ listing true (1 ∷ 2 ∷ []) 172)
      × ((session_at (state_after begun (pump ∷ [])) 0).selected ≡ 1 ∷ 2 ∷ [])
      × ((session_at (state_after begun (pump ∷ [])) 0).next ≡ 2)
  unfolding begun
  still_named = (
    first_request.linked,
    first_request.down
        ∙ ap (λ (b : Bool). cond b no_download (listing true (1 ∷ 2 ∷ []) (0 + length (data_to begun 1 (pump ∷ []))))) not_ended
        ∙ ap (λ (n : ℕ). listing true (1 ∷ 2 ∷ []) (0 + n)) all_sent,
    first_request.selected,
    first_request.next,
  )

  module _ (ends : DirectoryEnds) where
    -- three requests are enough, whatever comes between
    pub whole_ends : end_to begun 1 calls ≡ true
    whole_ends =
        ends begun sound_begun named_begun 1 true (1 ∷ 2 ∷ []) 0 listing_begun calls may_come (omega (arith, its_length, asks_three))

    pub at_all : BringsDirectory begun 1 calls true (1 ∷ 2 ∷ []) 0
    at_all = brings begun sound_begun named_begun 1 true (1 ∷ 2 ∷ []) 0 listing_begun calls may_come

    -- what it is sent are the two headers, and then no download is left
    pub whole_sent : data_to begun 1 calls ≡ entries
    whole_sent = at_all.brings.whole whole_ends ∙ its_bytes

    pub none_left : (session_at (state_after begun calls) 0).down ≡ no_download
    none_left = at_all.down ∙ ap (λ (b : Bool). cond b no_download (listing true (1 ∷ 2 ∷ []) (0 + length (data_to begun 1 calls)))) whole_ends

-- ---- DL_NAK_CMD

module _ (breaks : DirectoryBreaks) where
  pub broken_off : BrokenOff begun 1 (rx 6 nak)
  unfolding begun computing
  broken_off = breaks begun 1 true (1 ∷ 2 ∷ []) 0 listing_begun 6 nak output refl (omega arith)

  -- DATA_END is sent, and no download is left; the place in the selection is behind both files
  pub broken_so :
      (sent_to begun 1 (rx 6 nak) ≡ 0 ∷ 1 ∷ []) × ((session_at (step begun (rx 6 nak)).after 0).linked ≡ true)
      × ((session_at (step begun (rx 6 nak)).after 0).down ≡ no_download) × ((session_at (step begun (rx 6 nak)).after 0).selected ≡ 1 ∷ 2 ∷ [])
      × ((session_at (step begun (rx 6 nak)).after 0).next ≡ 2)
  unfolding begun packet_of
  broken_so = (broken_off.sent, broken_off.linked, broken_off.down, broken_off.selected, broken_off.next)
