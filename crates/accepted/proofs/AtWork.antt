-- Demand 3 of the machine at work: `EveryTranscript`, a hypothesis here, is applied to the small passes of Passes.antt. What the packets say is computed
-- from their bytes, and what the statement gives is stated. Assumes nothing.
use mathlib.Core.Path.{◌≡◌, refl, sym, ap, ◌∙◌, subst}
use mathlib.Core.Bool.{Bool, true, false, cond}
use mathlib.Core.Logic.{inl, inr}
use mathlib.Core.List.{List, [], ◌∷◌, ◌++◌, map}
use mathlib.Core.Option.{none, some}
use Prim.Native.Nat.{ℕ, ◌+◌, ◌≤◌, ◌<◌}
use native.Mathlib.Omega.{arith}
use borrow.Author.Tests.{ltb-true}
use lib.Dec.{ltb}
use lib.ListN.{length, get_or, take, drop}
use Rattle.packet.specs.Frame.{packet}
use Rattle.numbers.specs.Hex.{hex_digit}
use Rattle.header.proofs.Examples.{smallest}
use Rattle.header.specs.Items.{fields_of}
use Rattle.header.specs.Header.{verdict, bytes_of}
use Rattle.header.specs.Fields.{fields_set}
use Rattle.table.specs.Given.{blocks_for, most_given}
use Rattle.decide.specs.Words.{word_at}
use Rattle.calls.specs.Call.{Call, request, History, ◌▸◌}
use Rattle.model.specs.State.{File, file, Model, empty, session_at}
use Rattle.model.specs.Files as files
use Rattle.model.specs.Files.{find}
use Rattle.model.specs.Step.{step, run}
use Rattle.steps.specs.Parts as parts
use Rattle.cases.specs.Computing.{computing}
use Rattle.accepted.specs.Exchange.{Exchange, sent_in, Transcript, exchanged, transcript}
use Rattle.accepted.specs.Link as link
use Rattle.accepted.specs.Link.{link_bytes, heard_in, info_in}
use Rattle.accepted.specs.Events as events
use Rattle.accepted.specs.Events.{Event, given, added, finished, dropped, upload_of}
use Rattle.accepted.specs.Accepted as accepted-accepted
use Rattle.accepted.specs.Accepted.{accepted, announced, reserved, total, numbers_given, Completion, completion, completions, times}
use Rattle.accepted.specs.Effect as effect
use Rattle.accepted.specs.Effect.{Effect}
use Rattle.accepted.specs.Agreement.{size_of, number_of, OutsideAll, five_set, OnlyFive, AreBytes, OfBytes, Listed, Stands, Agrees, EveryTranscript}
use Rattle.cases.proofs.Passes.{output, rx, of, upload, data_end, opened, halfway, torn, before_upload, continued, rest, lost_once, too_early, mended}
use Rattle.cases.proofs.Passes.{uploads, both}

-- one block, one file place, one session, MAXSEL 1; two blocks, two places, two sessions
abbrev pub small : History → Model
small h = run (empty 1 1 1 1) h

abbrev pub pair : History → Model
pair h = run (empty 2 2 2 1) h

abbrev pub seen : History → Transcript
seen h = transcript (empty 1 1 1 1) h

abbrev pub seen_two : History → Transcript
seen_two h = transcript (empty 2 2 2 1) h

-- whoever unfolds this unfolds all that the passes compute with
at_work : ℕ
unfolding
    computing run smallest opened halfway torn before_upload continued lost_once too_early mended uploads both parts.sent_by transcript
    link.taken_by link.behind link.received_by link.anew_by link_bytes events.named_by events.none_by upload_of events.on_quiet events.on_go events.on_sent events.on_answer accepted-accepted.added_by
    accepted accepted-accepted.announced_by announced accepted-accepted.blocks_of total accepted-accepted.given_by numbers_given accepted-accepted.from_one
    accepted-accepted.last_from accepted-accepted.completed_by completions effect.files_by effect.number_by effect.time_by
at_work = 0

module _ (every : EveryTranscript) where
  pub one : (h : History) → Agrees (small h) (seen h)
  one h = every 1 1 1 1 (omega arith) h

  pub two : (h : History) → Agrees (pair h) (seen_two h)
  two h = every 2 2 2 1 (omega arith) h

  -- ---- the bytes of a link

  -- eleven bytes of the second DATA packet are behind the first, by what was handed in and said to be taken; so the session holds them
  pub torn_bytes : link_bytes (seen torn) 0 ≡ 40 ∷ 0 ∷ take 9 (drop 40 smallest)
  unfolding at_work
  torn_bytes = refl

  pub torn_held : (session_at (small torn) 0).held ≡ 40 ∷ 0 ∷ take 9 (drop 40 smallest)
  torn_held = (one torn).unfinished 0 ∙ torn_bytes

  -- after the lost link there are none
  pub lost_held : (session_at (small before_upload) 0).held ≡ []
  unfolding at_work
  lost_held = (one before_upload).unfinished 0

  -- the other bytes make the packet whole; the DATA_END lent with them is not taken
  pub mended_heard : heard_in (seen torn) (exchanged (small torn) (rx 8 (drop 49 smallest ++ data_end))) ≡ some (packet 0 (drop 40 smallest))
  unfolding at_work
  mended_heard = refl

  pub mended_held : (session_at (small mended) 0).held ≡ []
  unfolding at_work
  mended_held = (one mended).unfinished 0

  -- ---- numbers

  pub two_numbers : numbers_given (seen too_early) ≡ 1 ∷ 2 ∷ []
  unfolding at_work
  two_numbers = refl

  -- the second number given is above the first
  pub numbers_rise : get_or (numbers_given (seen too_early)) 0 0 < get_or (numbers_given (seen too_early)) 1 0
  numbers_rise = (one too_early).numbers.rising 0 1 (omega arith) (omega (arith, ap (λ (ns : List ℕ). length ns) two_numbers))

  -- they are 1 and 2
  pub counted_from_1 : numbers_given (seen too_early) ≡ 1 ∷ 2 ∷ []
  unfolding accepted-accepted.from_one
  counted_from_1 = (one too_early).numbers.counted ∙ ap (λ (ns : List ℕ). accepted-accepted.from_one (length ns)) two_numbers

  -- no file has a number above the last one given
  pub none_above : (n : ℕ) (f : File) → find n (small too_early).files ≡ some f → (n ≤ 2) × (f.number ≡ n)
  none_above n f e = (omega (arith, (one too_early).numbers.known n f e, ap (λ (ns : List ℕ). length ns) two_numbers), (one too_early).numbers.own n f e)

  -- of two files the second has the higher number
  pub two_files : get_or (map (λ f. f.number) (pair both).files) 0 0 < get_or (map (λ f. f.number) (pair both).files) 1 0
  unfolding at_work
  two_files = (two both).numbers.apart 0 1 (omega arith) (omega arith)

  -- ---- which files there are

  -- the first file was discarded, and the second is there
  pub first_gone : size_of (find 1 (small too_early).files) ≡ none
  unfolding at_work
  first_gone = (one too_early).standing 1

  pub second_there : size_of (find 2 (small too_early).files) ≡ some 80
  unfolding at_work
  second_there = (one too_early).standing 2

  -- it has the one block that was free again
  pub one_block : files.reserved (small too_early).files ≡ 1
  unfolding at_work
  one_block = (one too_early).blocks

  -- ---- contents

  -- after the lost link the partial file is the 40 bytes of the whole DATA packet, and has room for 40 more
  pub half_bytes : take 40 smallest ≡ accepted (seen before_upload) 1
  unfolding at_work
  half_bytes = ((one before_upload).contents 1 (file 1 80 (take 40 smallest) 0) refl).partial refl

  pub half_within : length (accepted (seen before_upload) 1) ≤ 80
  unfolding at_work
  half_within = ((one before_upload).contents 1 (file 1 80 (take 40 smallest) 0) refl).within

  -- file 1 when it is complete: its upload time is 4, by the clock that ran backwards
  abbrev whole : File
  whole = file 1 80 (fields_set 1 4 smallest) 4

  whole_found : find 1 (small lost_once).files ≡ some whole
  unfolding at_work
  whole_found = refl

  not_0 : whole.time ≡ 0 → ⊥
  not_0 z = omega (arith, z)

  all_accepted : accepted (seen lost_once) 1 ≡ smallest
  unfolding at_work
  all_accepted = refl

  -- it is what was accepted, with its fields set to number 1 and time 4
  pub lost_once_bytes : fields_set 1 4 smallest ≡ fields_set 1 4 (accepted (seen lost_once) 1)
  lost_once_bytes = ((one lost_once).contents 1 whole whole_found).complete not_0

  -- what was accepted passes the checks of DATA_END, and is as long as announced
  pub lost_once_checked : verdict smallest (length smallest) ≡ 0
  lost_once_checked =
      subst (λ (bytes : List ℕ). verdict bytes (length bytes) ≡ 0) all_accepted (((one lost_once).contents 1 whole whole_found).checked not_0)

  pub lost_once_length : length (accepted (seen lost_once) 1) ≡ 80
  lost_once_length = ((one lost_once).contents 1 whole whole_found).whole not_0

  -- the file that session 2 uploads is the one that UL_GO_RESP named to it
  pub second_named : upload_of (seen_two uploads) 1 ≡ 2
  unfolding at_work
  second_named = refl

  pub second_uploads : number_of (session_at (pair uploads) 1).up ≡ 2
  second_uploads = (two uploads).under 1 ∙ second_named

  -- ---- "only the" five, for links that bring bytes

  unfoldable bytes_test : List ℕ → Bool
  bytes_test [] = true
  bytes_test (b ∷ bs) = cond (ltb b 256) (bytes_test bs) false

  by_test : (xs : List ℕ) → bytes_test xs ≡ true → AreBytes xs
  unfolding bytes_test
  by_test [] e = tt
  by_test (b ∷ bs) e = go (ltb b 256) refl e (by_test bs)
    where
      go : (t : Bool) → ltb b 256 ≡ t → cond t (bytes_test bs) false ≡ true → (bytes_test bs ≡ true → AreBytes bs) → (b < 256) × AreBytes bs
      go true l e f = (ltb-true b 256 l, f e)
      go false l e f = let z : ◌≡◌ {A = ℕ} 0 1 = cc in absurd (omega arith)

  pub of_bytes : OfBytes (seen lost_once)
  unfolding at_work bytes_test
  of_bytes = (
    (
      (
        (
          (((((tt, tt), by_test (upload 0) refl), by_test (40 ∷ 0 ∷ take 40 smallest) refl), by_test (40 ∷ 0 ∷ take 9 (drop 40 smallest)) refl), tt),
          tt,
        ),
        by_test (upload 1) refl,
      ),
      by_test (40 ∷ 0 ∷ drop 40 smallest) refl,
    ),
    by_test data_end refl,
  )

  -- 255 is a byte
  pub largest_byte : AreBytes (255 ∷ [])
  largest_byte = (omega arith, tt)

  five : OnlyFive smallest (fields_set 1 4 smallest)
  five = subst (λ (bytes : List ℕ). OnlyFive bytes (fields_set 1 4 smallest)) all_accepted ((one lost_once).fields of_bytes 1 whole whole_found not_0)

  -- bytes 4 and 9 stand just before and just behind file_number, and in none of the five items that the server sets
  before : OutsideAll 4 smallest five_set
  unfolding at_work
  before = (inl (omega arith), (inl (omega arith), (inl (omega arith), (inl (omega arith), (inl (omega arith), tt)))))

  behind : OutsideAll 9 smallest five_set
  unfolding at_work
  behind = (inr (omega arith), (inl (omega arith), (inl (omega arith), (inl (omega arith), (inl (omega arith), tt)))))

  -- they stay as they were accepted: the item's length, 4, and the next item's id, 2
  pub around_number : (get_or (fields_set 1 4 smallest) 4 0 ≡ 4) × (get_or (fields_set 1 4 smallest) 9 0 ≡ 2)
  unfolding smallest
  around_number = (five.rest 4 before, five.rest 9 behind)

  -- the length is that of what was accepted
  pub same_length : length (fields_set 1 4 smallest) ≡ 80
  unfolding smallest
  same_length = five.size

  -- the file that was completed at time 4 is named "00000004"
  pub name_is : bytes_of 2 (fields_of (fields_set 1 4 smallest)) ≡ 48 ∷ 48 ∷ 48 ∷ 48 ∷ 48 ∷ 48 ∷ 48 ∷ 52 ∷ []
  unfolding hex_digit
  name_is = (one lost_once).named of_bytes 1 whole whole_found not_0

  -- with its fields set the file passes the checks as one of 80 bytes
  pub still_valid : verdict (fields_set 1 4 smallest) 80 ≡ 0
  still_valid = sym (ap (verdict (fields_set 1 4 smallest)) same_length) ∙ (one lost_once).valid of_bytes 1 whole whole_found not_0

  -- so it does behind a request
  pub valid_after_request : verdict (fields_set 1 4 smallest) (length (fields_set 1 4 smallest)) ≡ 0
  unfolding at_work
  valid_after_request = (one (lost_once ▸ request 1 output)).valid (of_bytes, tt) 1 whole refl not_0

  -- ---- the continuation

  abbrev offer : Exchange
  offer = exchanged (small before_upload) (rx 10 (upload 1))

  -- UL_GO_RESP gives the number that UPLOAD_CMD names, and offers 40, the length of what was accepted under it
  pub offers_40 : (40 ≡ length (accepted (seen before_upload) 1)) × (word_at (sent_in offer) 2 ≡ word_at (info_in (seen before_upload) offer) 0)
  unfolding at_work
  offers_40 =
      let r = (one before_upload).offers (rx 10 (upload 1)) refl in
      (r.offset, r.number (λ z. omega (arith, z)))

  -- ---- "a call changes no file but its own"

  -- DATA_END of session 2 leaves file 1, the one of session 1, as it was
  pub other_file_kept : find 1 (step (pair uploads) (of 2 7 data_end)).after.files ≡ some (file 1 80 smallest 0)
  other_file_kept = (two uploads).own (of 2 7 data_end) 1 (file 1 80 smallest 0) found (λ z. omega (arith, z, second_named))
    where
      found : find 1 (pair uploads).files ≡ some (file 1 80 smallest 0)
      found = unfold at_work in refl

  -- what the packets tell is what happens: UL_GO_RESP begins a file with the next number and the announced length
  pub begun : (small (opened ▸ rx 6 (upload 0))).files ≡ file 1 80 [] 0 ∷ []
  unfolding at_work
  begun = ((one opened).told (rx 6 (upload 0))).files

  abbrev pub Happens : History → Call → Event → Type 0
  Happens h c e = Effect e (small h) (step (small h) c).after

  told_begun : Happens opened (rx 6 (upload 0)) (given 1 80)
  unfolding at_work
  told_begun = (one opened).told (rx 6 (upload 0))

  pub begun_next : (1 ≡ (small opened).last_number + 1) × ((step (small opened) (rx 6 (upload 0))).after.last_number ≡ 1)
  unfolding effect.number_by
  begun_next = (told_begun.before.next, told_begun.number)

  -- its number is not above the last that there is; there are a place and a block for it
  pub begun_fits : (1 ≤ most_given) × (length (small opened).files < (small opened).places) × (blocks_for 80 ≤ files.free (small opened))
  begun_fits = (told_begun.before.few, told_begun.before.place, told_begun.before.room)

  -- DATA adds its bytes to the file of the session, within the announced length
  pub told_added : Happens continued rest (added 1 (drop 40 smallest))
  unfolding at_work
  told_added = (one continued).told rest

  pub added_within : length told_added.before.own.file.bytes + 40 ≤ told_added.before.own.file.size
  unfolding smallest
  added_within = told_added.before.room

  pub added_bytes : (step (small continued) rest).after.files ≡ file 1 80 smallest 0 ∷ []
  unfolding at_work
  added_bytes = told_added.files

  -- DATA_END with UL_ACK_RESP completes it
  pub told_finished : Happens (continued ▸ rest) (rx 4 data_end) (finished 1 4)
  unfolding at_work
  told_finished = (one (continued ▸ rest)).told (rx 4 data_end)

  pub finished_time : (verdict told_finished.before.own.file.bytes told_finished.before.own.file.size ≡ 0)
      × ((step (small (continued ▸ rest)) (rx 4 data_end)).after.last_time ≡ 4)
  unfolding at_work
  finished_time = (told_finished.before.valid, told_finished.time)

  -- DATA_END with UL_NAK_RESP drops it
  pub told_dropped : Happens halfway (rx 8 data_end) (dropped 1)
  unfolding at_work
  told_dropped = (one halfway).told (rx 8 data_end)

  pub dropped_file : (step (small halfway) (rx 8 data_end)).after.files ≡ []
  unfolding at_work
  dropped_file = told_dropped.files

  -- it was there, and partial
  pub dropped_was : (find 1 (small halfway).files ≡ some told_dropped.before.file) × (told_dropped.before.file.time ≡ 0)
  dropped_was = (told_dropped.before.found, told_dropped.before.time)

  -- ---- upload times

  two_times : completions (seen_two both) ≡ completion 1 7 ∷ completion 2 8 ∷ []
  unfolding at_work
  two_times = refl

  -- of two files completed in one second the second one has the later time
  pub times_apart : get_or (0 ∷ times (completions (seen_two both))) 1 0 < get_or (0 ∷ times (completions (seen_two both))) 2 0
  times_apart = (two both).times.rising 1 2 (omega arith) (omega (arith, ap (λ (cs : List Completion). length (0 ∷ times cs)) two_times))

  -- and the first is above 0
  pub first_above_0 : 0 < get_or (0 ∷ times (completions (seen_two both))) 1 0
  first_above_0 = (two both).times.rising 0 1 (omega arith) (omega (arith, ap (λ (cs : List Completion). length (0 ∷ times cs)) two_times))

  abbrev complete_first : File
  complete_first = file 1 80 (fields_set 1 7 smallest) 7

  pub first_found : find 1 (pair both).files ≡ some complete_first
  unfolding at_work
  first_found = refl

  pub first_complete : complete_first.time ≡ 0 → ⊥
  first_complete z = omega (arith, z)

  -- a complete file has the time of its completion, which is one of the two
  pub own_time : ((two both).times.own 1 complete_first first_found first_complete).index < 2
  own_time =
      omega
      (arith, ((two both).times.own 1 complete_first first_found first_complete).below, ap (λ (cs : List Completion). length cs) two_times)

  pub own_completion :
      get_or (completions (seen_two both)) ((two both).times.own 1 complete_first first_found first_complete).index (completion 0 0)
      ≡ completion 1 7
  own_completion = ((two both).times.own 1 complete_first first_found first_complete).is

  -- and the file that was completed first still stands
  first_listed : Listed (completion 1 7) (completions (seen_two both))
  unfolding at_work
  first_listed = record { index = 0; below = omega arith; is = refl }

  pub still_stands : Stands (pair both).files (completion 1 7)
  still_stands = (two both).times.kept (completion 1 7) first_listed

  pub stands_so : (find 1 (pair both).files ≡ some still_stands.file) × (still_stands.file.time ≡ 7)
  stands_so = (still_stands.found, still_stands.time)

  pub stands_complete : still_stands.file.time ≡ 0 → ⊥
  stands_complete = still_stands.complete
