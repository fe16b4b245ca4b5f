-- The machine at work: `EveryCall` and `EveryHistory` are applied to small cases of Passes.antt. What the machine tells is computed, and what goes out
-- is stated byte by byte. Assumes nothing.
use mathlib.Core.Path.{◌≡◌, refl, ap, ◌∙◌}
use mathlib.Core.List.{List, [], ◌∷◌, ◌++◌}
use Prim.Native.Nat.{ℕ}
use lib.ListN.{length, drop}
use Rattle.header.proofs.Examples.{smallest}
use Rattle.session.specs.declared.reply.Answer.TheVariants as answer
use Rattle.session.specs.Reply.{Told, told}
use Rattle.history.specs.Calls.{Call, call_of, History, ◌▸◌}
use Rattle.history.proofs.Histories.{good_after}
use Rattle.model.specs.State.{file, Model}
use Rattle.model.specs.Step.{step, run}
use Rattle.cases.specs.Computing.{computing}
use Rattle.views.specs.View.{view}
use Rattle.promises.specs.Demand2.{Demand2}
use Rattle.worked.proofs.Passes.{small, small_legal, output, rx, upload, data_end, short_upload, large_upload, next_file, title_above_m, size80}
use Rattle.worked.proofs.Passes.{other_length, ack, nak, directory, data41, type18, download, opened, halfway, torn, before_upload, lost_once, picked, downloading}
use Rattle.worked.proofs.Passes.{downloading40, complete80, sent_all, continued, rest, pair, uploads, both, handed, crowded, server_after, lent_after}
use Rattle.worked.proofs.Passes.{machine}

-- what the small server tells at a call, and at bytes of its link
abbrev pub tells : History → Call → Told
tells h c = told (call_of (server_after h) (lent_after h) c).done.answer (call_of (server_after h) (lent_after h) c).out

abbrev answers_to : History → ℕ → List ℕ → Told
answers_to h clock bytes = tells h (rx clock bytes)

-- all bytes are taken, and: this packet is sent; nothing is sent; the link is closed
abbrev pub Gets : History → ℕ → List ℕ → List ℕ → Type 0
Gets h clock bytes p = answers_to h clock bytes ≡ told (answer.Sent (length bytes) (length p)) (p ++ drop (length p) output)

abbrev pub GetsNothing : History → ℕ → List ℕ → Type 0
GetsNothing h clock bytes = answers_to h clock bytes ≡ told (answer.Quiet (length bytes)) output

abbrev pub GetsClosed : History → ℕ → List ℕ → Type 0
GetsClosed h clock bytes = answers_to h clock bytes ≡ told (answer.Closed (length bytes)) output

-- whoever unfolds this unfolds all that the machine computes with in these cases
unfoldable pub at_work : ℕ
unfolding
    computing run small smallest opened halfway torn before_upload continued lost_once picked downloading downloading40 complete80 sent_all pair uploads both
    handed crowded
at_work = 0

module _ (d : Demand2) where
  -- what the machine tells is what the server tells
  pub as_the_machine : (h : History) (c : Call) (t : Told) → (step (machine h) c).told ≡ t → tells h c ≡ t
  as_the_machine h c t e =
      (d.machine (server_after h) (lent_after h) (good_after small small_legal h) c).told
      ∙ ap (λ (m : Model). (step m c).told) (d.machine_after small small_legal h)
      ∙ e

  -- and what the server leaves stands for what the machine leaves
  pub left_as_the_machine : (h : History) (c : Call)
      → view (call_of (server_after h) (lent_after h) c).done.server (call_of (server_after h) (lent_after h) c).lent ≡ (step (machine h) c).after
  left_as_the_machine h c =
      (d.machine (server_after h) (lent_after h) (good_after small small_legal h) c).after
      ∙ ap (λ (m : Model). (step m c).after) (d.machine_after small small_legal h)

  by_machine : (h : History) (clock : ℕ) (bytes : List ℕ) (t : Told) → (step (machine h) (rx clock bytes)).told ≡ t → answers_to h clock bytes ≡ t
  by_machine h clock bytes t e = as_the_machine h (rx clock bytes) t e

  -- ---- UPLOAD_CMD

  -- of one byte: UL_ERROR_RESP 1
  pub short_upload_law : Gets opened 6 short_upload (1 ∷ 5 ∷ 1 ∷ [])
  unfolding at_work
  short_upload_law = by_machine opened 6 short_upload _ refl

  -- for a new file of 257 bytes, where one block is free: UL_ERROR_RESP 13
  pub no_room : Gets opened 6 large_upload (1 ∷ 5 ∷ 13 ∷ [])
  unfolding at_work
  no_room = by_machine opened 6 large_upload _ refl

  -- for a new file of 80: UL_GO_RESP with number 1 and offset 0
  pub new_file_law : Gets opened 6 (upload 0) (8 ∷ 4 ∷ 1 ∷ 0 ∷ 0 ∷ 0 ∷ 0 ∷ 0 ∷ 0 ∷ 0 ∷ [])
  unfolding at_work
  new_file_law = by_machine opened 6 (upload 0) _ refl

  -- to continue it, 40 bytes being received: offset 40
  pub continued_at_40 : Gets before_upload 10 (upload 1) (8 ∷ 4 ∷ 1 ∷ 0 ∷ 0 ∷ 0 ∷ 40 ∷ 0 ∷ 0 ∷ 0 ∷ [])
  unfolding at_work
  continued_at_40 = by_machine before_upload 10 (upload 1) _ refl

  -- with another length than the first: UL_ERROR_RESP 2
  pub other_length_law : Gets before_upload 10 other_length (1 ∷ 5 ∷ 2 ∷ [])
  unfolding at_work
  other_length_law = by_machine before_upload 10 other_length _ refl

  -- to continue a file that is not there: UL_ERROR_RESP 4
  pub no_such_file : Gets opened 6 (upload 1) (1 ∷ 5 ∷ 4 ∷ [])
  unfolding at_work
  no_such_file = by_machine opened 6 (upload 1) _ refl

  -- to continue it when it is complete: UL_ERROR_RESP 12
  pub complete_already : Gets lost_once 12 (upload 1) (1 ∷ 5 ∷ 12 ∷ [])
  unfolding at_work
  complete_already = by_machine lost_once 12 (upload 1) _ refl

  -- ---- DATA, DATA_END

  -- 41 bytes behind 40 of 80: UL_NAK_RESP 16; the 40 that are left: nothing
  pub one_too_many : Gets halfway 8 data41 (1 ∷ 7 ∷ 16 ∷ [])
  unfolding at_work
  one_too_many = by_machine halfway 8 data41 _ refl

  pub just_enough : GetsNothing halfway 8 (40 ∷ 0 ∷ drop 40 smallest)
  unfolding at_work
  just_enough = by_machine halfway 8 (40 ∷ 0 ∷ drop 40 smallest) _ refl

  -- DATA_END behind 40 of 80: UL_NAK_RESP 16
  pub end_too_early : Gets halfway 8 data_end (1 ∷ 7 ∷ 16 ∷ [])
  unfolding at_work
  end_too_early = by_machine halfway 8 data_end _ refl

  -- behind all 80: UL_ACK_RESP
  pub end_accepted : Gets (continued ▸ rest) 4 data_end (0 ∷ 6 ∷ [])
  unfolding at_work
  end_accepted = by_machine (continued ▸ rest) 4 data_end _ refl

  -- and the file is complete, its five fields set and its time 4
  pub end_completes :
      (view (call_of (server_after (continued ▸ rest)) (lent_after (continued ▸ rest)) (rx 4 data_end)).done.server
      (call_of (server_after (continued ▸ rest)) (lent_after (continued ▸ rest)) (rx 4 data_end)).lent).files
      ≡ file 1 80 complete80 4 ∷ []
  unfolding at_work
  end_completes = ap (λ (m : Model). m.files) (left_as_the_machine (continued ▸ rest) (rx 4 data_end))

  -- ---- DOWNLOAD_CMD

  -- of a file that is not there: DL_ERROR_RESP 4; of a partial one: 11
  pub nothing_there : Gets opened 6 (download 0 0) (1 ∷ 9 ∷ 4 ∷ [])
  unfolding at_work
  nothing_there = by_machine opened 6 (download 0 0) _ refl

  pub partial_file : Gets before_upload 10 (download 0 0) (1 ∷ 9 ∷ 11 ∷ [])
  unfolding at_work
  partial_file = by_machine before_upload 10 (download 0 0) _ refl

  -- the next selected file, none being selected: DL_ERROR_RESP 5; one being selected: accepted
  pub none_selected : Gets opened 6 next_file (1 ∷ 9 ∷ 5 ∷ [])
  unfolding at_work
  none_selected = by_machine opened 6 next_file _ refl

  pub one_selected : GetsNothing picked 13 next_file
  unfolding at_work
  one_selected = by_machine picked 13 next_file _ refl

  -- 80 bytes from offset 80 on: accepted; from 81 on: DL_ERROR_RESP 2
  pub from_the_end : GetsNothing lost_once 12 (download 80 0)
  unfolding at_work
  from_the_end = by_machine lost_once 12 (download 80 0) _ refl

  pub from_behind_the_end : Gets lost_once 12 (download 81 0) (1 ∷ 9 ∷ 2 ∷ [])
  unfolding at_work
  from_behind_the_end = by_machine lost_once 12 (download 81 0) _ refl

  -- lock destination 1 of a file with none: DL_ERROR_RESP 10
  pub no_such_lock : Gets lost_once 12 (download 80 1) (1 ∷ 9 ∷ 10 ∷ [])
  unfolding at_work
  no_such_lock = by_machine lost_once 12 (download 80 1) _ refl

  -- ---- DL_ACK_CMD, DL_NAK_CMD

  -- for no destination: DL_COMPLETED_RESP; for destination 1 of a file with none: DL_ABORTED_RESP
  pub acknowledged : Gets sent_all 13 (ack 0) (0 ∷ 11 ∷ [])
  unfolding at_work
  acknowledged = by_machine sent_all 13 (ack 0) _ refl

  pub no_such_destination : Gets sent_all 13 (ack 1) (0 ∷ 10 ∷ [])
  unfolding at_work
  no_such_destination = by_machine sent_all 13 (ack 1) _ refl

  -- before DATA_END went out: DATA_END; after it: DL_ABORTED_RESP
  pub nak_before : Gets downloading 13 nak (0 ∷ 1 ∷ [])
  unfolding at_work
  nak_before = by_machine downloading 13 nak _ refl

  pub nak_after : Gets sent_all 13 nak (0 ∷ 10 ∷ [])
  unfolding at_work
  nak_after = by_machine sent_all 13 nak _ refl

  -- ---- SELECT_CMD

  -- titles greater than "m": DL_ERROR_RESP 8
  pub title_above_m_law : Gets opened 6 title_above_m (1 ∷ 9 ∷ 8 ∷ [])
  unfolding at_work
  title_above_m_law = by_machine opened 6 title_above_m _ refl

  -- files of 80 bytes: SELECT_RESP with 1
  pub one_of_80 : Gets lost_once 12 size80 (2 ∷ 17 ∷ 1 ∷ 0 ∷ [])
  unfolding at_work
  one_of_80 = by_machine lost_once 12 size80 _ refl

  -- ---- other types

  -- DIR_SHORT_CMD without the number of a file: DL_ERROR_RESP 1
  pub type_14 : Gets opened 6 directory (1 ∷ 9 ∷ 1 ∷ [])
  unfolding at_work
  type_14 = by_machine opened 6 directory _ refl

  pub type_18 : GetsClosed opened 6 type18
  unfolding at_work
  type_18 = by_machine opened 6 type18 _ refl
