-- Demand 1 at work: each statement is applied to small cases that meet its hypotheses, and what it gives is stated. Assumes nothing.
use Rattle.std.specs.Prelude.{Ok, Err}
use mathlib.Core.Path.{◌≡◌, ◌∙◌, sym}
use mathlib.Core.Bool.{true, false}
use mathlib.Core.List.{List, [], ◌∷◌}
use Prim.Native.Nat.{ℕ, ◌-◌, ◌≤◌}
use native.Mathlib.Omega.{arith}
use lib.ListN.{length, replicate, length-replicate}
use Rattle.session.specs.declared.state.Uplink.{Uplink}
use Rattle.session.specs.declared.state.Uplink.TheVariants as up
use Rattle.session.specs.declared.reply.Answer.TheVariants as answer
use Rattle.session.specs.State.{with_held, with_up}
use Rattle.server.specs.declared.Server.{Server}
use Rattle.server.specs.State.{Lent, link_of, with_link, with_part}
use Rattle.server.specs.Making.{new_server, emptied, empty_of, makes, make_of}
use Rattle.history.specs.Calls.{Call, login, receive, lose, call_of}
use Rattle.history.specs.Good.{Good}
use Rattle.history.proofs.Histories.{good_after}
use Rattle.promises.specs.Parts.{one_of}
use Rattle.promises.specs.Demand1.{Says, Reachable, UploadOver, over, overrun, Naks, NothingElse, Demand1}
use Rattle.worked.proofs.Passes.{small, small_legal, output, rx, upload, data_end, short_upload, large_upload, next_file, title_above_m, data41}
use Rattle.worked.proofs.Passes.{opened, halfway, on, server_after, lent_after, answer_of}
use Rattle.worked.proofs.Computed.{with255, with_owner, computed}

room : 258 ≤ length {A = ℕ} output
room = omega (arith, length-replicate {A = ℕ} 258 0)

-- the small server, its link being open and no packet unfinished, answers these bytes and is exactly as it was, and so is what is lent
pub record Unchanged (bytes : List ℕ) : Type 0 where
  pub server : (call_of (server_after opened) (lent_after opened) (rx 6 bytes)).done.server ≡ server_after opened
  pub lent : (call_of (server_after opened) (lent_after opened) (rx 6 bytes)).lent ≡ lent_after opened

unchanged : (bytes : List ℕ)
    → NothingElse (server_after opened) (lent_after opened) 1 (call_of (server_after opened) (lent_after opened) (rx 6 bytes))
    → Unchanged bytes
unchanged bytes r = record { server = r.server ∙ computed.refusals.same_server; lent = r.lent ∙ computed.refusals.same_lent }

-- a state that calls made fits and is sound, so its calls are never refused by 33 or 35
good : Good (server_after opened) (lent_after opened)
good = good_after small small_legal opened

reached : (clock : ℕ) (bytes out : List ℕ) → Reachable (server_after opened) (receive 1 clock bytes out)
reached clock bytes out =
    record { from_one = omega arith; in_range = omega (arith, computed.locals.sessions); in_state_law = computed.locals.linked }

clash : false ≡ true → ⊥
clash e = let z : ◌≡◌ {A = ℕ} 0 1 = cc in omega arith

module _ (d : Demand1) where
  -- UL_ERROR_RESP 1 to an UPLOAD_CMD of one byte
  pub short_upload_leaves : Unchanged short_upload
  short_upload_leaves = unchanged short_upload (d.upload_errors_law _ _ _ _ _ _ _ computed.refusals.short_upload_law).left

  -- UL_ERROR_RESP 13 to one for which there is no room
  pub no_room_leaves : Unchanged large_upload
  no_room_leaves = unchanged large_upload (d.upload_errors_law _ _ _ _ _ _ _ computed.refusals.no_room).left

  -- DL_ERROR_RESP 5 to a download of the next file, where none is selected
  pub none_selected_leaves : Unchanged next_file
  none_selected_leaves = unchanged next_file (d.download_errors_law _ _ _ _ _ _ _ computed.refusals.none_selected).left

  -- DL_ERROR_RESP 8 to a SELECT for titles greater than "m": "a refused SELECT keeps the old selection"
  pub title_above_m_leaves : Unchanged title_above_m
  title_above_m_leaves = unchanged title_above_m (d.download_errors_law _ _ _ _ _ _ _ computed.refusals.title_above_m_law).left

  -- UL_NAK_RESP 16 to a DATA_END that comes too early: the upload is over, and nothing else of the session changed
  pub too_few_naks : Naks (server_after halfway) (lent_after halfway) 1 8 data_end output 16
  too_few_naks = d.naks _ _ _ _ _ _ _ computed.refusals.too_few

  -- UL_NAK_RESP 16 to a DATA that passes the announced length
  pub too_many_naks : Naks (server_after halfway) (lent_after halfway) 1 8 data41 output 16
  too_many_naks = d.naks _ _ _ _ _ _ _ computed.refusals.too_many

  -- after the first of the two the selections are as they were, and no packet is unfinished
  pub too_few_left :
      ((call_of (server_after halfway) (lent_after halfway) (rx 8 data_end)).lent.selected ≡ (lent_after halfway).selected)
      × ((call_of (server_after halfway) (lent_after halfway) (rx 8 data_end)).lent.held
      ≡ with_part 0 258 (replicate 258 0) (lent_after halfway).held)
  too_few_left = (too_few_naks.selected, too_few_naks.held)

  -- after a NAK by another number than 16 the session uploads nothing; of the server nothing else changes, but that no packet is unfinished
  pub idle_after :
      (sv : Server) (l : Lent) (session clock : ℕ) (input out : List ℕ) (e : ℕ) → Says sv l session clock input out 7 e → (e ≡ 16 → ⊥)
      → (call_of sv l (receive session clock input out)).done.server
      ≡ with_link sv (session - 1) (with_up (with_held (link_of sv (session - 1)) 0) up.Idle)
  idle_after sv l session clock input out e s n =
      let r = d.naks sv l session clock input out e s in
      go r.uplink r.over r.server
    where
      go : (u : Uplink) → UploadOver e u
          → (call_of sv l (receive session clock input out)).done.server ≡ with_link sv (session - 1) (with_up (with_held (link_of sv (session - 1)) 0) u)
          → (call_of sv l (receive session clock input out)).done.server
          ≡ with_link sv (session - 1) (with_up (with_held (link_of sv (session - 1)) 0) up.Idle)
      go up.Idle over q = q
      go (up.Receiving _ _ _) x5 q = elim x5 [ ]
      go up.Ignoring (overrun is) q = absurd (n is)

  -- 33: whatever is called with a disk that is one byte too short
  pub short_disk_by_33 : (c : Call) → answer_of (server_after opened) (with255 (lent_after opened)) c ≡ answer.Refused 33
  short_disk_by_33 c = (d.locals _ _ c).by33 computed.locals.short_disk

  -- 35: whatever is called in a state that names a file place which is not there
  pub unsound_by_35 : (c : Call) → answer_of (server_after opened) (with_owner 2 (lent_after opened)) c ≡ answer.Refused 35
  unsound_by_35 c = (d.locals _ _ c).by35 computed.locals.lost_block computed.locals.unsound

  -- 34: a login of session 2, where there is one session
  pub second_by_34 : answer_of (server_after opened) (lent_after opened) (login 2 6 output) ≡ answer.Refused 34
  second_by_34 =
      (d.locals _ _ (login 2 6 output)).by34 good.fits good.sound (λ r. omega (arith, r.in_range, computed.locals.sessions))

  -- a call for session 0, since sessions are numbered from 1
  pub zero_by_34 : answer_of (server_after opened) (lent_after opened) (lose 0) ≡ answer.Refused 34
  zero_by_34 = (d.locals _ _ (lose 0)).by34 good.fits good.sound (λ r. omega (arith, r.from_one))

  -- a login of session 1, which is open
  pub open_by_34 : answer_of (server_after opened) (lent_after opened) (on 6) ≡ answer.Refused 34
  open_by_34 = (d.locals _ _ (on 6)).by34 good.fits good.sound (λ r. clash (sym r.in_state_law ∙ computed.locals.linked))

  -- 32: an output of 257 bytes
  pub output_by_32 : answer_of (server_after opened) (lent_after opened) (receive 1 6 (upload 0) (replicate 257 0)) ≡ answer.Refused 32
  output_by_32 =
      (d.locals _ _ (receive 1 6 (upload 0) (replicate 257 0))).by32 good.fits good.sound (reached _ _ _)
      (omega (arith, length-replicate {A = ℕ} 257 0))

  -- none of these: an output of 258 bytes
  pub none_refused : (n : ℕ) → answer_of (server_after opened) (lent_after opened) (rx 6 (upload 0)) ≡ answer.Refused n → ⊥
  none_refused = (d.locals _ _ (rx 6 (upload 0))).by_none good.fits good.sound (reached _ _ _) room

  -- this login is a call after a history, so its number is 32 or 34
  pub by_34_after_calls : one_of 34 (32 ∷ 34 ∷ []) ≡ true
  by_34_after_calls = d.only_by_the_caller small small_legal opened (login 2 6 output) 34 second_by_34

  -- making with 0 blocks is refused by 33, and what was lent stays as it was
  pub no_blocks_by_33 :
      make_of 0 1 1 1 256 (0 ∷ []) (0 ∷ []) (replicate 4 0) (0 ∷ []) output
      ≡ makes (Err 33) (emptied (0 ∷ []) (0 ∷ []) (replicate 4 0) (0 ∷ []) output)
  no_blocks_by_33 = (d.making 0 1 1 1 256 _ _ _ _ _).by33 computed.locals.no_blocks

  -- making with one of each is not refused
  pub least_made :
      make_of 1 1 1 1 256 (0 ∷ []) (0 ∷ []) (replicate 4 0) (0 ∷ []) output
      ≡ makes (Ok (new_server 1 1 1 1)) (empty_of 1 1 1 1 (0 ∷ []) (0 ∷ []) (replicate 4 0) (0 ∷ []) output)
  least_made = (d.making 1 1 1 1 256 _ _ _ _ _).by_none computed.locals.least
