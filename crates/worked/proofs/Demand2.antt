-- Demand 2 at work, but for the machine and downloads: each statement is applied to small cases that meet its hypotheses, and what it gives is stated.
-- Assumes nothing.
use Rattle.std.proofs.Common.{Result, Ok}
use mathlib.Core.Path.{◌≡◌, refl, ap, ◌∙◌, sym, subst}
use mathlib.Core.Bool.{Bool, true, false, cond}
use mathlib.Core.List.{List, [], ◌∷◌, ◌++◌, flatten}
use mathlib.Core.Option.{Option, some}
use Prim.Native.Nat.{ℕ, ◌+◌, ◌≤◌, ◌<◌}
use native.Mathlib.Omega.{arith}
use lib.Dec.{eqb}
use lib.ListN.{length, replicate, take, drop, length-replicate}
use borrow.Author.Tests.{eqb-true, eqb-false}
use Rattle.packet.specs.Packet.{write_answer, left_in, read_answer}
use Rattle.packet.specs.Frame.{Event, packet, too_long}
use Rattle.session.specs.declared.reply.Answer.TheVariants as answer
use Rattle.session.specs.Expected.{expected}
use Rattle.server.specs.declared.Server.{Server}
use Rattle.server.specs.State.{Lent, link_of}
use Rattle.history.specs.Calls.{receive, lose, call_of, ◌▸◌, after}
use Rattle.promises.specs.Parts.{check_in}
use Rattle.promises.specs.Closing.{Unwelcome, long, unexpected, event_at}
use Rattle.promises.specs.Cut.{SameAfter, seen, same, back, chain, also, joined, empty, passed, untaken, ◌▸▸◌}
use Rattle.promises.specs.Uncut.{uncut_of, SameUncut}
use Rattle.promises.specs.Feeding.{feed, feed_all, feed_pieces}
use Rattle.promises.specs.Demand2.{SentReads, Demand2}
use Rattle.worked.proofs.Passes.{small, small_legal, pair, pair_legal, output, rx, of, upload, data_end, type18, length257, opened, before_upload}
use Rattle.worked.proofs.Passes.{uploads, chopped, unchopped, server_after, lent_after, answer_of, computing}
use Rattle.worked.proofs.Computed.{computed}

room : 258 ≤ length {A = ℕ} output
room = omega (arith, length-replicate {A = ℕ} 258 0)

-- what the plain writer leaves of the longest packet of type 17, all its bytes being b
abbrev longest : ℕ → List ℕ
longest b = left_in (write_answer 17 (replicate 2047 b) (replicate 2049 b)) 17 (replicate 2047 b) (replicate 2049 b)

-- what the plain reader answers where it refuses nothing
abbrev was_read : ℕ → ℕ → Result (ℕ × ℕ) ℕ
was_read kind n = Ok (kind, n)

-- the bytes that wait for a session are those that were set last
skip : (b : Bool) (x y : List ℕ) → b ≡ false → y ≡ [] → cond b x y ≡ []
skip true x y e q = let n : ◌≡◌ {A = ℕ} 0 1 = cc in absurd (omega arith)
skip false x y e q = q

-- none wait for another session than these two
no_others : (k : ℕ) → eqb k 1 ≡ false → eqb k 2 ≡ false → ((uncut_of pair chopped).waiting k ≡ []) × ((uncut_of pair unchopped).waiting k ≡ [])
unfolding computing
no_others k p q = (
  two _ _ (one _ _ (two _ _ (one _ _ (two _ _ (one _ _ (two _ _ (one _ _ refl))))))),
  two _ _ (one _ _ (two _ _ (two _ _ (one _ _ refl)))),
)
  where
    one : (x y : List ℕ) → y ≡ [] → cond (eqb k 1) x y ≡ []
    one x y e = skip (eqb k 1) x y p e

    two : (x y : List ℕ) → y ≡ [] → cond (eqb k 2) x y ≡ []
    two x y e = skip (eqb k 2) x y q e

-- the first link's UPLOAD_CMD in three pieces among the second link's calls, or in one: the two histories are the same without their cuts
pub chopped_uncut : SameUncut pair chopped unchopped
chopped_uncut =
    record {
      calls = computed.chopped.calls ∙ sym computed.chopped.calls';
      waiting = λ session. go session (eqb session 1) refl (eqb session 2) refl;
    }
  where
    go : (k : ℕ) (a : Bool) → eqb k 1 ≡ a → (b : Bool) → eqb k 2 ≡ b → (uncut_of pair chopped).waiting k ≡ (uncut_of pair unchopped).waiting k
    go k true p b q =
        subst (λ (j : ℕ). (uncut_of pair chopped).waiting j ≡ (uncut_of pair unchopped).waiting j) (sym (eqb-true k 1 p))
        (computed.chopped.first ∙ sym computed.chopped.first')
    go k false p true q =
        subst (λ (j : ℕ). (uncut_of pair chopped).waiting j ≡ (uncut_of pair unchopped).waiting j) (sym (eqb-true k 2 q))
        (computed.chopped.second ∙ sym computed.chopped.second')
    go k false p false q = (no_others k p q).0 ∙ sym (no_others k p q).1

module _ (d : Demand2) where
  -- the longest packet of the last type reads back, in an output that it just fills
  pub longest_reads : (read_answer (longest 0) ≡ Ok (17, 2047)) × (take 2047 (drop 2 (longest 0)) ≡ replicate 2047 0)
  longest_reads =
      let n : length {A = ℕ} (replicate 2047 0) ≡ 2047 = length-replicate {A = ℕ} 2047 0 in
      let m : length {A = ℕ} (replicate 2049 0) ≡ 2049 = length-replicate {A = ℕ} 2049 0 in
      let r = d.written 17 (replicate 2047 0) (replicate 2049 0) (omega arith) (omega (arith, n)) (omega (arith, n, m)) in (
        r.accepted ∙ ap (was_read 17) n,
        subst (λ (k : ℕ). take k (drop 2 (longest 0)) ≡ replicate 2047 0) n r.information,
      )

  -- and so does the UL_GO_RESP that the server sends
  pub go_reads : SentReads (call_of (server_after opened) (lent_after opened) (rx 6 (upload 0))) 10
  go_reads = d.sent _ _ (rx 6 (upload 0)) 10 10 computed.packets.go

  -- it has 8 bytes of information
  pub go_size : (length go_reads.info ≡ 8)
      × (read_answer (call_of (server_after opened) (lent_after opened) (rx 6 (upload 0))).out ≡ Ok (go_reads.kind, 8))
  go_size =
      let n : length go_reads.info ≡ 8 = omega (arith, go_reads.size_is) in
      (n, go_reads.reads.accepted ∙ ap (was_read go_reads.kind) n)

  -- a packet of type 18 closes the link at its second byte
  pub type_18_closes : answer_of (server_after opened) (lent_after opened) (rx 6 type18) ≡ answer.Closed 2
  type_18_closes =
      subst (λ (n : ℕ). answer_of (server_after opened) (lent_after opened) (rx 6 type18) ≡ answer.Closed n) computed.closings.taken_18
      ((d.closing _ _ 1 6 type18 output 0 computed.closings.goes).closes computed.closings.type_18)

  -- so does an announced length of 257
  pub length_257_closes : answer_of (server_after opened) (lent_after opened) (rx 6 length257) ≡ answer.Closed 2
  length_257_closes =
      subst (λ (n : ℕ). answer_of (server_after opened) (lent_after opened) (rx 6 length257) ≡ answer.Closed n) computed.closings.taken_257
      ((d.closing _ _ 1 6 length257 output 0 computed.closings.goes).closes computed.closings.length_257)

  -- "The server closes a link in no other case": where a packet closed it, this packet was not expected
  pub closed_for_a_reason :
      (sv : Server) (l : Lent) (session clock : ℕ) (input out : List ℕ) (i kind : ℕ) (info : List ℕ) (taken : ℕ)
      → check_in sv l (receive session clock input out) ≡ Ok i
      → event_at sv l i input ≡ some (packet kind info)
      → answer_of sv l (receive session clock input out) ≡ answer.Closed taken
      → expected (link_of sv i).up (link_of sv i).down kind (length info) ≡ false
  closed_for_a_reason sv l session clock input out i kind info taken goes e c =
      go (event_at sv l i input) ((d.closing sv l session clock input out i goes).only taken c) e
    where
      go : (v : Option Event) → Unwelcome (link_of sv i) v → v ≡ some (packet kind info)
          → expected (link_of sv i).up (link_of sv i).down kind (length info) ≡ false
      go mathlib.Core.Option.none x'' q = elim x'' [ ]
      go (some too_long) long q = let z : ◌≡◌ {A = ℕ} 0 1 = cc in absurd (omega arith)
      go (some (packet k xs)) (unexpected _ _ u) q =
          let a : k ≡ kind = cc in
          let b : xs ≡ info = cc in
          subst (λ (n : ℕ). expected (link_of sv i).up (link_of sv i).down n (length info) ≡ false) a
          (subst (λ (ys : List ℕ). expected (link_of sv i).up (link_of sv i).down k (length ys) ≡ false) b u)

  -- the closed link leaves what a lost one leaves
  pub type_18_as_lost :
      ((call_of (server_after opened) (lent_after opened) (rx 6 type18)).done.server
      ≡ (call_of (server_after opened) (lent_after opened) (lose 1)).done.server)
      × ((call_of (server_after opened) (lent_after opened) (rx 6 type18)).lent
      ≡ (call_of (server_after opened) (lent_after opened) (lose 1)).lent)
  type_18_as_lost =
      let r = d.closing_is_losing _ _ 1 6 type18 output 2 type_18_closes in
      (r.server, r.lent)

  -- UPLOAD_CMD lent in two calls, cut behind its second byte, or in one: the same state, and the links see the same
  pub cut_in_two :
      (after small (before_upload ▸ rx 10 (8 ∷ 3 ∷ []) ▸ rx 11 (drop 2 (upload 1))) ≡ after small (before_upload ▸ rx 11 (upload 1)))
      × (seen small (before_upload ▸ rx 10 (8 ∷ 3 ∷ []) ▸ rx 11 (drop 2 (upload 1))) ≡ seen small (before_upload ▸ rx 11 (upload 1)))
  cut_in_two =
      let r =
      d.cut small small_legal _ _
      (joined before_upload 1 10 11 (8 ∷ 3 ∷ []) (drop 2 (upload 1)) output output computed.packets.two_bytes room room) in
      (r.state, r.seen)

  -- a call that is lent no byte, before the call that ends a packet: with it or without it
  pub with_no_byte :
      (after pair (uploads ▸ of 1 7 data_end) ≡ after pair (uploads ▸ of 1 6 [] ▸ of 1 7 data_end))
      × (seen pair (uploads ▸ of 1 7 data_end) ≡ seen pair (uploads ▸ of 1 6 [] ▸ of 1 7 data_end))
  with_no_byte =
      let r =
      d.cut pair pair_legal (uploads ▸ of 1 7 data_end) (uploads ▸ of 1 6 [] ▸ of 1 7 data_end)
      (chain _ _ _ (same _) (back _ _ (also _ _ (empty uploads 1 6 output) (of 1 7 data_end)))) in
      (r.state, r.seen)

  -- the first byte of the one link's DATA_END before or after the other link's DATA_END
  pub passes_the_other : SameAfter pair (uploads ▸ of 1 6 (0 ∷ []) ▸ of 2 7 data_end) (uploads ▸ of 2 7 data_end ▸ of 1 6 (0 ∷ []))
  passes_the_other =
      d.cut pair pair_legal _ _
      (passed uploads 1 6 (0 ∷ []) output (of 2 7 data_end) computed.packets.first_byte (λ e. omega (arith, e)))

  -- bytes behind a packet's end are not taken
  pub behind_the_end : SameAfter pair (uploads ▸ of 1 7 (data_end ++ upload 0)) (uploads ▸ of 1 7 data_end)
  behind_the_end = d.cut pair pair_legal _ _ (untaken uploads 1 7 data_end (upload 0) output _ computed.packets.last_byte)

  -- the first byte lent earlier, before the other link's DATA_END
  pub byte_earlier :
      SameAfter pair ((uploads ▸ of 1 6 (0 ∷ [])) ▸▸ (of 2 7 data_end ∷ []) ▸ of 1 7 (1 ∷ [])) (uploads ▸▸ (of 2 7 data_end ∷ []) ▸ of 1 7 data_end)
  byte_earlier =
      d.earlier pair pair_legal uploads 1 6 7 (0 ∷ []) (1 ∷ []) output output (of 2 7 data_end ∷ []) (omega arith)
      computed.packets.first_byte refl room room

  -- so they leave the same
  pub chopped_same : SameAfter pair chopped unchopped
  chopped_same = d.uncut pair pair_legal chopped unchopped chopped_uncut

  -- a driver that may call 100 times gets no further than one that calls 10 times for 10 bytes
  pub ten_calls : feed 100 (after small opened) 1 6 output (upload 0) ≡ feed_all (after small opened) 1 6 output (upload 0)
  ten_calls = d.enough (after small opened) 1 6 output (upload 0) 100 (omega arith)

  -- the same bytes in one piece and in three
  pub three_pieces :
      feed_pieces (after small opened) 1 6 output (upload 0 ∷ [])
      ≡ feed_pieces (after small opened) 1 6 output ((8 ∷ []) ∷ (3 ∷ 0 ∷ 0 ∷ []) ∷ (0 ∷ 0 ∷ 80 ∷ 0 ∷ 0 ∷ 0 ∷ []) ∷ [])
  unfolding flatten
  three_pieces =
      d.pieces small small_legal opened 1 6 output room (upload 0 ∷ [])
      ((8 ∷ []) ∷ (3 ∷ 0 ∷ 0 ∷ []) ∷ (0 ∷ 0 ∷ 80 ∷ 0 ∷ 0 ∷ 0 ∷ []) ∷ []) refl
