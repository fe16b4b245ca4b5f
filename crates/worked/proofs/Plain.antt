-- What demand 1 says of every call, in plain numbers: of each of the four answers, and of the numbers that each refusal may carry. Assumes nothing.
use mathlib.Core.Path.{◌≡◌, refl, ap, ◌∙◌, sym}
use mathlib.Core.Bool.{Bool, true, false, cond}
use mathlib.Core.List.{List, [], ◌∷◌, ◌++◌}
use Prim.Native.Nat.{ℕ, ◌+◌, ◌*◌, ◌-◌, ◌/◌, ◌%◌, ◌≤◌}
use native.Mathlib.Omega.{arith}
use lib.Dec.{eqb, leb}
use lib.ListN.{length, drop}
use borrow.Author.Tests.{leb-true, eqb-true}
use Rattle.packet.specs.Packet.{packet_of}
use Rattle.session.specs.declared.state.Session.{Session}
use Rattle.session.specs.declared.reply.Answer.TheVariants as answer
use Rattle.server.specs.declared.Server.{Server}
use Rattle.server.specs.State.{Lent, Outcome, outcome, done_with, link_of}
use Rattle.history.specs.Calls.{Call, call_of, Start, legal, History, after}
use Rattle.promises.specs.Parts.{session_in, bytes_in, out_in, one_of}
use Rattle.steps.specs.Parts.{type_of}
use Rattle.promises.specs.Demand1.{Answers, refuses, silent, closes, sends, Says, upload_errors, download_errors, naks, Demand1}

-- ---- numbers in a list, by a test on the list

unfoldable all_above : ℕ → List ℕ → Bool
all_above k [] = true
all_above k (m ∷ ms) = cond (leb k m) (all_above k ms) false

unfoldable all_below : ℕ → List ℕ → Bool
all_below k [] = true
all_below k (m ∷ ms) = cond (leb m k) (all_below k ms) false

unfoldable none_in : List ℕ → List ℕ → Bool
none_in ns [] = true
none_in ns (m ∷ ms) = cond (one_of m ns) false (none_in ns ms)

clash : {A : Type 0} → false ≡ true → A
clash e = let z : ◌≡◌ {A = ℕ} 0 1 = cc in absurd (omega arith)

least_of_law : (k n : ℕ) (ms : List ℕ) → all_above k ms ≡ true → one_of n ms ≡ true → k ≤ n
unfolding all_above
least_of_law k n [] t e = clash e
least_of_law k n (m ∷ ms) t e = go (leb k m) refl (eqb n m) refl t e (least_of_law k n ms)
  where
    go : (a : Bool) → leb k m ≡ a → (b : Bool) → eqb n m ≡ b → cond a (all_above k ms) false ≡ true → cond b true (one_of n ms) ≡ true
        → (all_above k ms ≡ true → one_of n ms ≡ true → k ≤ n) → k ≤ n
    go true la true lb t e f = omega (arith, leb-true k m la, eqb-true n m lb)
    go true la false lb t e f = f t e
    go false la b lb t e f = clash t

most_of : (k n : ℕ) (ms : List ℕ) → all_below k ms ≡ true → one_of n ms ≡ true → n ≤ k
unfolding all_below
most_of k n [] t e = clash e
most_of k n (m ∷ ms) t e = go (leb m k) refl (eqb n m) refl t e (most_of k n ms)
  where
    go : (a : Bool) → leb m k ≡ a → (b : Bool) → eqb n m ≡ b → cond a (all_below k ms) false ≡ true → cond b true (one_of n ms) ≡ true
        → (all_below k ms ≡ true → one_of n ms ≡ true → n ≤ k) → n ≤ k
    go true la true lb t e f = omega (arith, leb-true m k la, eqb-true n m lb)
    go true la false lb t e f = f t e
    go false la b lb t e f = clash t

apart_from : (n : ℕ) (ms ns : List ℕ) → none_in ns ms ≡ true → one_of n ms ≡ true → one_of n ns ≡ false
unfolding none_in
apart_from n [] ns t e = clash e
apart_from n (m ∷ ms) ns t e = go (one_of m ns) refl (eqb n m) refl t e (apart_from n ms ns)
  where
    go : (a : Bool) → one_of m ns ≡ a → (b : Bool) → eqb n m ≡ b → cond a false (none_in ns ms) ≡ true → cond b true (one_of n ms) ≡ true
        → (none_in ns ms ≡ true → one_of n ms ≡ true → one_of n ns ≡ false) → one_of n ns ≡ false
    go true la b lb t e f = clash t
    go false la true lb t e f = ap (λ (k : ℕ). one_of k ns) (eqb-true n m lb) ∙ la
    go false la false lb t e f = f t e

packet_type : (kind : ℕ) (info rest : List ℕ) → type_of (packet_of kind info ++ rest) ≡ (kind + 32 * (length info / 256)) % 32
unfolding packet_of
packet_type kind info rest = refl

below_32 : (kind q : ℕ) → kind ≤ 17 → (kind + 32 * q) % 32 ≡ kind
below_32 kind q h = omega (arith, h)

module _ (d : Demand1) where
  -- ---- the four answers

  -- a call that refuses does it by 32, 33, 34 or 35, and leaves all as it was
  pub refused_call : (sv : Server) (l : Lent) (c : Call) (n : ℕ) → (call_of sv l c).done.answer ≡ answer.Refused n
      → (32 ≤ n) × (n ≤ 35) × (call_of sv l c ≡ outcome (done_with sv (answer.Refused n)) l (out_in c))
  unfolding all_above all_below
  refused_call sv l c n e = go (d.answers sv l c)
    where
      go : Answers sv l c (call_of sv l c) → (32 ≤ n) × (n ≤ 35) × (call_of sv l c ≡ outcome (done_with sv (answer.Refused n)) l (out_in c))
      go (refuses r) =
          let q : answer.Refused r.number ≡ answer.Refused n = sym (ap (λ (o : Outcome). o.done.answer) r.same) ∙ e in
          let m : r.number ≡ n = cc in (
            omega (arith, m, least_of_law 32 r.number (32 ∷ 33 ∷ 34 ∷ 35 ∷ []) refl r.listed),
            omega (arith, m, most_of 35 r.number (32 ∷ 33 ∷ 34 ∷ 35 ∷ []) refl r.listed),
            r.same ∙ ap (λ (k : ℕ). outcome (done_with sv (answer.Refused k)) l (out_in c)) m,
          )
      go (silent r) =
          let q : answer.Quiet r.taken ≡ answer.Refused n = sym r.answered ∙ e in let z : ◌≡◌ {A = ℕ} 0 1 = cc in absurd (omega arith)
      go (closes r) =
          let q : answer.Closed r.taken ≡ answer.Refused n = sym r.answered ∙ e in let z : ◌≡◌ {A = ℕ} 0 1 = cc in absurd (omega arith)
      go (sends r) =
          let q : answer.Sent r.taken (2 + length r.info) ≡ answer.Refused n = sym r.answered ∙ e in
          let z : ◌≡◌ {A = ℕ} 0 1 = cc in absurd (omega arith)

  -- one that answers nothing took no more than the bytes lent, and wrote nothing
  pub quiet_call : (sv : Server) (l : Lent) (c : Call) (taken : ℕ) → (call_of sv l c).done.answer ≡ answer.Quiet taken
      → (taken ≤ length (bytes_in c)) × ((call_of sv l c).out ≡ out_in c)
  quiet_call sv l c taken e = go (d.answers sv l c)
    where
      go : Answers sv l c (call_of sv l c) → (taken ≤ length (bytes_in c)) × ((call_of sv l c).out ≡ out_in c)
      go (refuses r) =
          let q : answer.Refused r.number ≡ answer.Quiet taken = sym (ap (λ (o : Outcome). o.done.answer) r.same) ∙ e in
          let z : ◌≡◌ {A = ℕ} 0 1 = cc in absurd (omega arith)
      go (silent r) =
          let q : answer.Quiet r.taken ≡ answer.Quiet taken = sym r.answered ∙ e in
          let m : r.taken ≡ taken = cc in (omega (arith, m, r.within), r.out)
      go (closes r) =
          let q : answer.Closed r.taken ≡ answer.Quiet taken = sym r.answered ∙ e in let z : ◌≡◌ {A = ℕ} 0 1 = cc in absurd (omega arith)
      go (sends r) =
          let q : answer.Sent r.taken (2 + length r.info) ≡ answer.Quiet taken = sym r.answered ∙ e in
          let z : ◌≡◌ {A = ℕ} 0 1 = cc in absurd (omega arith)

  -- one that closes the link wrote nothing either, and the session is closed
  pub closed_call : (sv : Server) (l : Lent) (c : Call) (taken : ℕ) → (call_of sv l c).done.answer ≡ answer.Closed taken
      → (taken ≤ length (bytes_in c)) × ((call_of sv l c).out ≡ out_in c)
      × ((link_of (call_of sv l c).done.server (session_in c - 1)).linked ≡ false)
  closed_call sv l c taken e = go (d.answers sv l c)
    where
      go : Answers sv l c (call_of sv l c)
          → (taken ≤ length (bytes_in c)) × ((call_of sv l c).out ≡ out_in c)
          × ((link_of (call_of sv l c).done.server (session_in c - 1)).linked ≡ false)
      go (refuses r) =
          let q : answer.Refused r.number ≡ answer.Closed taken = sym (ap (λ (o : Outcome). o.done.answer) r.same) ∙ e in
          let z : ◌≡◌ {A = ℕ} 0 1 = cc in absurd (omega arith)
      go (silent r) =
          let q : answer.Quiet r.taken ≡ answer.Closed taken = sym r.answered ∙ e in let z : ◌≡◌ {A = ℕ} 0 1 = cc in absurd (omega arith)
      go (closes r) =
          let q : answer.Closed r.taken ≡ answer.Closed taken = sym r.answered ∙ e in
          let m : r.taken ≡ taken = cc in
          (omega (arith, m, r.within), r.out, ap (λ (s : Session). s.linked) r.session)
      go (sends r) =
          let q : answer.Sent r.taken (2 + length r.info) ≡ answer.Closed taken = sym r.answered ∙ e in
          let z : ◌≡◌ {A = ℕ} 0 1 = cc in absurd (omega arith)

  -- one that sends a packet leaves one of a type up to 17, of 258 bytes at most, and does not change the output's length
  pub sent_call : (sv : Server) (l : Lent) (c : Call) (taken size : ℕ) → (call_of sv l c).done.answer ≡ answer.Sent taken size
      → (taken ≤ length (bytes_in c)) × (size ≤ 258) × (type_of (call_of sv l c).out ≤ 17) × (length (call_of sv l c).out ≡ length (out_in c))
  sent_call sv l c taken size e = go (d.answers sv l c)
    where
      go : Answers sv l c (call_of sv l c)
          → (taken ≤ length (bytes_in c)) × (size ≤ 258) × (type_of (call_of sv l c).out ≤ 17) × (length (call_of sv l c).out ≡ length (out_in c))
      go (refuses r) =
          let q : answer.Refused r.number ≡ answer.Sent taken size = sym (ap (λ (o : Outcome). o.done.answer) r.same) ∙ e in
          let z : ◌≡◌ {A = ℕ} 0 1 = cc in absurd (omega arith)
      go (silent r) =
          let q : answer.Quiet r.taken ≡ answer.Sent taken size = sym r.answered ∙ e in
          let z : ◌≡◌ {A = ℕ} 0 1 = cc in absurd (omega arith)
      go (closes r) =
          let q : answer.Closed r.taken ≡ answer.Sent taken size = sym r.answered ∙ e in
          let z : ◌≡◌ {A = ℕ} 0 1 = cc in absurd (omega arith)
      go (sends r) =
          let q : answer.Sent r.taken (2 + length r.info) ≡ answer.Sent taken size = sym r.answered ∙ e in
          let m : r.taken ≡ taken = cc in
          let k : 2 + length r.info ≡ size = cc in
          let t : type_of (call_of sv l c).out ≡ (r.kind + 32 * (length r.info / 256)) % 32 =
          ap type_of r.out ∙ packet_type r.kind r.info (drop (2 + length r.info) (out_in c)) in (
            omega (arith, m, r.within),
            omega (arith, k, r.most),
            omega (arith, t, below_32 r.kind (length r.info / 256) r.listed, r.listed),
            r.same_length,
          )

  -- ---- after a history

  -- no call is refused by 33 or 35
  pub not_after_calls : (s : Start) → legal s ≡ true → (h : History) (c : Call) (n : ℕ)
      → (call_of (after s h).server (after s h).lent c).done.answer ≡ answer.Refused n
      → one_of n (33 ∷ 35 ∷ []) ≡ false
  unfolding none_in
  not_after_calls s lawful h c n e =
      apart_from n (32 ∷ 34 ∷ []) (33 ∷ 35 ∷ []) refl (d.only_by_the_caller s lawful h c n e)

  -- ---- the refusals that go out as a packet

  -- the numbers of the table that UL_ERROR_RESP, DL_ERROR_RESP and UL_NAK_RESP never carry
  pub not_to_upload : (sv : Server) (l : Lent) (session clock : ℕ) (input out : List ℕ) (e : ℕ) → Says sv l session clock input out 5 e
      → one_of e (0 ∷ 5 ∷ 6 ∷ 7 ∷ 8 ∷ 9 ∷ 10 ∷ 11 ∷ 14 ∷ 15 ∷ 16 ∷ []) ≡ false
  unfolding none_in
  not_to_upload sv l session clock input out e s =
      apart_from e upload_errors (0 ∷ 5 ∷ 6 ∷ 7 ∷ 8 ∷ 9 ∷ 10 ∷ 11 ∷ 14 ∷ 15 ∷ 16 ∷ []) refl
      (d.upload_errors_law sv l session clock input out e s).listed

  pub not_to_download : (sv : Server) (l : Lent) (session clock : ℕ) (input out : List ℕ) (e : ℕ) → Says sv l session clock input out 9 e
      → one_of e (0 ∷ 3 ∷ 6 ∷ 7 ∷ 9 ∷ 12 ∷ 13 ∷ 14 ∷ 15 ∷ 16 ∷ []) ≡ false
  unfolding none_in
  not_to_download sv l session clock input out e s =
      apart_from e download_errors (0 ∷ 3 ∷ 6 ∷ 7 ∷ 9 ∷ 12 ∷ 13 ∷ 14 ∷ 15 ∷ 16 ∷ []) refl
      (d.download_errors_law sv l session clock input out e s).listed

  pub not_to_data : (sv : Server) (l : Lent) (session clock : ℕ) (input out : List ℕ) (e : ℕ) → Says sv l session clock input out 7 e
      → one_of e (0 ∷ 1 ∷ 2 ∷ 4 ∷ 5 ∷ 8 ∷ 9 ∷ 10 ∷ 11 ∷ 12 ∷ 13 ∷ []) ≡ false
  unfolding none_in
  not_to_data sv l session clock input out e s =
      apart_from e naks (0 ∷ 1 ∷ 2 ∷ 4 ∷ 5 ∷ 8 ∷ 9 ∷ 10 ∷ 11 ∷ 12 ∷ 13 ∷ []) refl (d.naks sv l session clock input out e s).listed
