-- THEOREM: the client's SELECT may come in any pieces. What came of it is held until the call that brings its last byte. Assumes nothing.
use mathlib.Core.Path.{◌≡◌, refl, sym, ap, ◌∙◌, subst}
use mathlib.Core.Bool.{Bool, true, false, cond}
use mathlib.Core.List.{List, [], ◌∷◌, ◌++◌, append_assoc, append-nil}
use mathlib.Core.Option.{Option, none, some}
use Prim.Native.Nat.{ℕ, ◌+◌, ◌-◌, ◌*◌, ◌/◌, ◌≤◌, ◌<◌}
use native.Mathlib.Omega.{arith}
use lib.Dec.{eqb}
use lib.ListN.{length, length-append}
use lib.Seq.{take_all}
use borrow.Author.Tests.{eqb-true, eqb-false, leb-true, le-ltb, lt-ltb}
use Rattle.packet.specs.Packet.{packet_of, kind_in}
use Rattle.packet.specs.Frame.{Event, packet, announced_in}
use Rattle.equation.specs.Newer.{narrowed}
use Rattle.calls.specs.Call.{Call, login, receive, request, lose}
use Rattle.model.specs.State.{Session, Model, empty, session_at, Stepped}
use Rattle.model.specs.Step.{ends_in, on_event, refusal, step, run}
use Rattle.steps.specs.Parts.{session_in, bytes_in}
use Rattle.steps.proofs.Cutting.{link_held}
use Rattle.steps.proofs.Calls.{open_refusal, goes, others_leave}
use Rattle.paging.specs.Client.{Idle, Asks}
use Rattle.paging.specs.Paging.{Client, waits, paged_by, state_of, Allowed}
use Rattle.paging.specs.Pieces.{is_piece, pieces_only, handed, waits_for, InPieces}
use Rattle.paging.proofs.Bytes.{narrowed_size}
use Rattle.paging.proofs.Page.{open_there, packet_size}
use Rattle.paging.proofs.Paging.{newest_small, page_answered}

-- ---- the bytes of a packet

module _ (info : List ℕ) (short : length info ≤ 256) where
  announces : announced_in (packet_of 16 info) ≡ length info
  unfolding packet_of
  announces = omega arith

  -- all of them
  whole : ends_in (packet_of 16 info) ≡ some (packet 16 info)
  unfolding ends_in
  whole =
      let size = packet_size 16 info in
      rw (
        le-ltb (length (packet_of 16 info)) 2 (omega arith),
        announces,
        le-ltb 256 (length info) short,
        le-ltb (length (packet_of 16 info)) (2 + length info) (omega arith),
      )
      (unfold packet_of in
      let kind : kind_in (16 + 32 * (length info / 256)) ≡ 16 = omega arith in
      rw (kind, take_all (length info) info (omega arith)))

  -- a part of them at the front
  part : (xs ys : List ℕ) → xs ++ ys ≡ packet_of 16 info → (ys ≡ [] → ⊥) → ends_in xs ≡ none
  unfolding ends_in
  part [] ys e z = refl
  part (x ∷ []) ys e z = refl
  part (x ∷ y ∷ zs) ys e z =
      let more : 0 < length ys = some_byte ys z in
      let size = sym (length-append (x ∷ y ∷ zs) ys) ∙ ap length e ∙ sym (packet_size 16 info) in
      let said : announced_in (x ∷ y ∷ zs) ≡ length info = ap announced_in e ∙ announces in
      rw (
        le-ltb (length (x ∷ y ∷ zs)) 2 (omega arith),
        said,
        le-ltb 256 (length info) short,
        lt-ltb (length (x ∷ y ∷ zs)) (2 + length info) (omega arith),
      )
    where
      some_byte : (ys : List ℕ) → (ys ≡ [] → ⊥) → 0 < length ys
      some_byte [] z = absurd (z refl)
      some_byte (y ∷ ys) z = omega arith

-- ---- the calls

clash : {P : Type 0} → false ≡ true → P
clash e = let z : ◌≡◌ {A = ℕ} 0 1 = cc in absurd (omega arith)

-- two tests in a row
both : (a b : Bool) → cond a b false ≡ true → (a ≡ true) × (b ≡ true)
both true b e = (refl, e)
both false b e = clash e

-- the session's own call hands over bytes
by_piece : (P : Call → Type 0) (session : ℕ) → ((clock : ℕ) (input out : List ℕ) → 258 ≤ length out → P (receive session clock input out))
    → (c : Call) → session_in c ≡ session → is_piece c ≡ true → P c
unfolding is_piece
by_piece P session g (login k clock out) e q = clash q
by_piece P session g (receive k clock input out) e q =
    subst (λ (x : ℕ). P (receive x clock input out)) (sym e) (g clock input out (leb-true 258 (length out) q))
by_piece P session g (request k out) e q = clash q
by_piece P session g (lose k) e q = clash q

-- an idle session that holds these bytes
record Holds (m : Model) (session : ℕ) (bytes : List ℕ) : Type 0 where
  idle : Idle m session
  held : (session_at m (session - 1)).held ≡ bytes

module _ (m : Model) (session : ℕ) (bytes : List ℕ) (h : Holds m session bytes) where
  abbrev i : ℕ
  i = session - 1

  there : i < length m.sessions
  there = open_there m i h.idle.linked

  -- bytes that end nothing
  own_piece : (clock : ℕ) (input out : List ℕ) → 258 ≤ length out → ends_in (bytes ++ input) ≡ none
      → Holds (step m (receive session clock input out)).after session (bytes ++ input)
  unfolding on_event
  own_piece clock input out room e =
      let a = ap (λ (s : Stepped). session_at s.after i) stepped ∙ link_held m i there ((session_at m i).held ++ input) in
      record {
        idle = record {
          from_one = h.idle.from_one;
          linked = ap (λ (s : Session). s.linked) a ∙ h.idle.linked;
          down = ap (λ (s : Session). s.down) a ∙ h.idle.down;
        };
        held = ap (λ (s : Session). s.held) a ∙ ap (λ (l : List ℕ). l ++ input) h.held;
      }
    where
      stepped : step m (receive session clock input out) ≡ on_event none m i clock (session_at m i).held input out
      stepped =
          unfold step in
          goes (refusal m session true (length out)) m out (on_event (ends_in ((session_at m i).held ++ input)) m i clock (session_at m i).held input out)
          (open_refusal m session (length out) h.idle.from_one there h.idle.linked ∙ ap (λ (b : Bool). cond b 32 0) (le-ltb (length out) 258 room))
          ∙ ap (λ (v : Option Event). on_event v m i clock (session_at m i).held input out) (ap (λ (l : List ℕ). ends_in (l ++ input)) h.held ∙ e)

  other_piece : (c : Call) → (session_in c ≡ session → ⊥) → Holds (step m c).after session bytes
  other_piece c z =
      let a = others_leave session h.idle.from_one m c z in
      record {
        idle = record {
          from_one = h.idle.from_one;
          linked = ap (λ (s : Session). s.linked) a ∙ h.idle.linked;
          down = ap (λ (s : Session). s.down) a ∙ h.idle.down;
        };
        held = ap (λ (s : Session). s.held) a ∙ h.held;
      }

  any_piece : (c : Call) (b : Bool) → eqb (session_in c) session ≡ b → cond b (is_piece c) true ≡ true → ends_in (bytes ++ cond b (bytes_in c) []) ≡ none
      → Holds (step m c).after session (bytes ++ cond b (bytes_in c) [])
  any_piece c true e q n =
      by_piece (λ (x : Call). ends_in (bytes ++ bytes_in x) ≡ none → Holds (step m x).after session (bytes ++ bytes_in x)) session own_piece c
      (eqb-true (session_in c) session e) q n
  any_piece c false e q n =
      subst (Holds (step m c).after session) (sym (append-nil bytes)) (other_piece c (eqb-false (session_in c) session e))

-- ---- the client

module _ (m₀ : Model) (eq : List ℕ) where
  waits_newest : (c : Client) (calls : List Call) → (paged_by m₀ eq (waits_for c calls)).newest ≡ (paged_by m₀ eq c).newest
  unfolding waits_for paged_by
  waits_newest c [] = refl
  waits_newest c (call ∷ calls) = waits_newest (waits c call) calls

  waits_allowed : (c : Client) (calls : List Call) → Allowed m₀ eq c → Allowed m₀ eq (waits_for c calls)
  unfolding waits_for
  waits_allowed c [] a = a
  waits_allowed c (call ∷ calls) a = waits_allowed (waits c call) calls a

  module _ (session : ℕ) (info last : List ℕ) (short : length info ≤ 256) (some-last : last ≡ [] → ⊥) where
    not_none : (xs : List ℕ) → xs ++ last ≡ [] → ⊥
    not_none [] e = some-last e
    not_none (x ∷ xs) e = let z : ◌≡◌ {A = ℕ} 0 1 = cc in omega arith

    holds_all : (c : Client) (calls : List Call) (bytes : List ℕ) → Holds (state_of m₀ eq c) session bytes → pieces_only session calls ≡ true
        → bytes ++ (handed session calls ++ last) ≡ packet_of 16 info → Holds (state_of m₀ eq (waits_for c calls)) session (bytes ++ handed session calls)
    unfolding waits_for handed pieces_only paged_by run
    holds_all c [] bytes h p e = subst (Holds (state_of m₀ eq c) session) (sym (append-nil bytes)) h
    holds_all c (call ∷ calls) bytes h p e =
        let q = both (cond (eqb (session_in call) session) (is_piece call) true) (pieces_only session calls) p in
        let new = cond (eqb (session_in call) session) (bytes_in call) [] in
        let f : (bytes ++ new) ++ (handed session calls ++ last) ≡ packet_of 16 info =
        append_assoc bytes new (handed session calls ++ last) ∙ ap (λ (l : List ℕ). bytes ++ l) (sym (append_assoc new (handed session calls) last)) ∙ e in
        let n = part info short (bytes ++ new) (handed session calls ++ last) f (not_none (handed session calls)) in
        let g = any_piece (state_of m₀ eq c) session bytes h call (eqb (session_in call) session) refl q.0 n in
        subst (Holds (state_of m₀ eq (waits_for (waits c call) calls)) session) (append_assoc bytes new (handed session calls))
        (holds_all (waits c call) calls (bytes ++ new) g q.1 f)

-- THEOREM
pub in_pieces : InPieces
in_pieces blocks places sessions maxsel eq valid room c a session clock calls last out p clocks =
    record {
      allowed = (waits_allowed m₀ eq c calls a, subst (λ (t : ℕ). Asks state eq t session last out) (sym (waits_newest m₀ eq c calls)) asking);
      answered = page_answered blocks places sessions maxsel (paged_by m₀ eq (waits_for c calls)).history clocks eq valid (paged_by m₀ eq c).newest
          (subst (λ (t : ℕ). t < 4294967296) (waits_newest m₀ eq c calls)
          (newest_small blocks places sessions maxsel eq valid (waits_for c calls) (waits_allowed m₀ eq c calls a) clocks))
          session clock last out asking;
    }
  where
    m₀ : Model
    m₀ = empty blocks places sessions maxsel

    state : Model
    state = state_of (empty blocks places sessions maxsel) eq (waits_for c calls)

    info : List ℕ
    info = narrowed eq (paged_by (empty blocks places sessions maxsel) eq c).newest

    short : length info ≤ 256
    short = omega (arith, narrowed_size eq (paged_by m₀ eq c).newest, room)

    held : Holds state session (handed session calls)
    held = holds_all m₀ eq session info last short p.a_byte c calls [] (record { idle = p.idle; held = p.nothing_held }) p.only p.bytes

    asking : Asks state eq (paged_by m₀ eq c).newest session last out
    asking =
        record {
          idle = held.idle;
          room = p.room;
          sends = ap (λ (l : List ℕ). ends_in (l ++ last)) held.held ∙ ap ends_in p.bytes ∙ whole info short;
        }
