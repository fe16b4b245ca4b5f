-- The answer to a call that asks: the page is the oldest MAXSEL matching complete files above its time. Assumes nothing.
use mathlib.Core.Path.{◌≡◌, refl, sym, ap, ◌∙◌}
use mathlib.Core.Bool.{Bool, true, false, cond}
use mathlib.Core.List.{List, [], ◌++◌}
use mathlib.Core.Option.{Option, none, some}
use Prim.Native.Nat.{ℕ, ◌+◌, ◌-◌, ◌≤◌, ◌<◌}
use native.Mathlib.Omega.{arith}
use lib.Dec.{ltb}
use lib.ListN.{length, set, take, drop, length-map, length-take, get_or-eq_default}
use lib.Seq.{get_or-set_same, set-set}
use borrow.Author.Tests.{eq-eqb, le-ltb, ltb-false}
use Rattle.numbers.specs.Numbers.{two}
use Rattle.packet.specs.Packet.{packet_of}
use Rattle.packet.specs.Frame.{Event, packet, too_long, announced_in, packet_in}
use Rattle.equation.specs.Newer.{narrowed}
use Rattle.equation.specs.Answer.{validity_of}
use Rattle.equation.proofs.Append.{narrowed_valid}
use Rattle.equation.proofs.Selects.{narrowed_selects}
use Rattle.header.specs.Items.{fields_of}
use Rattle.session.specs.declared.reply.Answer.TheVariants as answer
use Rattle.session.specs.declared.reply.Reply.TheVariants as reply
use Rattle.session.specs.Reply.{told, tell}
use Rattle.calls.specs.Call.{receive}
use Rattle.model.specs.State as state
use Rattle.model.specs.State.{File, no_download, Downlink, Session, closed_session, with_selection, with_held, Model, session_at, in_session}
use Rattle.model.specs.State.{Turn, turn, closing, Stepped, stepped}
use Rattle.model.specs.Files.{matching, by_time, selection}
use Rattle.model.specs.Downlink.{on_select_cmd}
use Rattle.model.specs.Step.{if_no_download, by_type, on_packet, ends_in, on_event, refusal, step}
use Rattle.steps.proofs.Cutting.{link_held}
use Rattle.steps.proofs.Found.{in_find}
use Rattle.steps.proofs.Calls.{by_lt, open_refusal, goes}
use Rattle.paging.specs.Client.{Asks, page_of, numbers_of, Answers}
use Rattle.paging.proofs.Bytes.{at_most_a_mark, narrowed_size}
use Rattle.paging.proofs.Files.{above_by_time, matching_above}
use Rattle.paging.proofs.Known.{Known, found_low}

-- an open session is there
pub open_there : (m : Model) (i : ℕ) → (session_at m i).linked ≡ true → i < length m.sessions
open_there m i e =
    by_lt i (length m.sessions) (λ k. k)
    (λ k. absurd (closed (sym (ap (λ (s : Session). s.linked) (get_or-eq_default m.sessions closed_session k)) ∙ e)))
  where
    closed : false ≡ true → ⊥
    closed z = let w : ◌≡◌ {A = ℕ} 0 1 = cc in omega arith

-- a packet's information is at most 256 bytes
pub ends_short : (bytes : List ℕ) (kind : ℕ) (info : List ℕ) → ends_in bytes ≡ some (packet kind info) → length info ≤ 256
unfolding ends_in
ends_short bytes kind info e =
    go (ltb (length bytes) 2) (ltb 256 (announced_in bytes)) refl (ltb (length bytes) (2 + announced_in bytes)) e
  where
    no : {A : Type 0} → none ≡ some (packet kind info) → A
    no z = let w : ◌≡◌ {A = ℕ} 0 1 = cc in absurd (omega arith)

    long : {A : Type 0} → some too_long ≡ some (packet kind info) → A
    long z = let w : ◌≡◌ {A = ℕ} 0 1 = cc in absurd (omega arith)

    go : (a b : Bool) → ltb 256 (announced_in bytes) ≡ b → (c : Bool)
        → cond a none (cond b (some too_long) (cond c none (some (packet_in bytes)))) ≡ some (packet kind info) → length info ≤ 256
    go true b q c e = no e
    go false true q c e = long e
    go false false q true e = no e
    go false false q false e =
        let z : take (announced_in bytes) (drop 2 bytes) ≡ info = cc in
        let w = ap length (sym z) ∙ length-take (announced_in bytes) (drop 2 bytes) in
        omega (arith, ltb-false 256 (announced_in bytes) q)

pub packet_size : (kind : ℕ) (info : List ℕ) → 2 + length info ≡ length (packet_of kind info)
unfolding packet_of
packet_size kind info = omega arith

module _ (m : Model) (k : Known m) (eq : List ℕ) (valid : validity_of eq ≡ 0) (t : ℕ) (small : t < 4294967296) (session clock : ℕ) (input out : List ℕ)
    (a : Asks m eq t session input out) where
  abbrev i : ℕ
  i = session - 1

  abbrev q : List ℕ
  q = narrowed eq t

  abbrev held : List ℕ
  held = (session_at m i).held

  abbrev page : List ℕ
  page = numbers_of (page_of m eq t)

  abbrev M : Model
  M = in_session i (with_held []) m

  there : i < length m.sessions
  there = open_there m i a.idle.linked

  fits : length eq + 9 ≤ 2047
  fits = omega (arith, ends_short (held ++ input) 16 q a.sends, narrowed_size eq t, at_most_a_mark eq valid)

  -- what is selected
  chosen : selection m.maxsel q m.files ≡ page
  chosen =
      ap (λ (fs : List File). numbers_of (take m.maxsel fs))
      (ap by_time
      (matching_above t eq q m.files
      (λ f inside complete.
      let found = in_find 0 m.last_number m.last_time m.files f k.sound.numbers inside in
      narrowed_selects t f.time (fields_of f.bytes) small (omega (arith, k.small, (found_low m k.sound f.number f found).1))
      (k.stamped f.number f found complete) eq valid fits))
      ∙ above_by_time t (matching eq m.files))

  -- the packet
  on_select : (x : Model) → (session_at x i).down ≡ no_download → on_packet x i clock 16 q
      ≡ turn (reply.Selected (length (selection x.maxsel q x.files))) (in_session i (with_selection (selection x.maxsel q x.files)) x)
  unfolding by_type on_select_cmd
  on_select x d =
      ap (λ (y : Downlink). if_no_download y (on_select_cmd x i q) (closing x i)) d ∙ rw (eq-eqb (validity_of q) 0 (narrowed_valid eq t valid fits))

  packet_is : on_packet M i clock 16 q
      ≡ turn (reply.Selected (length page)) (in_session i (with_selection page) M)
  packet_is =
      on_select M (ap (λ (s : Session). s.down) (link_held m i there []) ∙ a.idle.down)
      ∙ ap (λ (ns : List ℕ). turn (reply.Selected (length ns)) (in_session i (with_selection ns) M)) chosen

  -- the call
  step_is : step m (receive session clock input out)
      ≡ stepped (tell (reply.Selected (length page)) (2 + length q - length held) out) (in_session i (with_selection page) M)
  unfolding step on_event
  step_is =
      goes (refusal m session true (length out)) m out (on_event (ends_in (held ++ input)) m i clock held input out)
      (open_refusal m session (length out) a.idle.from_one there a.idle.linked ∙ ap (λ (b : Bool). cond b 32 0) (le-ltb (length out) 258 a.room))
      ∙ ap (λ (e : Option Event). on_event e m i clock held input out) a.sends
      ∙ ap (λ (x : Turn). stepped (tell x.reply (2 + length q - length held) out) x.after) packet_is

  -- both changes of the session at once
  after_is : in_session i (with_selection page) M ≡ in_session i (λ s. with_selection page (with_held [] s)) m
  after_is =
      ap (λ (ks : List Session). state.model m m.last_number m.last_time m.files ks)
      (set-set m.sessions i (with_held [] (session_at m i)) (with_selection page (session_at M i))
      ∙ ap (λ (s : Session). set m.sessions i (with_selection page s)) (link_held m i there []))

  -- THEOREM
  pub page_answer : Answers m eq t session clock input out
  unfolding tell
  page_answer =
      let w = ap (λ (s : Stepped). s.after) step_is ∙ after_is in
      record {
        told = ap (λ (s : Stepped). s.told.answer) step_is ∙ ap (λ (n : ℕ). answer.Sent (n - length held) 4) (packet_size 16 q);
        sent = ap (λ (s : Stepped). s.told.out) step_is
            ∙ ap (λ (n : ℕ). packet_of 17 (two n) ++ drop 4 out) (length-map (page_of m eq t) (λ (f : File). f.number));
        page = ap (λ (x : Model). (session_at x i).selected) w
            ∙ ap (λ (s : Session). s.selected)
            (get_or-set_same m.sessions i (with_selection page (with_held [] (session_at m i))) closed_session there);
        after = w;
      }
