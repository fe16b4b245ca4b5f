-- What hearing leaves of the unfinished packets: those of the other sessions as they were, and in the session's own part fewer bytes than its
-- head announces. A call that ended in a packet, or in a closing, leaves no byte.
use mathlib.Core.Path.{◌≡◌, refl, sym, ◌∙◌, subst}
use mathlib.Core.Bool.{Bool, true, false, cond}
use mathlib.Core.List.{List, [], ◌∷◌}
use mathlib.Core.Option.{Option, none, some}
use Prim.Native.Nat.{ℕ, ◌+◌, ◌*◌, ◌≤◌, ◌<◌}
use native.Mathlib.Omega.{arith}
use borrow.Author.Tests.{ltb-true, ltb-false, eq-eqb, lt-ltb}
use lib.Dec.{ltb}
use lib.ListN.{length, set, length-set, length-replicate}
use Rattle.packet.specs.Machine.{more, ends, Call, call, called}
use Rattle.packet.specs.declared.frame.Frame.{Frame}
use Rattle.packet.specs.declared.frame.Frame.TheVariants.{Open, Refused}
use Rattle.packet.specs.Frame.{Held, Event, Heard, packet, too_long, none_held, announced_in, packet_in}
use Rattle.packet.specs.Frame.{judged, byte, answer_by, answer_of, without_packet, receive_of}
use Rattle.links.proofs.Facts.{Unfinished, packet_of, part_end}
use Rattle.server.specs.State.{part, with_part}
use Rattle.server.specs.Turns.{HeardIn, heard_in, hear_of}
use Rattle.history.proofs.Parts.{part_size}
use Rattle.history.proofs.Sessions.{part_length, packet_own, packet_stays}

-- ---- one link

-- the bytes of an unfinished packet, in a part of 258 bytes
pub record Unended (h : Held) : Type 0 where
  pub size : length h.part ≡ 258
  pub fewer : 2 ≤ h.count → Unfinished h.count h.part

nothing_held : Unended none_held
nothing_held = record { size = length-replicate {A = ℕ} 258 0; fewer = λ h. absurd (omega arith) }

-- fewer than 258 bytes are held
pub unended_count : (h : Held) → Unended h → h.count < 258
unended_count h u = go (ltb h.count 2) refl
  where
    go : (t : Bool) → ltb h.count 2 ≡ t → h.count < 258
    go true e = omega (arith, ltb-true h.count 2 e)
    go false e = let f = u.fewer (ltb-false h.count 2 e) in omega (arith, f.announces, f.fewer)

-- what a call of the machine comes to: an unfinished packet, and none where there is an event
record Settled (c : Call Held Event) : Type 0 where
  state : Unended c.state
  ended : (e : Event) → c.event ≡ some e → c.state.count ≡ 0

no_event : (e : Event) → none ≡ some e → ⊥
no_event e q = let z : ◌≡◌ {A = ℕ} 0 1 = cc in omega arith

-- the step of n bytes in p: it goes on with an unfinished packet, or ends with none
settled_step : (n : ℕ) (p : List ℕ) (k : Held → Call Held Event) → length p ≡ 258 → ((h : Held) → Unended h → Settled (k h))
    → Settled (called (judged n p) k)
unfolding judged called
settled_step n p k size ih = go (ltb n 2) refl (ltb 256 (announced_in p)) refl (ltb n (2 + announced_in p)) refl
  where
    on : (2 ≤ n → Unfinished n p) → Settled (called (more (record { count = n; part = p })) k)
    on f = let s = ih (record { count = n; part = p }) (record { size = size; fewer = f }) in record { state = s.state; ended = s.ended }

    stop : (e : Event) → Settled (called (ends none_held e) k)
    stop e = record { state = nothing_held; ended = λ e q. refl }

    go : (a : Bool) → ltb n 2 ≡ a → (b : Bool) → ltb 256 (announced_in p) ≡ b → (c : Bool) → ltb n (2 + announced_in p) ≡ c
        → Settled
        (called
        (cond a (more (record { count = n; part = p })) (cond b (ends none_held too_long)
        (cond c (more (record { count = n; part = p })) (ends none_held (packet_in p)))))
        k)
    go true d b e c f = on (λ h. absurd (omega (arith, ltb-true n 2 d)))
    go false d true e c f = stop too_long
    go false d false e true f =
        on (λ h. record { announces = ltb-false 256 (announced_in p) e; fewer = ltb-true n (2 + announced_in p) f })
    go false d false e false f = stop (packet_in p)

settled : (input : List ℕ) (h : Held) → Unended h → Settled (call byte h input)
unfolding call byte
settled [] h u = record { state = u; ended = λ e q. absurd (no_event e q) }
settled (b ∷ bs) h u =
    settled_step (h.count + 1) (set h.part h.count b) (λ t. call byte t bs) (length-set h.part h.count b ∙ u.size) (settled bs)

-- ---- the call on a part

-- bytes were heard: the part and the count after them
pub record HeardWell (frame : Frame) (count : ℕ) (p : List ℕ) : Type 0 where
  pub size : length p ≡ 258
  pub fewer : 2 ≤ count → Unfinished count p
  -- no byte is left of a whole packet, or of one too long
  pub ended : (frame ≡ Open → ⊥) → count ≡ 0
  pub accepted : (n : ℕ) → frame ≡ Refused n → ⊥

answer_well : (c : Call Held Event) → Settled c → HeardWell (answer_of c).answer.frame (answer_of c).answer.held (answer_of c).part
unfolding answer_of answer_by without_packet
answer_well c s = go c.event refl
  where
    go : (e : Option Event) → c.event ≡ e
        → HeardWell (answer_by c.taken c.state e).frame (answer_by c.taken c.state e).held c.state.part
    go none q =
        record {
          size = s.state.size;
          fewer = s.state.fewer;
          ended = λ f. absurd (f refl);
          accepted = λ n f. let z : ◌≡◌ {A = ℕ} 0 1 = cc in omega arith;
        }
    go (some too_long) q =
        record {
          size = s.state.size;
          fewer = s.state.fewer;
          ended = λ f. s.ended too_long q;
          accepted = λ n f. let z : ◌≡◌ {A = ℕ} 0 1 = cc in omega arith;
        }
    go (some (packet kind info)) q =
        record {
          size = s.state.size;
          fewer = s.state.fewer;
          ended = λ f. s.ended (packet kind info) q;
          accepted = λ n f. let z : ◌≡◌ {A = ℕ} 0 1 = cc in omega arith;
        }

pub receive_well : (p : List ℕ) (count : ℕ) (input : List ℕ) → length p ≡ 258 → (2 ≤ count → Unfinished count p)
    → HeardWell (receive_of p count input).answer.frame (receive_of p count input).answer.held (receive_of p count input).part
unfolding receive_of
receive_well p count input size fewer =
    let h : Held = record { count = count; part = p } in
    let u : Unended h = record { size = size; fewer = fewer } in
    rw (eq-eqb (length p) 258 size, lt-ltb count 258 (unended_count h u)) (answer_well (call byte h input) (settled input h u))

-- ---- all links

-- session i was heard
pub record HeardOf (held : List ℕ) (i : ℕ) (h : HeardIn) : Type 0 where
  pub lengths : length h.held ≡ length held
  pub others : (j : ℕ) → (j ≡ i → ⊥) → packet_of h.held j ≡ packet_of held j
  pub own : HeardWell h.framed.frame h.framed.held (packet_of h.held i)

-- session i of so many, whose packets are all lent
module _ (sessions i : ℕ) (held : List ℕ) (inside : i < sessions) (lent : sessions * 258 ≤ length held) where
  room : i * 258 + 258 ≤ length held
  room = omega (arith, part_end i sessions 258 inside)

  -- what a call on its part came to is put back
  heard_in_law : (r : Heard) → HeardWell r.answer.frame r.answer.held r.part
      → HeardOf held i (heard_in r.answer (with_part (i * 258) 258 r.part held))
  heard_in_law r w =
      record {
        lengths = part_length (i * 258) 258 r.part held w.size room;
        others = packet_stays sessions i r.part held inside lent w.size;
        own = subst (λ (p : List ℕ). HeardWell r.answer.frame r.answer.held p)
            (sym (packet_own sessions i r.part held inside lent w.size)) w;
      }

  pub hear_well : (count : ℕ) (input : List ℕ) → (2 ≤ count → Unfinished count (packet_of held i)) → HeardOf held i (hear_of held i count input)
  unfolding hear_of
  hear_well count input fewer =
      heard_in_law (receive_of (packet_of held i) count input) (receive_well (packet_of held i) count input (part_size (i * 258) 258 held room) fewer)
