-- What a receive call hears: how many bytes it takes, and what it leaves of the unfinished packet. Assumes nothing.
use mathlib.Core.Path.{◌≡◌, refl, sym, ap, ◌∙◌, subst}
use mathlib.Core.Bool.{Bool, true, false, cond}
use mathlib.Core.List.{List, [], ◌∷◌}
use mathlib.Core.Option.{Option, none, some}
use Prim.Native.Nat.{ℕ, ◌+◌, ◌≤◌, ◌<◌}
use native.Mathlib.Omega.{arith}
use borrow.Author.Tests.{ltb-true, ltb-false, eq-eqb, lt-ltb}
use lib.Dec.{ltb}
use lib.ListN.{length, take, drop, set, replicate, length-set}
use Rattle.packet.specs.declared.frame.Frame.TheVariants.{Open}
use Rattle.packet.specs.Machine.{Step, more, ends, Call, called, call}
use Rattle.packet.specs.Frame.{Held, Event, packet, too_long, none_held, announced_in, packet_in, judged, byte, heard, without_packet}
use Rattle.packet.specs.Frame.{answer_by, answer_of, receive_of}
use Rattle.files.proofs.Choice.{take_le}

no_event : {E : Type 0} (v : E) → none ≡ some v → ⊥
no_event v e = let z : ◌≡◌ {A = ℕ} 0 1 = cc in omega arith

-- ---- one byte

pub record More (h t : Held) : Type 0 where
  pub few : t.count < 258
  pub size : length t.part ≡ length h.part

pub record Ends (t : Held) (v : Event) : Type 0 where
  pub state : t ≡ none_held
  pub info : (kind : ℕ) (info : List ℕ) → v ≡ packet kind info → length info ≤ 256

pub Stepped : Held → Step Held Event → Type 0
Stepped h (more t) = More h t
Stepped h (ends t v) = Ends t v

packet_info : (k k' : ℕ) (i i' : List ℕ) → packet k i ≡ packet k' i' → i ≡ i'
packet_info k k' i i' e = let z : i ≡ i' = cc in z

long_packet : (k : ℕ) (i : List ℕ) → too_long ≡ packet k i → ⊥
long_packet k i e = let z : ◌≡◌ {A = ℕ} 0 1 = cc in omega arith

byte_facts : (h : Held) (b : ℕ) → Stepped h (byte h b)
unfolding byte judged Stepped
byte_facts h b = go (h.count + 1) (set h.part h.count b) (length-set h.part h.count b)
  where
    go : (n : ℕ) (p : List ℕ) → length p ≡ length h.part
        → Stepped h
        (cond (ltb n 2) (more (record { count = n; part = p })) (cond (ltb 256 (announced_in p)) (ends none_held too_long)
        (cond (ltb n (2 + announced_in p)) (more (record { count = n; part = p })) (ends none_held (packet_in p)))))
    go n p e = by (ltb n 2) refl (ltb 256 (announced_in p)) refl (ltb n (2 + announced_in p)) refl
      where
        by : (a : Bool) → ltb n 2 ≡ a → (d : Bool) → ltb 256 (announced_in p) ≡ d → (f : Bool) → ltb n (2 + announced_in p) ≡ f
            → Stepped h
            (cond a (more (record { count = n; part = p })) (cond d (ends none_held too_long)
            (cond f (more (record { count = n; part = p })) (ends none_held (packet_in p)))))
        by true x d y f z = record { few = omega (arith, ltb-true n 2 x); size = e }
        by false x true y f z = record { state = refl; info = λ k i q. absurd (long_packet k i q) }
        by false x false y true z = record { few = omega (arith, ltb-true n (2 + announced_in p) z, ltb-false 256 (announced_in p) y); size = e }
        by false x false y false z =
            record {
              state = refl;
              info = λ k i q.
                  subst (λ (j : List ℕ). length j ≤ 256) (packet_info _ k (take (announced_in p) (drop 2 p)) i q)
                  (omega (arith, take_le (announced_in p) (drop 2 p), ltb-false 256 (announced_in p) y));
            }

-- ---- a call

pub record CallFacts (h : Held) (input : List ℕ) (c : Call Held Event) : Type 0 where
  pub within : c.taken ≤ length input
  pub some_taken : 1 ≤ length input → 1 ≤ c.taken
  -- without an event all bytes are taken, and an unfinished packet stays
  pub all : c.event ≡ none → c.taken ≡ length input
  pub few : h.count < 258 → c.event ≡ none → c.state.count < 258
  pub size : c.event ≡ none → length c.state.part ≡ length h.part
  -- with one, nothing is held any more
  pub nothing : (v : Event) → c.event ≡ some v → c.state ≡ none_held
  pub info : (kind : ℕ) (info : List ℕ) → c.event ≡ some (packet kind info) → length info ≤ 256

some_is : (v w : Event) → some v ≡ some w → v ≡ w
some_is v w e = let z : v ≡ w = cc in z

pub call_facts : (input : List ℕ) (h : Held) → CallFacts h input (call byte h input)
unfolding call called Stepped
call_facts [] h =
    record {
      within = omega arith;
      some_taken = λ z. omega arith;
      all = λ e. refl;
      few = λ z e. z;
      size = λ e. refl;
      nothing = λ v e. absurd (no_event v e);
      info = λ k i e. absurd (no_event (packet k i) e);
    }
call_facts (b ∷ bs) h = go (byte h b) (byte_facts h b) (call_facts bs)
  where
    go : (f : Step Held Event) → Stepped h f → ((t : Held) → CallFacts t bs (call byte t bs)) → CallFacts h (b ∷ bs) (called f (λ t. call byte t bs))
    go (more t) m ih =
        record {
          within = omega (arith, (ih t).within);
          some_taken = λ z. omega arith;
          all = λ q. omega (arith, (ih t).all q);
          few = λ z q. (ih t).few m.few q;
          size = λ q. (ih t).size q ∙ m.size;
          nothing = (ih t).nothing;
          info = (ih t).info;
        }
    go (ends t v) m ih =
        record {
          within = omega arith;
          some_taken = λ z. omega arith;
          all = λ q. absurd (no_event v (sym q));
          few = λ z q. absurd (no_event v (sym q));
          size = λ q. absurd (no_event v (sym q));
          nothing = λ w q. m.state;
          info = λ k i q. m.info k i (some_is v (packet k i) q);
        }

-- ---- the call on a session's part

-- bytes that end no packet: all are taken
pub record Unended (part : List ℕ) (held : ℕ) (input : List ℕ) : Type 0 where
  pub state : Held
  pub came : call byte (record { count = held; part = part }) input ≡ record { taken = length input; state = state; event = none }
  pub size : length state.part ≡ 258
  pub few : state.count < 258
  pub is : receive_of part held input ≡ heard (without_packet (length input) state.count Open) state.part

-- bytes that end a packet, or announce one that is too long: the rest is left, and nothing is held
pub record Ended (part : List ℕ) (held : ℕ) (input : List ℕ) : Type 0 where
  pub taken : ℕ
  pub within : taken ≤ length input
  pub some_taken : 1 ≤ length input → 1 ≤ taken
  pub event : Event
  pub came : call byte (record { count = held; part = part }) input ≡ record { taken = taken; state = none_held; event = some event }
  pub is : receive_of part held input ≡ heard (answer_by taken none_held (some event)) (replicate 258 0)
  pub info : (kind : ℕ) (info : List ℕ) → event ≡ packet kind info → length info ≤ 256

pub data Hears (part : List ℕ) (held : ℕ) (input : List ℕ) : Type 0 where
  unended : Unended part held input → Hears part held input
  ended : Ended part held input → Hears part held input

pub hears : (part : List ℕ) (held : ℕ) (input : List ℕ) → length part ≡ 258 → held < 258 → Hears part held input
unfolding receive_of answer_of answer_by
hears part held input w room =
    go (call byte (record { count = held; part = part }) input) refl (call_facts input (record { count = held; part = part }))
  where
    go : (c : Call Held Event) → call byte (record { count = held; part = part }) input ≡ c
        → CallFacts (record { count = held; part = part }) input c → Hears part held input
    go c e f = by c.event refl
      where
        by : (o : Option Event) → c.event ≡ o → Hears part held input
        by none q =
            unended (record {
              state = c.state;
              came = e ∙ rw (← f.all q, ← q);
              size = f.size q ∙ w;
              few = f.few room q;
              is = rw (eq-eqb (length part) 258 w, lt-ltb held 258 room, e, q, f.all q);
            })
        by (some v) q =
            ended (record {
              taken = c.taken;
              within = f.within;
              some_taken = f.some_taken;
              event = v;
              came = e ∙ rw (← f.nothing v q, ← q);
              is = rw (eq-eqb (length part) 258 w, lt-ltb held 258 room, e, q, f.nothing v q)
                  (ap (λ (h : Held). heard (answer_by c.taken h (some v)) none_held.part) (f.nothing v q));
              info = λ k i z. f.info k i (q ∙ ap some z);
            })
