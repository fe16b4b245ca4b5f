-- What the bytes of a link end in: the framing, byte by byte in a part of 258 bytes, hears what the machine reads in the bytes from the end of the last
-- packet on.
use mathlib.Core.Path.{◌≡◌, refl, sym, ap, ap₂, ◌∙◌}
use mathlib.Core.Bool.{Bool, true, false, cond}
use mathlib.Core.List.{List, [], ◌∷◌, ◌++◌, append-nil}
use mathlib.Core.Option.{none, some}
use Prim.Native.Nat.{ℕ, suc, ◌+◌, ◌≤◌, ◌<◌}
use native.Mathlib.Omega.{arith}
use borrow.Author.Tests.{ltb-true, ltb-false, lt-ltb, le-ltb}
use lib.Dec.{ltb}
use lib.ListN.{length, get_or, set, take, drop, length-set, length-append, length-drop, get_or-append}
use lib.Seq.{length-take-le, get_or-take, get_or-set_other, take-suc-set, take_at}
use Rattle.packet.specs.Packet.{announced, kind_in}
use Rattle.packet.specs.Machine.{Step, more, ends, Call, call, called}
use Rattle.packet.specs.Frame.{Held, Event, packet, too_long, none_held, announced_in, packet_in, judged, byte}
use Rattle.links.proofs.Facts.{Unfinished}
use Rattle.model.specs.Step.{ends_in}
use Rattle.views.proofs.Bytes.{front_read}

-- the bytes that an event takes
abbrev pub used_by : Event → ℕ
used_by (packet kind info) = 2 + length info
used_by too_long = 2

abbrev pub Short : Event → Type 0
Short (packet kind info) = length info ≤ 256
Short too_long = Unit {0}

abbrev pub held_as : ℕ → List ℕ → Held
held_as count part = record { count = count; part = part }

pub record Waits (count : ℕ) (part input : List ℕ) : Type 0 where
  pub state : Held
  pub came : call byte (held_as count part) input ≡ record { taken = length input; state = state; event = none }
  pub is : ends_in (take count part ++ input) ≡ none
  pub bytes : take state.count state.part ≡ take count part ++ input
  pub size : length state.part ≡ 258

pub record Ends (count : ℕ) (part input : List ℕ) : Type 0 where
  pub event : Event
  pub taken : ℕ
  pub came : call byte (held_as count part) input ≡ record { taken = taken; state = none_held; event = some event }
  pub is : ends_in (take count part ++ input) ≡ some event
  pub used : taken + count ≡ used_by event
  pub short : Short event

pub data Hears (count : ℕ) (part input : List ℕ) : Type 0 where
  waits : Waits count part input → Hears count part input
  ended : Ends count part input → Hears count part input

-- ---- lists

assoc : (xs : List ℕ) (y : ℕ) (ys : List ℕ) → xs ++ y ∷ ys ≡ (xs ++ y ∷ []) ++ ys
assoc [] y ys = refl
assoc (x ∷ xs) y ys = ap (λ (l : List ℕ). x ∷ l) (assoc xs y ys)

module _ (n : ℕ) (p rest : List ℕ) (two : 2 ≤ n) (fit : n ≤ length p) where
  at_front : (k : ℕ) → k < 2 → get_or (take n p ++ rest) k 0 ≡ get_or p k 0
  at_front k h = get_or-append (take n p) rest 0 k (omega (arith, length-take-le n p fit)) ∙ get_or-take n p k 0 (omega arith)

  announced_front : announced_in (take n p ++ rest) ≡ announced_in p
  announced_front = ap₂ announced (at_front 0 (omega arith)) (at_front 1 (omega arith))

  front_length : length (take n p ++ rest) ≡ n + length rest
  front_length = length-append (take n p) rest ∙ ap (λ (k : ℕ). k + length rest) (length-take-le n p fit)

-- ---- what is heard, by the first n bytes of a part

module _ (n : ℕ) (p rest : List ℕ) (size : length p ≡ 258) (few : n ≤ 258) where
  long_is : 2 ≤ n → 256 < announced_in p → ends_in (take n p ++ rest) ≡ some too_long
  unfolding ends_in
  long_is two h =
      rw (
        le-ltb (length (take n p ++ rest)) 2 (omega (arith, front_length n p rest two (omega arith))),
        lt-ltb 256 (announced_in (take n p ++ rest)) (omega (arith, announced_front n p rest two (omega arith))),
      )

  whole_is : 2 ≤ n → announced_in p ≤ 256 → n ≡ 2 + announced_in p → ends_in (take n p ++ rest) ≡ some (packet_in p)
  unfolding ends_in
  whole_is two h e =
      let a = announced_front n p rest two (omega arith) in
      let f = front_length n p rest two (omega arith) in
      rw (
        le-ltb (length (take n p ++ rest)) 2 (omega arith),
        le-ltb 256 (announced_in (take n p ++ rest)) (omega arith),
        le-ltb (length (take n p ++ rest)) (2 + announced_in (take n p ++ rest)) (omega arith),
      )
      (ap some same)
    where
      inside : take (announced_in p) (drop 2 (take n p ++ rest)) ≡ take (announced_in p) (drop 2 p)
      inside =
          front_read (take n p ++ rest) n 2 (announced_in p) (omega (arith, front_length n p rest two (omega arith))) (omega arith)
          ∙ ap (λ (x : List ℕ). take (announced_in p) (drop 2 x)) (take_at (take n p) rest n (length-take-le n p (omega arith)))
          ∙ sym (front_read p n 2 (announced_in p) (omega arith) (omega arith))

      same : packet_in (take n p ++ rest) ≡ packet_in p
      same =
          let a = announced_front n p rest two (omega arith) in
          ap₂ (λ (k : ℕ) (info : List ℕ). packet (kind_in k) info) (at_front n p rest two (omega arith) 1 (omega arith))
          (ap (λ (k : ℕ). take k (drop 2 (take n p ++ rest))) a ∙ inside)

  open_is : rest ≡ [] → (2 ≤ n → Unfinished n p) → ends_in (take n p ++ rest) ≡ none
  unfolding ends_in
  open_is z u = go (ltb (length (take n p ++ rest)) 2) refl
    where
      size_is : length (take n p ++ rest) ≡ n
      size_is = ap (λ (r : List ℕ). length (take n p ++ r)) z ∙ ap length (append-nil (take n p)) ∙ length-take-le n p (omega arith)

      go : (b : Bool) → ltb (length (take n p ++ rest)) 2 ≡ b
          → cond b none
          (cond (ltb 256 (announced_in (take n p ++ rest))) (some too_long)
          (cond (ltb (length (take n p ++ rest)) (2 + announced_in (take n p ++ rest))) none (some (packet_in (take n p ++ rest)))))
          ≡ none
      go true e = refl
      go false e =
          let two : 2 ≤ n = omega (arith, size_is, ltb-false (length (take n p ++ rest)) 2 e) in
          let a = announced_front n p rest two (omega arith) in
          let f = u two in
          rw (
            le-ltb 256 (announced_in (take n p ++ rest)) (omega (arith, f.announces)),
            lt-ltb (length (take n p ++ rest)) (2 + announced_in (take n p ++ rest)) (omega (arith, size_is, f.fewer)),
          )

-- ---- one byte

count_few : (count : ℕ) (part : List ℕ) → (2 ≤ count → Unfinished count part) → count < 258
count_few count part u = go (ltb count 2) refl
  where
    go : (t : Bool) → ltb count 2 ≡ t → count < 258
    go true e = omega (arith, ltb-true count 2 e)
    go false e = let f = u (ltb-false count 2 e) in omega (arith, f.announces, f.fewer)

module _ (count : ℕ) (part : List ℕ) (b : ℕ) (bs : List ℕ) (size : length part ≡ 258) (u : 2 ≤ count → Unfinished count part) where
  abbrev n : ℕ
  n = count + 1

  abbrev p : List ℕ
  p = set part count b

  few : count < 258
  few = count_few count part u

  size_p : length p ≡ 258
  size_p = length-set part count b ∙ size

  -- the bytes so far, and the others
  bytes_are : take count part ++ b ∷ bs ≡ take n p ++ bs
  bytes_are =
      let e : n ≡ suc count = omega arith in
      assoc (take count part) b bs
      ∙ ap (λ (x : List ℕ). x ++ bs) (sym (take-suc-set part count b (omega (arith, few))) ∙ ap (λ (k : ℕ). take k p) (sym e))

  -- the head stays
  head_stays : 2 ≤ count → announced_in p ≡ announced_in part
  head_stays h =
      ap₂ announced (get_or-set_other part count 0 b 0 (λ e. omega arith)) (get_or-set_other part count 1 b 0 (λ e. omega arith))

  by_more : Hears n p bs → call byte (held_as count part) (b ∷ bs) ≡ called (more (held_as n p)) (λ t. call byte t bs) → Hears count part (b ∷ bs)
  unfolding called
  by_more (waits w) e =
      waits (record {
        state = w.state;
        came = e ∙ ap (λ (c : Call Held Event). record { taken = 1 + c.taken; state = c.state; event = c.event }) w.came
            ∙ ap (λ (k : ℕ). record { taken = k; state = w.state; event = none }) one;
        is = ap ends_in bytes_are ∙ w.is;
        bytes = w.bytes ∙ sym bytes_are;
        size = w.size;
      })
    where
      one : 1 + length bs ≡ length (b ∷ bs)
      one = omega arith
  by_more (ended w) e =
      ended (record {
        event = w.event;
        taken = 1 + w.taken;
        came = e ∙ ap (λ (c : Call Held Event). record { taken = 1 + c.taken; state = c.state; event = c.event }) w.came;
        is = ap ends_in bytes_are ∙ w.is;
        used = let k = w.used in omega arith;
        short = w.short;
      })

  by_end : (v : Event) → ends_in (take n p ++ bs) ≡ some v → 1 + count ≡ used_by v → Short v
      → call byte (held_as count part) (b ∷ bs) ≡ called (ends none_held v) (λ t. call byte t bs) → Hears count part (b ∷ bs)
  unfolding called
  by_end v i k h e = ended (record { event = v; taken = 1; came = e; is = ap ends_in bytes_are ∙ i; used = k; short = h })

  abbrev next : (x y z : Bool) → Step Held Event
  next x y z = cond x (more (held_as n p)) (cond y (ends none_held too_long) (cond z (more (held_as n p)) (ends none_held (packet_in p))))

  called_is : call byte (held_as count part) (b ∷ bs)
      ≡ called (next (ltb n 2) (ltb 256 (announced_in p)) (ltb n (2 + announced_in p))) (λ t. call byte t bs)
  unfolding call byte judged
  called_is = refl

  -- the second byte
  second : 2 ≤ n → 256 < announced_in p → 1 + count ≡ 2
  second two a = go (ltb count 2) refl
    where
      go : (t : Bool) → ltb count 2 ≡ t → 1 + count ≡ 2
      go true e = omega (arith, ltb-true count 2 e)
      go false e = let h = ltb-false count 2 e in absurd (omega (arith, head_stays h, (u h).announces))

  -- the last byte
  last : 2 ≤ n → 2 + announced_in p ≤ n → n ≡ 2 + announced_in p
  last two a = go (ltb count 2) refl
    where
      go : (t : Bool) → ltb count 2 ≡ t → n ≡ 2 + announced_in p
      go true e = omega (arith, ltb-true count 2 e)
      go false e = let h = ltb-false count 2 e in omega (arith, head_stays h, (u h).fewer)

  info_length : announced_in p ≤ 256 → length (take (announced_in p) (drop 2 p)) ≡ announced_in p
  info_length h = length-take-le (announced_in p) (drop 2 p) (omega (arith, length-drop 2 p, size_p))

  byte_heard : ((2 ≤ n → Unfinished n p) → Hears n p bs) → Hears count part (b ∷ bs)
  byte_heard ih = go (ltb n 2) refl (ltb 256 (announced_in p)) refl (ltb n (2 + announced_in p)) refl called_is
    where
      go : (x : Bool) → ltb n 2 ≡ x → (y : Bool) → ltb 256 (announced_in p) ≡ y → (z : Bool) → ltb n (2 + announced_in p) ≡ z
          → call byte (held_as count part) (b ∷ bs) ≡ called (next x y z) (λ t. call byte t bs)
          → Hears count part (b ∷ bs)
      go true d y e z f k = by_more (ih (λ h. absurd (omega (arith, ltb-true n 2 d)))) k
      go false d true e z f k =
          let two = ltb-false n 2 d in
          let a = ltb-true 256 (announced_in p) e in
          by_end too_long (long_is n p bs size_p (omega (arith, few)) two a) (second two a) tt k
      go false d false e true f k =
          by_more (ih (λ h. record { announces = ltb-false 256 (announced_in p) e; fewer = ltb-true n (2 + announced_in p) f })) k
      go false d false e false f k =
          let two = ltb-false n 2 d in
          let a = ltb-false 256 (announced_in p) e in
          let q = last two (ltb-false n (2 + announced_in p) f) in
          let z = info_length a in
          by_end (packet_in p) (whole_is n p bs size_p (omega (arith, few)) two a q) (omega arith) (omega arith) k

pub hears : (input : List ℕ) (count : ℕ) (part : List ℕ) → length part ≡ 258 → (2 ≤ count → Unfinished count part) → Hears count part input
unfolding call
hears [] count part size u =
    waits (record {
      state = held_as count part;
      came = refl;
      is = open_is count part [] size (omega (arith, count_few count part u)) refl u;
      bytes = sym (append-nil (take count part));
      size = size;
    })
hears (b ∷ bs) count part size u =
    byte_heard count part b bs size u (λ v. hears bs (count + 1) (set part count b) (length-set part count b ∙ size) v)
