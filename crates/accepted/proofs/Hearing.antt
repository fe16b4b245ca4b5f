-- What the bytes of a link end in, they end in without what stands behind the end. Assumes nothing.
use mathlib.Core.Path.{◌≡◌, refl, sym, ap, ap₂, ◌∙◌, subst}
use mathlib.Core.Bool.{Bool, true, false, cond}
use mathlib.Core.List.{List, [], ◌∷◌, ◌++◌}
use mathlib.Core.Option.{none, some}
use Prim.Native.Nat.{ℕ, suc, ◌+◌, ◌-◌, ◌≤◌, ◌<◌}
use native.Mathlib.Omega.{arith}
use borrow.Author.Tests.{ltb-true, ltb-false, lt-ltb, le-ltb}
use lib.Dec.{ltb}
use lib.ListN.{length, take, drop, length-drop, get_or-append}
use lib.Seq.{length-take-le, get_or-take, take-append-add}
use Rattle.packet.specs.Packet.{announced, kind_in}
use Rattle.packet.specs.Frame.{Event, packet, too_long, announced_in, packet_in}
use Rattle.model.specs.Step.{ends_in}

-- the bytes that an event takes
abbrev pub used_by : Event → ℕ
used_by (packet kind info) = 2 + length info
used_by too_long = 2

clash : {P : Type 0} {e : Event} → none ≡ some e → P
clash e = let z : ◌≡◌ {A = ℕ} 0 1 = cc in absurd (omega arith)

-- ---- by the head

record Long (bs : List ℕ) (e : Event) : Type 0 where
  two : 2 ≤ length bs
  above : 256 < announced_in bs
  is : e ≡ too_long

record Whole (bs : List ℕ) (e : Event) : Type 0 where
  two : 2 ≤ length bs
  most : announced_in bs ≤ 256
  enough : 2 + announced_in bs ≤ length bs
  is : e ≡ packet_in bs

data Ended (bs : List ℕ) (e : Event) : Type 0 where
  long : Long bs e → Ended bs e
  whole : Whole bs e → Ended bs e

ended : (bs : List ℕ) (e : Event) → ends_in bs ≡ some e → Ended bs e
unfolding ends_in
ended bs e = go (ltb (length bs) 2) refl (ltb 256 (announced_in bs)) refl (ltb (length bs) (2 + announced_in bs)) refl
  where
    go : (a : Bool) → ltb (length bs) 2 ≡ a → (b : Bool) → ltb 256 (announced_in bs) ≡ b → (c : Bool) → ltb (length bs) (2 + announced_in bs) ≡ c
        → cond a none (cond b (some too_long) (cond c none (some (packet_in bs)))) ≡ some e → Ended bs e
    go true p b q c r x = clash x
    go false p true q c r x =
        long (record { two = ltb-false (length bs) 2 p; above = ltb-true 256 (announced_in bs) q; is = let z : too_long ≡ e = cc in sym z })
    go false p false q true r x = clash x
    go false p false q false r x =
        whole (record {
          two = ltb-false (length bs) 2 p;
          most = ltb-false 256 (announced_in bs) q;
          enough = ltb-false (length bs) (2 + announced_in bs) r;
          is = let z : packet_in bs ≡ e = cc in sym z;
        })

long_ends : (bs : List ℕ) → 2 ≤ length bs → 256 < announced_in bs → ends_in bs ≡ some too_long
unfolding ends_in
long_ends bs two h = rw (le-ltb (length bs) 2 two, lt-ltb 256 (announced_in bs) h)

whole_ends : (bs : List ℕ) → 2 ≤ length bs → announced_in bs ≤ 256 → 2 + announced_in bs ≤ length bs → ends_in bs ≡ some (packet_in bs)
unfolding ends_in
whole_ends bs two h k = rw (le-ltb (length bs) 2 two, le-ltb 256 (announced_in bs) h, le-ltb (length bs) (2 + announced_in bs) k)

-- ---- the first bytes alone

head_take : (n : ℕ) (bs : List ℕ) → 2 ≤ n → announced_in (take n bs) ≡ announced_in bs
head_take n bs h = ap₂ announced (get_or-take n bs 0 0 (omega arith)) (get_or-take n bs 1 0 (omega arith))

info_take : (n : ℕ) (bs : List ℕ) → take n (drop 2 (take (2 + n) bs)) ≡ take n (drop 2 bs)
info_take n bs = ap (λ (k : ℕ). take n (drop 2 (take k bs))) two ∙ go bs
  where
    two : 2 + n ≡ suc (suc n)
    two = omega arith

    twice : (k : ℕ) (xs : List ℕ) → take k (take k xs) ≡ take k xs
    twice k xs = lib.Seq.take-take k k xs (omega arith)

    go : (xs : List ℕ) → take n (drop 2 (take (suc (suc n)) xs)) ≡ take n (drop 2 xs)
    go [] = refl
    go (x ∷ []) = refl
    go (x ∷ y ∷ xs) = twice n xs

packet_take : (bs : List ℕ) → packet_in (take (2 + announced_in bs) bs) ≡ packet_in bs
packet_take bs =
    let n = announced_in bs in
    ap₂ (λ (k : ℕ) (info : List ℕ). packet (kind_in k) info) (get_or-take (2 + n) bs 1 0 (omega arith))
    (ap (λ (k : ℕ). take k (drop 2 (take (2 + n) bs))) (head_take (2 + n) bs (omega arith)) ∙ info_take n bs)

info_length : (bs : List ℕ) → 2 + announced_in bs ≤ length bs → length (take (announced_in bs) (drop 2 bs)) ≡ announced_in bs
info_length bs h = length-take-le (announced_in bs) (drop 2 bs) (omega (arith, length-drop 2 bs))

record Front (bs : List ℕ) (e : Event) : Type 0 where
  used : used_by e ≤ length bs
  ends : ends_in (take (used_by e) bs) ≡ some e

front : (bs : List ℕ) (e : Event) → ends_in bs ≡ some e → Front bs e
front bs e x = go (ended bs e x)
  where
    go : Ended bs e → Front bs e
    go (long l) =
        let n : length (take 2 bs) ≡ 2 = length-take-le 2 bs l.two in
        subst (Front bs) (sym l.is)
        (record { used = l.two; ends = long_ends (take 2 bs) (omega arith) (omega (arith, head_take 2 bs (omega arith), l.above)) })
    go (whole w) =
        let a = announced_in bs in
        let i = info_length bs w.enough in
        let n : length (take (2 + a) bs) ≡ 2 + a = length-take-le (2 + a) bs w.enough in
        let h = head_take (2 + a) bs (omega arith) in
        subst (Front bs) (sym w.is)
        (record {
          used = omega (arith, w.enough);
          ends = ap (λ (k : ℕ). ends_in (take (2 + k) bs)) i
              ∙ whole_ends (take (2 + a) bs) (omega arith) (omega (arith, w.most)) (omega arith)
              ∙ ap some (packet_take bs);
        })

-- ---- behind bytes that end in nothing

module _ (held input : List ℕ) (e : Event) (waits : ends_in held ≡ none) (came : ends_in (held ++ input) ≡ some e) where
  head_held : 2 ≤ length held → announced_in (held ++ input) ≡ announced_in held
  head_held h = ap₂ announced (get_or-append held input 0 0 (omega arith)) (get_or-append held input 0 1 (omega arith))

  -- they are fewer than the event takes
  pub held_few : length held ≤ used_by e
  held_few = go (ltb (length held) 2) refl (ended (held ++ input) e came)
    where
      go : (b : Bool) → ltb (length held) 2 ≡ b → Ended (held ++ input) e → length held ≤ used_by e
      go true q (long l) = rw l.is (omega (arith, ltb-true (length held) 2 q))
      go true q (whole w) = rw w.is (omega (arith, ltb-true (length held) 2 q))
      go false q (long l) =
          let h = ltb-false (length held) 2 q in
          clash (sym waits ∙ long_ends held h (omega (arith, head_held h, l.above)))
      go false q (whole w) =
          let h = ltb-false (length held) 2 q in
          let a = head_held h in
          let i = info_length (held ++ input) w.enough in
          subst (λ (x : Event). length held ≤ used_by x) (sym w.is) (within h a i (ltb (length held) (2 + announced_in held)) refl)
        where
          within : 2 ≤ length held → announced_in (held ++ input) ≡ announced_in held
              → length (take (announced_in (held ++ input)) (drop 2 (held ++ input))) ≡ announced_in (held ++ input)
              → (b : Bool) → ltb (length held) (2 + announced_in held) ≡ b
              → length held ≤ 2 + length (take (announced_in (held ++ input)) (drop 2 (held ++ input)))
          within h a i true r = omega (arith, ltb-true (length held) (2 + announced_in held) r)
          within h a i false r = clash (sym waits ∙ whole_ends held h (omega (arith, w.most)) (ltb-false (length held) (2 + announced_in held) r))

  -- THEOREM: the bytes that the event takes end in it
  pub taken_ends : ends_in (held ++ take (used_by e - length held) input) ≡ some e
  taken_ends =
      let n : used_by e ≡ length held + (used_by e - length held) = omega (arith, held_few) in
      sym (ap ends_in (ap (λ (k : ℕ). take k (held ++ input)) n ∙ take-append-add held input (used_by e - length held)))
      ∙ (front (held ++ input) e came).ends
