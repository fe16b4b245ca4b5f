-- The framing of a link and the plain reader agree, and cutting a link's bytes elsewhere changes no answer. Assumes nothing.
use Rattle.std.proofs.Common.{Ok, Err, Result}
use mathlib.Core.Path.{◌≡◌, refl, sym, ap, ◌∙◌}
use mathlib.Core.Bool.{Bool, true, false, cond}
use mathlib.Core.List.{List, [], ◌∷◌, ◌++◌, flatten}
use mathlib.Core.Option.{some}
use Prim.Native.Nat.{ℕ, zero, suc, ◌+◌, ◌≤◌, ◌<◌}
use native.Mathlib.Numerals.{add-one}
use native.Mathlib.Nat.{zero-add}
use native.Mathlib.Omega.{arith}
use borrow.Author.Tests.{ltb-false, lt-ltb, le-ltb}
use lib.Dec.{ltb}
use lib.ListN.{length, get_or, set, take, drop, replicate, length-append}
use lib.Seq.{get_or-set_other, sets, sets-eq, take-append_seam, length-take-le, take-suc, split_at}
use Rattle.packet.specs.Packet.{announced, kind_in, read_answer}
use Rattle.packet.specs.Machine.{more, ends, Call, further, call, runs}
use Rattle.packet.specs.Frame.{Held, Event, packet, none_held, announced_in, judged, byte}
use Rattle.packet.proofs.Cut.{cut_elsewhere, step_more, step_ends}
use Rattle.packet.proofs.PacketLaws.{clash}

-- ---- THEOREM: the bytes of a link, cut elsewhere, come to the same packets and the same state
pub link_cut_elsewhere : (ps qs : List (List ℕ)) (h : Held) → flatten ps ≡ flatten qs → runs byte h ps ≡ runs byte h qs
link_cut_elsewhere = cut_elsewhere byte

-- ---- bytes that do not end a packet

-- the length and the type stand in the first two bytes
same_announced : (p : List ℕ) (m x : ℕ) → 2 ≤ m → announced_in (set p m x) ≡ announced_in p
same_announced p m x h = rw (get_or-set_other p m 0 x 0 (λ e. omega arith), get_or-set_other p m 1 x 0 (λ e. omega arith))

open_step : (p : List ℕ) (m x : ℕ)
    → 2 ≤ m
    → announced_in p ≤ 256
    → m + 1 < 2 + announced_in p
    → byte (record { count = m; part = p }) x ≡ more (record { count = m + 1; part = set p m x })
unfolding byte judged
open_step p m x h s l =
    rw (same_announced p m x h, le-ltb (m + 1) 2 (omega arith), le-ltb 256 (announced_in p) s, lt-ltb (m + 1) (2 + announced_in p) l)

filled : (xs ys p : List ℕ) (m : ℕ)
    → 2 ≤ m
    → announced_in p ≤ 256
    → m + length xs < 2 + announced_in p
    → call byte (record { count = m; part = p }) (xs ++ ys)
    ≡ further (length xs) (call byte (record { count = m + length xs; part = sets p m xs }) ys)
filled [] ys p m h s l = let e : m + 0 ≡ m = omega arith in simp (e, zero-add)
filled (x ∷ xs) ys p m h s l =
    on (filled xs ys (set p m x) (m + 1) (omega arith) (rw (same_announced p m x h) s) (rw (same_announced p m x h) (omega arith)))
  where
    counted : (n : ℕ) (c : Call Held Event) → further 1 (further n c) ≡ further (suc n) c
    counted n c = let e : 1 + (n + c.taken) ≡ suc n + c.taken = omega arith in rw e

    on : call byte (record { count = m + 1; part = set p m x }) (xs ++ ys)
        ≡ further (length xs) (call byte (record { count = m + 1 + length xs; part = sets (set p m x) (m + 1) xs }) ys)
        → call byte (record { count = m; part = p }) (x ∷ xs ++ ys)
        ≡ further (suc (length xs)) (call byte (record { count = m + suc (length xs); part = sets (set p m x) (suc m) xs }) ys)
    on ih =
        let c : m + 1 + length xs ≡ m + suc (length xs) = omega arith in
        step_more byte (record { count = m; part = p }) (record { count = m + 1; part = set p m x }) x (xs ++ ys) (open_step p m x h s (omega arith))
        ∙ ap (further 1) (ih ∙ rw (c, add-one m))
        ∙ counted (length xs) (call byte (record { count = m + suc (length xs); part = sets (set p m x) (suc m) xs }) ys)

-- ---- the packet at the end

sets_snoc : (xs l : List ℕ) (i y : ℕ) → set (sets l i xs) (i + length xs) y ≡ sets l i (xs ++ y ∷ [])
sets_snoc [] l i y = let e : i + 0 ≡ i = omega arith in rw e
sets_snoc (x ∷ xs) l i y = let e : i + suc (length xs) ≡ suc i + length xs = omega arith in rw e (sets_snoc xs (set l i x) (suc i) y)

-- the last byte of a packet's information, after the bytes before it
last_byte : (xs : List ℕ) (a b y : ℕ)
    → length xs < 256
    → announced a b ≡ suc (length xs)
    → byte (record { count = 2 + length xs; part = sets (a ∷ b ∷ replicate 256 0) 2 xs }) y
    ≡ ends none_held (packet (kind_in b) (xs ++ y ∷ []))
unfolding byte judged
last_byte xs a b y h e =
    rw (
      sets_snoc xs (a ∷ b ∷ replicate 256 0) 2 y,
      sets-eq (xs ++ y ∷ []) (a ∷ b ∷ replicate 256 0) 2 (rw n (omega arith)),
      e,
      le-ltb (2 + length xs + 1) 2 (omega arith),
      le-ltb 256 (suc (length xs)) (omega arith),
      le-ltb (2 + length xs + 1) (2 + suc (length xs)) (omega arith),
    )
    (ap (λ (l : List ℕ). ends none_held (packet (kind_in b) l)) (ap (λ (k : ℕ). take k ((xs ++ y ∷ []) ++ tail)) (sym n) ∙ take-append_seam (xs ++ y ∷ []) tail))
  where
    n : length (xs ++ y ∷ []) ≡ suc (length xs)
    n = length-append xs (y ∷ []) ∙ add-one (length xs)

    tail : List ℕ
    tail = drop (2 + length (xs ++ y ∷ [])) (a ∷ b ∷ replicate 256 0)

first_step : (a : ℕ) → byte none_held a ≡ more (record { count = 1; part = a ∷ replicate 257 0 })
unfolding byte judged
first_step a = refl

second_open : (a b : ℕ) → announced a b ≤ 256 → 0 < announced a b
    → byte (record { count = 1; part = a ∷ replicate 257 0 }) b ≡ more (record { count = 2; part = a ∷ b ∷ replicate 256 0 })
unfolding byte judged
second_open a b s l = rw (le-ltb 256 (announced a b) s, lt-ltb 2 (2 + announced a b) (omega arith))

second_end : (a b : ℕ) → announced a b ≡ 0
    → byte (record { count = 1; part = a ∷ replicate 257 0 }) b ≡ ends none_held (packet (kind_in b) [])
unfolding byte judged
second_end a b e = rw e

-- THEOREM: what the reader accepts, of up to 256 bytes, the framing takes as one packet, from a part that holds nothing
pub agree : (a b : ℕ) (bs : List ℕ)
    → announced a b ≤ 256
    → announced a b ≤ length bs
    → call byte none_held (a ∷ b ∷ bs)
    ≡ record { taken = 2 + announced a b; state = none_held; event = some (packet (kind_in b) (take (announced a b) bs)) }
agree a b bs s l = by_size (announced a b) refl
  where
    two : Held
    two = record { count = 2; part = a ∷ b ∷ replicate 256 0 }

    begun : (r : Call Held Event) → call byte (record { count = 1; part = a ∷ replicate 257 0 }) (b ∷ bs) ≡ r → call byte none_held (a ∷ b ∷ bs) ≡ further 1 r
    begun r e = step_more byte none_held (record { count = 1; part = a ∷ replicate 257 0 }) a (b ∷ bs) (first_step a) ∙ ap (further 1) e

    by_size : (n : ℕ)
        → announced a b ≡ n
        → call byte none_held (a ∷ b ∷ bs) ≡ record { taken = 2 + n; state = none_held; event = some (packet (kind_in b) (take n bs)) }
    by_size zero e = begun _ (step_ends byte (record { count = 1; part = a ∷ replicate 257 0 }) none_held b bs (packet (kind_in b) []) (second_end a b e))
    by_size (suc n) e =
        begun _
        (step_more byte (record { count = 1; part = a ∷ replicate 257 0 }) (record { count = 2; part = a ∷ b ∷ replicate 256 0 }) b bs (second_open a b s (omega arith))
        ∙ ap (further 1) body)
        ∙ counted n
      where
        xs : List ℕ
        xs = take n bs

        whole : xs ++ get_or bs n 0 ∷ drop (suc n) bs ≡ bs
        whole = sym (split_at bs n 0 (omega arith))

        size : length xs ≡ n
        size = length-take-le n bs (omega arith)

        body : call byte (record { count = 2; part = a ∷ b ∷ replicate 256 0 }) bs
            ≡ further n (record { taken = 1; state = none_held; event = some (packet (kind_in b) (take (suc n) bs)) })
        body =
            ap (call byte (record { count = 2; part = a ∷ b ∷ replicate 256 0 })) (sym whole)
            ∙ filled xs (get_or bs n 0 ∷ drop (suc n) bs) (a ∷ b ∷ replicate 256 0) 2 (omega arith) s (omega (arith, size))
            ∙ ap (further (length xs))
            (step_ends byte (record { count = 2 + length xs; part = sets (a ∷ b ∷ replicate 256 0) 2 xs }) none_held (get_or bs n 0) (drop (suc n) bs)
            (packet (kind_in b) (xs ++ get_or bs n 0 ∷ []))
            (last_byte xs a b (get_or bs n 0) (omega (arith, size)) (e ∙ ap suc (sym size))))
            ∙ rw (size, take-suc bs n 0 (omega arith))

        counted : (n : ℕ)
            → further 1 (further 1 (further n (record { taken = 1; state = none_held; event = some (packet (kind_in b) (take (suc n) bs)) })))
            ≡ record { taken = 2 + suc n; state = none_held; event = some (packet (kind_in b) (take (suc n) bs)) }
        counted n = let e : 1 + (1 + (n + 1)) ≡ 2 + suc n = omega arith in rw e

-- .. as the reader says it
pub reader_and_framing : (bs : List ℕ) (kind n : ℕ)
    → read_answer bs ≡ Ok (kind, n)
    → n ≤ 256
    → call byte none_held bs ≡ record { taken = 2 + n; state = none_held; event = some (packet kind (take n (drop 2 bs))) }
reader_and_framing [] kind n e h = absurd (clash 33 kind n (unfold read_answer in e))
reader_and_framing (a ∷ []) kind n e h = absurd (clash 33 kind n (unfold read_answer in e))
reader_and_framing (a ∷ b ∷ bs) kind n e h = go (ltb 17 (kind_in b)) (ltb (length bs) (announced a b)) refl (unfold read_answer in e)
  where
    go : (t u : Bool)
        → ltb (length bs) (announced a b) ≡ u
        → cond {A = Result (ℕ × ℕ) ℕ} t (Err 33) (cond u (Err 33) (Ok (kind_in b, announced a b))) ≡ Ok (kind, n)
        → call byte none_held (a ∷ b ∷ bs) ≡ record { taken = 2 + n; state = none_held; event = some (packet kind (take n bs)) }
    go true u q e = absurd (clash 33 kind n e)
    go false true q e = absurd (clash 33 kind n e)
    go false false q e =
        let same : ◌≡◌ {A = ℕ × ℕ} (kind_in b, announced a b) (kind, n) = cc in
        let ek : kind_in b ≡ kind = ap (λ (x : ℕ × ℕ). x.0) same in
        let en : announced a b ≡ n = ap (λ (x : ℕ × ℕ). x.1) same in
        rw (en, ek) at (agree a b bs (rw en h) (ltb-false (length bs) (announced a b) q))
