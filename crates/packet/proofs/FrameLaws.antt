-- Laws on the framing of a link: that storing byte by byte (specs/Feed.antt) is the machine of specs/Frame.antt. Assumes nothing.
use mathlib.Core.Path.{◌≡◌, refl, sym, ap, ◌∙◌}
use mathlib.Core.Bool.{Bool, true, false, cond}
use mathlib.Core.List.{List, [], ◌∷◌, ◌++◌}
use mathlib.Core.Option.{none, some}
use Prim.Native.Nat.{ℕ, zero, suc, ◌+◌, ◌-◌, ◌≤◌, ◌<◌}
use native.Mathlib.Numerals.{add-one}
use native.Mathlib.Nat.{zero-add, sub-zero, zero-sub}
use native.Mathlib.Omega.{arith}
use borrow.Author.Tests.{ltb-false, eq-eqb, ne_eqb, lt-ltb, le-ltb}
use lib.Dec.{ltb}
use lib.ListN.{length, get_or, set, take, drop, replicate, replicate-append-replicate, length-drop, length-append, length-replicate}
use lib.Seq.{take-suc-set, take-length, length-take-le, sets-eq, take-append_seam}
use Rattle.packet.specs.declared.frame.Mark.{Mark}
use Rattle.packet.specs.declared.frame.Mark.TheVariants.{More, Long, End}
use Rattle.packet.specs.declared.frame.Fed.{Fed}
use Rattle.packet.specs.declared.frame.Frame.TheVariants.{Open, TooLong, Whole, Refused}
use Rattle.numbers.specs.Numbers.{stored_at}
use Rattle.numbers.proofs.NumberLaws.{stored_at_law}
use Rattle.packet.specs.Packet.{kind_in}
use Rattle.packet.specs.Machine.{Step, more, ends, Call, call, called, further}
use Rattle.packet.specs.Frame.{Held, Event, too_long, none_held, announced_in, packet_in, judged, byte, padded, heard, without_packet, answer_by, answer_of, receive_of}
use Rattle.packet.specs.Feed.{mark_of, Part, fed_in, fed_more, after_byte, feed_of}

-- ---- clearing a part

pub cleared_next : (l : List ℕ) (i : ℕ) → i < length l → take i l ≡ replicate i 0 → take (i + 1) (set l i 0) ≡ replicate (i + 1) 0
cleared_next l i h e = rw (add-one, take-suc-set l i 0 h, e) (replicate-append-replicate i 1 0 ∙ ap (λ (k : ℕ). replicate k 0) (add-one i))

pub cleared_all : (l : List ℕ) (i n : ℕ) → length l ≤ i → i ≤ n → length l ≡ n → take i l ≡ replicate i 0 → l ≡ replicate n 0
cleared_all l i n h k e t =
    let s : i ≡ length l = omega arith in
    sym (take-length l) ∙ ap (λ (j : ℕ). take j l) (sym s) ∙ t ∙ ap (λ (j : ℕ). replicate j 0) (s ∙ e)

-- ---- information in 256 bytes

pub padded_length : (info : List ℕ) → length info ≤ 256 → length (padded info) ≡ 256
padded_length info h = omega (arith, length-append info (replicate (256 - length info) 0), length-replicate {A = ℕ} (256 - length info) 0)

pub padded_front : (info : List ℕ) → take (length info) (padded info) ≡ info
padded_front info = take-append_seam info (replicate (256 - length info) 0)

-- ---- feeding is the machine's call

-- what the machine makes of a mark
step_of : Mark → ℕ → List ℕ → Step Held Event
step_of More n p = more (record { count = n; part = p })
step_of Long n p = ends none_held too_long
step_of End n p = ends none_held (packet_in p)

judged_mark : (n : ℕ) (p : List ℕ) → judged n p ≡ step_of (mark_of n p) n p
unfolding judged mark_of
judged_mark n p = by_tests (ltb n 2) (ltb 256 (announced_in p)) (ltb n (2 + announced_in p))
  where
    by_tests : (a b d : Bool)
        → cond a (more (record { count = n; part = p })) (cond b (ends none_held too_long) (cond d (more (record { count = n; part = p })) (ends none_held (packet_in p))))
        ≡ step_of (cond a More (cond b Long (cond d More End))) n p
    by_tests true b d = unfold step_of in refl
    by_tests false true d = unfold step_of in refl
    by_tests false false true = unfold step_of in refl
    by_tests false false false = unfold step_of in refl

-- what is left of a part when the packet in it has been taken out
pub call_by : Mark → Part → Call Held Event
call_by More r = record { taken = r.fed.taken; state = record { count = r.fed.held; part = r.part }; event = none }
call_by Long r = record { taken = r.fed.taken; state = none_held; event = some too_long }
call_by End r = record { taken = r.fed.taken; state = none_held; event = some (packet_in r.part) }

abbrev pub call_of : Part → Call Held Event
call_of r = call_by r.fed.mark r

pub feed_is_call : (input p : List ℕ) (n : ℕ) → call byte (record { count = n; part = p }) input ≡ call_of (feed_of p n input)
unfolding call feed_of byte
feed_is_call [] p n = unfold call_by in refl
feed_is_call (b ∷ bs) p n = rw (judged_mark (n + 1) (set p n b)) (go (mark_of (n + 1) (set p n b)) (feed_is_call bs (set p n b) (n + 1)))
  where
    go : (m : Mark)
        → call byte (record { count = n + 1; part = set p n b }) bs ≡ call_of (feed_of (set p n b) (n + 1) bs)
        → called (step_of m (n + 1) (set p n b)) (λ t. call byte t bs) ≡ call_of (after_byte m (n + 1) (set p n b) (feed_of (set p n b) (n + 1) bs))
    go More ih = unfold step_of called after_byte in rw ih (on (feed_of (set p n b) (n + 1) bs) (feed_of (set p n b) (n + 1) bs).fed.mark)
      where
        on : (r : Part) (m : Mark) → further 1 (call_by m r) ≡ call_by m (fed_more 1 r)
        on r More = unfold call_by in refl
        on r Long = unfold call_by in refl
        on r End = unfold call_by in refl
    go Long ih = unfold step_of called after_byte call_by in refl
    go End ih = unfold step_of called after_byte call_by in refl

-- where feeding stopped at a packet's end, the bytes in the part are one
end_marked : (input p : List ℕ) (n : ℕ) → (feed_of p n input).fed.mark ≡ End → mark_of (feed_of p n input).fed.held (feed_of p n input).part ≡ End
unfolding feed_of
end_marked [] p n e = let z : ◌≡◌ {A = ℕ} 0 1 = cc in absurd (omega arith)
end_marked (b ∷ bs) p n e = go (mark_of (n + 1) (set p n b)) refl (end_marked bs (set p n b) (n + 1)) e
  where
    go : (m : Mark)
        → mark_of (n + 1) (set p n b) ≡ m
        → ((feed_of (set p n b) (n + 1) bs).fed.mark ≡ End → mark_of (feed_of (set p n b) (n + 1) bs).fed.held (feed_of (set p n b) (n + 1) bs).part ≡ End)
        → (after_byte m (n + 1) (set p n b) (feed_of (set p n b) (n + 1) bs)).fed.mark ≡ End
        → mark_of (after_byte m (n + 1) (set p n b) (feed_of (set p n b) (n + 1) bs)).fed.held (after_byte m (n + 1) (set p n b) (feed_of (set p n b) (n + 1) bs)).part ≡ End
    go More q ih e = unfold after_byte in ih (unfold after_byte in e)
    go Long q ih e = absurd (clash (unfold after_byte in e))
      where
        clash : Long ≡ End → ⊥
        clash e = let z : ◌≡◌ {A = ℕ} 0 1 = cc in omega arith
    go End q ih e = unfold after_byte in q

-- so it announces at most 256
marked_size : (n : ℕ) (p : List ℕ) → mark_of n p ≡ End → announced_in p ≤ 256
unfolding mark_of
marked_size n p e = by_tests (ltb n 2) (ltb 256 (announced_in p)) (ltb n (2 + announced_in p)) refl e
  where
    by_tests : (a b d : Bool) → ltb 256 (announced_in p) ≡ b → cond a More (cond b Long (cond d More End)) ≡ End → announced_in p ≤ 256
    by_tests true b d q e = let z : ◌≡◌ {A = ℕ} 0 1 = cc in absurd (omega arith)
    by_tests false true d q e = let z : ◌≡◌ {A = ℕ} 0 1 = cc in absurd (omega arith)
    by_tests false false true q e = let z : ◌≡◌ {A = ℕ} 0 1 = cc in absurd (omega arith)
    by_tests false false false q e = ltb-false 256 (announced_in p) q

-- ---- the arms of receive

module _ (p input : List ℕ) (n : ℕ) (f : Fed) (part : List ℕ) (fed : fed_in f part ≡ feed_of p n input) where
  pub end_size : f.mark ≡ End → announced_in part ≤ 256
  end_size e =
      marked_size f.held part
      (rw (← fed) at (end_marked input p n (rw (← fed) e)))

  module _ (whole : length p ≡ 258) (room : n < 258) where
    received : receive_of p n input ≡ answer_of (call_by f.mark (fed_in f part))
    unfolding receive_of
    received = rw (eq-eqb (length p) 258 whole, lt-ltb n 258 room, feed_is_call input p n, ← fed)

    pub heard_more_law : f.mark ≡ More → heard (without_packet f.taken f.held Open) part ≡ receive_of p n input
    unfolding call_by answer_of answer_by
    heard_more_law e = sym (received ∙ rw e)

    pub heard_long : f.mark ≡ Long → heard (without_packet f.taken 0 TooLong) (replicate 258 0) ≡ receive_of p n input
    unfolding call_by answer_of answer_by
    heard_long e = sym (received ∙ rw e)

    pub heard_end : f.mark ≡ End
        → length part ≡ 258
        → heard (record { taken = f.taken; held = 0; frame = Whole (kind_in (get_or part 1 0)) (announced_in part); info = padded (take (announced_in part) (drop 2 part)) }) (replicate 258 0)
        ≡ receive_of p n input
    unfolding call_by answer_of answer_by
    heard_end e l =
        sym (received ∙ rw (e, length-take-le (announced_in part) (drop 2 part) (rw (length-drop 2 part) (omega (arith, end_size e)))))

pub refused_size : (p : List ℕ) (n : ℕ) (input : List ℕ) → (length p ≡ 258 → ⊥) → heard (without_packet 0 n (Refused 33)) p ≡ receive_of p n input
unfolding receive_of
refused_size p n input h = rw (ne_eqb (length p) 258 h)

pub refused_count : (p : List ℕ) (n : ℕ) (input : List ℕ) → length p ≡ 258 → 258 ≤ n → heard (without_packet 0 n (Refused 33)) p ≡ receive_of p n input
unfolding receive_of
refused_count p n input w h = rw (eq-eqb (length p) 258 w, le-ltb n 258 h)

-- ---- information taken out of a part

drop_replicate : (n k : ℕ) → drop {A = ℕ} k (replicate n 0) ≡ replicate (n - k) 0
drop_replicate n zero = rw sub-zero
drop_replicate zero (suc k) = rw zero-sub
drop_replicate (suc n) (suc k) = drop_replicate n k ∙ ap (λ (j : ℕ). replicate j 0) (let e : n - k ≡ suc n - suc k = omega arith in e)

stored_in : (xs : List ℕ) → length xs ≤ 256 → stored_at (replicate 256 0) 0 xs ≡ padded xs
stored_in xs h =
    stored_at_law (replicate 256 0) 0 xs (rw zero-add h) ∙ sets-eq xs (replicate 256 0) 0 (rw zero-add h)
    ∙ ap (λ (l : List ℕ). xs ++ l) (rw zero-add (drop_replicate 256 (length xs)))

pub taken_out : (p : List ℕ) (size : ℕ) (info : List ℕ)
    → 2 + size ≤ length p
    → size ≤ 256
    → info ≡ stored_at (replicate 256 0) 0 (take (2 + size - 2) (drop 2 p))
    → info ≡ padded (take size (drop 2 p))
taken_out p size info h s e =
    let d : 2 + size - 2 ≡ size = omega arith in
    let l : length (take size (drop 2 p)) ≡ size = length-take-le size (drop 2 p) (rw (length-drop 2 p) (omega arith)) in
    e ∙ ap (λ (k : ℕ). stored_at (replicate 256 0) 0 (take k (drop 2 p))) d ∙ stored_in (take size (drop 2 p)) (omega arith)
