-- Laws on packets written and read. Assumes nothing.
use Rattle.std.proofs.Common.{Ok, Err, Result}
use mathlib.Core.Path.{◌≡◌, refl, sym, ap, subst, ◌∙◌}
use mathlib.Core.Bool.{Bool, true, false, cond}
use mathlib.Core.List.{List, [], ◌∷◌, ◌++◌}
use Prim.Native.Nat.{ℕ, ◌+◌, ◌*◌, ◌/◌, ◌%◌, ◌-◌, ◌≤◌, ◌<◌}
use native.Mathlib.Omega.{arith}
use native.Mathlib.Nat.{add-mul-mod_self_left, mod-eq_of_lt}
use borrow.Author.Tests.{lt-ltb, le-ltb, ltb-false}
use lib.Dec.{ltb}
use lib.ListN.{length, take, drop, get_or, set, length-append}
use lib.Seq.{sets-eq, drop-drop, take-append_seam, take-add, length-take-le}
use Rattle.numbers.specs.Numbers.{stored_at}
use Rattle.numbers.proofs.NumberLaws.{stored_at_law}
use Rattle.packet.specs.Packet.{packet_of, announced, kind_in, write_answer, left_in, read_answer}

-- ---- the reader, by the first two bytes

pub read_short : (l : List ℕ) → length l < 2 → Err 33 ≡ read_answer l
unfolding read_answer
read_short [] h = refl
read_short (a ∷ []) h = refl
read_short (a ∷ b ∷ bs) h = absurd (omega arith)

pub read_by : (l : List ℕ)
    → 2 ≤ length l
    → read_answer l
    ≡ cond (ltb 17 (kind_in (get_or l 1 0))) (Err 33)
    (cond (ltb (length l - 2) (announced (get_or l 0 0) (get_or l 1 0))) (Err 33)
    (Ok (kind_in (get_or l 1 0), announced (get_or l 0 0) (get_or l 1 0))))
unfolding read_answer
read_by [] h = absurd (omega arith)
read_by (a ∷ []) h = absurd (omega arith)
read_by (a ∷ b ∷ bs) h = let e : length (a ∷ b ∷ bs) - 2 ≡ length bs = omega arith in rw e

-- ---- the writer

-- two bytes and then the information, stored at the front of a list that has room
pub stored_packet : (kind : ℕ) (info out : List ℕ)
    → 2 + length info ≤ length out
    → stored_at (set (set out 0 (length info % 256)) 1 (kind + 32 * (length info / 256))) 2 info
    ≡ packet_of kind info ++ drop (2 + length info) out
unfolding packet_of
stored_packet kind info [] h = absurd (omega arith)
stored_packet kind info (a ∷ []) h = absurd (omega arith)
stored_packet kind info (a ∷ b ∷ out) h =
    rw (stored_at_law _ 2 info h, sets-eq info _ 2 h, ← drop-drop (length info) 2 (a ∷ b ∷ out), ← drop-drop (length info) 2 (length info % 256 ∷ (kind + 32 * (length info / 256)) ∷ out))

module _ (kind : ℕ) (info out : List ℕ) where
  pub refused_kind : 17 < kind → Err 33 ≡ write_answer kind info out
  unfolding write_answer
  refused_kind h = simp (lt-ltb _ _ h)

  module _ (k : kind ≤ 17) where
    pub refused_long : 2047 < length info → Err 33 ≡ write_answer kind info out
    unfolding write_answer
    refused_long h = simp (le-ltb _ _ k, lt-ltb _ _ h)

    module _ (n : length info ≤ 2047) where
      pub refused_room : length out < 2 + length info → Err 32 ≡ write_answer kind info out
      unfolding write_answer
      refused_room h = simp (le-ltb _ _ k, le-ltb _ _ n, lt-ltb _ _ h)

      pub accepted : 2 + length info ≤ length out → Ok (2 + length info) ≡ write_answer kind info out
      unfolding write_answer
      accepted h = simp (le-ltb _ _ k, le-ltb _ _ n, le-ltb _ _ h)

-- ---- THEOREMS: a packet written reads back as itself, and what the reader accepts is what the writer writes

head_length : (n : ℕ) → n < 2048 → n % 256 + 256 * (n / 256) ≡ n
head_length n h = omega arith

head_kind : (kind high : ℕ) → kind ≤ 17 → (kind + 32 * high) % 32 ≡ kind
head_kind kind high h = add-mul-mod_self_left kind 32 high ∙ mod-eq_of_lt (omega arith)

head_high : (kind high : ℕ) → kind ≤ 17 → (kind + 32 * high) / 32 ≡ high
head_high kind high h = omega arith

-- bytes after the packet are not looked at
pub reads_back : (kind : ℕ) (info rest : List ℕ)
    → kind ≤ 17
    → length info ≤ 2047
    → read_answer (packet_of kind info ++ rest) ≡ Ok (kind, length info)
unfolding packet_of read_answer
reads_back kind info rest k n =
    rw (
      head_kind kind (length info / 256) k,
      head_high kind (length info / 256) k,
      head_length (length info) (omega arith),
      length-append info rest,
      le-ltb 17 kind k,
      le-ltb (length info + length rest) (length info) (omega arith),
    )

-- .. and the information is the one written
pub info_back : (kind : ℕ) (info rest : List ℕ) → take (length info) (drop 2 (packet_of kind info ++ rest)) ≡ info
unfolding packet_of
info_back kind info rest = take-append_seam info rest

-- a packet that the writer wrote, at the front of the output as it left it
pub written_reads_back : (kind : ℕ) (info out : List ℕ)
    → kind ≤ 17
    → length info ≤ 2047
    → 2 + length info ≤ length out
    → read_answer (left_in (write_answer kind info out) kind info out) ≡ Ok (kind, length info)
written_reads_back kind info out k n h =
    rw (← accepted kind info out k n h) (unfold left_in in reads_back kind info (drop (2 + length info) out) k n)

-- the two bytes of an accepted packet are those that the writer makes of its type and length
first_byte : (a b : ℕ) → a < 256 → (a + 256 * (b / 32)) % 256 ≡ a
first_byte a b h = add-mul-mod_self_left a 256 (b / 32) ∙ mod-eq_of_lt h

second_byte : (a b : ℕ) → a < 256 → b % 32 + 32 * ((a + 256 * (b / 32)) / 256) ≡ b
second_byte a b h =
    let q : (a + 256 * (b / 32)) / 256 ≡ b / 32 = omega arith in rw q (omega arith)

-- the packet that an accepted answer names
pub record Accepted (l : List ℕ) (kind n : ℕ) : Type 0 where
  pub small : kind ≤ 17
  pub most : n ≤ 2047
  pub room : 2 + n ≤ length l
  pub same : take (2 + n) l ≡ packet_of kind (take n (drop 2 l))

accepted_by : (a b n : ℕ) (bs : List ℕ)
    → a < 256
    → b < 256
    → n ≡ announced a b
    → kind_in b ≤ 17
    → n ≤ length bs
    → Accepted (a ∷ b ∷ bs) (kind_in b) n
accepted_by a b n bs ha hb e k h =
    record {
      small = k;
      most = omega arith;
      room = omega arith;
      same =
          unfold packet_of in
          rw (take-add 2 n (a ∷ b ∷ bs), length-take-le n bs h, e, first_byte a b ha, second_byte a b ha);
    }

pub clash : (r k n : ℕ) → ◌≡◌ {A = Result (ℕ × ℕ) ℕ} (Err r) (Ok (k, n)) → ⊥
clash r k n e = let z : ◌≡◌ {A = ℕ} 0 1 = cc in omega arith

pub whatever_is_read : (l : List ℕ) (kind n : ℕ)
    → ((k : ℕ) → get_or l k 0 < 256)
    → read_answer l ≡ Ok (kind, n)
    → Accepted l kind n
whatever_is_read [] kind n small e = absurd (clash 33 kind n (unfold read_answer in e))
whatever_is_read (a ∷ []) kind n small e = absurd (clash 33 kind n (unfold read_answer in e))
whatever_is_read (a ∷ b ∷ bs) kind n small e = go (ltb 17 (kind_in b)) refl (ltb (length bs) (announced a b)) refl (unfold read_answer in e)
  where
    go : (t : Bool) → ltb 17 (kind_in b) ≡ t → (u : Bool) → ltb (length bs) (announced a b) ≡ u
        → cond {A = Result (ℕ × ℕ) ℕ} t (Err 33) (cond u (Err 33) (Ok (kind_in b, announced a b))) ≡ Ok (kind, n)
        → Accepted (a ∷ b ∷ bs) kind n
    go true p u q e = absurd (clash 33 kind n e)
    go false p true q e = absurd (clash 33 kind n e)
    go false p false q e =
        let same : ◌≡◌ {A = ℕ × ℕ} (kind_in b, announced a b) (kind, n) = cc in
        let ek : kind_in b ≡ kind = ap (λ (x : ℕ × ℕ). x.0) same in
        let en : n ≡ announced a b = sym (ap (λ (x : ℕ × ℕ). x.1) same) in
        subst (λ (k : ℕ). Accepted (a ∷ b ∷ bs) k n) ek
        (accepted_by a b n bs (small 0) (small 1) en (ltb-false 17 (kind_in b) p) (rw en (ltb-false (length bs) (announced a b) q)))
