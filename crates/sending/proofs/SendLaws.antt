-- A DATA packet: bytes read into the front of an array of zeros, and written as a packet; what is due where there is room for it. Assumes nothing.
use Rattle.std.proofs.Common.{Result}
use mathlib.Core.Path.{◌≡◌, refl, sym, ap, ◌∙◌}
use mathlib.Core.Bool.{Bool, cond}
use mathlib.Core.List.{List, ◌∷◌, ◌++◌}
use Prim.Native.Nat.{ℕ, zero, suc, ◌+◌, ◌-◌, ◌≤◌, min}
use native.Mathlib.Omega.{arith}
use lib.Dec.{eqb}
use lib.ListN.{length, take, drop, replicate, length-append}
use lib.Seq.{length-take-le, take_at}
use borrow.Author.Tests.{le-ltb}
use Rattle.packet.specs.Packet.{packet_of, write_answer, left_in}
use Rattle.packet.proofs.PacketLaws.{accepted}
use Rattle.session.specs.declared.state.Session.{Session}
use Rattle.table.specs.declared.File.{File}
use Rattle.session.specs.declared.state.Listed.{Listed}
use Rattle.session.specs.declared.state.Downlink.TheVariants as down
use Rattle.session.specs.declared.reply.Answer.TheVariants as answer
use Rattle.session.specs.declared.reply.Reply.TheVariants.{DataEnd}
use Rattle.session.specs.State.{with_down}
use Rattle.session.specs.Reply.{answered}
use Rattle.listing.specs.Listing.{next_bytes, fill_of}
use Rattle.listing.proofs.FillLaws.{fill_bytes}
use Rattle.sending.specs.Sending.{least_of, asked, asked_of, told, listed_as, due_of, due_in}

-- the lesser of a number and 256 is the library's
pub least_is_min : (n : ℕ) → min n 256 ≡ least_of n
unfolding least_of
least_is_min n = grind arith

-- the first n of many zeros
pub zeros : (n m : ℕ) → n ≤ m → take {A = ℕ} n (replicate m 0) ≡ replicate n 0
zeros zero m h = refl
zeros (suc n) zero h = absurd (omega arith)
zeros (suc n) (suc m) h = ap (λ (l : List ℕ). 0 ∷ l) (zeros n m (omega arith))

pub zeros_length : (n : ℕ) → n ≤ 256 → n ≡ length (take {A = ℕ} n (replicate 256 0))
zeros_length n h = sym (length-take-le n (replicate 256 0) h)

module _ (n : ℕ) (last : List ℕ) (h : n ≤ 256) (kept : length last ≡ length (take {A = ℕ} n (replicate 256 0))) where
  size : length last ≡ n
  size = kept ∙ sym (zeros_length n h)

  pub front_within : n ≤ length (last ++ drop n (replicate 256 0))
  front_within = rw (length-append last (drop n (replicate 256 0)), size) (omega arith)

  pub front_length : n ≡ length (take n (last ++ drop n (replicate 256 0)))
  front_length = sym (length-take-le n (last ++ drop n (replicate 256 0)) front_within)

  front : take n (last ++ drop n (replicate 256 0)) ≡ last
  front = take_at last (drop n (replicate 256 0)) n size

  -- the packet that goes out
  pub data_sent : (out out' : List ℕ) (r : Result ℕ ℕ)
      → 258 ≤ length out
      → r ≡ write_answer 0 (take n (last ++ drop n (replicate 256 0))) out
      → out' ≡ left_in r 0 (take n (last ++ drop n (replicate 256 0))) out
      → out' ≡ packet_of 0 last ++ drop (2 + n) out
  data_sent out out' r room e left =
      left ∙ rw (e, front, ← accepted 0 last out (omega arith) (omega (arith, size)) (omega (arith, size))) (unfold left_in in rw size)

-- the first n of 256 bytes as a packet
module _ (n : ℕ) (bytes : List ℕ) (h : n ≤ 256) (whole : length bytes ≡ 256) where
  filled_size : length (take n bytes) ≡ n
  filled_size = length-take-le n bytes (omega (arith, whole))

  pub filled_length : n ≡ length (take n bytes)
  filled_length = sym filled_size

  pub filled_sent : (out out' : List ℕ) (r : Result ℕ ℕ)
      → 258 ≤ length out
      → r ≡ write_answer 0 (take n bytes) out
      → out' ≡ left_in r 0 (take n bytes) out
      → out' ≡ packet_of 0 (take n bytes) ++ drop (2 + n) out
  filled_sent out out' r room e left =
      left
      ∙ rw (e, ← accepted 0 (take n bytes) out (omega arith) (omega (arith, filled_size)) (omega (arith, filled_size)))
      (unfold left_in in rw filled_size)

-- in an output with room for every packet nothing is refused
pub due_fits : (s : Session) (disk owner : List ℕ) (fs : List File) (selected out : List ℕ)
    → 258 ≤ length out
    → due_in s disk owner fs selected out ≡ due_of s.down s disk owner fs selected out
unfolding due_in
due_fits s disk owner fs selected out h = rw (le-ltb (length out) 258 h)

-- a directory's next packet: DATA with the next bytes of its entries, or DATA_END
pub listing_bytes : (s : Session) (listed : Listed) (long : Bool) (es : List (List ℕ)) (done sent : ℕ) (out : List ℕ)
    → listed_as s listed long (fill_of es done sent) out
    ≡ cond (eqb (fill_of es done sent).size 0) (told (with_down s down.Idle) (answered DataEnd 0 out))
    (asked (asked_of (with_down s (down.Listing listed long (fill_of es done sent).done (fill_of es done sent).sent)) (answer.Sent 0 (2 + (fill_of es done sent).size)))
    (packet_of 0 (next_bytes es done sent) ++ drop (2 + (fill_of es done sent).size) out))
unfolding listed_as
listing_bytes s listed long es done sent out = rw (fill_bytes es done sent)
