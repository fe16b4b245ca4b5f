-- The server's call in two parts: bytes that are handed over, and the calls that hand over nothing. Assumes nothing.
use Rattle.std.proofs.Common.{Option, None, Some}
use native.Mathlib.Omega.{arith}
use mathlib.Core.Path.{◌≡◌, refl, ap}
use mathlib.Core.Bool.{Bool, true, false, cond}
use mathlib.Core.List.{List}
use Prim.Native.Nat.{ℕ, ◌-◌, ◌≤◌}
use lib.Dec.{ltb}
use lib.ListN.{length, take, drop}
use borrow.Author.Tests.{ltb-true}
use Rattle.server.specs.declared.Server.{Server}
use Rattle.server.specs.State.{Lent, Outcome}
use Rattle.server.specs.Calls.{receive_by}
use Rattle.script.specs.declared.doing.Doing.{Doing}
use Rattle.script.specs.declared.doing.Doing.TheVariants as doing
use Rattle.script.specs.Calling.{hear_of, heard_of, still_of, call_of}
use Rattle.input.proofs.PartLaws.{bytes_part}

-- a call over a part of the line is the call for the line's bytes
hear_part : (sv : Server) (clock session at n : ℕ) (bytes : List ℕ) (l : Lent) (out : List ℕ) (e a : ℕ)
    → e ≡ cond (ltb n (length bytes)) n (length bytes) → a ≡ cond (ltb at e) at e
    → receive_by true sv l out session clock (take (e - a) (drop a bytes)) ≡ hear_of sv clock session at n bytes l out
unfolding hear_of
hear_part sv clock session at n bytes l out e a p q = ap (λ (b : List ℕ). receive_by true sv l out session clock b) (bytes_part bytes at n e a p q)

cut_fits : (a b : ℕ) → cond (ltb a b) a b ≤ b
cut_fits a b = go (ltb a b) refl
  where
    go : (t : Bool) → ltb a b ≡ t → cond t a b ≤ b
    go true e = omega (arith, ltb-true a b e)
    go false e = omega arith

-- a part of the line lies in what is lent
part_fits : (h : Option (ℕ × ℕ × ℕ)) (at end s a e size : ℕ) → end ≤ size → h ≡ Some (s, cond (ltb at end) at end, end) → h ≡ Some (s, a, e)
    → (a ≤ e) × (e ≤ size)
part_fits h at end s a e size f p q =
    let t : ◌≡◌ {A = ℕ × ℕ × ℕ} (s, cond (ltb at end) at end, end) (s, a, e) = cc in
    let i : end ≡ e = ap (λ (x : ℕ × ℕ × ℕ). x.2) t in
    let j : cond (ltb at end) at end ≡ a = ap (λ (x : ℕ × ℕ × ℕ). x.1) t in
    (omega (arith, i, j, cut_fits at end), omega (arith, i, f))

pub heard_fits : (h : Option (ℕ × ℕ × ℕ)) (d : Doing) (size s a e : ℕ) → h ≡ heard_of d size → h ≡ Some (s, a, e) → (a ≤ e) × (e ≤ size)
unfolding heard_of
heard_fits h doing.Rest size s a e p q = let z : ◌≡◌ {A = ℕ} 0 1 = cc in (omega arith, omega arith)
heard_fits h (doing.Opening session) size s a e p q = let z : ◌≡◌ {A = ℕ} 0 1 = cc in (omega arith, omega arith)
heard_fits h (doing.Dropping session) size s a e p q = let z : ◌≡◌ {A = ℕ} 0 1 = cc in (omega arith, omega arith)
heard_fits h (doing.Hearing session at n) size s a e p q =
    let t : ◌≡◌ {A = ℕ × ℕ × ℕ} (session, cond (ltb at (cond (ltb n size) n size)) at (cond (ltb n size) n size), cond (ltb n size) n size) (s, a, e) = cc in
    let i : session ≡ s = ap (λ (x : ℕ × ℕ × ℕ). x.0) t in
    part_fits h at (cond (ltb n size) n size) s a e size (cut_fits n size) (rw (← i) p) q
heard_fits h (doing.Pumping session) size s a e p q = let z : ◌≡◌ {A = ℕ} 0 1 = cc in (omega arith, omega arith)

-- all else hands over nothing
pub heard_none : (d : Doing) (size : ℕ) → ((session at n : ℕ) → d ≡ doing.Hearing session at n → ⊥) → None ≡ heard_of d size
unfolding heard_of
heard_none doing.Rest size h = refl
heard_none (doing.Opening session) size h = refl
heard_none (doing.Dropping session) size h = refl
heard_none (doing.Hearing session at n) size h = absurd (h session at n refl)
heard_none (doing.Pumping session) size h = refl

-- handing over that part is the call
module _ (sv : Server) (clock : ℕ) (bytes : List ℕ) (l : Lent) (out : List ℕ) where
  pub heard_call : (h : Option (ℕ × ℕ × ℕ)) (d : Doing) (s a e : ℕ) → h ≡ heard_of d (length bytes) → h ≡ Some (s, a, e)
      → receive_by true sv l out s clock (take (e - a) (drop a bytes)) ≡ call_of sv clock d bytes l out
  unfolding heard_of call_of
  heard_call h doing.Rest s a e p q = let z : ◌≡◌ {A = ℕ} 0 1 = cc in cc
  heard_call h (doing.Opening session) s a e p q = let z : ◌≡◌ {A = ℕ} 0 1 = cc in cc
  heard_call h (doing.Dropping session) s a e p q = let z : ◌≡◌ {A = ℕ} 0 1 = cc in cc
  heard_call h (doing.Hearing session at n) s a e p q =
      let t : ◌≡◌ {A = ℕ × ℕ × ℕ} (s, a, e) (session, cond (ltb at (cond (ltb n (length bytes)) n (length bytes))) at (cond (ltb n (length bytes)) n (length bytes)), cond (ltb n (length bytes)) n (length bytes)) = cc in
      let i : s ≡ session = ap (λ (x : ℕ × ℕ × ℕ). x.0) t in
      let j : e ≡ cond (ltb n (length bytes)) n (length bytes) = ap (λ (x : ℕ × ℕ × ℕ). x.2) t in
      let k : a ≡ cond (ltb at (cond (ltb n (length bytes)) n (length bytes))) at (cond (ltb n (length bytes)) n (length bytes)) = ap (λ (x : ℕ × ℕ × ℕ). x.1) t in
      rw i (hear_part sv clock session at n bytes l out e a j (rw j k))
  heard_call h (doing.Pumping session) s a e p q = let z : ◌≡◌ {A = ℕ} 0 1 = cc in cc

  -- with nothing to hand over, the other calls are all there is
  pub still_is_call : (o : Outcome) (h : Option (ℕ × ℕ × ℕ)) (d : Doing) → h ≡ heard_of d (length bytes) → h ≡ None → o ≡ still_of sv clock d l out
      → o ≡ call_of sv clock d bytes l out
  unfolding heard_of still_of call_of
  still_is_call o h doing.Rest p q r = r
  still_is_call o h (doing.Opening session) p q r = r
  still_is_call o h (doing.Dropping session) p q r = r
  still_is_call o h (doing.Hearing session at n) p q r = let z : ◌≡◌ {A = ℕ} 0 1 = cc in cc
  still_is_call o h (doing.Pumping session) p q r = r
