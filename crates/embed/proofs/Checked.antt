-- What a call that goes through has been lent, and numbers written at the front of a slice.
use Rattle.std.specs.Prelude.{⊤, Result, Ok, Err}
use mathlib.Core.Path.{◌≡◌, refl, ap, ◌∙◌}
use mathlib.Core.Bool.{Bool, true, false, cond}
use mathlib.Core.List.{List, [], ◌∷◌, ◌++◌}
use Prim.Native.Nat.{ℕ, ◌+◌, ◌≤◌}
use native.Mathlib.Omega.{arith}
use lib.ListN.{length, set, take, drop}
use lib.Seq.{sets, sets-eq, take_all}
use lib.ListN.{length-take}
use native.Mathlib.Nat.{min-le_left}
use Rattle.blocks.specs.FreeMap.{free_count}
use Rattle.server.specs.declared.Server.{Server}
use Rattle.server.specs.State.{words}
use Rattle.server.specs.Check.{sizes_fit}
use Rattle.server.proofs.CheckLaws.{sizes_true, both_true}
use lib.Dec.{ltb}
use borrow.Author.Tests.{ltb-false, leb-true}
use Rattle.embed.specs.Words.{is_state, ready_of}
use Rattle.embed.specs.Calls.{with_counts, map_fits}

-- room for the words, for the counts and for all else, and words that are a state
pub record GoesThrough (fit : Bool) (state : List ℕ) (counts : ℕ) : Type 0 where
  pub room : 54 ≤ length state
  pub two : 2 ≤ counts
  pub fits : fit ≡ true
  pub words : is_state state ≡ true

abbrev refused : Result ⊤ ℕ → ℕ
refused (Ok done) = 0
refused (Err n) = 1

pub ready_go : (fit : Bool) (state : List ℕ) (counts : ℕ) → ready_of fit state counts ≡ Ok tt → GoesThrough fit state counts
unfolding ready_of
ready_go fit state counts e = go (ltb (length state) 54) refl (ltb counts 2) refl fit refl (is_state state) refl e
  where
    clash : {n : ℕ} → ◌≡◌ {A = Result ⊤ ℕ} (Err n) (Ok tt) → ⊥
    clash e = let z : ◌≡◌ {A = ℕ} 1 0 = ap refused e in omega arith

    go : (a : Bool) → ltb (length state) 54 ≡ a → (b : Bool) → ltb counts 2 ≡ b → (f : Bool) → fit ≡ f → (d : Bool) → is_state state ≡ d
        → cond {A = Result ⊤ ℕ} a (Err 33) (cond b (Err 33) (cond f (cond d (Ok tt) (Err 35)) (Err 33))) ≡ Ok tt
        → GoesThrough fit state counts
    go true p b q f o d r e = absurd (clash e)
    go false p true q f o d r e = absurd (clash e)
    go false p false q false o d r e = absurd (clash e)
    go false p false q true o false r e = absurd (clash e)
    go false p false q true o true r e =
        record { room = ltb-false (length state) 54 p; two = ltb-false counts 2 q; fits = o; words = r }

-- a server whose map fits: its sizes are in the table, and the map has room
pub record MapRoom (sv : Server) (map : ℕ) : Type 0 where
  pub blocks : sv.blocks ≤ 4096
  pub room : words sv.blocks ≤ map

pub map_fits_law : (sv : Server) (map : ℕ) → map_fits sv map ≡ true → MapRoom sv map
unfolding map_fits
map_fits_law sv map e =
    let b = both_true (sizes_fit sv.blocks sv.files sv.sessions sv.most) _ e in
    record { blocks = (sizes_true _ _ _ _ b.0).blocks; room = leb-true _ _ b.1 }

-- numbers written at the front
front : (vs l : List ℕ) → length vs ≤ length l → sets l 0 vs ≡ vs ++ drop (length vs) l
front vs l h = let z : 0 + length vs ≡ length vs = omega arith in sets-eq vs l 0 (omega (arith, h)) ∙ ap (λ (k : ℕ). vs ++ drop k l) z

pub two_counts : (l : List ℕ) (a b : ℕ) → 2 ≤ length l → set (set l 0 a) 1 b ≡ with_counts a b l
two_counts l a b h = front (a ∷ b ∷ []) l h

pub seven_needs : (l : List ℕ) (a b c d e f g : ℕ) → 7 ≤ length l
    → set (set (set (set (set (set (set l 0 a) 1 b) 2 c) 3 d) 4 e) 5 f) 6 g ≡ (a ∷ b ∷ c ∷ d ∷ e ∷ f ∷ g ∷ []) ++ drop 7 l
seven_needs l a b c d e f g h = front (a ∷ b ∷ c ∷ d ∷ e ∷ f ∷ g ∷ []) l h

-- a map of at most 4,096 blocks has at most 64 words
pub free_part : (b : ℕ) (map : List ℕ) → b ≤ 4096 → free_count (take 64 (take (words b) map)) ≡ free_count (take (words b) map)
free_part b map h =
    ap free_count (take_all 64 (take (words b) map) (omega (arith, h, length-take (words b) map, min-le_left (words b) (length map))))
