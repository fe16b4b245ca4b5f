-- Laws on the names of the packet types. Assumes nothing.
use mathlib.Core.Path.{◌≡◌, refl}
use mathlib.Core.List.{List, [], ◌∷◌, map}
use Prim.Native.Nat.{ℕ, zero, suc, ◌≤◌, ◌<◌}
use Prim.Native.String.{String}
use native.Mathlib.Omega.{arith}
use lib.ListN.{length, get_or, replicate, get_or-eq_default, get_or-map}
use Rattle.packet.specs.Names.{named, name_of, names, bytes_of, in17}

-- a type above 17 has no name
no_name : (kind : ℕ) → 17 < kind → name_of kind ≡ []
unfolding name_of names bytes_of
no_name kind h = rw (get_or-eq_default names "" {n = kind} (omega arith))

pub unnamed : (kind : ℕ) → 17 < kind → named kind ≡ record { bytes = replicate 17 0; size = 0 }
unfolding named
unnamed kind h = rw (no_name kind h)

-- a row of the two tables
unfoldable pub row : String → List ℕ
row s = in17 (bytes_of s)

unfoldable pub size : String → ℕ
size s = length (bytes_of s)

-- what stands past the end does not matter within
within : {A : Type 0} (l : List A) (n : ℕ) (d e : A) → n < length l → get_or l n d ≡ get_or l n e
within [] n d e h = absurd (omega arith)
within (x ∷ l) zero d e h = refl
within (x ∷ l) (suc n) d e h = within l n d e (omega arith)

pub rows : (kind : ℕ) → kind ≤ 17 → record { bytes = get_or (map row names) kind []; size = get_or (map size names) kind 0 } ≡ named kind
unfolding named name_of
rows kind h =
    rw (
      within (map row names) kind [] (row "") (unfold names in omega arith),
      get_or-map row names kind "",
      within (map size names) kind 0 (size "") (unfold names in omega arith),
      get_or-map size names kind "",
    )
    (unfold row size in refl)
