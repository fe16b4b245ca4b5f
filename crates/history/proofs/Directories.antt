-- The files that a directory names are complete ones, and a change of any other file leaves them: they are found where they were, and each is as long.
use mathlib.Core.Path.{◌≡◌, refl, sym, ap, ap₂, subst}
use mathlib.Core.List.{List, [], ◌∷◌, map}
use Prim.Native.Nat.{ℕ, zero, suc, ◌-◌, ◌≤◌, ◌<◌}
use native.Mathlib.Omega.{arith}
use lib.ListN.{length, length-take, get_or, take, drop}
use lib.Seq.{get_or-take, get_or-drop}
use Rattle.session.specs.declared.state.Listed.{Listed}
use Rattle.session.specs.declared.state.Listed.TheVariants as listed
use Rattle.table.specs.declared.File.{File}
use Rattle.std.proofs.Common.{Option, Some, None}
use Rattle.table.specs.Table.{file_at, find_of}
use Rattle.directory.specs.Directory.{found_in}
use Rattle.links.specs.Sound.{size_in}
use Rattle.links.proofs.Facts.{CompleteAt, ListingAt, Selectable}

-- what is found is a complete file
abbrev pub CompleteIn : List File → Option ℕ → Type 0
CompleteIn fs None = Unit {0}
CompleteIn fs (Some place) = CompleteAt fs place

-- each of these numbers is that of a complete file
abbrev pub AllNamed : List File → List ℕ → Type 0
AllNamed fs ns = (k : ℕ) → k < length ns → Selectable fs (get_or ns k 0)

all_complete : (fs : List File) (ns : List ℕ) → AllNamed fs ns → (d : ℕ) → CompleteIn fs (get_or (map (find_of fs) ns) d None)
all_complete fs [] f d = tt
all_complete fs (n ∷ ns) f zero =
    let h = f 0 (omega arith) in subst (λ (x : Option ℕ). CompleteIn fs x) (sym h.found) h.complete
all_complete fs (n ∷ ns) f (suc d) = all_complete fs ns (λ k h. f (suc k) (omega arith)) d

-- a session's selection, its place in it, and the files of a directory
module _ (fs : List File) (selected : List ℕ) (count next : ℕ) (few : next ≤ count)
    (names : (k : ℕ) → k < count → Selectable fs (get_or selected k 0)) where
  -- the numbers of the selection that a directory passed
  pub passed_named : (first : ℕ) → AllNamed fs (take (next - first) (drop first selected))
  passed_named first k h =
      let l : k < next - first = omega (arith, length-take (next - first) (drop first selected)) in
      rw (get_or-take (next - first) (drop first selected) k 0 l, get_or-drop first selected k 0) (names _ (omega arith))

  pub listed_complete : (l : Listed) → ((place : ℕ) → l ≡ listed.One place → CompleteAt fs place) → (d : ℕ)
      → CompleteIn fs (get_or (found_in l next fs selected) d None)
  unfolding found_in
  listed_complete (listed.One place) one zero = one place refl
  listed_complete (listed.One place) one (suc d) = tt
  listed_complete (listed.Selected first) one d = all_complete fs (take (next - first) (drop first selected)) (passed_named first) d

  -- other files, in which the complete ones stand and are found as before
  module _ (fs' : List File) (kept : (q : ℕ) → CompleteAt fs q → file_at fs' q ≡ file_at fs q)
      (found : (n : ℕ) → Selectable fs n → find_of fs' n ≡ find_of fs n) where
    all_found : (ns : List ℕ) → AllNamed fs ns → map (find_of fs') ns ≡ map (find_of fs) ns
    all_found [] f = refl
    all_found (n ∷ ns) f =
        ap₂ (λ (x : Option ℕ) (xs : List (Option ℕ)). x ∷ xs) (found n (f 0 (omega arith))) (all_found ns (λ k h. f (suc k) (omega arith)))

    pub found_still : (l : Listed) → found_in l next fs' selected ≡ found_in l next fs selected
    unfolding found_in
    found_still (listed.One place) = refl
    found_still (listed.Selected first) = all_found (take (next - first) (drop first selected)) (passed_named first)

    size_still : (f : Option ℕ) → CompleteIn fs f → size_in fs' f ≡ size_in fs f
    unfolding size_in
    size_still None c = refl
    size_still (Some place) c = ap (λ (g : File). g.size) (kept place c)

    pub listing_still : ((q : ℕ) → CompleteAt fs q → CompleteAt fs' q) → (l : Listed) (done sent : ℕ) → ListingAt fs selected next l done sent
        → ListingAt fs' selected next l done sent
    listing_still still l done sent h =
        record {
          one = λ place e. still place (h.one place e);
          come = rw (found_still l) h.come;
          within =
              rw (found_still l, size_still (get_or (found_in l next fs selected) done None) (listed_complete l h.one done)) h.within;
        }
