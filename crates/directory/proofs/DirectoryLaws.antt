-- How many files a directory names, and where each is. Assumes nothing.
use mathlib.Core.Path.{◌≡◌, refl, ap, ◌∙◌}
use mathlib.Core.Logic.{◌≢◌}
use mathlib.Core.List.{List, [], ◌∷◌}
use Prim.Native.Nat.{ℕ, zero, suc, ◌+◌, ◌-◌, ◌≤◌, ◌<◌, min}
use native.Mathlib.Omega.{arith}
use lib.ListN.{length, get_or, take, drop, length-map, length-take, length-drop, get_or-map, get_or-eq_default}
use lib.Seq.{get_or-take, get_or-drop}
use Rattle.session.specs.declared.state.Listed.TheVariants as listed
use Rattle.table.specs.declared.File.{File}
use Rattle.std.proofs.Common.{Option, None}
use Rattle.table.specs.Table.{find_of}
use Rattle.directory.specs.Directory.{found_in}

-- a directory of one file has no second one
pub none_past_one : (f : Option ℕ) (k : ℕ) → k ≢ 0 → None ≡ get_or (f ∷ []) k None
none_past_one f zero h = absurd (h refl)
none_past_one f (suc k) h = refl

module _ (first next : ℕ) (fs : List File) (selected : List ℕ) where
  part : List ℕ
  part = take (next - first) (drop first selected)

  part_length : length part ≡ min next (length selected) - first
  unfolding part
  part_length = simp (length-take, length-drop) (omega arith)

  -- the files named are those of the selection from the first on, as far as the selection and the session's place in it go
  pub found_count : length (found_in (listed.Selected first) next fs selected) ≡ min next (length selected) - first
  unfolding found_in part
  found_count = rw length-map part_length

  found_part : (k : ℕ) → get_or (found_in (listed.Selected first) next fs selected) k None ≡ find_of fs (get_or part k 0)
  unfolding found_in part
  found_part k = get_or-map (find_of fs) (take (next - first) (drop first selected)) k 0

  pub found_within : (k : ℕ)
      → k < min next (length selected) - first
      → get_or (found_in (listed.Selected first) next fs selected) k None ≡ find_of fs (get_or selected (first + k) 0)
  unfolding part
  found_within k h =
      let inside : k < next - first = omega arith in
      found_part k ∙ ap (find_of fs) (get_or-take (next - first) (drop first selected) k 0 inside ∙ get_or-drop first selected k 0)

  pub found_past : (k : ℕ)
      → min next (length selected) - first ≤ k
      → get_or (found_in (listed.Selected first) next fs selected) k None ≡ None
  found_past k h = found_part k ∙ ap (find_of fs) (get_or-eq_default part 0 (rw part_length h))
