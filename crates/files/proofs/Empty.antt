-- The empty store, every block free and every word of the table 0, is sound.
use mathlib.Core.Path.{◌≡◌, refl, sym, ap, ◌∙◌, subst}
use mathlib.Core.List.{List, ◌∷◌}
use Prim.Native.Nat.{ℕ, zero, suc, ◌+◌, ◌*◌, ◌≤◌, ◌<◌}
use native.Mathlib.Omega.{arith}
use lib.ListN.{length, get_or, replicate, length-replicate, get_or-map}
use Rattle.blocks.specs.Owners.{counts_of, map_of}
use Rattle.blocks.specs.Check.{words_for}
use Rattle.blocks.proofs.Owners.{blocks_none, counts_entry}
use Rattle.blocks.proofs.Agreement.{made_agrees}
use Rattle.table.specs.declared.File.{File}
use Rattle.table.specs.Table.{no_file, files, file_at, uploaded}
use Rattle.table.specs.Fit as fit
use Rattle.files.specs.Sound.{places, Sound}

zeros_get : (n b : ℕ) → ◌≡◌ {A = ℕ} (get_or (replicate n 0) b 0) 0
zeros_get zero b = refl
zeros_get (suc n) zero = refl
zeros_get (suc n) (suc b) = zeros_get n b

none_get : (k p : ℕ) → file_at (replicate k no_file) p ≡ no_file
none_get zero p = refl
none_get (suc k) zero = refl
none_get (suc k) (suc p) = none_get k p

pub empty_files : (k : ℕ) → files (replicate (4 * k) 0) ≡ replicate k no_file
unfolding files
empty_files zero = refl
empty_files (suc k) =
    let e : 4 * suc k ≡ suc (suc (suc (suc (4 * k)))) = omega arith in
    rw e (ap (λ (fs : List File). no_file ∷ fs) (empty_files k))

module _ (n k last latest : ℕ) (most : k ≤ 256) where
  no_blocks : (p : ℕ) → p < length (replicate k no_file) → get_or (counts_of (replicate n 0)) (p + 1) 0 ≡ 0
  no_blocks p h =
      counts_entry (replicate n 0) (p + 1) (omega (arith, length-replicate k no_file))
      ∙ blocks_none (p + 1) (replicate n 0) (λ b. omega (arith, zeros_get n b))

  no_records : fit.Sound last latest (counts_of (replicate n 0)) (replicate k no_file)
  no_records =
      record {
        records = λ p h.
            record {
              free = λ z. no_blocks p h;
              file = λ z. absurd (z (ap (λ (f : File). f.number) (none_get k p)));
            };
        numbers = λ p q z e. absurd (z (get_or-map (λ (f : File). f.number) (replicate k no_file) p no_file ∙ ap (λ (f : File). f.number) (none_get k p)));
        times = λ p q z e. absurd (z (get_or-map uploaded (replicate k no_file) p no_file ∙ ap uploaded (none_get k p)));
      }

  pub empty_sound : Sound (map_of (words_for n) (replicate n 0)) (replicate n 0) (replicate (4 * k) 0) last latest
  empty_sound =
      let t : List ℕ = replicate (4 * k) 0 in
      let l : length t ≡ 4 * k = length-replicate (4 * k) 0 in
      record {
        most = omega arith;
        whole = omega arith;
        blocks = made_agrees n (places (replicate (4 * k) 0));
        files = subst (λ (fs : List File). fit.Sound last latest (counts_of (replicate n 0)) fs) (sym (empty_files k)) no_records;
      }
