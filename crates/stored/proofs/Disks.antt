-- A disk is what the blocks of each owner hold and what is past the last block; so writing parts of a file one after the other leaves the
-- disk that storing the whole file leaves. Assumes nothing.
use mathlib.Core.Path.{◌≡◌, refl, sym, ap, ap₂, ◌∙◌}
use mathlib.Core.Bool.{Bool, true, false, cond}
use mathlib.Core.List.{List, [], ◌∷◌, ◌++◌}
use Prim.Native.Nat.{ℕ, suc, ◌+◌, ◌*◌, ◌≤◌}
use native.Mathlib.Omega.{arith}
use lib.Dec.{eqb}
use lib.ListN.{length, set, take, drop, length-drop, take-append-drop}
use lib.Seq.{length-take-le, take_at, drop_at, drop-drop, drop-set-lt, sets}
use borrow.Author.Tests.{eq-eqb, eqb-true, eqb-false, le-leb}
use Rattle.numbers.specs.Numbers.{stored_at}
use Rattle.numbers.proofs.NumberLaws.{stored_at_law}
use Rattle.blocks.specs.Owners.{blocks}
use Rattle.blocks.specs.Contents.{held, contents, stored}
use Rattle.blocks.specs.Answers.{disk_fits, window_number, write_disk}
use Rattle.blocks.proofs.Answers.{done}
use Rattle.blocks.proofs.Held.{length_held, length_stored, held_stored, held_unstored, past_stored, append_contents, write_contents}

-- ---- disks that hold the same are the same

-- an owner's first block, and the rest
module _ (v o : ℕ) (os d e : List ℕ) (p : 256 ≤ length d) (q : 256 ≤ length e) where
  same_block : o ≡ v → held v (o ∷ os) d ≡ held v (o ∷ os) e → take 256 d ≡ take 256 e
  unfolding held
  same_block s h =
      let k = rw (eq-eqb o v s) at h in
      sym (take_at (take 256 d) (held v os (drop 256 d)) 256 (length-take-le 256 d p)) ∙ ap (take 256) k
      ∙ take_at (take 256 e) (held v os (drop 256 e)) 256 (length-take-le 256 e q)

  same_rest : held v (o ∷ os) d ≡ held v (o ∷ os) e → held v os (drop 256 d) ≡ held v os (drop 256 e)
  unfolding held
  same_rest h = go (eqb o v) h
    where
      go : (t : Bool) → cond t (take 256 d) [] ++ held v os (drop 256 d) ≡ cond t (take 256 e) [] ++ held v os (drop 256 e)
          → held v os (drop 256 d) ≡ held v os (drop 256 e)
      go true h =
          sym (drop_at (take 256 d) (held v os (drop 256 d)) 256 (length-take-le 256 d p)) ∙ ap (drop 256) h
          ∙ drop_at (take 256 e) (held v os (drop 256 e)) 256 (length-take-le 256 e q)
      go false h = h

past_block : (n : ℕ) (d : List ℕ) → drop (256 * n) (drop 256 d) ≡ drop (256 * suc n) d
past_block n d = let e : 256 + 256 * n ≡ 256 * suc n = omega arith in drop-drop (256 * n) 256 d ∙ ap (λ (k : ℕ). drop k d) e

pub same_disk : (owner d e : List ℕ) → 256 * length owner ≤ length d → 256 * length owner ≤ length e
    → ((u : ℕ) → held u owner d ≡ held u owner e) → drop (256 * length owner) d ≡ drop (256 * length owner) e → d ≡ e
same_disk [] d e p q h k = k
same_disk (o ∷ os) d e p q h k =
    let p' : 256 ≤ length d = omega arith in
    let q' : 256 ≤ length e = omega arith in
    sym (take-append-drop 256 d)
    ∙ ap₂ (λ (x y : List ℕ). x ++ y) (same_block o o os d e p' q' refl (h o))
    (same_disk os (drop 256 d) (drop 256 e) (rw length-drop (omega arith)) (rw length-drop (omega arith))
    (λ u. same_rest u o os d e p' q' (h u)) (past_block (length os) d ∙ k ∙ sym (past_block (length os) e)))
    ∙ take-append-drop 256 e

-- ---- a disk on which one file is changed

-- the first n bytes that owner v holds are now the file; all else is as before
pub record Changed (disk owner disk' : List ℕ) (v n : ℕ) (file : List ℕ) : Type 0 where
  pub size : length disk' ≡ length disk
  pub own : contents v owner disk' n ≡ file
  pub tail : drop n (held v owner disk') ≡ drop n (held v owner disk)
  pub others : (u : ℕ) → (u ≡ v → ⊥) → held u owner disk' ≡ held u owner disk
  pub past : drop (256 * length owner) disk' ≡ drop (256 * length owner) disk

drop_sets : (n : ℕ) (l : List ℕ) (i : ℕ) (xs : List ℕ) → i + length xs ≤ n → drop n (sets l i xs) ≡ drop n l
drop_sets n l i [] h = refl
drop_sets n l i (x ∷ xs) h = drop_sets n (set l i x) (suc i) xs (omega arith) ∙ drop-set-lt n l i x (omega arith)

-- only one disk is so changed
pub changed_one : (disk owner d e : List ℕ) (v n : ℕ) (file : List ℕ) → 256 * length owner ≤ length disk
    → Changed disk owner d v n file → Changed disk owner e v n file → d ≡ e
changed_one disk owner d e v n file fits a b =
    let p = a.size in
    let q = b.size in
    same_disk owner d e (omega arith) (omega arith) (λ u. go u (eqb u v) refl) (a.past ∙ sym b.past)
  where
    go : (u : ℕ) (t : Bool) → eqb u v ≡ t → held u owner d ≡ held u owner e
    go u true s =
        rw (eqb-true u v s)
        (sym (take-append-drop n (held v owner d)) ∙ ap₂ (λ (x y : List ℕ). x ++ y) (a.own ∙ sym b.own) (a.tail ∙ sym b.tail)
        ∙ take-append-drop n (held v owner e))
    go u false s = a.others u (eqb-false u v s) ∙ sym (b.others u (eqb-false u v s))

-- the whole file stored
pub stored_changed : (disk owner : List ℕ) (v n : ℕ) (file : List ℕ) → 256 * length owner ≤ length disk → length file ≡ n → n ≤ 256 * blocks v owner
    → Changed disk owner (stored v owner disk 0 file) v n file
stored_changed disk owner v n file fits l room =
    let h : 0 + length file ≤ 256 * blocks v owner = omega arith in
    let e : n ≡ 0 + length file = omega arith in
    record {
      size = length_stored v owner disk 0 file;
      own = ap (contents v owner (stored v owner disk 0 file)) e ∙ append_contents v owner disk 0 file fits h;
      tail = ap (drop n) (held_stored v owner disk 0 file fits h) ∙ drop_sets n (held v owner disk) 0 file (omega arith);
      others = λ u d. held_unstored u v owner disk 0 file d h;
      past = past_stored v owner disk 0 file h;
    }

-- ---- a part of the file written

pub length_written : (d owner : List ℕ) (place at : ℕ) (xs : List ℕ) → length (write_disk d owner place at xs) ≡ length d
unfolding write_disk
length_written d owner place at xs = go (eqb (window_number (length d) owner place at (length xs)) 0)
  where
    go : (t : Bool) → length (cond t (stored (place + 1) owner d at xs) d) ≡ length d
    go true = length_stored (place + 1) owner d at xs
    go false = refl

module _ (disk owner : List ℕ) (place n : ℕ) (fits : disk_fits (length disk) (length owner) place ≡ true) (bytes : 256 * length owner ≤ length disk)
    (room : n ≤ 256 * blocks (place + 1) owner) where
  pub file_length : (d : List ℕ) → length d ≡ length disk → length (contents (place + 1) owner d n) ≡ n
  file_length d l = length-take-le n (held (place + 1) owner d) (omega (arith, length_held (place + 1) owner d (omega arith)))

  written : (d : List ℕ) (at : ℕ) (xs : List ℕ) → length d ≡ length disk → at + length xs ≤ n → write_disk d owner place at xs ≡ stored (place + 1) owner d at xs
  unfolding write_disk
  written d at xs l h =
      done (window_number (length d) owner place at (length xs)) (stored (place + 1) owner d at xs) d
      (rw (l, fits, le-leb (at + length xs) (256 * blocks (place + 1) owner) (omega arith)))

  pub changed_write : (d file : List ℕ) (at : ℕ) (xs : List ℕ) → Changed disk owner d (place + 1) n file → at + length xs ≤ n
      → Changed disk owner (write_disk d owner place at xs) (place + 1) n (stored_at file at xs)
  changed_write d file at xs c h =
      let l = c.size in
      let f : 256 * length owner ≤ length d = omega arith in
      let k : at + length xs ≤ 256 * blocks (place + 1) owner = omega arith in
      let m : at + length xs ≤ length file = omega (arith, ap length c.own, file_length d l) in
      rw (written d at xs l h, stored_at_law file at xs m) (record {
        size = length_stored (place + 1) owner d at xs ∙ l;
        own = write_contents (place + 1) owner d n at xs f h room ∙ ap (λ (x : List ℕ). sets x at xs) c.own;
        tail = ap (drop n) (held_stored (place + 1) owner d at xs f k) ∙ drop_sets n (held (place + 1) owner d) at xs h ∙ c.tail;
        others = λ u e. held_unstored u (place + 1) owner d at xs e k ∙ c.others u e;
        past = past_stored (place + 1) owner d at xs k ∙ c.past;
      })

pub changed_none : (disk owner : List ℕ) (v n : ℕ) → Changed disk owner disk v n (contents v owner disk n)
changed_none disk owner v n = record { size = refl; own = refl; tail = refl; others = λ u e. refl; past = refl }
