-- A new file: the answer's cases, and what a file that was begun leaves of a sound store.
use mathlib.Core.Path.{◌≡◌, refl, sym, ap, ◌∙◌, subst}
use mathlib.Core.Bool.{Bool, cond}
use mathlib.Core.List.{List, []}
use mathlib.Core.Logic.{◌⊎◌, inl, inr, ⊎_elim}
use Prim.Native.Nat.{ℕ, ◌+◌, ◌≤◌, ◌<◌}
use native.Mathlib.Omega.{arith}
use lib.ListN.{length, get_or, take, set, length-map, get_or-map}
use lib.Dec.{leb}
use borrow.Author.Tests.{le-leb, lt-leb, eq-eqb, ne_eqb}
use Rattle.blocks.specs.FreeMap.{free_count}
use Rattle.blocks.specs.Owners.{blocks, counts_of}
use Rattle.blocks.specs.Contents.{held}
use Rattle.blocks.specs.Answers.{reserve_number, reserve_map, reserve_owner}
use Rattle.blocks.proofs.Owners.{counts_entry}
use Rattle.blocks.proofs.Laws.{reserve_leaves}
use Rattle.table.specs.declared.File.{File}
use Rattle.std.proofs.Common.{Option, Some, None, Result, Ok, Err}
use Rattle.table.specs.Table.{no_file, files, put_table, free_of}
use Rattle.table.specs.Given.{most_given, next_number, blocks_for}
use Rattle.table.proofs.Records.{length_files, files_put, length_put, get_put, get_put_other, uploaded_none}
use Rattle.table.specs.Order.{in_order}
use Rattle.table.proofs.Finding.{free_found}
use Rattle.table.proofs.Ordering.{in_order_same}
use Rattle.table.proofs.Keeping.{number_le, sound_new}
use Rattle.table.proofs.Giving.{number_given}
use Rattle.files.specs.View.{record_at, bytes_at, view_at}
use Rattle.files.specs.Uploads.{Begins, begins, new_file, begin_at, begin_in, begin_with, begin_of}
use Rattle.files.specs.Sound.{places, Sound}
use Rattle.files.proofs.Calls.{done, refused, by_number}
use Rattle.files.proofs.Soundness.{sound_of, store_is, counts_same, view_same, no_time, files_most, free_blocks}

-- ---- the cases

pub record NotBegun (map owner table : List ℕ) (last size : ℕ) : Type 0 where
  pub number : ℕ
  pub nonzero : number ≡ 0 → ⊥
  pub is : begin_of map owner table last size ≡ begins (Err number) map owner table

pub record HasBegun (map owner table : List ℕ) (last size : ℕ) : Type 0 where
  pub place : ℕ
  pub given : next_number last ≡ Some (last + 1)
  pub found : free_of (files table) ≡ Some place
  pub room : reserve_number map (length owner) place (blocks_for size) ≡ 0
  pub is : begin_of map owner table last size
      ≡ begins (Ok place) (reserve_map map owner place (blocks_for size)) (reserve_owner map owner place (blocks_for size))
      (put_table table place (new_file (last + 1) size))

module _ (map owner table : List ℕ) (last size : ℕ) where
  at_place : (n p : ℕ) → n ≡ last + 1 → next_number last ≡ Some n → free_of (files table) ≡ Some p
      → begin_of map owner table last size ≡ begin_at p n size map owner table → NotBegun map owner table last size ⊎ HasBegun map owner table last size
  unfolding begin_at
  at_place n p q g f e =
      let k = reserve_number map (length owner) p (blocks_for size) in
      by_number k
      (λ z. inr (record {
        place = p;
        given = g ∙ ap Some q;
        found = f;
        room = z;
        is = e ∙ done k _ (begins (Err k) map owner table) z
            ∙ ap (λ (m : ℕ). begins (Ok p) (reserve_map map owner p (blocks_for size)) (reserve_owner map owner p (blocks_for size)) (put_table table p (new_file m size))) q;
      }))
      (λ z. inl (record { number = k; nonzero = z; is = e ∙ refused k _ (begins (Err k) map owner table) z }))

  in_table : (n : ℕ) → next_number last ≡ Some n → begin_of map owner table last size ≡ begin_in (free_of (files table)) n size map owner table
      → (f : Option ℕ) → free_of (files table) ≡ f → NotBegun map owner table last size ⊎ HasBegun map owner table last size
  unfolding begin_in
  in_table n g e None q = inl (record { number = 13; nonzero = λ z. omega arith; is = e ∙ ap (λ (f : Option ℕ). begin_in f n size map owner table) q })
  in_table n g e (Some p) q = at_place n p (number_given last n g).next g q (e ∙ ap (λ (f : Option ℕ). begin_in f n size map owner table) q)

  with_number : (g : Option ℕ) → next_number last ≡ g → NotBegun map owner table last size ⊎ HasBegun map owner table last size
  unfolding begin_with
  with_number None q = inl (record { number = 3; nonzero = λ z. omega arith; is = ap (λ (g : Option ℕ). begin_with g size map owner table) q })
  with_number (Some n) q = in_table n q (ap (λ (g : Option ℕ). begin_with g size map owner table) q) (free_of (files table)) refl

  pub begin_cases : NotBegun map owner table last size ⊎ HasBegun map owner table last size
  begin_cases = with_number (next_number last) refl

-- ---- the effect on a sound store

pub record BeginLeaves (map owner table : List ℕ) (last latest size place : ℕ) (b : Begins) : Type 0 where
  pub below : place < length (files table)
  pub free : (record_at table place).number ≡ 0
  -- "gets the number after the last one given": above every number of the store, so no number is given twice
  pub new : (q : ℕ) → (record_at table q).number < last + 1
  pub file : record_at b.table place ≡ new_file (last + 1) size
  pub bytes : (disk : List ℕ) → bytes_at disk b.owner b.table place ≡ []
  pub others : (disk : List ℕ) (q : ℕ) → (q ≡ place → ⊥) → view_at disk b.owner b.table q ≡ view_at disk owner table q
  pub sound : Sound b.map b.owner b.table (last + 1) latest
  pub order : (from : ℕ) → in_order from (files b.table) ≡ in_order from (files table)
  pub fewer : free_count b.map + blocks_for size ≡ free_count map
  pub blocks_size : length b.owner ≡ length owner
  pub table_size : length b.table ≡ length table

module _ (map owner table : List ℕ) (last latest : ℕ) (s : Sound map owner table last latest) (size : ℕ) where
  begun_leaves : (h : HasBegun map owner table last size)
      → BeginLeaves map owner table last latest size h.place
      (begins (Ok h.place) (reserve_map map owner h.place (blocks_for size)) (reserve_owner map owner h.place (blocks_for size))
      (put_table table h.place (new_file (last + 1) size)))
  begun_leaves h =
      let p = h.place in
      let low = free_found (files table) p h.found in
      let l : p < length (files table) = omega (arith, low.below, length-map (files table) (λ (f : File). f.number)) in
      let z : (record_at table p).number ≡ 0 = sym (get_or-map (λ (f : File). f.number) (files table) p no_file) ∙ low.has in
      let f = new_file (last + 1) size in
      let r = reserve_leaves map owner (places table) p (blocks_for size) s.blocks (omega (arith, length_files table)) h.room in
      let o = reserve_owner map owner p (blocks_for size) in
      record {
        below = l;
        free = z;
        new = λ q. omega (arith, number_le last latest (counts_of owner) (files table) s.files q);
        file = get_put table p f l;
        bytes = λ disk. ap (λ (g : File). take g.received (held (p + 1) o disk)) (get_put table p f l);
        others = λ disk q n.
            view_same (record_at (put_table table p f) q) (record_at table q) (held (q + 1) o disk) (held (q + 1) owner disk) (get_put_other table p f q n)
            (r.bytes (q + 1) disk (λ e. omega arith) (λ e. n (omega arith)));
        sound = sound_of (reserve_map map owner p (blocks_for size)) o table (put_table table p f) (last + 1) latest (set (files table) p f)
            (length_put table p f) s.most s.whole r.agrees (files_put table p f)
            (sound_new last latest (counts_of owner) (files table) s.files p (last + 1) size (counts_of o) l (omega arith)
            (λ q n. counts_same owner o (q + 1) (r.others (q + 1) (λ e. omega arith) (λ e. n (omega arith))))
            (counts_own p o z l r.own));
        order = λ from.
            ap (in_order from) (files_put table p f) ∙ in_order_same from (files table) p f (no_time f refl ∙ sym (uploaded_none (record_at table p) z));
        fewer = r.free;
        blocks_size = r.size;
        table_size = length_put table p f;
      }
    where
      counts_own : (p : ℕ) (o : List ℕ) → (record_at table p).number ≡ 0 → p < length (files table) → blocks (p + 1) o ≡ blocks_for size + blocks (p + 1) owner
          → get_or (counts_of o) (p + 1) 0 ≡ blocks_for size
      counts_own p o z l e =
          counts_entry o (p + 1) (omega (arith, files_most map owner table last latest s)) ∙ e
          ∙ omega (arith, free_blocks map owner table last latest s p z)

  pub begin_leaves : (p : ℕ) → (begin_of map owner table last size).answer ≡ Ok p
      → BeginLeaves map owner table last latest size p (begin_of map owner table last size)
  begin_leaves p e = ⊎_elim (λ n. absurd (none n)) some (begin_cases map owner table last size)
    where
      none : NotBegun map owner table last size → ⊥
      none n = let q : ◌≡◌ {A = Result ℕ ℕ} (Err n.number) (Ok p) = sym (ap (λ (b : Begins). b.answer) n.is) ∙ e in let z : ◌≡◌ {A = ℕ} 0 1 = cc in omega arith

      some : HasBegun map owner table last size → BeginLeaves map owner table last latest size p (begin_of map owner table last size)
      some h =
          let q : ◌≡◌ {A = Result ℕ ℕ} (Ok h.place) (Ok p) = sym (ap (λ (b : Begins). b.answer) h.is) ∙ e in
          let r : h.place ≡ p = cc in
          subst (λ (n : ℕ). BeginLeaves map owner table last latest size n (begin_of map owner table last size)) r
          (subst (λ (b : Begins). BeginLeaves map owner table last latest size h.place b) (sym h.is) (begun_leaves h))

-- a refusal leaves everything as it was
pub begin_kept : (map owner table : List ℕ) (last size n : ℕ) → (begin_of map owner table last size).answer ≡ Err n
    → begin_of map owner table last size ≡ begins (Err n) map owner table
begin_kept map owner table last size n e = ⊎_elim none some (begin_cases map owner table last size)
  where
    none : NotBegun map owner table last size → begin_of map owner table last size ≡ begins (Err n) map owner table
    none r =
        let q : ◌≡◌ {A = Result ℕ ℕ} (Err r.number) (Err n) = sym (ap (λ (b : Begins). b.answer) r.is) ∙ e in
        r.is ∙ ap (λ (a : Result ℕ ℕ). begins a map owner table) q

    some : HasBegun map owner table last size → begin_of map owner table last size ≡ begins (Err n) map owner table
    some h = absurd (let q : ◌≡◌ {A = Result ℕ ℕ} (Ok h.place) (Err n) = sym (ap (λ (b : Begins). b.answer) h.is) ∙ e in let z : ◌≡◌ {A = ℕ} 0 1 = cc in omega arith)

-- ---- when it is refused

-- on a sound store of document 01's sizes: a number is left, a place is free and there are blocks enough, or it is refused by 3 or 13
module _ (map owner table : List ℕ) (last latest : ℕ) (s : Sound map owner table last latest) (size : ℕ) (some : 1 ≤ length owner) (most : length owner ≤ 4096) where
  reserve_is : (p : ℕ) → p < 256 → reserve_number map (length owner) p (blocks_for size) ≡ cond (leb (blocks_for size) (free_count map)) 0 13
  reserve_is p h = ap (λ (t : Bool). cond t (cond (leb (blocks_for size) (free_count map)) 0 13) 33) (store_is map owner table last latest s some most p h)

  place_found : (p : ℕ) → free_of (files table) ≡ Some p → p < 256
  place_found p e = omega (arith, (free_found (files table) p e).below, length-map (files table) (λ (f : File). f.number), files_most map owner table last latest s)

  pub begin_used_up : last ≡ most_given → begin_of map owner table last size ≡ begins (Err 3) map owner table
  unfolding begin_with
  begin_used_up e =
      let g : next_number last ≡ None = rw (eq-eqb last most_given e) in
      ap (λ (g : Option ℕ). begin_with g size map owner table) g

  given_is : (last ≡ most_given → ⊥) → next_number last ≡ Some (last + 1)
  given_is n = rw (ne_eqb last most_given n)

  pub begin_no_place : (last ≡ most_given → ⊥) → free_of (files table) ≡ None → begin_of map owner table last size ≡ begins (Err 13) map owner table
  unfolding begin_with begin_in
  begin_no_place n e =
      ap (λ (g : Option ℕ). begin_with g size map owner table) (given_is n) ∙ ap (λ (f : Option ℕ). begin_in f (last + 1) size map owner table) e

  at_found : (last ≡ most_given → ⊥) → (p : ℕ) → free_of (files table) ≡ Some p → begin_of map owner table last size ≡ begin_at p (last + 1) size map owner table
  unfolding begin_with begin_in
  at_found n p e =
      ap (λ (g : Option ℕ). begin_with g size map owner table) (given_is n) ∙ ap (λ (f : Option ℕ). begin_in f (last + 1) size map owner table) e

  pub begin_few_blocks : (last ≡ most_given → ⊥) → (p : ℕ) → free_of (files table) ≡ Some p → free_count map < blocks_for size
      → begin_of map owner table last size ≡ begins (Err 13) map owner table
  unfolding begin_at
  begin_few_blocks n p e h =
      let k = reserve_number map (length owner) p (blocks_for size) in
      let z : k ≡ 13 = reserve_is p (place_found p e) ∙ rw (lt-leb (blocks_for size) (free_count map) h) in
      at_found n p e ∙ refused k _ (begins (Err k) map owner table) (λ y. omega arith) ∙ ap (λ (m : ℕ). begins (Err m) map owner table) z

  pub begin_done : (last ≡ most_given → ⊥) → (p : ℕ) → free_of (files table) ≡ Some p → blocks_for size ≤ free_count map
      → (begin_of map owner table last size).answer ≡ Ok p
  unfolding begin_at
  begin_done n p e h =
      let k = reserve_number map (length owner) p (blocks_for size) in
      let z : k ≡ 0 = reserve_is p (place_found p e) ∙ rw (le-leb (blocks_for size) (free_count map) h) in
      ap (λ (b : Begins). b.answer) (at_found n p e ∙ done k _ (begins (Err k) map owner table) z)
