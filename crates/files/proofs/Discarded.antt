-- A file discarded: what an answer of 0 leaves of a sound store, and when it is given.
use mathlib.Core.Path.{◌≡◌, refl, sym, ap, ◌∙◌, subst}
use mathlib.Core.Bool.{Bool, cond}
use mathlib.Core.List.{List}
use Prim.Native.Nat.{ℕ, ◌+◌, ◌≤◌}
use native.Mathlib.Omega.{arith}
use lib.ListN.{length, set}
use Rattle.blocks.specs.FreeMap.{free_count}
use Rattle.blocks.specs.Owners.{counts_of}
use Rattle.blocks.specs.Contents.{held}
use Rattle.blocks.specs.Answers.{release_number, release_map, release_owner}
use Rattle.blocks.proofs.Owners.{counts_entry}
use Rattle.blocks.proofs.Laws.{release_leaves}
use Rattle.table.specs.Table.{no_file, files, put_table}
use Rattle.table.specs.Given.{blocks_for}
use Rattle.table.proofs.Records.{files_put, length_put, get_put, get_put_other}
use Rattle.table.specs.Order.{in_order}
use Rattle.table.proofs.Ordering.{in_order_same}
use Rattle.table.proofs.Keeping.{sound_cleared}
use Rattle.files.specs.View.{record_at, view_at}
use Rattle.files.specs.Uploads.{after, place_number, Frees, frees, discard_number, discard_of}
use Rattle.files.specs.Sound.{places, Sound}
use Rattle.files.proofs.Calls.{done, outcome_done, outcome_kept, after_first, after_second, after_none, place_is, place_held}
use Rattle.files.proofs.Soundness.{sound_of, store_is, counts_same, view_same, no_time, place_below, place_most, file_blocks}

-- ---- when it is given

pub discard_done : (map owner table : List ℕ) (last latest : ℕ) → Sound map owner table last latest → 1 ≤ length owner → length owner ≤ 4096 → (p : ℕ)
    → ((record_at table p).number ≡ 0 → ⊥) → (discard_of map owner table p).answer ≡ 0
unfolding discard_of discard_number
discard_done map owner table last latest s some most p file =
    let f = record_at table p in
    let b = place_most map owner table last latest s p file in
    let k = after (place_number p f) (release_number (length map) (length owner) p) in
    let e : k ≡ 0 = after_none (place_number p f) _ (place_held p f b file) (ap (λ (t : Bool). cond t 0 33) (store_is map owner table last latest s some most p b)) in
    ap (λ (w : Frees). w.answer) (done k _ (frees k map owner table) e)

-- a refusal leaves everything as it was
pub discard_kept : (map owner table : List ℕ) (p n : ℕ) → (discard_of map owner table p).answer ≡ n → (n ≡ 0 → ⊥)
    → discard_of map owner table p ≡ frees n map owner table
unfolding discard_of
discard_kept map owner table p n e z =
    let k = discard_number map owner p (record_at table p) in
    let o = outcome_kept k n _ (frees k map owner table) (λ (w : Frees). w.answer) refl refl e z in
    o.1 ∙ ap (λ (m : ℕ). frees m map owner table) o.0

-- ---- the effect

pub record DiscardLeaves (map owner table : List ℕ) (last latest p : ℕ) (d : Frees) : Type 0 where
  pub file : record_at d.table p ≡ no_file
  pub others : (disk : List ℕ) (q : ℕ) → (q ≡ p → ⊥) → view_at disk d.owner d.table q ≡ view_at disk owner table q
  pub sound : Sound d.map d.owner d.table last latest
  -- of a partial file
  pub order : (record_at table p).time ≡ 0 → (from : ℕ) → in_order from (files d.table) ≡ in_order from (files table)
  -- "its blocks are free for the next upload"
  pub free : free_count d.map ≡ free_count map + blocks_for (record_at table p).size
  pub blocks_size : length d.owner ≡ length owner
  pub table_size : length d.table ≡ length table

module _ (map owner table : List ℕ) (last latest : ℕ) (s : Sound map owner table last latest) (p : ℕ) where
  freed_leaves : discard_number map owner p (record_at table p) ≡ 0
      → DiscardLeaves map owner table last latest p (frees 0 (release_map map owner p) (release_owner map owner p) (put_table table p no_file))
  unfolding discard_number
  freed_leaves e =
      let f = record_at table p in
      let n = (place_is p f (after_first (place_number p f) _ e)).file in
      let l = place_below table p n in
      let z : release_number (length map) (length owner) p ≡ 0 = after_second (place_number p f) _ e in
      let r = release_leaves map owner (places table) p s.blocks z in
      let o = release_owner map owner p in
      record {
        file = get_put table p no_file l;
        others = λ disk q m.
            view_same (record_at (put_table table p no_file) q) (record_at table q) (held (q + 1) o disk) (held (q + 1) owner disk) (get_put_other table p no_file q m)
            (r.bytes (q + 1) disk (λ y. omega arith) (λ y. m (omega arith)));
        sound = sound_of (release_map map owner p) o table (put_table table p no_file) last latest (set (files table) p no_file) (length_put table p no_file)
            s.most s.whole r.agrees (files_put table p no_file)
            (sound_cleared last latest (counts_of owner) (files table) s.files p (counts_of o) l
            (λ q m. counts_same owner o (q + 1) (r.others (q + 1) (λ y. omega arith) (λ y. m (omega arith))))
            (counts_entry o (p + 1) (omega (arith, place_most map owner table last latest s p n)) ∙ r.own));
        order = λ t from. ap (in_order from) (files_put table p no_file) ∙ in_order_same from (files table) p no_file (sym (no_time f t));
        free = r.free ∙ ap (λ (k : ℕ). free_count map + k) (file_blocks map owner table last latest s p n);
        blocks_size = r.size;
        table_size = length_put table p no_file;
      }

  pub discard_leaves : (discard_of map owner table p).answer ≡ 0 → DiscardLeaves map owner table last latest p (discard_of map owner table p)
  unfolding discard_of
  discard_leaves e =
      let k = discard_number map owner p (record_at table p) in
      let o = outcome_done k _ (frees k map owner table) (λ (w : Frees). w.answer) refl e in
      subst (λ (d : Frees). DiscardLeaves map owner table last latest p d) (sym o.1) (freed_leaves o.0)
