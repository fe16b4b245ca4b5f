-- Further bytes of a file: what an answer of 0 leaves of a sound store, and when it is given.
use mathlib.Core.Path.{◌≡◌, refl, sym, ap, ◌∙◌, subst}
use mathlib.Core.Bool.{Bool, cond}
use mathlib.Core.List.{List, ◌++◌}
use Prim.Native.Nat.{ℕ, ◌+◌, ◌*◌, ◌≤◌, ◌<◌}
use native.Mathlib.Omega.{arith}
use lib.ListN.{length, take, set}
use lib.Seq.{set-get_or}
use lib.Dec.{leb}
use borrow.Author.Tests.{le-leb}
use Rattle.blocks.specs.Owners.{blocks, counts_of}
use Rattle.blocks.specs.Contents.{held, stored}
use Rattle.blocks.specs.Answers.{window_number, write_disk}
use Rattle.blocks.proofs.Held.{append_contents}
use Rattle.blocks.proofs.Answers as answers
use Rattle.blocks.proofs.Laws.{write_leaves}
use Rattle.table.specs.declared.File.{File}
use Rattle.table.specs.Table.{no_file, files, put_table}
use Rattle.table.specs.Fit as fit
use Rattle.table.proofs.Records.{files_put, length_put, get_put, get_put_other}
use Rattle.table.specs.Order.{in_order}
use Rattle.table.proofs.Ordering.{in_order_same}
use Rattle.table.proofs.Keeping.{sound_received}
use Rattle.files.specs.View.{record_at, bytes_at, view_at}
use Rattle.files.specs.Uploads.{after, place_number, Writes, writes, grown, room_number, append_number, append_of}
use Rattle.files.specs.Sound.{Sound, Sizes}
use Rattle.files.proofs.Calls.{done, refused, by_number, outcome_done, outcome_kept, after_first, after_second, after_none, place_is, place_held, room_is, room_some, room_none}
use Rattle.files.proofs.Soundness.{sound_of, disk_is, view_same, place_below, place_most, file_fits_law, file_room}

-- ---- when it is given

window_is : (disk owner : List ℕ) → Sizes disk owner → (p at n : ℕ) → p < 256 → at + n ≤ 256 * blocks (p + 1) owner → window_number (length disk) owner p at n ≡ 0
window_is disk owner z p at n h r =
    ap (λ (t : Bool). cond t (cond (leb (at + n) (256 * blocks (p + 1) owner)) 0 35) 33) (disk_is disk owner z p h)
    ∙ rw (le-leb (at + n) (256 * blocks (p + 1) owner) r)

module _ (map disk owner table : List ℕ) (last latest : ℕ) (s : Sound map owner table last latest) (z : Sizes disk owner) (p : ℕ)
    (file : (record_at table p).number ≡ 0 → ⊥) (xs : List ℕ) where
  -- bytes that do not pass the announced length are stored
  pub append_done : (record_at table p).received + length xs ≤ (record_at table p).size → (append_of disk owner table p xs).answer ≡ 0
  unfolding append_of append_number
  append_done h =
      let f = record_at table p in
      let b = place_most map owner table last latest s p file in
      let k = after (after (place_number p f) (room_number f (length xs))) (window_number (length disk) owner p f.received (length xs)) in
      let e : k ≡ 0 =
      after_none (after (place_number p f) (room_number f (length xs))) _
      (after_none (place_number p f) _ (place_held p f b file) (room_some f (length xs) h))
      (window_is disk owner z p f.received (length xs) b (omega (arith, file_room map owner table last latest s p file))) in
      ap (λ (w : Writes). w.answer) (done k _ (writes k disk table) e)

  -- "A DATA that would pass the announced length is not stored": 16, and nothing changes
  pub append_over : (record_at table p).size < (record_at table p).received + length xs → append_of disk owner table p xs ≡ writes 16 disk table
  unfolding append_of append_number
  append_over h =
      let f = record_at table p in
      let b = place_most map owner table last latest s p file in
      let a = after (place_number p f) (room_number f (length xs)) in
      let k = after a (window_number (length disk) owner p f.received (length xs)) in
      let e : a ≡ 16 = done (place_number p f) _ (place_number p f) (place_held p f b file) ∙ room_none f (length xs) h in
      let d : k ≡ 16 = refused a _ a (λ y. omega arith) ∙ e in
      refused k _ (writes k disk table) (λ y. omega arith) ∙ ap (λ (n : ℕ). writes n disk table) d

-- a refusal leaves everything as it was
pub append_kept : (disk owner table : List ℕ) (p : ℕ) (xs : List ℕ) (n : ℕ) → (append_of disk owner table p xs).answer ≡ n → (n ≡ 0 → ⊥)
    → append_of disk owner table p xs ≡ writes n disk table
unfolding append_of
append_kept disk owner table p xs n e z =
    let k = append_number disk owner p (record_at table p) xs in
    let o = outcome_kept k n _ (writes k disk table) (λ (w : Writes). w.answer) refl refl e z in
    o.1 ∙ ap (λ (m : ℕ). writes m disk table) o.0

-- ---- the effect

pub record AppendLeaves (map disk owner table : List ℕ) (last latest p : ℕ) (xs : List ℕ) (a : Writes) : Type 0 where
  pub file : record_at a.table p ≡ grown (length xs) (record_at table p)
  -- the contents are the contents before and then the bytes
  pub bytes : bytes_at a.disk owner a.table p ≡ bytes_at disk owner table p ++ xs
  pub others : (q : ℕ) → (q ≡ p → ⊥) → view_at a.disk owner a.table q ≡ view_at disk owner table q
  pub sound : Sound map owner a.table last latest
  pub order : (from : ℕ) → in_order from (files a.table) ≡ in_order from (files table)
  pub disk_size : length a.disk ≡ length disk
  pub table_size : length a.table ≡ length table

written : (disk owner : List ℕ) (p at : ℕ) (xs : List ℕ) → window_number (length disk) owner p at (length xs) ≡ 0
    → write_disk disk owner p at xs ≡ stored (p + 1) owner disk at xs
unfolding write_disk
written disk owner p at xs z = done (window_number (length disk) owner p at (length xs)) _ disk z

module _ (map disk owner table : List ℕ) (last latest : ℕ) (s : Sound map owner table last latest) (p : ℕ) (xs : List ℕ) where
  -- the record with more bytes received fits the table, of a partial file or, with no bytes, of a complete one
  grown_sound : ((record_at table p).number ≡ 0 → ⊥) → (record_at table p).received + length xs ≤ (record_at table p).size
      → fit.Sound last latest (counts_of owner) (set (files table) p (grown (length xs) (record_at table p)))
  grown_sound n h =
      by_number (record_at table p).time
      (λ t.
      subst (λ (u : ℕ). fit.Sound last latest (counts_of owner) (set (files table) p (record { number = (record_at table p).number; size = (record_at table p).size; received = (record_at table p).received + length xs; time = u }))) (sym t)
      (sound_received last latest (counts_of owner) (files table) s.files p n ((record_at table p).received + length xs) h))
      (λ t.
      let w = (file_fits_law map owner table last latest s p n).whole t in
      let e : (record_at table p).received + length xs ≡ (record_at table p).received = omega arith in
      subst (λ (fs : List File). fit.Sound last latest (counts_of owner) fs)
      (sym (ap (λ (r : ℕ). set (files table) p (record { number = (record_at table p).number; size = (record_at table p).size; received = r; time = (record_at table p).time })) e
      ∙ set-get_or (files table) p no_file))
      s.files)

  stored_leaves : append_number disk owner p (record_at table p) xs ≡ 0
      → AppendLeaves map disk owner table last latest p xs
      (writes 0 (write_disk disk owner p (record_at table p).received xs) (put_table table p (grown (length xs) (record_at table p))))
  unfolding append_number
  stored_leaves e =
      let f = record_at table p in
      let a = after (place_number p f) (room_number f (length xs)) in
      let g = after_first a _ e in
      let n = (place_is p f (after_first (place_number p f) _ g)).file in
      let h = room_is f (length xs) (after_second (place_number p f) _ g) in
      let k = window_number (length disk) owner p f.received (length xs) in
      let z : k ≡ 0 = after_second a _ e in
      let w = answers.window_done (length disk) owner p f.received (length xs) z in
      let l = place_below table p n in
      let r = write_leaves disk owner p f.received xs z in
      let d = write_disk disk owner p f.received xs in
      let t = put_table table p (grown (length xs) f) in
      let q : d ≡ stored (p + 1) owner disk f.received xs = written disk owner p f.received xs z in
      record {
        file = get_put table p (grown (length xs) f) l;
        bytes = ap (λ (g : File). take g.received (held (p + 1) owner d)) (get_put table p (grown (length xs) f) l)
            ∙ ap (λ (x : List ℕ). take (f.received + length xs) (held (p + 1) owner x)) q
            ∙ append_contents (p + 1) owner disk f.received xs w.sizes.bytes w.room;
        others = λ q m.
            view_same (record_at t q) (record_at table q) (held (q + 1) owner d) (held (q + 1) owner disk)
            (get_put_other table p (grown (length xs) f) q m) (r.others (q + 1) (λ y. m (omega arith)));
        sound = sound_of map owner table t last latest (set (files table) p (grown (length xs) f)) (length_put table p (grown (length xs) f)) s.most s.whole
            s.blocks (files_put table p (grown (length xs) f)) (grown_sound n h);
        order = λ from. ap (in_order from) (files_put table p (grown (length xs) f)) ∙ in_order_same from (files table) p (grown (length xs) f) refl;
        disk_size = r.size;
        table_size = length_put table p (grown (length xs) f);
      }

  pub append_leaves : (append_of disk owner table p xs).answer ≡ 0 → AppendLeaves map disk owner table last latest p xs (append_of disk owner table p xs)
  unfolding append_of
  append_leaves e =
      let k = append_number disk owner p (record_at table p) xs in
      let o = outcome_done k _ (writes k disk table) (λ (w : Writes). w.answer) refl e in
      subst (λ (a : Writes). AppendLeaves map disk owner table last latest p xs a) (sym o.1) (stored_leaves o.0)
