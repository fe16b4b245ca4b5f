-- A file completed: what an answer of 0 leaves of a sound store, and that an accepted file gets it.
use mathlib.Core.Path.{◌≡◌, refl, sym, ap, ◌∙◌, subst}
use mathlib.Core.Bool.{Bool, cond}
use mathlib.Core.List.{List, [], ◌∷◌, ◌++◌}
use Prim.Native.Nat.{ℕ, ◌+◌, ◌<◌}
use native.Mathlib.Omega.{arith}
use lib.ListN.{length, take, set}
use borrow.Author.Tests.{ltb-false}
use Rattle.blocks.specs.Owners.{counts_of}
use Rattle.blocks.specs.Contents.{held}
use Rattle.header.specs.Header.{verdict, header_of, refused_with}
use Rattle.header.specs.Fields.{fields_set}
use Rattle.header.proofs.Set.{verdict_parts}
use Rattle.stored.specs.Answers.{check_at, header_at, set_number, set_disk}
use Rattle.stored.proofs.Laws.{sets_number, set_contents, set_kept}
use Rattle.table.specs.declared.File.{File}
use Rattle.table.specs.Table.{files, put_table, uploaded}
use Rattle.table.specs.Order.{in_order}
use Rattle.table.proofs.Records.{files_put, length_put, get_put, get_put_other, uploaded_time}
use Rattle.table.proofs.Ordering.{in_order_last}
use Rattle.table.proofs.Keeping.{time_le, sound_completed}
use Rattle.files.specs.View.{record_at, bytes_at, view_at}
use Rattle.files.specs.Uploads.{after, place_number, Writes, writes}
use Rattle.files.specs.Completion.{check_of, completed, complete_number, complete_of, destinations_said, destinations_at}
use Rattle.files.specs.Sound.{Sound, Sizes}
use Rattle.files.proofs.Calls.{done, outcome_done, outcome_kept, after_first, after_second, after_none, place_is, place_held}
use Rattle.files.proofs.Choice.{take_le}
use Rattle.files.proofs.Soundness.{sound_of, disk_is, view_same, no_time, place_below, place_most, file_fits_law, file_room}

-- ---- an accepted file

module _ (map disk owner table : List ℕ) (last latest : ℕ) (s : Sound map owner table last latest) (z : Sizes disk owner) (p : ℕ)
    (file : (record_at table p).number ≡ 0 → ⊥) where
  -- the check of a file is the verdict on its bytes
  pub check_is : check_of disk owner table p ≡ verdict (bytes_at disk owner table p) (record_at table p).size
  unfolding check_of check_at
  check_is =
      let f = record_at table p in
      let b = place_most map owner table last latest s p file in
      done (place_number p f) _ (place_number p f) (place_held p f b file)
      ∙ ap (λ (t : Bool). cond t (verdict (bytes_at disk owner table p) f.size) 33) (disk_is disk owner z p b)

  -- and its destinations are those of its header
  pub destinations_is : destinations_at disk owner table p ≡ destinations_said (header_of 20 (bytes_at disk owner table p))
  unfolding destinations_at header_at
  destinations_is =
      ap (λ (t : Bool). destinations_said (cond t (header_of 20 (bytes_at disk owner table p)) (refused_with 33)))
      (disk_is disk owner z p (place_most map owner table last latest s p file))

  pub check_whole : check_of disk owner table p ≡ 0 → (record_at table p).received ≡ (record_at table p).size
  check_whole e =
      let v = verdict_parts (bytes_at disk owner table p) (record_at table p).size (sym check_is ∙ e) in
      omega (
        arith,
        ltb-false (length (bytes_at disk owner table p)) (record_at table p).size v.0,
        take_le (record_at table p).received (held (p + 1) owner disk),
        (file_fits_law map owner table last latest s p file).received,
      )

  -- its fields can be set
  pub complete_done : check_of disk owner table p ≡ 0 → (time : ℕ) → (complete_of disk owner table p time).answer ≡ 0
  unfolding complete_of complete_number
  complete_done e time =
      let f = record_at table p in
      let b = place_most map owner table last latest s p file in
      let v = verdict_parts (bytes_at disk owner table p) f.size (sym check_is ∙ e) in
      let n : set_number disk owner p f.received ≡ 0 =
      sets_number disk owner p f.received
      (record { sizes = disk_is disk owner z p b; room = omega (arith, file_room map owner table last latest s p file, (file_fits_law map owner table last latest s p file).received); items = v.1 }) in
      let k = after (place_number p f) (set_number disk owner p f.received) in
      ap (λ (w : Writes). w.answer) (done k _ (writes k disk table) (after_none (place_number p f) _ (place_held p f b file) n))

-- a refusal leaves everything as it was
pub complete_kept : (disk owner table : List ℕ) (p time n : ℕ) → (complete_of disk owner table p time).answer ≡ n → (n ≡ 0 → ⊥)
    → complete_of disk owner table p time ≡ writes n disk table
unfolding complete_of
complete_kept disk owner table p time n e z =
    let k = complete_number disk owner p (record_at table p) in
    let o = outcome_kept k n _ (writes k disk table) (λ (w : Writes). w.answer) refl refl e z in
    o.1 ∙ ap (λ (m : ℕ). writes m disk table) o.0

-- ---- the effect

pub record CompleteLeaves (map disk owner table : List ℕ) (last latest p time : ℕ) (c : Writes) : Type 0 where
  pub file : record_at c.table p ≡ completed time (record_at table p)
  -- "with only the [five] server-set fields replaced"
  pub bytes : bytes_at c.disk owner c.table p ≡ fields_set (record_at table p).number time (bytes_at disk owner table p)
  pub others : (q : ℕ) → (q ≡ p → ⊥) → view_at c.disk owner c.table q ≡ view_at disk owner table q
  pub sound : latest < time → (record_at table p).received ≡ (record_at table p).size → Sound map owner c.table last time
  -- "Upload times rise strictly in order of completion": the file is newer than every other and comes last
  pub newest : latest < time → (q : ℕ) → uploaded (record_at table q) < time
  pub order : latest < time → (record_at table p).time ≡ 0 → (from : ℕ) → from < time → in_order from (files c.table) ≡ in_order from (files table) ++ p ∷ []
  pub disk_size : length c.disk ≡ length disk
  pub table_size : length c.table ≡ length table

module _ (map disk owner table : List ℕ) (last latest : ℕ) (s : Sound map owner table last latest) (p time : ℕ) where
  set_leaves : complete_number disk owner p (record_at table p) ≡ 0
      → CompleteLeaves map disk owner table last latest p time
      (writes 0 (set_disk disk owner p (record_at table p).received (record_at table p).number time) (put_table table p (completed time (record_at table p))))
  unfolding complete_number
  set_leaves e =
      let f = record_at table p in
      let n = (place_is p f (after_first (place_number p f) _ e)).file in
      let k : set_number disk owner p f.received ≡ 0 = after_second (place_number p f) _ e in
      let l = place_below table p n in
      let d = set_disk disk owner p f.received f.number time in
      let g = completed time f in
      let t = put_table table p g in
      let r = set_kept disk owner p f.received f.number time in
      record {
        file = get_put table p g l;
        bytes = ap (λ (h : File). take h.received (held (p + 1) owner d)) (get_put table p g l) ∙ set_contents disk owner p f.received f.number time k;
        others = λ q m.
            view_same (record_at t q) (record_at table q) (held (q + 1) owner d) (held (q + 1) owner disk) (get_put_other table p g q m)
            (r.others (q + 1) (λ y. m (omega arith)));
        sound = λ h w.
            sound_of map owner table t last time (set (files table) p g) (length_put table p g) s.most s.whole s.blocks (files_put table p g)
            (sound_completed last latest (counts_of owner) (files table) s.files p n time h w);
        newest = λ h q. omega (arith, time_le last latest (counts_of owner) (files table) s.files q);
        order = λ h z from b.
            let u : uploaded g ≡ time = uploaded_time g n in
            ap (in_order from) (files_put table p g)
            ∙ in_order_last from (files table) p g l (no_time f z)
            (λ q. omega (arith, time_le last latest (counts_of owner) (files table) s.files q)) (omega arith);
        disk_size = r.size;
        table_size = length_put table p g;
      }

  pub complete_leaves : (complete_of disk owner table p time).answer ≡ 0 → CompleteLeaves map disk owner table last latest p time (complete_of disk owner table p time)
  unfolding complete_of
  complete_leaves e =
      let k = complete_number disk owner p (record_at table p) in
      let o = outcome_done k _ (writes k disk table) (λ (w : Writes). w.answer) refl e in
      subst (λ (c : Writes). CompleteLeaves map disk owner table last latest p time c) (sym o.1) (set_leaves o.0)
