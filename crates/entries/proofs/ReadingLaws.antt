-- Laws for the code that reads an entry from blocks: what its steps put is the entry's bytes. Assumes nothing.
use mathlib.Core.Path.{◌≡◌, refl, sym, ap, ap₂, ◌∙◌}
use mathlib.Core.Bool.{Bool, true, false, cond}
use mathlib.Core.List.{List, [], ◌∷◌, ◌++◌}
use Rattle.std.proofs.Common.{Result, Ok, Err, ◌<◌}
use Prim.Native.Nat.{ℕ, zero, suc, ◌+◌, ◌-◌, ◌*◌, ◌≤◌, min}
use native.Mathlib.Omega.{arith}
use lib.Dec.{ltb, eqb}
use lib.ListN.{length, take, drop, replicate, length-append, length-take, length-drop, take-append-drop, drop_of_length-le}
use lib.Seq.{sets-eq, length-take-le, take_all, take-nil, drop-nil, take_at, drop_at, take-append-le, drop-append-le}
use borrow.Author.Tests.{ltb-true, ltb-false, eqb-true, eqb-false, le-leb}
use Rattle.numbers.specs.Numbers.{stored_at}
use Rattle.numbers.proofs.NumberLaws.{stored_at_law}
use Rattle.blocks.specs.Owners.{blocks}
use Rattle.blocks.specs.Contents.{held}
use Rattle.blocks.specs.Answers.{window_number, read_out}
use Rattle.blocks.proofs.Answers.{disk_fits_law, done}
use Rattle.blocks.proofs.Held.{length_held}
use Rattle.blocks.proofs.Laws.{read_gives, read_refused as read_kept}
use Rattle.header.specs.Header.{header_length, check_items, place_of, header_of, refused_with}
use Rattle.header.specs.Entries.{long_entry, short_entry, entry_of}
use Rattle.header.specs.declared.scan.Header.{Header}
use Rattle.header.proofs.Set.{header_refused, header_accepted, header_read}
use Rattle.header.proofs.EntryLaws.{uploaded, header_within, short_is, short_length, long_length, entry_passed, entry_refused}
use Rattle.stored.specs.Answers.{file_at, sizes_fit, header_at}
use Rattle.entries.specs.Entry.{entry_at, reads, put_front, read_of}
use Rattle.entries.specs.Reading.{least_of, read_front, short_read}

-- ---- bytes at the front

put_split : (bytes out : List ℕ) → take (least_of (length bytes) (length out)) bytes ++ drop (least_of (length bytes) (length out)) out ≡ put_front bytes out
unfolding least_of
put_split bytes out = go (ltb (length bytes) (length out)) refl
  where
    go : (t : Bool)
        → ltb (length bytes) (length out) ≡ t
        → take (cond t (length bytes) (length out)) bytes ++ drop (cond t (length bytes) (length out)) out ≡ put_front bytes out
    go true e =
        let h = ltb-true (length bytes) (length out) e in
        ap (λ (l : List ℕ). l ++ drop (length bytes) out) (take_all (length bytes) bytes (omega arith) ∙ sym (take_all (length out) bytes (omega arith)))
    go false e =
        let h = ltb-false (length bytes) (length out) e in
        let p : drop (length out) out ≡ [] = drop_of_length-le out {i = length out} (omega arith) in
        let q : drop (length bytes) out ≡ [] = drop_of_length-le out {i = length bytes} (omega arith) in
        ap (λ (l : List ℕ). take (length out) bytes ++ l) (p ∙ sym q)

-- the first n bytes stored at the front, n being the lesser of both lengths
-- the least of two numbers is the library's
pub least_is_min : (a b : ℕ) → min a b ≡ least_of a b
unfolding least_of
least_is_min a b = grind arith

pub stored_front : (bytes out : List ℕ) (n : ℕ)
    → (n ≡ least_of (length bytes) (length out)) × (n ≤ length bytes) × (n ≤ length out)
    → stored_at out 0 (take n bytes) ≡ put_front bytes out
stored_front bytes out n h =
    let a = h.1 in
    let b = h.2 in
    let l : length (take n bytes) ≡ n = length-take-le n bytes a in
    let k : 0 + length (take n bytes) ≡ n = omega arith in
    stored_at_law out 0 (take n bytes) (omega arith)
    ∙ sets-eq (take n bytes) out 0 (omega arith)
    ∙ ap (λ (m : ℕ). take n bytes ++ drop m out) k
    ∙ ap (λ (m : ℕ). take m bytes ++ drop m out) h.0
    ∙ put_split bytes out

least_both : (a b : ℕ) → (least_of a b ≤ a) × (least_of a b ≤ b)
unfolding least_of
least_both a b = go (ltb a b) refl
  where
    go : (t : Bool) → ltb a b ≡ t → (cond t a b ≤ a) × (cond t a b ≤ b)
    go true e = let h = ltb-true a b e in (omega arith, omega arith)
    go false e = let h = ltb-false a b e in (omega arith, omega arith)

-- ---- what the blocks hold of the file

-- a window of the front of a list is one of the list
window : (at n m : ℕ) (l : List ℕ) → at + n ≤ length (take m l) → take n (drop at l) ≡ take n (drop at (take m l))
window at n m l h =
    ap (λ (k : List ℕ). take n (drop at k)) (sym (take-append-drop m l))
    ∙ ap (take n) (drop-append-le at (take m l) (drop m l) (omega arith))
    ∙ take-append-le n (drop at (take m l)) (drop m l) (rw length-drop (omega arith))

module _ (disk owner : List ℕ) (place received : ℕ) (f : sizes_fit disk owner place ≡ true) where
  pub read_window : (at : ℕ) (xs : List ℕ)
      → at + length xs ≤ length (file_at disk owner place received)
      → read_out disk owner place at xs ≡ take (length xs) (drop at (file_at disk owner place received))
  unfolding read_out
  read_window at xs h =
      let g = disk_fits_law (length disk) (length owner) place f in
      let l = length_held (place + 1) owner disk g.bytes in
      let k : at + length xs ≤ 256 * blocks (place + 1) owner = omega (arith, length-take received (held (place + 1) owner disk)) in
      let z : window_number (length disk) owner place at (length xs) ≡ 0 = rw (f, le-leb (at + length xs) (256 * blocks (place + 1) owner) k) in
      done (window_number (length disk) owner place at (length xs)) (take (length xs) (drop at (held (place + 1) owner disk))) xs z
      ∙ window at (length xs) received (held (place + 1) owner disk) h

  -- no bytes are read as none, from wherever
  read_none : (at : ℕ) → read_out disk owner place at [] ≡ []
  unfolding read_out
  read_none at = go (eqb (window_number (length disk) owner place at 0) 0)
    where
      go : (t : Bool) → ◌≡◌ {A = List ℕ} (cond t [] []) []
      go true = refl
      go false = refl

  -- the file's first bytes, `size` of them, from byte `skip` on, as many as there is room for
  module _ (size : ℕ) (s : size ≤ length (file_at disk owner place received)) (skip : ℕ) (out : List ℕ) where
    read_some : (n : ℕ)
        → n ≤ size - skip
        → n ≤ length out
        → read_out disk owner place skip (take n out) ≡ take n (drop skip (take size (file_at disk owner place received)))
    read_some zero h k = read_none skip
    read_some (suc n) h k =
        let l : length (take (suc n) out) ≡ suc n = length-take-le (suc n) out k in
        let m : length (take size (file_at disk owner place received)) ≡ size = length-take-le size (file_at disk owner place received) s in
        read_window skip (take (suc n) out) (omega arith)
        ∙ ap (λ (i : ℕ). take i (drop skip (file_at disk owner place received))) l
        ∙ window skip (suc n) size (file_at disk owner place received) (omega arith)

    pub front_read : read_front disk owner place skip (least_of (size - skip) (length out)) out
        ≡ put_front (drop skip (take size (file_at disk owner place received))) out
    front_read =
        let b = least_both (size - skip) (length out) in
        let m : length (take size (file_at disk owner place received)) ≡ size = length-take-le size (file_at disk owner place received) s in
        let l : size - skip ≡ length (drop skip (take size (file_at disk owner place received))) = rw (length-drop, m) in
        ap (λ (x : List ℕ). x ++ drop (least_of (size - skip) (length out)) out) (read_some (least_of (size - skip) (length out)) b.0 b.1)
        ∙ ap (λ (k : ℕ). take (least_of k (length out)) (drop skip (take size (file_at disk owner place received))) ++ drop (least_of k (length out)) out) l
        ∙ put_split (drop skip (take size (file_at disk owner place received))) out

  module _ (e : check_items (file_at disk owner place received) ≡ 0) where
    short_read_law : short_read disk owner place ((place_of 18 (file_at disk owner place received)).at - 3) ≡ short_entry (file_at disk owner place received)
    unfolding short_read
    short_read_law =
        let u = uploaded (file_at disk owner place received) e in
        let a = u.after in
        let b = u.within in
        let h = header_within (file_at disk owner place received) e in
        let at : ℕ = (place_of 18 (file_at disk owner place received)).at - 3 in
        ap₂ (λ (x y : List ℕ). x ++ (y ++ 0 ∷ 0 ∷ 0 ∷ [])) (read_window 0 (replicate 70 0) (omega arith)) (read_window at (replicate 7 0) (omega arith))
        ∙ sym (short_is (file_at disk owner place received) e)

-- ---- the answers

-- a header that is read: the sizes fit, and it is what the file's header says
record Says (disk owner : List ℕ) (place received : ℕ) (h : Header) : Type 0 where
  sizes : sizes_fit disk owner place ≡ true
  items : check_items (file_at disk owner place received) ≡ 0
  size : h.size ≡ header_length (file_at disk owner place received)
  upload : h.place.at ≡ (place_of 18 (file_at disk owner place received)).at

abbrev refusal_in : Result Header ℕ → ℕ
refusal_in (Ok h) = 0
refusal_in (Err n) = n

module _ (disk owner : List ℕ) (place received : ℕ) where
  -- a refused header: the file has no entry
  none : (long : Bool) (n : ℕ) → 0 < n → Err n ≡ header_at disk owner place received 18 → entry_at long disk owner place received ≡ []
  unfolding entry_at
  none long n p e = go (sizes_fit disk owner place) refl (unfold header_at in e)
    where
      go : (t : Bool)
          → sizes_fit disk owner place ≡ t
          → Err n ≡ cond t (header_of 18 (file_at disk owner place received)) (refused_with 33)
          → cond t (entry_of long (file_at disk owner place received)) [] ≡ []
      go true f e =
          let r = header_refused 18 n (file_at disk owner place received) e in
          entry_refused long (file_at disk owner place received) (λ i. absurd (omega arith))
      go false f e = refl

  pub read_refused : (skip : ℕ) (out : List ℕ) (long : Bool) (n : ℕ) → 0 < n
      → Err n ≡ header_at disk owner place received 18
      → reads 0 out ≡ read_of long disk owner place received skip out
  unfolding read_of
  read_refused skip out long n p e = rw (none long n p e, drop-nil skip, take-nil (length out))

module _ (disk owner : List ℕ) (place received : ℕ) (h : Header) (e : Ok h ≡ header_at disk owner place received 18) where
  says : Says disk owner place received h
  says = go (sizes_fit disk owner place) refl (unfold header_at in e)
    where
      go : (t : Bool)
          → sizes_fit disk owner place ≡ t
          → Ok h ≡ cond t (header_of 18 (file_at disk owner place received)) (refused_with 33)
          → Says disk owner place received h
      go true f e =
          let file : List ℕ = file_at disk owner place received in
          let p = header_read 18 file h e in
          record { sizes = f; items = header_accepted 18 file h e; size = ap (λ (x : Header). x.size) p; upload = ap (λ (x : Header). x.place.at) p }
      go false f e = let w : ◌≡◌ {A = ℕ} 0 33 = ap refusal_in e in absurd (omega arith)

  module _ (skip : ℕ) (out : List ℕ) where
    pub read_long : (long : Bool) (after : List ℕ)
        → long ≡ true
        → after ≡ read_front disk owner place skip (least_of (h.size - skip) (length out)) out
        → reads h.size after ≡ read_of long disk owner place received skip out
    unfolding read_of entry_at
    read_long long after l q =
        let s = says in
        let file : List ℕ = file_at disk owner place received in
        let entry : entry_at true disk owner place received ≡ long_entry file = rw s.sizes (entry_passed true file s.items) in
        ap₂ (λ (n : ℕ) (x : List ℕ). reads n x) (s.size ∙ sym (long_length file s.items))
        (q ∙ ap (λ (n : ℕ). read_front disk owner place skip (least_of (n - skip) (length out)) out) s.size
        ∙ front_read disk owner place received s.sizes (header_length file) (header_within file s.items) skip out)
        ∙ ap (λ (x : List ℕ). reads (length x) (put_front (drop skip x) out)) (sym entry)
        ∙ ap (λ (b : Bool). read_of b disk owner place received skip out) (sym l)

    pub read_short : (long : Bool) (at : ℕ) (after : List ℕ)
        → long ≡ false
        → at ≡ h.place.at - 3
        → after ≡ put_front (drop skip (short_read disk owner place at)) out
        → reads 80 after ≡ read_of long disk owner place received skip out
    unfolding read_of entry_at
    read_short long at after l a q =
        let s = says in
        let file : List ℕ = file_at disk owner place received in
        let entry : entry_at false disk owner place received ≡ short_entry file = rw s.sizes (entry_passed false file s.items) in
        let k : at ≡ (place_of 18 file).at - 3 = a ∙ ap (λ (n : ℕ). n - 3) s.upload in
        ap₂ (λ (n : ℕ) (x : List ℕ). reads n x) (sym (short_length file s.items))
        (q ∙ ap (λ (n : ℕ). put_front (drop skip (short_read disk owner place n)) out) k
        ∙ ap (λ (x : List ℕ). put_front (drop skip x) out) (short_read_law disk owner place received s.sizes s.items))
        ∙ ap (λ (x : List ℕ). reads (length x) (put_front (drop skip x) out)) (sym entry)
        ∙ ap (λ (b : Bool). read_of b disk owner place received skip out) (sym l)

-- ---- the array of the short form

-- after the first read, of 70 bytes
module _ (first : List ℕ) (l : length first ≡ 70) where
  pub form_within : 77 ≤ length (first ++ replicate 10 0)
  form_within = rw (length-append first (replicate 10 0), l) (omega arith)

  pub form_middle : take 7 (drop 70 (first ++ replicate 10 0)) ≡ replicate 7 0
  form_middle = rw (drop_at first (replicate 10 0) 70 l)

  -- and after the second, of 7
  pub form_whole : (second : List ℕ)
      → take 70 (first ++ replicate 10 0) ++ (second ++ drop 7 (drop 70 (first ++ replicate 10 0))) ≡ first ++ (second ++ 0 ∷ 0 ∷ 0 ∷ [])
  form_whole second = rw (drop_at first (replicate 10 0) 70 l, take_at first (replicate 10 0) 70 l)

read_size : (disk owner : List ℕ) (place at : ℕ) (out : List ℕ) → length (read_out disk owner place at out) ≡ length out
read_size disk owner place at out = go (eqb (window_number (length disk) owner place at (length out)) 0) refl
  where
    go : (t : Bool) → eqb (window_number (length disk) owner place at (length out)) 0 ≡ t → length (read_out disk owner place at out) ≡ length out
    go true e = (read_gives disk owner place at out (eqb-true (window_number (length disk) owner place at (length out)) 0 e)).1
    go false e = ap length (read_kept disk owner place at out (eqb-false (window_number (length disk) owner place at (length out)) 0 e))

module _ (disk owner : List ℕ) (place at : ℕ) where
  form_size : length (short_read disk owner place at) ≡ 80
  unfolding short_read
  form_size = rw (length-append, length-append, read_size disk owner place 0 (replicate 70 0), read_size disk owner place at (replicate 7 0))

  module _ (skip : ℕ) (out : List ℕ) where
    -- what is lent from byte `skip` on is the rest of the form
    pub form_rest : (form : List ℕ)
        → form ≡ short_read disk owner place at
        → put_front (take (80 - skip) (drop skip form)) out ≡ put_front (drop skip (short_read disk owner place at)) out
    form_rest form e =
        let l : length form ≡ 80 = ap length e ∙ form_size in
        ap (λ (x : List ℕ). put_front x out) (take_all (80 - skip) (drop skip form) (rw length-drop (omega arith)))
        ∙ ap (λ (x : List ℕ). put_front (drop skip x) out) e

    -- past its end nothing is put
    pub form_past : 80 ≤ skip → out ≡ put_front (drop skip (short_read disk owner place at)) out
    form_past h =
        let e : drop skip (short_read disk owner place at) ≡ [] = drop_of_length-le (short_read disk owner place at) {i = skip} (omega (arith, form_size)) in
        sym (ap (λ (x : List ℕ). put_front x out) e ∙ rw (take-nil (length out)))
