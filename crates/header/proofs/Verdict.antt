-- The byte machine's answers are those of specs/Header.antt. Assumes nothing.
use Rattle.std.proofs.Common.{◌≡◌, ℕ, zero, suc, ◌+◌, ◌-◌, ◌/◌, ◌%◌, ◌<◌, ◌≤◌, Bool, true, false, cond, eqb, ltb, leb, List, [], ◌∷◌, ◌++◌, length, take, drop, Ok, sym, refl, ap, ◌∙◌, subst, ap₂, arith, length-append, eqb-true, leb-true}
use lib.Seq.{take-append_seam, drop-append_seam}
use Rattle.numbers.specs.Numbers.{number}
use Rattle.header.specs.Items.{Field, walk, marked, fields_of}
use Rattle.header.specs.Header.{listed, every, count_if, times, bytes_of, length_in, fits, ordered, proper, complete, sum_of, header_length, header_sum, body_sum, check_items, check_values, verdict, nowhere, place_from, place_of, refused_with, header_of}
use Rattle.header.specs.Scan.{in_header, in_body, unmarked, passed_one, place_after, with_head, with_data, start_of, step_of, scan_from, header_from, seen_refusal, item_refusal, scan_sum, value_refusal, scan_verdict, scan_header}
use Rattle.header.specs.declared.scan.Phase.{Phase}
use Rattle.header.specs.declared.scan.Phase.TheVariants.{Second, Low, Body, Unmarked}
use Rattle.header.specs.declared.scan.Passed.{Passed}
use Rattle.header.specs.declared.scan.Place.{Place}
use Rattle.header.specs.declared.scan.Seen.{Seen}
use Rattle.header.specs.declared.scan.Scan.{Scan}
use Rattle.header.proofs.Machine.{clash, mk, in_body_law, body_run, rest_other, unmarked_run, header_stop}
use Rattle.header.proofs.Written.{Bytes, bytes_append, raw, written, Named, length_raw, length_written, walk_written}
use Rattle.header.proofs.Reading.{passes, head_passed, captured, seen_as, item_seen, seen_items, Stuck, Ends, Followed, followed}
use Rattle.header.proofs.Order.{low, Complete, complete_parts, proper_parts, proper_ok, complete_ok, length_of}
use Rattle.header.proofs.Values as vals

-- ---- the header's bytes alone

-- a scan with another sum of the body
abbrev headed : ℕ → Scan → Scan
headed body s = mk s.want s.phase s.passed body s.seen

body_headed : (w : ℕ) (p : Passed) (body k : ℕ) (seen : Seen) (bs : List ℕ) → headed k (scan_from (mk w Body p body seen) bs) ≡ mk w Body p k seen
unfolding scan_from step_of
body_headed w p body k seen [] = refl
body_headed w p body k seen (b ∷ bs) = body_headed w p ((body + b) % 65536) k seen bs

stays : (s : Scan) (bs : List ℕ) → in_header s.phase ≡ false → s ≡ headed s.body (scan_from s bs)
stays s bs e = go (in_body s.phase) refl
  where
    go : (t : Bool) → in_body s.phase ≡ t → s ≡ headed s.body (scan_from s bs)
    go true f =
        let q = in_body_law s.phase f in
        ap (λ (ph : Phase). mk s.want ph s.passed s.body s.seen) q
        ∙ sym (ap (λ (ph : Phase). headed s.body (scan_from (mk s.want ph s.passed s.body s.seen) bs)) q ∙ body_headed s.want s.passed s.body s.body s.seen bs)
    go false f = sym (ap (headed s.body) (rest_other s bs e f))

step_body : (s : Scan) (b : ℕ) → in_header s.phase ≡ true → (step_of s b).body ≡ s.body
unfolding step_of
step_body s b e = go (in_body s.phase) refl
  where
    go : (t : Bool) → in_body s.phase ≡ t → cond t ((s.body + b) % 65536) s.body ≡ s.body
    go true f = absurd (clash (sym e ∙ ap in_header (in_body_law s.phase f)))
    go false f = refl

-- the scan of the header alone is the scan of the file but for the body's sum
pub header_scan : (s : Scan) (bs : List ℕ) → header_from s bs ≡ headed s.body (scan_from s bs)
header_scan s [] = unfold header_from scan_from in refl
header_scan s (b ∷ bs) = go (in_header s.phase) refl (header_scan (step_of s b) bs)
  where
    on : in_header s.phase ≡ true → header_from s (b ∷ bs) ≡ header_from (step_of s b) bs
    on e = unfold header_from in rw e

    go : (t : Bool)
        → in_header s.phase ≡ t
        → header_from (step_of s b) bs ≡ headed (step_of s b).body (scan_from (step_of s b) bs)
        → header_from s (b ∷ bs) ≡ headed s.body (scan_from s (b ∷ bs))
    go true e ih =
        on e ∙ ih ∙ ap (λ (k : ℕ). headed k (scan_from (step_of s b) bs)) (step_body s b e) ∙ (unfold scan_from in refl)
    go false e ih = header_stop s (b ∷ bs) e ∙ stays s (b ∷ bs) e

headed_header : (k : ℕ) (s : Scan) → scan_header (headed k s) ≡ scan_header s
unfolding scan_header item_refusal
headed_header k s = refl

-- ---- what the scan of a file is

-- after the mark
abbrev p₂ : Passed
p₂ = passed_one (passed_one (record { pos = 0; recent = 0; sum = 0 }) 170) 85

abbrev s₀ : Seen
s₀ = (start_of 0).seen

abbrev end_scan : ℕ → List Field → List ℕ → Scan
end_scan w is rest = mk w Body (passes p₂ (written is)) ((0 + sum_of rest) % 65536) (seen_items w p₂ s₀ is)

pub data Shape (w : ℕ) (file : List ℕ) : Type 0 where
  no_mark : marked file ≡ false → unmarked (scan_from (start_of w) file).phase ≡ true → Shape w file
  no_end : marked file ≡ true → (walk 0 (drop 2 file)).whole ≡ false → Stuck (scan_from (start_of w) file) → Shape w file
  header : (is : List Field) (rest : List ℕ)
      → Named is
      → file ≡ 170 ∷ 85 ∷ written is ++ rest
      → scan_from (start_of w) file ≡ end_scan w is rest
      → Shape w file

good_mark : (w : ℕ) (bs : List ℕ) → scan_from (start_of w) (170 ∷ 85 ∷ bs) ≡ scan_from (mk w Low p₂ 0 s₀) bs
unfolding scan_from step_of
good_mark w bs = refl

after_mark : (w : ℕ) (bs : List ℕ) → Bytes bs → Shape w (170 ∷ 85 ∷ bs)
after_mark w bs v = go (walk 0 bs).whole refl (followed w p₂ 0 s₀ bs v)
  where
    go : (t : Bool) → (walk 0 bs).whole ≡ t → Followed w p₂ 0 s₀ bs (walk 0 bs) → Shape w (170 ∷ 85 ∷ bs)
    go true e f =
        let s : Ends w p₂ 0 s₀ bs (walk 0 bs).items (walk 0 bs).size = rw e at f in
        header
        (walk 0 bs).items
        s.rest
        s.named
        (ap (λ (l : List ℕ). 170 ∷ 85 ∷ l) s.split)
        (good_mark w bs ∙ s.saw ∙ body_run w (passes p₂ (written (walk 0 bs).items)) 0 (seen_items w p₂ s₀ (walk 0 bs).items) s.rest (omega arith))
    go false e f =
        let s : Stuck (scan_from (mk w Low p₂ 0 s₀) bs) = rw e at f in
        no_end (unfold marked in refl) e (subst (λ (z : Scan). Stuck z) (sym (good_mark w bs)) s)

bad_first : (w a : ℕ) (bs : List ℕ) → eqb a 170 ≡ false → unmarked (scan_from (start_of w) (a ∷ bs)).phase ≡ true
unfolding scan_from step_of
bad_first w a bs e =
    let p : Passed = passed_one (record { pos = 0; recent = 0; sum = 0 }) a in
    ap (λ (t : Bool). unmarked (scan_from (mk w (cond t Second Unmarked) p 0 s₀) bs).phase) e ∙ ap (λ (z : Scan). unmarked z.phase) (unmarked_run w p 0 s₀ bs)

bad_second : (w b : ℕ) (bs : List ℕ) → eqb b 85 ≡ false → unmarked (scan_from (start_of w) (170 ∷ b ∷ bs)).phase ≡ true
unfolding scan_from step_of
bad_second w b bs e =
    let p : Passed = passed_one (passed_one (record { pos = 0; recent = 0; sum = 0 }) 170) b in
    ap (λ (t : Bool). unmarked (scan_from (mk w (cond t Low Unmarked) p 0 s₀) bs).phase) e ∙ ap (λ (z : Scan). unmarked z.phase) (unmarked_run w p 0 s₀ bs)

pub shape : (w : ℕ) (file : List ℕ) → Bytes file → Shape w file
shape w [] v = unfold marked scan_from in no_mark refl refl
shape w (a ∷ []) v = unfold marked scan_from step_of in no_mark refl (one (eqb a 170))
  where
    one : (t : Bool) → unmarked (cond t Second Unmarked) ≡ true
    one true = refl
    one false = refl
shape w (a ∷ b ∷ bs) v = two (eqb a 170) refl (eqb b 85) refl
  where
    two : (t : Bool) → eqb a 170 ≡ t → (u : Bool) → eqb b 85 ≡ u → Shape w (a ∷ b ∷ bs)
    two true e true f = rw (eqb-true a 170 e, eqb-true b 85 f) (after_mark w bs v.1.1)
    two true e false f = rw (eqb-true a 170 e) (no_mark (unfold marked in rw f) (bad_second w b bs f))
    two false e u f = no_mark (unfold marked in rw e) (bad_first w a (b ∷ bs) e)

-- ---- a header that ends

-- the order of 14 and 6
one_of : (u : ℕ) (a b : Bool) → leb u 1 ≡ true → eqb u 1 ≡ a → leb 1 u ≡ b → a ≡ b
one_of zero a b h e f = sym e ∙ f
one_of (suc zero) a b h e f = sym e ∙ f
one_of (suc (suc u)) a b h e f = absurd (omega (arith, leb-true (suc (suc u)) 1 h))

decide : (u n : ℕ) (c : Bool)
    → c ≡ cond (eqb n 11) (leb 1 u) false
    → ◌≡◌ {A = ℕ} (cond (leb u 1) (cond (eqb n 11) (cond (eqb u 1) 0 6) 6) 14) (cond (leb u 1) (cond c 0 6) 14)
decide u n c e = rw e (go (leb u 1) refl (eqb n 11) (eqb u 1) refl (leb 1 u) refl)
  where
    sixth : Bool → ℕ
    sixth t = cond t 0 6

    go : (a : Bool)
        → leb u 1 ≡ a
        → (b d : Bool)
        → eqb u 1 ≡ d
        → (m : Bool)
        → leb 1 u ≡ m
        → ◌≡◌ {A = ℕ} (cond a (cond b (cond d 0 6) 6) 14) (cond a (cond (cond b m false) 0 6) 14)
    go false x b d y m z = refl
    go true x false d y m z = refl
    go true x true d y m z = ap sixth (one_of u d m x y z)

own_sum : (s x a b own : ℕ) → a + b ≡ own → own ≤ 510 → own ≤ x → s ≡ x % 65536 → (s + 131072 - a - b) % 65536 ≡ (x - own) % 65536
own_sum s x a b own e l h t = omega arith

no_order : (is : List Field) → ordered 0 is ≡ false → proper is ≡ false
unfolding proper
no_order is o = rw o (go (every fits is) (every (λ row. leb (times row.0 is) 1) listed))
  where
    go : (a b : Bool) → cond a (cond b false false) false ≡ false
    go true true = refl
    go true false = refl
    go false b = refl

no_fit : (is : List Field) → every fits is ≡ false → proper is ≡ false
unfolding proper
no_fit is f = rw f

-- the place of the wanted item
item_place : (w : ℕ) (p : Passed) (seen : Seen) (id a b : ℕ) (xs : List ℕ)
    → (seen_as w p seen id a b xs).place ≡ place_after seen.place w id (length xs) (head_passed p a b (length xs)).pos
unfolding seen_as captured with_data with_head
item_place w p seen id a b [] = refl
item_place w p seen id a b (x ∷ xs) = refl

abbrev or_else : Place → Place → Place
or_else q r = cond q.found q r

-- none found is nowhere
abbrev Fresh : Place → Type 0
Fresh q = q.found ≡ false → q ≡ nowhere

fresh_after : (q : Place) (w id n at : ℕ) → Fresh q → Fresh (place_after q w id n at)
fresh_after q w id n at h = go q.found refl (eqb id w)
  where
    go : (f : Bool) → q.found ≡ f → (e : Bool) → Fresh (cond f q (cond e (record { found = true; at = at; size = n }) q))
    go true g e = h
    go false g true = λ z. absurd (clash z)
    go false g false = h

place_run : (w : ℕ) (p : Passed) (seen : Seen) (is : List Field)
    → p.pos + length (written is) < 18446744073709551616
    → Fresh seen.place
    → (seen_items w p seen is).place ≡ or_else seen.place (place_from w p.pos is)
unfolding seen_items place_from written
place_run w p seen [] h n = go seen.place.found refl
  where
    go : (f : Bool) → seen.place.found ≡ f → seen.place ≡ cond f seen.place nowhere
    go true e = refl
    go false e = n e
place_run w p seen (x ∷ xs) h n =
    let l : length (raw x ++ written xs) ≡ length (raw x) + length (written xs) = length-append (raw x) (written xs) in
    let r = length_raw x in
    let q : (passes p (raw x)).pos ≡ p.pos + (3 + length x.bytes) = vals.passes_pos p (raw x) (omega arith) ∙ omega arith in
    let q₃ : (head_passed p (x.id % 256) (x.id / 256) (length x.bytes)).pos ≡ p.pos + 3 = omega arith in
    place_run w (passes p (raw x)) (item_seen w p seen x) xs (omega arith)
    (subst Fresh (sym (item_place w p seen x.id (x.id % 256) (x.id / 256) x.bytes)) (fresh_after seen.place w x.id (length x.bytes) (head_passed p (x.id % 256) (x.id / 256) (length x.bytes)).pos n))
    ∙ ap₂ (λ (s : Place) (n : ℕ). or_else s (place_from w n xs))
    (item_place w p seen x.id (x.id % 256) (x.id / 256) x.bytes ∙ ap (place_after seen.place w x.id (length x.bytes)) q₃) q
    ∙ go seen.place.found refl (eqb x.id w)
  where
    go : (f : Bool)
        → seen.place.found ≡ f
        → (e : Bool)
        → or_else (cond f seen.place (cond e (record { found = true; at = p.pos + 3; size = length x.bytes }) seen.place)) (place_from w (p.pos + (3 + length x.bytes)) xs)
        ≡ cond f seen.place (cond e (record { found = true; at = p.pos + 3; size = length x.bytes }) (place_from w (p.pos + (3 + length x.bytes)) xs))
    go true h e = rw h
    go false h true = refl
    go false h false = rw h

abbrev pub file_of : List Field → List ℕ → List ℕ
file_of is rest = 170 ∷ 85 ∷ written is ++ rest

module _ (is : List Field) (rest : List ℕ) (named : Named is) where
  pub file_walk : walk 0 (drop 2 (file_of is rest)) ≡ record { items = is; whole = true; size = length (written is) }
  file_walk = walk_written is rest named

  pub file_marked : marked (file_of is rest) ≡ true
  unfolding marked
  file_marked = refl

  pub file_fields : fields_of (file_of is rest) ≡ is
  unfolding fields_of
  file_fields = rw (file_marked, file_walk)

  pub file_length : header_length (file_of is rest) ≡ 2 + length (written is)
  file_length = rw file_walk

  pub file_header : take (2 + length (written is)) (file_of is rest) ≡ 170 ∷ 85 ∷ written is
  file_header =
      let e : 2 + length (written is) ≡ suc (suc (length (written is))) = omega arith in rw (e, take-append_seam (written is) rest)

  pub file_body : drop (2 + length (written is)) (file_of is rest) ≡ rest
  file_body =
      let e : 2 + length (written is) ≡ suc (suc (length (written is))) = omega arith in rw (e, drop-append_seam (written is) rest)

  pub file_items : check_items (file_of is rest) ≡ cond (proper is) (cond (complete is) 0 6) 14
  unfolding check_items
  file_items = rw (file_marked, file_walk, file_fields)

  pub file_sum : header_sum (file_of is rest) ≡ (255 + sum_of (written is) - sum_of (bytes_of 10 is)) % 65536
  unfolding sum_of
  file_sum =
      let q : 170 + (85 + sum_of (written is)) ≡ 255 + sum_of (written is) = omega arith in rw (file_length, file_header, file_fields, q)

-- the machine's state at the end of a header
module _ (w : ℕ) (is : List Field) (rest : List ℕ) (named : Named is) (small : 2 + (length (written is) + length rest) < 18446744073709551616) where
  abbrev S : Seen
  S = seen_items w p₂ s₀ is

  abbrev P : Passed
  P = passes p₂ (written is)

  few : length is < 18446744073709551616
  few = omega (arith, length_written is)

  lows : S.low ≡ count_if low is
  unfolding with_data with_head
  lows = vals.counted (λ s. s.low) low (λ s id recent. refl) (λ s w id n at. refl) w p₂ s₀ is (omega (arith, few)) ∙ omega arith

  uploads : S.uploads ≡ times 18 is
  unfolding with_data with_head
  uploads =
      vals.counted (λ s. s.uploads) (λ n. eqb n 18) (λ s id recent. refl) (λ s w id n at. refl) w p₂ s₀ is (omega (arith, few)) ∙ omega arith

  destined : S.destinations ≡ times 20 is
  unfolding with_data with_head
  destined =
      vals.counted (λ s. s.destinations) (λ n. eqb n 20) (λ s id recent. refl) (λ s w id n at. refl) w p₂ s₀ is (omega (arith, few)) ∙ omega arith

  oks : S.ok ≡ cond (every fits is) (ordered 0 is) false
  oks = vals.ok_run w p₂ s₀ is

  placed : S.place ≡ place_from w 2 is
  placed = place_run w p₂ s₀ is (omega arith) (λ z. refl)

  ended_at : P.pos ≡ 2 + length (written is)
  ended_at = vals.passes_pos p₂ (written is) (omega arith)

  summed : P.sum ≡ (255 + sum_of (written is)) % 65536
  summed = vals.passes_sum p₂ (written is) (omega arith)

  pub items_refused : item_refusal (end_scan w is rest) ≡ check_items (file_of is rest)
  unfolding item_refusal
  items_refused = go (every fits is) refl (ordered 0 is) refl ∙ sym (file_items is rest named)
    where
      go : (f : Bool) → every fits is ≡ f → (o : Bool) → ordered 0 is ≡ o → seen_refusal S ≡ cond (proper is) (cond (complete is) 0 6) 14
      go true f true o =
          let k : S.ok ≡ true = oks ∙ rw (f, o) refl in
          rw (k, uploads, lows, proper_ok is o f) (decide (times 18 is) (count_if low is) (complete is) (complete_ok is o))
      go true f false o =
          let k : S.ok ≡ false = oks ∙ rw (f, o) refl in rw (k, no_order is o)
      go false f o e =
          let k : S.ok ≡ false = oks ∙ rw f refl in rw (k, no_fit is f)

  module _ (bytes : Bytes (written is)) (f : every fits is ≡ true) (c : Complete is) where
    sizes : S.size ≡ number (bytes_of 4 is)
    unfolding with_data with_head listed length_in
    sizes =
        let t = c.low 4 (omega arith) (omega arith) in
        let l = length_of 4 3 is refl f (omega arith) in
        vals.value_four S.size (bytes_of 4 is) (vals.taken (λ s. s.size) 4 (λ s w id n at. refl) (λ s id recent. refl) w p₂ s₀ is (omega arith) bytes t (omega arith)) l

    -- the field of two bytes that the machine keeps under g
    two_bytes : (g : Seen → ℕ) (i : ℕ)
        → ((s : Seen) (w id n at : ℕ) → g (with_head s w id n at) ≡ g s)
        → ((s : Seen) (id recent : ℕ) → g (with_data s id recent) ≡ cond (eqb id i) recent (g s))
        → 0 < i
        → i ≤ 11
        → length_in listed i ≡ 2
        → vals.Two (g S) (bytes_of i is)
    two_bytes g i heads datas a b e =
        let t = c.low i a b in
        let l = length_of i 1 is e f (omega arith) in
        vals.value_two (g S) (bytes_of i is) (vals.taken g i heads datas w p₂ s₀ is (omega arith) bytes t (omega arith)) l

    offsets : vals.Two S.offset (bytes_of 11 is)
    unfolding with_data with_head listed length_in
    offsets = two_bytes (λ s. s.offset) 11 (λ s w id n at. refl) (λ s id recent. refl) (omega arith) (omega arith) refl

    headsums : vals.Two S.headsum (bytes_of 10 is)
    unfolding with_data with_head listed length_in
    headsums = two_bytes (λ s. s.headsum) 10 (λ s w id n at. refl) (λ s id recent. refl) (omega arith) (omega arith) refl

    bodysums : vals.Two S.bodysum (bytes_of 9 is)
    unfolding with_data with_head listed length_in
    bodysums = two_bytes (λ s. s.bodysum) 9 (λ s w id n at. refl) (λ s id recent. refl) (omega arith) (omega arith) refl

    own : scan_sum P S ≡ header_sum (file_of is rest)
    own =
        let h = headsums.own in
        let l = headsums.little in
        let t = summed in
        let le = vals.sum_of_law 10 is in
        own_sum P.sum (255 + sum_of (written is)) (S.headsum / 65536 % 256) (S.headsum / 16777216) (sum_of (bytes_of 10 is)) h l (omega arith) t
        ∙ sym (file_sum is rest named)

    pub values_refused : (announced : ℕ) → value_refusal P S ((0 + sum_of rest) % 65536) announced ≡ check_values (file_of is rest) announced
    unfolding check_values
    values_refused announced =
        let z : (0 + sum_of rest) % 65536 ≡ body_sum (file_of is rest) = rw (file_length is rest named, file_body is rest named) (omega arith) in
        let p : P.pos ≡ header_length (file_of is rest) = ended_at ∙ sym (file_length is rest named) in
        rw (offsets.value, p, sizes, own, headsums.value, z, bodysums.value, file_fields is rest named)

-- ---- THE THEOREMS of the header: what a scan of a file says is what the paper says

-- what the two say, where the items pass
record Same (w : ℕ) (file : List ℕ) (s : Scan) : Type 0 where
  pub values : (announced : ℕ) → value_refusal s.passed s.seen s.body announced ≡ check_values file announced
  pub sum : scan_sum s.passed s.seen ≡ header_sum file
  pub size : s.passed.pos ≡ header_length file
  pub destinations : s.seen.destinations ≡ times 20 (fields_of file)
  pub place : s.seen.place ≡ place_of w file

record Read (w : ℕ) (file : List ℕ) (s : Scan) : Type 0 where
  pub items : item_refusal s ≡ check_items file
  pub same : check_items file ≡ 0 → Same w file s

no : (n k : ℕ) → suc n ≡ k → k ≡ 0 → ⊥
no n k e f = omega arith

pub passed_both : (is : List Field) (k : ℕ) → cond (proper is) (cond (complete is) 0 6) 14 ≡ k → k ≡ 0 → (proper is ≡ true) × (complete is ≡ true)
passed_both is k e z = go (proper is) refl (complete is) refl (e ∙ z)
  where
    go : (p : Bool)
        → proper is ≡ p
        → (c : Bool)
        → complete is ≡ c
        → ◌≡◌ {A = ℕ} (cond p (cond c 0 6) 14) 0
        → (proper is ≡ true) × (complete is ≡ true)
    go true p true c e = (p, c)
    go true p false c e = absurd (omega arith)
    go false p c d e = absurd (omega arith)

read : (w : ℕ) (file : List ℕ) → Bytes file → length file < 18446744073709551616 → Shape w file → Read w file (scan_from (start_of w) file)
read w file v h (no_mark m u) =
    let k : check_items file ≡ 7 = unfold check_items in rw m in
    let r : item_refusal (scan_from (start_of w) file) ≡ 7 = unfold item_refusal in rw u in
    record { items = r ∙ sym k; same = λ e. absurd (no 6 (check_items file) (sym k) e) }
read w file v h (no_end m t s) =
    let k : check_items file ≡ 14 = unfold check_items in rw (m, t) in
    let r : item_refusal (scan_from (start_of w) file) ≡ 14 = unfold item_refusal in rw (s.begun, s.out) in
    record { items = r ∙ sym k; same = λ e. absurd (no 13 (check_items file) (sym k) e) }
read w file v h (header is rest named f s) =
    subst (λ (z : Scan). Read w file z) (sym s) (subst (λ (l : List ℕ). Read w l (end_scan w is rest)) (sym f) (here (subst (λ (l : List ℕ). Bytes l) f v) (subst (λ (l : List ℕ). length l < 18446744073709551616) f h)))
  where
    here : Bytes (file_of is rest) → length (file_of is rest) < 18446744073709551616 → Read w (file_of is rest) (end_scan w is rest)
    here v h =
        let b = bytes_append (written is) rest v.1.1 in
        let l = length-append (written is) rest in
        record {
          items = items_refused w is rest named (omega arith);
          same = λ e. go b.0 (omega arith) (passed_both is (check_items (file_of is rest)) (sym (file_items is rest named)) e);
        }
      where
        go : Bytes (written is)
            → 2 + (length (written is) + length rest) < 18446744073709551616
            → (proper is ≡ true) × (complete is ≡ true)
            → Same w (file_of is rest) (end_scan w is rest)
        go b small p =
            let fit = (proper_parts is p.0).fit in
            let c = complete_parts is p.0 p.1 in
            record {
              values = values_refused w is rest named small b fit c;
              sum = own w is rest named small b fit c;
              size = ended_at w is rest named small ∙ sym (file_length is rest named);
              destinations = destined w is rest named small ∙ sym (ap (times 20) (file_fields is rest named));
              place = placed w is rest named small ∙ sym (ap (place_from w 2) (file_fields is rest named));
            }

module _ (w : ℕ) (file : List ℕ) (v : Bytes file) (h : length file < 18446744073709551616) where
  reading : Read w file (scan_from (start_of w) file)
  reading = read w file v h (shape w file v)

  pub verdict_scanned : (announced : ℕ) → scan_verdict (scan_from (start_of w) file) (length file) announced ≡ verdict file announced
  unfolding scan_verdict verdict
  verdict_scanned announced = rw reading.items (go (scan_from (start_of w) file) reading.same (eqb (check_items file) 0) refl)
    where
      go : (s : Scan)
          → (check_items file ≡ 0 → Same w file s)
          → (t : Bool)
          → eqb (check_items file) 0 ≡ t
          → cond (ltb (length file) announced) 16 (cond t (value_refusal s.passed s.seen s.body announced) (check_items file))
          ≡ cond (ltb (length file) announced) 16 (cond t (check_values file announced) (check_items file))
      go s r true e = rw ((r (eqb-true (check_items file) 0 e)).values announced)
      go s r false e = refl

  pub header_scanned : scan_header (scan_from (start_of w) file) ≡ header_of w file
  unfolding scan_header header_of
  header_scanned = rw reading.items (go (scan_from (start_of w) file) reading.same (eqb (check_items file) 0) refl)
    where
      go : (s : Scan)
          → (check_items file ≡ 0 → Same w file s)
          → (t : Bool)
          → eqb (check_items file) 0 ≡ t
          → cond t (Ok (record { size = s.passed.pos; sum = scan_sum s.passed s.seen; destinations = s.seen.destinations; place = s.seen.place })) (refused_with (check_items file))
          ≡ cond t (Ok (record { size = header_length file; sum = header_sum file; destinations = times 20 (fields_of file); place = place_of w file })) (refused_with (check_items file))
      go s r true e =
          let q = r (eqb-true (check_items file) 0 e) in rw (q.size, q.sum, q.destinations, q.place)
      go s r false e = refl

  -- and so for the scan of the header's bytes alone
  pub header_only : scan_header (header_from (start_of w) file) ≡ header_of w file
  header_only = ap scan_header (header_scan (start_of w) file) ∙ headed_header 0 (scan_from (start_of w) file) ∙ header_scanned

  -- the sum of the header's bytes alone, where the items are not refused
  pub sum_only : check_items file ≡ 0
      → scan_sum (header_from (start_of w) file).passed (header_from (start_of w) file).seen ≡ header_sum file
  sum_only e = ap (λ (s : Scan). scan_sum s.passed s.seen) (header_scan (start_of w) file) ∙ (reading.same e).sum
