-- Laws on the byte machine: its runs over parts of a file, and its state past the header. Assumes nothing.
use Rattle.std.proofs.Common.{◌≡◌, ℕ, suc, ◌+◌, ◌%◌, ◌<◌, Bool, true, false, List, [], ◌∷◌, ◌++◌, length, get_or, drop, sym, refl, ap, ◌∙◌, add-one, arith, drop-cons}
use Rattle.header.specs.Header.{sum_of}
use Rattle.header.specs.Scan.{in_header, in_body, step_of, scan_from, header_from}
use Rattle.header.specs.declared.scan.Phase.{Phase}
use Rattle.header.specs.declared.scan.Phase.TheVariants.{First, Second, Low, High, Length, Inside, Body, Broken, Unmarked}
use Rattle.header.specs.declared.scan.Passed.{Passed}
use Rattle.header.specs.declared.scan.Seen.{Seen}
use Rattle.header.specs.declared.scan.Scan.{Scan}

pub clash : true ≡ false → ⊥
clash e = let z : ◌≡◌ {A = ℕ} 0 1 = cc in omega arith

abbrev pub mk : ℕ → Phase → Passed → ℕ → Seen → Scan
mk w ph p body seen = record { want = w; phase = ph; passed = p; body = body; seen = seen }

-- ---- parts of a file

-- THE LAW of pieces: the scan of two pieces is the scan of the second after the scan of the first
pub scan_append : (s : Scan) (xs ys : List ℕ) → scan_from s (xs ++ ys) ≡ scan_from (scan_from s xs) ys
unfolding scan_from
scan_append s [] ys = refl
scan_append s (x ∷ xs) ys = scan_append (step_of s x) xs ys

-- past the header nothing is looked at
pub header_stop : (s : Scan) (bs : List ℕ) → in_header s.phase ≡ false → header_from s bs ≡ s
unfolding header_from
header_stop s [] e = refl
header_stop s (b ∷ bs) e = rw e

header_go : (s : Scan) (b : ℕ) (bs : List ℕ) → in_header s.phase ≡ true → header_from s (b ∷ bs) ≡ header_from (step_of s b) bs
unfolding header_from
header_go s b bs e = rw e

-- the same law of the header's bytes alone
pub header_append : (s : Scan) (xs ys : List ℕ) → header_from s (xs ++ ys) ≡ header_from (header_from s xs) ys
header_append s [] ys = unfold header_from in refl
header_append s (x ∷ xs) ys = go (in_header s.phase) refl (header_append (step_of s x) xs ys)
  where
    go : (t : Bool)
        → in_header s.phase ≡ t
        → header_from (step_of s x) (xs ++ ys) ≡ header_from (header_from (step_of s x) xs) ys
        → header_from s (x ∷ xs ++ ys) ≡ header_from (header_from s (x ∷ xs)) ys
    go true e ih = header_go s x (xs ++ ys) e ∙ ih ∙ sym (ap (λ (z : Scan). header_from z ys) (header_go s x xs e))
    go false e ih =
        header_stop s (x ∷ xs ++ ys) e ∙ sym (ap (λ (z : Scan). header_from z ys) (header_stop s (x ∷ xs) e) ∙ header_stop s ys e)

-- ---- for the loops

pub scan_step : (s : Scan) (xs : List ℕ) (i : ℕ) → i < length xs → scan_from s (drop i xs) ≡ scan_from (step_of s (get_or xs i 0)) (drop (i + 1) xs)
unfolding scan_from
scan_step s xs i h = rw (add-one, drop-cons xs i 0)

pub header_step : (s : Scan) (xs : List ℕ) (i : ℕ)
    → in_header s.phase ≡ true
    → i < length xs
    → header_from s (drop i xs) ≡ header_from (step_of s (get_or xs i 0)) (drop (i + 1) xs)
header_step s xs i e h = rw (add-one, drop-cons xs i 0) (header_go s (get_or xs i 0) (drop (suc i) xs) e)

pub sum_step : (xs : List ℕ) (i : ℕ) → i < length xs → sum_of (drop i xs) ≡ get_or xs i 0 + sum_of (drop (i + 1) xs)
unfolding sum_of
sum_step xs i h = rw (add-one, drop-cons xs i 0)

-- ---- past the header

-- the body's bytes are summed
pub body_run : (w : ℕ) (p : Passed) (body : ℕ) (seen : Seen) (bs : List ℕ)
    → body < 65536
    → scan_from (mk w Body p body seen) bs ≡ mk w Body p ((body + sum_of bs) % 65536) seen
unfolding scan_from step_of sum_of
body_run w p body seen [] h =
    let e : body ≡ (body + 0) % 65536 = omega arith in ap (λ (k : ℕ). mk w Body p k seen) e
body_run w p body seen (b ∷ bs) h =
    let e : ((body + b) % 65536 + sum_of bs) % 65536 ≡ (body + (b + sum_of bs)) % 65536 = omega arith in
    body_run w p ((body + b) % 65536) seen bs (omega arith) ∙ ap (λ (k : ℕ). mk w Body p k seen) e

pub in_body_law : (ph : Phase) → in_body ph ≡ true → ph ≡ Body
in_body_law First e = absurd (clash (sym e))
in_body_law Second e = absurd (clash (sym e))
in_body_law Low e = absurd (clash (sym e))
in_body_law (High a) e = absurd (clash (sym e))
in_body_law (Length id) e = absurd (clash (sym e))
in_body_law (Inside id left) e = absurd (clash (sym e))
in_body_law Body e = refl
in_body_law Broken e = absurd (clash (sym e))
in_body_law Unmarked e = absurd (clash (sym e))

pub rest_body : (s : Scan) (bs : List ℕ)
    → in_body s.phase ≡ true
    → s.body < 65536
    → scan_from s bs ≡ mk s.want s.phase s.passed ((s.body + sum_of bs) % 65536) s.seen
rest_body s bs e h =
    let q = in_body_law s.phase e in
    ap (λ (ph : Phase). scan_from (mk s.want ph s.passed s.body s.seen) bs) q
    ∙ body_run s.want s.passed s.body s.seen bs h
    ∙ sym (ap (λ (ph : Phase). mk s.want ph s.passed ((s.body + sum_of bs) % 65536) s.seen) q)

-- broken items and a lacking mark stay so
pub broken_run : (w : ℕ) (p : Passed) (body : ℕ) (seen : Seen) (bs : List ℕ) → scan_from (mk w Broken p body seen) bs ≡ mk w Broken p body seen
unfolding scan_from step_of
broken_run w p body seen [] = refl
broken_run w p body seen (b ∷ bs) = broken_run w p body seen bs

pub unmarked_run : (w : ℕ) (p : Passed) (body : ℕ) (seen : Seen) (bs : List ℕ)
    → scan_from (mk w Unmarked p body seen) bs ≡ mk w Unmarked p body seen
unfolding scan_from step_of
unmarked_run w p body seen [] = refl
unmarked_run w p body seen (b ∷ bs) = unmarked_run w p body seen bs

pub rest_other : (s : Scan) (bs : List ℕ) → in_header s.phase ≡ false → in_body s.phase ≡ false → scan_from s bs ≡ s
rest_other s bs e f = go s.phase e f
  where
    go : (ph : Phase)
        → in_header ph ≡ false
        → in_body ph ≡ false
        → scan_from (mk s.want ph s.passed s.body s.seen) bs ≡ mk s.want ph s.passed s.body s.seen
    go First e f = absurd (clash e)
    go Second e f = absurd (clash e)
    go Low e f = absurd (clash e)
    go (High a) e f = absurd (clash e)
    go (Length id) e f = absurd (clash e)
    go (Inside id left) e f = absurd (clash e)
    go Body e f = absurd (clash f)
    go Broken e f = broken_run s.want s.passed s.body s.seen bs
    go Unmarked e f = unmarked_run s.want s.passed s.body s.seen bs
