-- The byte machine follows the items. Assumes nothing.
use Rattle.std.proofs.Common.{◌≡◌, ℕ, zero, suc, ◌+◌, ◌-◌, ◌*◌, ◌/◌, ◌%◌, ◌<◌, Bool, true, false, cond, eqb, leb, List, [], ◌∷◌, ◌++◌, length, take, drop, sym, refl, ap, ◌∙◌, subst, ap₂, append_assoc, arith, length-append, length-drop, take-append-drop, length-take-le, ne_eqb, eqb-true, leb-false, leb-true}
use borrow.Author.Tests.{eqb-false, lt-leb}
use Rattle.header.specs.Items.{Field, Walk, head_of, after, walk}
use Rattle.header.specs.Scan.{after_length, in_body, unmarked, passed_one, with_head, with_data, step_of, scan_from}
use Rattle.header.specs.declared.scan.Phase.TheVariants.{Low, Inside, Body, Broken}
use Rattle.header.specs.declared.scan.Passed.{Passed}
use Rattle.header.specs.declared.scan.Seen.{Seen}
use Rattle.header.specs.declared.scan.Scan.{Scan}
use Rattle.header.proofs.Machine.{mk, broken_run}
use Rattle.header.proofs.Written.{Bytes, bytes_drop, raw, written, Named, with_item, front_end, front_zero, front_over, front_item}

unfoldable pub passes : Passed → List ℕ → Passed
passes p [] = p
passes p (b ∷ bs) = passes (passed_one p b) bs

pub passes_append : (p : Passed) (xs ys : List ℕ) → passes p (xs ++ ys) ≡ passes (passes p xs) ys
unfolding passes
passes_append p [] ys = refl
passes_append p (x ∷ xs) ys = passes_append (passed_one p x) xs ys

-- the mark was there, and the items have not ended, and never will
pub record Stuck (s : Scan) : Type 0 where
  pub begun : unmarked s.phase ≡ false
  pub out : in_body s.phase ≡ false

stays_broken : (w : ℕ) (p : Passed) (body : ℕ) (seen : Seen) (bs : List ℕ) → Stuck (scan_from (mk w Broken p body seen) bs)
stays_broken w p body seen bs = rw (broken_run w p body seen bs) (record { begun = refl; out = refl })

-- ---- an item's data

unfoldable pub captured : Seen → ℕ → Passed → List ℕ → Seen
captured h id q [] = h
captured h id q (x ∷ xs) = with_data h id (passes q (x ∷ xs)).recent

inside_step : (w id left m : ℕ) (p : Passed) (body : ℕ) (seen : Seen) (x : ℕ) (xs : List ℕ)
    → 1 < left
    → left - 1 ≡ m
    → scan_from (mk w (Inside id left) p body seen) (x ∷ xs) ≡ scan_from (mk w (Inside id m) (passed_one p x) body seen) xs
unfolding scan_from step_of
inside_step w id left m p body seen x xs h e =
    rw (lt-leb left 1 h, step_of) (ap (λ (k : ℕ). scan_from (mk w (Inside id k) (passed_one p x) body seen) xs) e)

inside_run : (w id : ℕ) (p : Passed) (body : ℕ) (seen : Seen) (x : ℕ) (xs rest : List ℕ)
    → scan_from (mk w (Inside id (suc (length xs))) p body seen) (x ∷ xs ++ rest)
    ≡ scan_from (mk w Low (passes p (x ∷ xs)) body (with_data seen id (passes p (x ∷ xs)).recent)) rest
unfolding scan_from step_of passes
inside_run w id p body seen x [] rest = refl
inside_run w id p body seen x (y ∷ ys) rest =
    inside_step w id (suc (suc (length ys))) (suc (length ys)) p body seen x (y ∷ ys ++ rest) (omega arith) (omega arith)
    ∙ inside_run w id (passed_one p x) body seen y ys rest

inside_short : (w id left : ℕ) (p : Passed) (body : ℕ) (seen : Seen) (xs : List ℕ)
    → length xs < left
    → Stuck (scan_from (mk w (Inside id left) p body seen) xs)
unfolding scan_from step_of
inside_short w id left p body seen [] h = record { begun = refl; out = refl }
inside_short w id left p body seen (x ∷ xs) h =
    let e : leb left 1 ≡ false = lt-leb left 1 (omega arith) in
    rw (e, step_of) (inside_short w id (left - 1) (passed_one p x) body seen xs (omega arith))

-- ---- an item

-- the bytes passed with an item's head
abbrev pub head_passed : Passed → ℕ → ℕ → ℕ → Passed
head_passed p a b n = passed_one (passed_one (passed_one p a) b) n

unfoldable pub seen_as : ℕ → Passed → Seen → ℕ → ℕ → ℕ → List ℕ → Seen
seen_as w p seen id a b xs =
    captured (with_head seen w id (length xs) (head_passed p a b (length xs)).pos) id (head_passed p a b (length xs)) xs

abbrev pub item_seen : ℕ → Passed → Seen → Field → Seen
item_seen w p seen x = seen_as w p seen x.id (x.id % 256) (x.id / 256) x.bytes

unfoldable pub seen_items : ℕ → Passed → Seen → List Field → Seen
seen_items w p seen [] = seen
seen_items w p seen (x ∷ xs) = seen_items w (passes p (raw x)) (item_seen w p seen x) xs

-- from an item's length on
item_run : (w id : ℕ) (q : Passed) (body : ℕ) (h : Seen) (xs rest : List ℕ)
    → eqb id 0 ≡ false
    → scan_from (mk w (after_length id (length xs)) q body h) (xs ++ rest)
    ≡ scan_from (mk w Low (passes q xs) body (captured h id q xs)) rest
unfolding captured passes
item_run w id q body h [] rest e = rw e
item_run w id q body h (x ∷ xs) rest e =
    rw (e, ne_eqb (suc (length xs)) 0 (λ z. omega arith)) (inside_run w id q body h x xs rest)

head_run : (w : ℕ) (p : Passed) (body : ℕ) (seen : Seen) (a b n : ℕ) (bs : List ℕ)
    → scan_from (mk w Low p body seen) (a ∷ b ∷ n ∷ bs)
    ≡ scan_from
    (mk w (after_length (a + 256 * b) n) (head_passed p a b n) body
    (cond (eqb (a + 256 * b) 0) seen (with_head seen w (a + 256 * b) n (head_passed p a b n).pos)))
    bs
unfolding scan_from step_of
head_run w p body seen a b n bs = refl

whole_item : (w : ℕ) (p : Passed) (body : ℕ) (seen : Seen) (a b : ℕ) (xs rest : List ℕ)
    → a < 256
    → eqb (a + 256 * b) 0 ≡ false
    → scan_from (mk w Low p body seen) (a ∷ b ∷ length xs ∷ xs ++ rest)
    ≡ scan_from
    (mk w Low (passes p (raw (record { id = a + 256 * b; bytes = xs }))) body (item_seen w p seen (record { id = a + 256 * b; bytes = xs })))
    rest
unfolding raw seen_as passes
whole_item w p body seen a b xs rest h e =
    let l : (a + 256 * b) % 256 ≡ a = omega arith in
    let u : (a + 256 * b) / 256 ≡ b = omega arith in
    let q : Passed = head_passed p a b (length xs) in
    let g : Seen = with_head seen w (a + 256 * b) (length xs) q.pos in
    head_run w p body seen a b (length xs) (xs ++ rest)
    ∙ ap (λ (t : Bool). scan_from (mk w (after_length (a + 256 * b) (length xs)) q body (cond t seen g)) (xs ++ rest)) e
    ∙ item_run w (a + 256 * b) q body g xs rest e
    ∙ ap₂
    (λ (x y : ℕ). scan_from (mk w Low (passes p (x ∷ y ∷ length xs ∷ xs)) body (seen_as w p seen (a + 256 * b) x y xs)) rest)
    (sym l)
    (sym u)

-- ---- all items

-- the items end where the bytes say, and the scan saw them
pub record Ends (w : ℕ) (p : Passed) (body : ℕ) (seen : Seen) (bs : List ℕ) (is : List Field) (m : ℕ) : Type 0 where
  pub rest : List ℕ
  pub named : Named is
  pub size : m ≡ length (written is)
  pub split : bs ≡ written is ++ rest
  pub saw : scan_from (mk w Low p body seen) bs ≡ scan_from (mk w Body (passes p (written is)) body (seen_items w p seen is)) rest

abbrev Outcome : Bool → ℕ → Passed → ℕ → Seen → List ℕ → List Field → ℕ → Type 0
Outcome false w p body seen bs is m = Stuck (scan_from (mk w Low p body seen) bs)
Outcome true w p body seen bs is m = Ends w p body seen bs is m

abbrev pub Followed : ℕ → Passed → ℕ → Seen → List ℕ → Walk → Type 0
Followed w p body seen bs r = Outcome r.whole w p body seen bs r.items r.size

-- one item more
more : (w : ℕ) (p : Passed) (body : ℕ) (seen : Seen) (a b : ℕ) (xs rest : List ℕ) (t : Bool) (is : List Field) (m : ℕ)
    → a < 256
    → eqb (a + 256 * b) 0 ≡ false
    → Outcome t w (passes p (raw (record { id = a + 256 * b; bytes = xs }))) body (item_seen w p seen (record { id = a + 256 * b; bytes = xs })) rest is m
    → Outcome t w p body seen (a ∷ b ∷ length xs ∷ xs ++ rest) (record { id = a + 256 * b; bytes = xs } ∷ is) (3 + length xs + m)
unfolding written raw seen_items
more w p body seen a b xs rest false is m h e s = subst (λ (z : Scan). Stuck z) (sym (whole_item w p body seen a b xs rest h e)) s
more w p body seen a b xs rest true is m h e s =
    let x : Field = record { id = a + 256 * b; bytes = xs } in
    let l : (a + 256 * b) % 256 ≡ a = omega arith in
    let u : (a + 256 * b) / 256 ≡ b = omega arith in
    record {
      rest = s.rest;
      named = (eqb-false (a + 256 * b) 0 e, s.named);
      size = simp length-append (omega (arith, s.size));
      split = rw (l, u, append_assoc xs (written is) s.rest, ← s.split);
      saw = whole_item w p body seen a b xs rest h e ∙ s.saw
          ∙ ap (λ (q : Passed). scan_from (mk w Body q body (seen_items w p seen (x ∷ is))) s.rest) (sym (passes_append p (raw x) (written is)));
    }

ends_here : (w : ℕ) (p : Passed) (body : ℕ) (seen : Seen) (bs : List ℕ) → Ends w p body seen (0 ∷ 0 ∷ 0 ∷ bs) [] 3
unfolding written seen_items passes
ends_here w p body seen bs = record { rest = bs; named = tt; size = refl; split = refl; saw = head_run w p body seen 0 0 0 bs }

-- the machine after the mark, by what the walk says; the first number only bounds how many items there are
follow : (w k : ℕ) (p : Passed) (body : ℕ) (seen : Seen) (bs : List ℕ) → length bs < k → Bytes bs → Followed w p body seen bs (walk 0 bs)
follow w zero p body seen bs h v = absurd (omega arith)
follow w (suc k) p body seen [] h v = unfold scan_from walk in record { begun = refl; out = refl }
follow w (suc k) p body seen (a ∷ []) h v = unfold scan_from walk head_of after step_of in record { begun = refl; out = refl }
follow w (suc k) p body seen (a ∷ b ∷ []) h v = unfold scan_from walk head_of after step_of in record { begun = refl; out = refl }
follow w (suc k) p body seen (a ∷ b ∷ n ∷ bs) h v =
    go (eqb (a + 256 * b) 0) refl (eqb n 0) refl (leb n (length bs)) refl
    (λ q s'. follow w k q body s' (drop n bs) (rw length-drop (omega arith)) (bytes_drop n bs v.1.1.1))
  where
    end : a ≡ 0 → b ≡ 0 → n ≡ 0 → Ends w p body seen (a ∷ b ∷ n ∷ bs) [] 3
    end x y z = rw (x, y, z) (ends_here w p body seen bs)

    on : (xs ys : List ℕ)
        → length xs ≡ n
        → xs ++ ys ≡ bs
        → eqb (a + 256 * b) 0 ≡ false
        → Followed w (passes p (raw (record { id = a + 256 * b; bytes = xs }))) body (item_seen w p seen (record { id = a + 256 * b; bytes = xs })) ys (walk 0 ys)
        → Followed w p body seen (a ∷ b ∷ n ∷ bs) (with_item (record { id = a + 256 * b; bytes = xs }) (walk 0 ys))
    on xs ys l j e i =
        subst (λ (c : List ℕ). Followed w p body seen (a ∷ b ∷ n ∷ c) (with_item (record { id = a + 256 * b; bytes = xs }) (walk 0 ys))) j
        (subst (λ (c : ℕ). Followed w p body seen (a ∷ b ∷ c ∷ xs ++ ys) (with_item (record { id = a + 256 * b; bytes = xs }) (walk 0 ys))) l
        (more w p body seen a b xs ys (walk 0 ys).whole (walk 0 ys).items (walk 0 ys).size v.0 e i))

    go : (t : Bool)
        → eqb (a + 256 * b) 0 ≡ t
        → (u : Bool)
        → eqb n 0 ≡ u
        → (o : Bool)
        → leb n (length bs) ≡ o
        → ((q : Passed) (s' : Seen) → Followed w q body s' (drop n bs) (walk 0 (drop n bs)))
        → Followed w p body seen (a ∷ b ∷ n ∷ bs) (walk 0 (a ∷ b ∷ n ∷ bs))
    go true e true f o g ih =
        rw (front_end a b n bs e f) (end (omega (arith, eqb-true)) (omega (arith, eqb-true)) (omega (arith, eqb-true)))
    go true e false f o g ih =
        rw (front_zero a b n bs e f)
        (subst (λ (z : Scan). Stuck z) (sym (head_run w p body seen a b n bs)) (rw (e, f) (stays_broken w (head_passed p a b n) body seen bs)))
    go false e u f false g ih =
        let l = leb-false n (length bs) g in
        rw (front_over a b n bs e g)
        (subst (λ (z : Scan). Stuck z) (sym (head_run w p body seen a b n bs))
        (rw (e, ne_eqb n 0 (λ z. omega arith))
        (inside_short w (a + 256 * b) n (head_passed p a b n) body (with_head seen w (a + 256 * b) n (head_passed p a b n).pos) bs l)))
    go false e u f true g ih =
        let l : length (take n bs) ≡ n = length-take-le n bs (leb-true n (length bs) g) in
        rw (front_item a b n bs (take n bs) l refl e g)
        (on (take n bs) (drop n bs) l (take-append-drop n bs) e
        (ih (passes p (raw (record { id = a + 256 * b; bytes = take n bs }))) (item_seen w p seen (record { id = a + 256 * b; bytes = take n bs }))))

pub followed : (w : ℕ) (p : Passed) (body : ℕ) (seen : Seen) (bs : List ℕ) → Bytes bs → Followed w p body seen bs (walk 0 bs)
followed w p body seen bs v = follow w (suc (length bs)) p body seen bs (omega arith) v
