-- What the machine has seen once the items have ended: counts, order, values and sums. Assumes nothing.
use Rattle.std.proofs.Common.{◌≡◌, ℕ, ◌+◌, ◌*◌, ◌/◌, ◌%◌, ◌<◌, ◌≤◌, Bool, true, false, cond, eqb, ltb, leb, List, [], ◌∷◌, ◌++◌, length, refl, ◌∙◌, ap₂, arith}
use Rattle.numbers.specs.Numbers.{number}
use Rattle.header.specs.Items.{Field}
use Rattle.header.specs.Header.{every, count_if, times, bytes_of, length_fits, fits, ordered, sum_of}
use Rattle.header.specs.Scan.{bumped, passed_one, ok_after, last_after, with_head, with_data}
use Rattle.header.specs.declared.scan.Passed.{Passed}
use Rattle.header.specs.declared.scan.Seen.{Seen}
use Rattle.header.proofs.Written.{Bytes, bytes_append, raw, written}
use Rattle.header.proofs.Reading.{passes, captured, head_passed, seen_as, item_seen, seen_items}

-- ---- the bytes passed

pub passes_pos : (p : Passed) (bs : List ℕ) → p.pos + length bs < 18446744073709551616 → (passes p bs).pos ≡ p.pos + length bs
unfolding passes
passes_pos p [] h = omega arith
passes_pos p (b ∷ bs) h = let i = passes_pos (passed_one p b) bs (omega arith) in omega arith

pub passes_sum : (p : Passed) (bs : List ℕ) → p.sum < 65536 → (passes p bs).sum ≡ (p.sum + sum_of bs) % 65536
unfolding passes sum_of
passes_sum p [] h = omega arith
passes_sum p (b ∷ bs) h = let i = passes_sum (passed_one p b) bs (omega arith) in omega arith

pub passes_reg : (p : Passed) (bs : List ℕ) → p.recent < 4294967296 → Bytes bs → (passes p bs).recent < 4294967296
unfolding passes
passes_reg p [] h v = h
passes_reg p (b ∷ bs) h v = passes_reg (passed_one p b) bs (let q = v.0 in omega arith) v.1

-- ---- counts

module _ (g : Seen → ℕ) (t : ℕ → Bool) (same : (s : Seen) (id reg : ℕ) → g (with_data s id reg) ≡ g s)
    (bumps : (s : Seen) (w id n at : ℕ) → g (with_head s w id n at) ≡ bumped (g s) (t id)) where
  item_count : (w : ℕ) (p : Passed) (seen : Seen) (id a b : ℕ) (xs : List ℕ) → g (seen_as w p seen id a b xs) ≡ bumped (g seen) (t id)
  unfolding seen_as captured
  item_count w p seen id a b [] = bumps seen w id 0 (head_passed p a b 0).pos
  item_count w p seen id a b (x ∷ xs) =
      same (with_head seen w id (length (x ∷ xs)) (head_passed p a b (length (x ∷ xs))).pos) id (passes (head_passed p a b (length (x ∷ xs))) (x ∷ xs)).recent
      ∙ bumps seen w id (length (x ∷ xs)) (head_passed p a b (length (x ∷ xs))).pos

  pub counted : (w : ℕ) (p : Passed) (seen : Seen) (is : List Field) → g seen + length is < 18446744073709551616 → g (seen_items w p seen is) ≡ g seen + count_if t is
  unfolding seen_items count_if
  counted w p seen [] h = omega arith
  counted w p seen (x ∷ xs) h =
      go (t x.id) (item_count w p seen x.id (x.id % 256) (x.id / 256) x.bytes) (counted w (passes p (raw x)) (item_seen w p seen x) xs)
    where
      go : (u : Bool) → g (item_seen w p seen x) ≡ bumped (g seen) u
          → (g (item_seen w p seen x) + length xs < 18446744073709551616 → g (seen_items w (passes p (raw x)) (item_seen w p seen x) xs) ≡ g (item_seen w p seen x) + count_if t xs)
          → g (seen_items w (passes p (raw x)) (item_seen w p seen x) xs) ≡ g seen + (cond u 1 0 + count_if t xs)
      go true e ih = let i = ih (omega arith) in omega arith
      go false e ih = let i = ih (omega arith) in omega arith

-- ---- lengths and order

item_ok : (w : ℕ) (p : Passed) (seen : Seen) (id a b : ℕ) (xs : List ℕ) → (seen_as w p seen id a b xs).ok ≡ ok_after seen.ok seen.last id (length xs)
unfolding seen_as captured with_data with_head
item_ok w p seen id a b [] = refl
item_ok w p seen id a b (x ∷ xs) = refl

item_last : (w : ℕ) (p : Passed) (seen : Seen) (id a b : ℕ) (xs : List ℕ) → (seen_as w p seen id a b xs).last ≡ last_after id
unfolding seen_as captured with_data with_head
item_last w p seen id a b [] = refl
item_last w p seen id a b (x ∷ xs) = refl

pub ok_run : (w : ℕ) (p : Passed) (seen : Seen) (is : List Field)
    → (seen_items w p seen is).ok ≡ cond seen.ok (cond (every fits is) (ordered seen.last is) false) false
unfolding seen_items every ordered
ok_run w p seen [] = go seen.ok
  where
    go : (o : Bool) → o ≡ cond o true false
    go true = refl
    go false = refl
ok_run w p seen (x ∷ xs) =
    ok_run w (passes p (raw x)) (item_seen w p seen x) xs
    ∙ ap₂ (λ (o : Bool) (l : ℕ). cond o (cond (every fits xs) (ordered l xs) false) false)
    (item_ok w p seen x.id (x.id % 256) (x.id / 256) x.bytes) (item_last w p seen x.id (x.id % 256) (x.id / 256) x.bytes)
    ∙ go seen.ok (length_fits x.id (length x.bytes)) (leb x.id 11) (ltb seen.last x.id) (every fits xs)
  where
    go : (o f l r a : Bool) → cond (cond o (cond f (cond l r true) false) false) (cond a (ordered (cond l x.id 11) xs) false) false
        ≡ cond o (cond (cond f a false) (cond l (cond r (ordered x.id xs) false) (ordered 11 xs)) false) false
    go false f l r a = refl
    go true false l r a = refl
    go true true true true a = refl
    go true true true false true = refl
    go true true true false false = refl
    go true true false r a = refl

-- ---- values

head_reg : (p : Passed) (a b n : ℕ) → p.recent < 4294967296 → a < 256 → b < 256 → n < 256 → (head_passed p a b n).recent < 4294967296
head_reg p a b n r x y z = omega arith

-- a value that the last bytes of xs gave
pub record Held (v : ℕ) (xs : List ℕ) : Type 0 where
  pub from : Passed
  pub small : from.recent < 4294967296
  pub bytes : Bytes xs
  pub value : v ≡ (passes from xs).recent

module _ (g : Seen → ℕ) (i : ℕ) (heads : (s : Seen) (w id n at : ℕ) → g (with_head s w id n at) ≡ g s)
    (caps : (s : Seen) (id reg : ℕ) → g (with_data s id reg) ≡ cond (eqb id i) reg (g s)) where
  item_kept : (w : ℕ) (p : Passed) (seen : Seen) (id a b : ℕ) (xs : List ℕ) → eqb id i ≡ false → g (seen_as w p seen id a b xs) ≡ g seen
  unfolding seen_as captured
  item_kept w p seen id a b [] e = heads seen w id 0 (head_passed p a b 0).pos
  item_kept w p seen id a b (x ∷ xs) e =
      caps (with_head seen w id (length (x ∷ xs)) (head_passed p a b (length (x ∷ xs))).pos) id (passes (head_passed p a b (length (x ∷ xs))) (x ∷ xs)).recent
      ∙ rw e (heads seen w id (length (x ∷ xs)) (head_passed p a b (length (x ∷ xs))).pos)

  item_taken : (w : ℕ) (p : Passed) (seen : Seen) (id a b : ℕ) (xs : List ℕ) → eqb id i ≡ true → 1 ≤ length xs
      → g (seen_as w p seen id a b xs) ≡ (passes (head_passed p a b (length xs)) xs).recent
  unfolding seen_as captured
  item_taken w p seen id a b [] e h = absurd (omega arith)
  item_taken w p seen id a b (x ∷ xs) e h =
      caps (with_head seen w id (length (x ∷ xs)) (head_passed p a b (length (x ∷ xs))).pos) id (passes (head_passed p a b (length (x ∷ xs))) (x ∷ xs)).recent ∙ rw e

  kept : (w : ℕ) (p : Passed) (seen : Seen) (is : List Field) → times i is ≡ 0 → g (seen_items w p seen is) ≡ g seen
  unfolding seen_items count_if
  kept w p seen [] h = refl
  kept w p seen (x ∷ xs) h = go (eqb x.id i) refl h (kept w (passes p (raw x)) (item_seen w p seen x) xs)
    where
      go : (t : Bool) → eqb x.id i ≡ t → cond t 1 0 + times i xs ≡ 0
          → (times i xs ≡ 0 → g (seen_items w (passes p (raw x)) (item_seen w p seen x) xs) ≡ g (item_seen w p seen x))
          → g (seen_items w (passes p (raw x)) (item_seen w p seen x) xs) ≡ g seen
      go true e h ih = absurd (omega arith)
      go false e h ih = ih (omega arith) ∙ item_kept w p seen x.id (x.id % 256) (x.id / 256) x.bytes e

  pub taken : (w : ℕ) (p : Passed) (seen : Seen) (is : List Field) → p.recent < 4294967296 → Bytes (written is) → times i is ≡ 1 → 1 ≤ length (bytes_of i is)
      → Held (g (seen_items w p seen is)) (bytes_of i is)
  unfolding seen_items count_if bytes_of written raw
  taken w p seen [] r v h l = absurd (omega arith)
  taken w p seen (x ∷ xs) r v h l =
      let c = bytes_append (raw x) (written xs) v in
      go (eqb x.id i) refl h l c (taken w (passes p (raw x)) (item_seen w p seen x) xs (passes_reg p (raw x) r c.0) c.1)
    where
      s' : Seen
      s' = item_seen w p seen x

      go : (t : Bool) → eqb x.id i ≡ t → cond t 1 0 + times i xs ≡ 1 → 1 ≤ length (cond t x.bytes (bytes_of i xs)) → Bytes (raw x) × Bytes (written xs)
          → (times i xs ≡ 1 → 1 ≤ length (bytes_of i xs) → Held (g (seen_items w (passes p (raw x)) s' xs)) (bytes_of i xs))
          → Held (g (seen_items w (passes p (raw x)) s' xs)) (cond t x.bytes (bytes_of i xs))
      go true e h l c ih =
          let d = c.0 in
          record {
            from = head_passed p (x.id % 256) (x.id / 256) (length x.bytes);
            small = head_reg p (x.id % 256) (x.id / 256) (length x.bytes) r d.0 d.1.0 d.1.1.0;
            bytes = d.1.1.1;
            value = kept w (passes p (raw x)) s' xs (omega arith) ∙ item_taken w p seen x.id (x.id % 256) (x.id / 256) x.bytes e l;
          }
      go false e h l c ih = ih (omega arith) l

four : (r a b c d : ℕ) → r < 4294967296 → a < 256 → b < 256 → c < 256 → d < 256
    → (((r / 256 + a * 16777216) / 256 + b * 16777216) / 256 + c * 16777216) / 256 + d * 16777216 ≡ a + 256 * (b + 256 * (c + 256 * (d + 256 * 0)))
four r a b c d h i j k l = omega arith

pub value_four : (v : ℕ) (xs : List ℕ) → Held v xs → length xs ≡ 4 → v ≡ number xs
unfolding number passes
value_four v [] h e = absurd (omega arith)
value_four v (a ∷ []) h e = absurd (omega arith)
value_four v (a ∷ b ∷ []) h e = absurd (omega arith)
value_four v (a ∷ b ∷ c ∷ []) h e = absurd (omega arith)
value_four v (a ∷ b ∷ c ∷ d ∷ []) h e = h.value ∙ four h.from.recent a b c d h.small h.bytes.0 h.bytes.1.0 h.bytes.1.1.0 h.bytes.1.1.1.0
value_four v (a ∷ b ∷ c ∷ d ∷ x ∷ xs) h e = absurd (omega arith)

pub record Two (v : ℕ) (xs : List ℕ) : Type 0 where
  pub value : v / 65536 ≡ number xs
  pub own : v / 65536 % 256 + v / 16777216 ≡ sum_of xs
  pub little : sum_of xs ≤ 510

pub value_two : (v : ℕ) (xs : List ℕ) → Held v xs → length xs ≡ 2 → Two v xs
unfolding number sum_of passes
value_two v [] h e = absurd (omega arith)
value_two v (a ∷ []) h e = absurd (omega arith)
value_two v (a ∷ b ∷ []) h e =
    let r = h.small in let x = h.bytes.0 in let y = h.bytes.1.0 in let q = h.value in
    record { value = omega arith; own = omega arith; little = omega arith }
value_two v (a ∷ b ∷ c ∷ xs) h e = absurd (omega arith)

-- ---- sums
pub sum_append : (xs ys : List ℕ) → sum_of (xs ++ ys) ≡ sum_of xs + sum_of ys
unfolding sum_of
sum_append [] ys = omega arith
sum_append (x ∷ xs) ys = omega (arith, sum_append xs ys)

pub sum_of_law : (i : ℕ) (is : List Field) → sum_of (bytes_of i is) ≤ sum_of (written is)
unfolding bytes_of written raw sum_of
sum_of_law i [] = omega arith
sum_of_law i (x ∷ xs) = go (eqb x.id i) (sum_of_law i xs) (sum_append x.bytes (written xs))
  where
    go : (t : Bool) → sum_of (bytes_of i xs) ≤ sum_of (written xs) → sum_of (x.bytes ++ written xs) ≡ sum_of x.bytes + sum_of (written xs)
        → sum_of (cond t x.bytes (bytes_of i xs)) ≤ (x.id % 256) + ((x.id / 256) + (length x.bytes + sum_of (x.bytes ++ written xs)))
    go true h e = omega arith
    go false h e = omega arith
