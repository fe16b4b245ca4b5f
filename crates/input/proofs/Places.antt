-- Laws on places in a text or in the input, and on what stands before, between and behind them. Assumes nothing.
use Rattle.std.proofs.Common.{◌≡◌, ℕ, zero, suc, ◌+◌, ◌-◌, ◌^◌, ◌<◌, ◌≤◌, Bool, true, false, cond, ltb, List, [], ◌∷◌, ◌++◌, length, take, drop, sym, refl, ap, ◌∙◌, append_assoc, append-nil, add-one, arith, length-append, length-drop, take-append-drop, drop_of_length-le, length-take, length-take-le, take_all, take-take, drop-drop, take_at, ltb-false, ltb-true, le-ltb, le-leb}
use native.Mathlib.Nat.{sub-zero, zero-sub, suc-sub-suc}
use lib.Seq.{take-nil, take-append-add, take-append_seam}
use Rattle.lines.specs.Lines.{Printed, printed, printed_in}
use Rattle.input.specs.Parts.{bytes_from, rest_of, least_of, wrapped}
use Rattle.input.specs.Input.{shifted, shift_of}
use Rattle.input.specs.Turns.{Front}

-- ---- numbers

pub least_first : (a b : ℕ) → a ≤ b → least_of a b ≡ a
least_first a b p = go (ltb a b) refl
  where
    go : (t : Bool) → ltb a b ≡ t → cond t a b ≡ a
    go true e = refl
    go false e = omega (arith, ltb-false a b e)

pub least_second : (a b : ℕ) → b ≤ a → least_of a b ≡ b
least_second a b p = rw (le-ltb a b p)

pub least_most : (a b : ℕ) → least_of a b ≤ b
least_most a b = go (ltb a b) refl
  where
    go : (t : Bool) → ltb a b ≡ t → least_of a b ≤ b
    go true f = omega (arith, ltb-true a b f, least_first a b (omega (arith, ltb-true a b f)))
    go false f = omega (arith, least_second a b (ltb-false a b f))

pub wrapped_same : (n : ℕ) → n < 2 ^ 64 → wrapped n ≡ n
wrapped_same n p = omega arith

-- how much is left of a text behind a place
pub rest_all : (at size : ℕ) → rest_of at size size ≡ size - at
unfolding rest_of
rest_all at size = go (ltb size size)
  where
    go : (t : Bool) → cond t (size - at) (size - at) ≡ size - at
    go true = refl
    go false = refl

-- ---- parts that reach to the end of a list

pub end_part : (at : ℕ) (l : List ℕ) → take (length l - at) (drop at l) ≡ drop at l
end_part at l = take_all (length l - at) (drop at l) (omega (arith, length-drop at l))

pub put_end : (at : ℕ) (l part : List ℕ) → take at l ++ (part ++ drop (length l - at) (drop at l)) ≡ take at l ++ part
put_end at l part =
    ap (λ (r : List ℕ). take at l ++ (part ++ r)) (drop_of_length-le (drop at l) {i = length l - at} (omega (arith, length-drop at l)))
    ∙ ap (λ (r : List ℕ). take at l ++ r) (append-nil part)

-- what stands behind a front is cut off behind it
pub front_then : (at w : ℕ) (text more : List ℕ) → at ≤ length text → take (at + w) (take at text ++ more) ≡ take at text ++ take w more
front_then at w text more p =
    ap (λ (k : ℕ). take (k + w) (take at text ++ more)) (sym (length-take-le at text p)) ∙ take-append-add (take at text) more w

-- ---- a line printed behind a place

pub printed_all : (line text : List ℕ) → length line ≤ length text → printed_in line text ≡ printed (length line) (line ++ drop (length line) text)
unfolding printed_in
printed_all line text p = rw (le-leb (length line) (length text) p)

-- the first `filled` bytes of the text and the line behind them
pub record Behind (filled : ℕ) (line text : List ℕ) (at : ℕ) (w : Printed) : Type 0 where
  pub waits : take (least_of (wrapped (at + w.size)) (length (take at text ++ w.text))) (take at text ++ w.text)
      ≡ take (least_of filled (length text)) text ++ line
  pub end : wrapped (at + w.size) ≡ filled + length line
  pub size : length (take at text ++ w.text) ≡ length text

module _ (filled : ℕ) (line text : List ℕ) (fits : filled ≤ length text) (room : length line ≤ length text - filled)
    (small : length text < 2 ^ 63) where
  behind_at_law : (at : ℕ) → at ≡ filled → Behind filled line text at (printed (length line) (line ++ drop (length line) (drop at text)))
  behind_at_law at e = record { waits = waits; end = whole ∙ ap (λ (k : ℕ). k + length line) e; size = size }
    where
      back : List ℕ
      back = line ++ drop (length line) (drop at text)

      whole : wrapped (at + length line) ≡ at + length line
      whole = wrapped_same (at + length line) (omega (arith, e, fits, room, small))

      size : length (take at text ++ back) ≡ length text
      size =
          omega (
            arith,
            e,
            fits,
            room,
            length-append (take at text) back,
            length-take-le at text (omega (arith, e, fits)),
            length-append line (drop (length line) (drop at text)),
            length-drop (length line) (drop at text),
            length-drop at text,
          )

      waits : take (least_of (wrapped (at + length line)) (length (take at text ++ back))) (take at text ++ back)
          ≡ take (least_of filled (length text)) text ++ line
      waits =
          rw (whole, size, least_first (at + length line) (length text) (omega (arith, e, fits, room)), least_first filled (length text) fits, ← e)
          (front_then at (length line) text back (omega (arith, e, fits))
          ∙ ap (λ (x : List ℕ). take at text ++ x) (take_at line (drop (length line) (drop at text)) (length line) refl))

  pub line_behind : Behind filled line text (least_of filled (length text)) (printed_in line (drop (least_of filled (length text)) text))
  line_behind = rw (printed_all line (drop (least_of filled (length text)) text) long) (behind_at_law (least_of filled (length text)) at)
    where
      at : least_of filled (length text) ≡ filled
      at = least_first filled (length text) fits

      long : length line ≤ length (drop (least_of filled (length text)) text)
      long = omega (arith, room, at, length-drop (least_of filled (length text)) text)

-- ---- parts of the input

pub drop_take : (at n : ℕ) (l : List ℕ) → take (n - at) (drop at l) ≡ drop at (take n l)
drop_take zero n l = rw (sub-zero n)
drop_take (suc at) zero l = rw (zero-sub (suc at))
drop_take (suc at) (suc n) [] = take-nil (suc n - suc at)
drop_take (suc at) (suc n) (x ∷ xs) = rw (suc-sub-suc n at) (drop_take at n xs)

-- from a later place on
later_part : (from k end : ℕ) (input : List ℕ) → bytes_from (from + k) end input ≡ drop k (bytes_from from end input)
later_part from k end input =
    ap (λ (l : List ℕ). take (end - (from + k)) l) (sym (drop-drop k from input))
    ∙ ap (λ (j : ℕ). take j (drop k (drop from input))) (fewer from k end) ∙ drop_take k (end - from) (drop from input)
  where
    fewer : (a b c : ℕ) → c - (a + b) ≡ c - a - b
    fewer a b c = omega arith

none_from : (k end : ℕ) (input : List ℕ) → end ≡ k → bytes_from k end input ≡ []
none_from k end input e = ap (λ (j : ℕ). take j (drop k input)) (zero_of k end e)
  where
    zero_of : (a b : ℕ) → b ≡ a → b - a ≡ 0
    zero_of a b e = omega arith

pub part_size : (from end : ℕ) (input : List ℕ) → end ≤ length input → length (bytes_from from end input) ≡ end - from
part_size from end input p = length-take-le (end - from) (drop from input) (omega (arith, p, length-drop from input))

pub next_part : (from k end : ℕ) (input : List ℕ) → end ≤ length input
    → bytes_from (least_of (from + k) end) end input ≡ drop k (bytes_from from end input)
next_part from k end input p = go (ltb (from + k) end) refl
  where
    go : (t : Bool) → ltb (from + k) end ≡ t → bytes_from (least_of (from + k) end) end input ≡ drop k (bytes_from from end input)
    go true e =
        ap (λ (j : ℕ). bytes_from j end input) (least_first (from + k) end (omega (arith, ltb-true (from + k) end e))) ∙ later_part from k end input
    go false e =
        let q : end ≤ from + k = ltb-false (from + k) end e in
        let few : length (bytes_from from end input) ≤ k = omega (arith, q, part_size from end input p) in
        none_from (least_of (from + k) end) end input (sym (least_second (from + k) end q))
        ∙ sym (drop_of_length-le (bytes_from from end input) few)

-- a line and its newline are at least one byte
pub some_taken : (n : ℕ) (u : List ℕ) → 0 < length u → 1 ≤ length (take (n + 1) u)
some_taken n [] p = absurd (omega (arith, p))
some_taken n (b ∷ bs) p = rw (add-one n) (omega arith)

-- ---- a line of the input is passed over with its newline

module _ (from end n : ℕ) (input : List ℕ) (ends : end ≤ length input) (small : length input < 2 ^ 63) (within : n ≤ end - from)
    (before : from ≤ end) where
  pub to_same : wrapped (from + n) ≡ from + n
  to_same = wrapped_same (from + n) (omega (arith, within, before, ends, small))

  pub line_is : bytes_from from (wrapped (from + n)) input ≡ take n (bytes_from from end input)
  line_is =
      ap (λ (k : ℕ). bytes_from from k input) to_same ∙ ap (λ (k : ℕ). take k (drop from input)) (back from n)
      ∙ sym (take-take n (end - from) (drop from input) within)
    where
      back : (a b : ℕ) → a + b - a ≡ b
      back a b = omega arith

  from_is : least_of (wrapped (wrapped (from + n) + 1)) end ≡ least_of (from + (n + 1)) end
  from_is =
      ap (λ (k : ℕ). least_of k end)
      (ap (λ (k : ℕ). wrapped (k + 1)) to_same ∙ wrapped_same (from + n + 1) (omega (arith, within, before, ends, small)) ∙ plus from n)
    where
      plus : (a b : ℕ) → a + b + 1 ≡ a + (b + 1)
      plus a b = omega arith

  pub behind_line : bytes_from (least_of (wrapped (wrapped (from + n) + 1)) end) end input ≡ drop (n + 1) (bytes_from from end input)
  behind_line = ap (λ (k : ℕ). bytes_from k end input) from_is ∙ next_part from (n + 1) end input ends

-- ---- input that is read: what is left goes to the front, and more stands behind it

-- how much is left
abbrev pub kept_from : ℕ → ℕ → List ℕ → ℕ
kept_from from end input = least_of (shift_of from end input).size (length input)

abbrev pub refilled : ℕ → ℕ → List ℕ → List ℕ → List ℕ
refilled from end input brought = take (kept_from from end input) (shift_of from end input).input ++ brought

module _ (from end : ℕ) (input : List ℕ) (ends : end ≤ length input) (n : ℕ) (brought : List ℕ)
    (fits : kept_from from end input + length brought ≡ length input) where
  abbrev u : List ℕ
  u = bytes_from from end input

  kept_is : kept_from from end input ≡ length u
  unfolding shift_of
  kept_is = least_first (length u) (length input) (omega (arith, part_size from end input ends, ends))

  front_is : take (kept_from from end input) (shift_of from end input).input ≡ u
  unfolding shift_of
  front_is = rw kept_is (take-append_seam u (drop (length u) input))

  pub refilled_size : length (refilled from end input brought) ≡ length input
  refilled_size = rw front_is (length-append u brought ∙ ap (λ (k : ℕ). k + length brought) (sym kept_is) ∙ fits)

  pub refilled_part : bytes_from 0 (kept_from from end input + n) (refilled from end input brought) ≡ u ++ take n brought
  refilled_part = rw (front_is, kept_is) (ap (λ (k : ℕ). take k (u ++ brought)) (sub-zero (length u + n)) ∙ take-append-add u brought n)

-- what is known after a read
pub record Brought (from end : ℕ) (input : List ℕ) (kept n : ℕ) (whole brought : List ℕ) : Type 0 where
  pub front : kept_from from end input ≡ kept
  pub size : kept_from from end input + length brought ≡ length input
  pub most : n ≤ length brought
  pub is : whole ≡ refilled from end input brought

pub input_brought : (from end : ℕ) (input moved brought whole : List ℕ) (size kept n : ℕ)
    → shifted size moved ≡ shift_of from end input
    → length moved ≡ length input
    → (kept ≤ length moved) × (kept ≡ least_of size (length moved))
    → length brought ≡ length (take (length moved - kept) (drop kept moved))
    → whole ≡ take kept moved ++ (brought ++ drop (length moved - kept) (drop kept moved))
    → n ≤ length (take (length whole - kept) (drop kept whole))
    → Brought from end input kept n whole brought
input_brought from end input moved brought whole size kept n e f g h i j =
    let k : kept_from from end input ≡ kept = rw (← e, ← f) (sym g.1) in
    let b : length brought ≡ length moved - kept = h ∙ ap (λ (l : List ℕ). length l) (end_part kept moved) ∙ length-drop kept moved in
    let w : whole ≡ take kept moved ++ brought = i ∙ put_end kept moved brought in
    let m : length whole ≡ kept + length brought =
    ap (λ (l : List ℕ). length l) w ∙ length-append (take kept moved) brought
    ∙ ap (λ (a : ℕ). a + length brought) (length-take-le kept moved g.0)
    in
    record {
      front = k;
      size = omega (arith, k, b, f, g.0);
      most = omega (arith, j, m, length-take (length whole - kept) (drop kept whole), length-drop kept whole);
      is = rw (k, ← e) w;
    }

-- ---- fronts

-- a part of what waits was written
pub front_of : (wrote waits more whole : List ℕ) (n : ℕ) → whole ≡ wrote ++ (waits ++ more) → Front (wrote ++ take n waits) whole
front_of wrote waits more whole n e =
    record {
      back = drop n waits ++ more;
      is = append_assoc wrote (take n waits) (drop n waits ++ more)
          ∙ ap (λ (x : List ℕ). wrote ++ x)
          (sym (append_assoc (take n waits) (drop n waits) more) ∙ ap (λ (x : List ℕ). x ++ more) (take-append-drop n waits))
          ∙ sym e;
    }

pub front_none : (wrote waits more whole : List ℕ) → whole ≡ wrote ++ (waits ++ more) → Front wrote whole
front_none wrote waits more whole e = rw (append-nil wrote) at (front_of wrote waits more whole 0 e)
