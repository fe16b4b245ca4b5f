-- THEOREMS: what is written in decimal and in hex reads back as itself, and so does a whole `rx` line. Assumes nothing.
use Rattle.std.proofs.Common.{◌≡◌, ℕ, zero, suc, ◌+◌, ◌-◌, ◌*◌, ◌/◌, ◌%◌, ◌<◌, ◌≤◌, Bool, true, false, cond, eqb, ltb, List, [], ◌∷◌, ◌++◌, length, get_or, refl, arith, ltb-false, ltb-true, le-ltb, lt-ltb, eq-eqb, ne_eqb, le-leb, Some}
use Rattle.packet.specs.Names.{bytes_of}
use Rattle.lines.specs.declared.commands.Command.TheVariants.{Rx}
use Rattle.numbers.specs.Hex.{hex_digit}
use Rattle.numbers.proofs.HexLaws.{digit_half}
use Rattle.lines.specs.Text.{digits_within, decimal_of, hex_of}
use Rattle.lines.specs.Numerals.{digit, digits, value_from, decimal_by, decimal_at, hex_value, is_hex, bytes_in}
use Rattle.lines.specs.Commands.{onto, fields_of, same, ends_at, number_in, command_of_three, command_of_fields, command_of, rx_bytes}
use Rattle.lines.specs.Reading.{field}
use Rattle.lines.proofs.TextLaws.{opened, none, digits_some}
use Rattle.lines.proofs.NumeralLaws.{digit_least}
use Rattle.lines.proofs.FieldLaws.{last_field, tab_no_hex}

-- ---- hex

pub hex_digit_back : (n : ℕ) → n < 16 → hex_value (hex_digit n) ≡ n
unfolding hex_value
hex_digit_back n h = rw (digit_half n h) (go (ltb n 10) refl)
  where
    go : (t : Bool) → ltb n 10 ≡ t → hex_value (cond t (48 + n) (87 + n)) ≡ n
    go true e =
        let m = ltb-true n 10 e in
        rw (le-ltb (48 + n) 48 (omega arith), lt-ltb (48 + n) 58 (omega arith)) (omega arith)
    go false e =
        let m = ltb-false n 10 e in
        rw (le-ltb (87 + n) 48 (omega arith), le-ltb (87 + n) 58 (omega arith), le-ltb (87 + n) 97 (omega arith), lt-ltb (87 + n) 103 (omega arith))
        (omega arith)

pub hex_is_hex : (bs : List ℕ) → ((k : ℕ) → get_or bs k 0 < 256) → is_hex (hex_of bs) ≡ true
unfolding is_hex hex_of
hex_is_hex [] small = refl
hex_is_hex (b ∷ bs) small =
    let h : b < 256 = small 0 in
    rw (
      hex_digit_back (b / 16) (omega arith),
      hex_digit_back (b % 16) (omega arith),
      lt-ltb (b / 16) 16 (omega arith),
      lt-ltb (b % 16) 16 (omega arith),
    )
    (hex_is_hex bs (λ k. small (suc k)))

pub hex_back : (bs : List ℕ) → ((k : ℕ) → get_or bs k 0 < 256) → bytes_in (hex_of bs) ≡ bs
unfolding bytes_in hex_of
hex_back [] small = refl
hex_back (b ∷ bs) small =
    let h : b < 256 = small 0 in
    let e : 16 * (b / 16) + b % 16 ≡ b = omega arith in
    rw (hex_digit_back (b / 16) (omega arith), hex_digit_back (b % 16) (omega arith), e, hex_back bs (λ k. small (suc k)))

-- ---- decimal

digit_is : (n : ℕ) → n < 10 → digit (48 + n) ≡ true
unfolding digit
digit_is n h = rw (le-ltb (48 + n) 48 (omega arith), lt-ltb (48 + n) 58 (omega arith))

digits_append : (xs ys : List ℕ) → digits xs ≡ xs → digits (xs ++ ys) ≡ xs ++ digits ys
unfolding digits
digits_append [] ys e = refl
digits_append (x ∷ xs) ys e = go (λ (k : digits xs ≡ xs). digits_append xs ys k) (digit x) e
  where
    go : (digits xs ≡ xs → digits (xs ++ ys) ≡ xs ++ digits ys)
        → (t : Bool) → cond t (x ∷ digits xs) [] ≡ x ∷ xs
        → cond t (x ∷ digits (xs ++ ys)) [] ≡ x ∷ (xs ++ digits ys)
    go others true e = let k : digits xs ≡ xs = cc in rw (others k)
    go others false e = let z : ◌≡◌ {A = ℕ} 0 1 = cc in absurd (omega arith)

value_append : (v : ℕ) (xs ys : List ℕ) → value_from v (xs ++ ys) ≡ value_from (value_from v xs) ys
unfolding value_from
value_append v [] ys = refl
value_append v (x ∷ xs) ys = value_append (10 * v + (x - 48)) xs ys

one_is : (n : ℕ) → n < 10 → digits ((48 + n) ∷ []) ≡ (48 + n) ∷ []
unfolding digits
one_is n h = rw (digit_is n h)

-- digits that are all digits, and their number
record Back (n : ℕ) (ds : List ℕ) : Type 0 where
  all : digits ds ≡ ds
  value : value_from 0 ds ≡ n

one_back : (n : ℕ) → n < 10 → Back n ((48 + n) ∷ [])
one_back n h = record { all = one_is n h; value = unfold value_from in omega arith }

more_back : (n : ℕ) (ds : List ℕ) → Back (n / 10) ds → Back n (ds ++ ((48 + n % 10) ∷ []))
more_back n ds b =
    record {
      all = rw (digits_append ds ((48 + n % 10) ∷ []) b.all, one_is (n % 10) (omega arith));
      value = rw (value_append 0 ds ((48 + n % 10) ∷ []), b.value) (unfold value_from in omega arith);
    }

within_back : (m n : ℕ) → n ≤ m → Back n (digits_within m n)
within_back zero n h = rw (none n) (one_back n (omega arith))
within_back (suc m) n h = rw (opened m n) (go (ltb n 10) refl (within_back m (n / 10) (omega arith)))
  where
    go : (t : Bool) → ltb n 10 ≡ t → Back (n / 10) (digits_within m (n / 10))
        → Back n (cond t ((48 + n) ∷ []) (digits_within m (n / 10) ++ ((48 + n % 10) ∷ [])))
    go true e b = one_back n (ltb-true n 10 e)
    go false e b = more_back n (digits_within m (n / 10)) b

decimal_is : (n : ℕ) → Back n (decimal_of n)
unfolding decimal_of
decimal_is n = within_back n n (omega arith)

pub decimal_back : (n : ℕ) → n ≤ 4294967295 → number_in (decimal_of n) ≡ Some n
unfolding number_in ends_at decimal_at decimal_by
decimal_back n h =
    let b = decimal_is n in
    let z : 0 + length (decimal_of n) ≡ length (decimal_of n) = omega arith in
    rw (
      b.all,
      b.value,
      lt-ltb 0 (length (decimal_of n)) (omega (arith, digits_some n)),
      le-leb n 4294967295 h,
      z,
      eq-eqb (length (decimal_of n)) (length (decimal_of n)) refl,
    )

-- ---- a line

-- digits hold no TAB
digits_fields : (ds rest : List ℕ) → digits ds ≡ ds → fields_of (ds ++ (9 ∷ rest)) ≡ ds ∷ fields_of rest
unfolding digits fields_of onto
digits_fields [] rest e = refl
digits_fields (d ∷ ds) rest e = go (λ (k : digits ds ≡ ds). digits_fields ds rest k) (digit d) refl e
  where
    go : (digits ds ≡ ds → fields_of (ds ++ (9 ∷ rest)) ≡ ds ∷ fields_of rest)
        → (t : Bool) → digit d ≡ t → cond t (d ∷ digits ds) [] ≡ d ∷ ds
        → cond (eqb d 9) ([] ∷ fields_of (ds ++ (9 ∷ rest))) (onto d (fields_of (ds ++ (9 ∷ rest)))) ≡ (d ∷ ds) ∷ fields_of rest
    go others true p e =
        let least = digit_least d p in
        let k : digits ds ≡ ds = cc in
        rw (ne_eqb d 9 (λ z. omega arith), others k)
    go others false p e = let z : ◌≡◌ {A = ℕ} 0 1 = cc in absurd (omega arith)

-- hex holds none either
hex_field : (h : List ℕ) → is_hex h ≡ true → fields_of h ≡ h ∷ []
hex_field h e = go (ltb (length (field h)) (length h)) refl
  where
    go : (t : Bool) → ltb (length (field h)) (length h) ≡ t → fields_of h ≡ h ∷ []
    go true p =
        let f = tab_no_hex h (ltb-true (length (field h)) (length h) p) in
        let z : ◌≡◌ {A = ℕ} 0 1 = cc in absurd (omega arith)
    go false p = last_field h (ltb-false (length (field h)) (length h) p)

-- the line of an `rx` command
unfoldable pub rx_line : ℕ → List ℕ → List ℕ
rx_line session bs = bytes_of "rx" ++ (9 ∷ decimal_of session ++ (9 ∷ hex_of bs))

rx_fields : (session : ℕ) (bs : List ℕ) → ((k : ℕ) → get_or bs k 0 < 256)
    → fields_of (rx_line session bs) ≡ bytes_of "rx" ∷ decimal_of session ∷ hex_of bs ∷ []
unfolding rx_line bytes_of fields_of onto
rx_fields session bs small =
    rw (digits_fields (decimal_of session) (hex_of bs) (decimal_is session).all, hex_field (hex_of bs) (hex_is_hex bs small))

module _ (session : ℕ) (bs : List ℕ) (fits : session ≤ 4294967295) (small : (k : ℕ) → get_or bs k 0 < 256) where
  pub rx_back : command_of (rx_line session bs) ≡ Rx session (length bs)
  unfolding command_of command_of_fields command_of_three same bytes_of
  rx_back = rw (rx_fields session bs small, decimal_back session fits, hex_is_hex bs small, hex_back bs small)

  pub rx_bytes_back : rx_bytes (rx_line session bs) ≡ bs
  unfolding rx_bytes
  rx_bytes_back = rw (rx_fields session bs small) (hex_back bs small)
