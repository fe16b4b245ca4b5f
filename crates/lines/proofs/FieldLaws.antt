-- Laws on a line's fields, one after the other, and on the command that they spell. Assumes nothing.
use Rattle.std.proofs.Common.{◌≡◌, ℕ, suc, ◌+◌, ◌-◌, ◌<◌, ◌≤◌, Bool, true, false, cond, eqb, ltb, leb, List, [], ◌∷◌, ◌++◌, length, get_or, take, drop, sym, refl, ap, ◌∙◌, add-one, arith, length-drop, drop_of_length-le, take_all, drop-cons, drop-drop, ltb-false, ltb-true, eq-eqb, ne_eqb, eqb-true, Option, Some, None, position, not, bytes_eq, ◌==◌, ◌&&◌}
use borrow.Author.Tests.{eqb-false}
use Rattle.std.specs.List.{position_or_len}
use Rattle.packet.specs.Names.{bytes_of}
use Rattle.lines.specs.declared.commands.Command.TheVariants.{Unreadable, Time, Open, Drop, Rx}
use Rattle.lines.specs.Numerals.{digit, digits, value_from, decimal_by, decimal_at, hex_value, is_hex, bytes_in, HexRead, hex_read, hex_in}
use Rattle.lines.specs.Commands.{onto, fields_of, same, ends_at, number_in, command_of_two, command_of_three, command_of_fields}
use Rattle.lines.specs.Commands.{command_of, rx_bytes, Reads, reads, read_by, read_of}
use Rattle.lines.specs.Reading.{field, field_end, rx_by, rx_read}

-- ---- the end of a field, by the first TAB

field_length : (l : List ℕ) → length (field l) ≡ position_or_len (λ (b : ℕ). b == 9) l
unfolding field
field_length [] = refl
field_length (b ∷ bs) = go (eqb b 9) (field_length bs)
  where
    go : (t : Bool) → length (field bs) ≡ position_or_len (λ (b : ℕ). b == 9) bs
        → length (cond t [] (b ∷ field bs)) ≡ cond (not t) (1 + position_or_len (λ (b : ℕ). b == 9) bs) 0
    go true e = refl
    go false e = omega arith

field_within : (l : List ℕ) → length (field l) ≤ length l
unfolding field
field_within [] = omega arith
field_within (b ∷ bs) = go (eqb b 9) (field_within bs)
  where
    go : (t : Bool) → length (field bs) ≤ length bs → length (cond t [] (b ∷ field bs)) ≤ suc (length bs)
    go true e = omega arith
    go false e = omega arith

module _ (line : List ℕ) (at : ℕ) (h : at ≤ length line) where
  abbrev rest_of : List ℕ
  rest_of = take (length line - at) (drop at line)

  whole_rest : rest_of ≡ drop at line
  whole_rest = take_all (length line - at) (drop at line) (omega (arith, length-drop at line))

  pub end_found : (r : Option ℕ) (n : ℕ) → r ≡ position (λ (b : ℕ). b == 9) rest_of → r ≡ Some n → at + n ≡ field_end line at
  unfolding field_end
  end_found r n p e = go (ltb (length (field (drop at line))) (length (drop at line))) (sym e ∙ (p ∙ rw (whole_rest, ← field_length (drop at line))))
    where
      go : (t : Bool) → Some n ≡ cond t (Some (length (field (drop at line)))) None → at + n ≡ at + length (field (drop at line))
      go true q = let k : n ≡ length (field (drop at line)) = cc in omega arith
      go false q = let z : ◌≡◌ {A = ℕ} 0 1 = cc in absurd (omega arith)

  pub end_none : (r : Option ℕ) → r ≡ position (λ (b : ℕ). b == 9) rest_of → r ≡ None → length line ≡ field_end line at
  unfolding field_end
  end_none r p e = go (ltb (length (field (drop at line))) (length (drop at line))) refl (sym e ∙ (p ∙ rw (whole_rest, ← field_length (drop at line))))
    where
      go : (t : Bool) → ltb (length (field (drop at line))) (length (drop at line)) ≡ t
          → ◌≡◌ {A = Option ℕ} None (cond t (Some (length (field (drop at line)))) None) → length line ≡ at + length (field (drop at line))
      go true z q = let y : ◌≡◌ {A = ℕ} 0 1 = cc in absurd (omega arith)
      go false z q = omega (arith, length-drop at line, ltb-false (length (field (drop at line))) (length (drop at line)) z, field_within (drop at line))

-- ---- two texts

-- the library's comparison
pub same_is : (x y : List ℕ) → bytes_eq x y ≡ same x y
unfolding same
same_is [] [] = refl
same_is [] (y ∷ ys) = refl
same_is (x ∷ xs) [] = refl
same_is (x ∷ xs) (y ∷ ys) = rw (← same_is xs ys) (go (eqb x y) (bytes_eq xs ys))
  where
    go : (t u : Bool) → (t && u) ≡ cond t u false
    go true u = refl
    go false u = refl

-- byte by byte
module _ (x y : List ℕ) (i : ℕ) where
  pub same_next : i < length x → i < length y → get_or x i 0 ≡ get_or y i 0
      → same (drop (i + 1) x) (drop (i + 1) y) ≡ same (drop i x) (drop i y)
  unfolding same
  same_next h k e = rw (add-one i, drop-cons x i 0 h, drop-cons y i 0 k, eq-eqb (get_or x i 0) (get_or y i 0) e)

  pub same_stop : i < length x → i < length y → (get_or x i 0 ≡ get_or y i 0 → ⊥) → same (drop i x) (drop i y) ≡ false
  unfolding same
  same_stop h k ne = rw (drop-cons x i 0 h, drop-cons y i 0 k, ne_eqb (get_or x i 0) (get_or y i 0) ne)

  pub same_end : length x ≤ i → length y ≤ i → same (drop i x) (drop i y) ≡ true
  unfolding same
  same_end h k = rw (drop_of_length-le x h, drop_of_length-le y k)

pub either : {A : Type 0} (t : Bool) (a : A) → cond t a a ≡ a
either true a = refl
either false a = refl

pub same_lengths : (x y : List ℕ) → (length x ≡ length y → ⊥) → same x y ≡ false
unfolding same
same_lengths [] [] ne = absurd (ne refl)
same_lengths [] (y ∷ ys) ne = refl
same_lengths (x ∷ xs) [] ne = refl
same_lengths (x ∷ xs) (y ∷ ys) ne = rw (same_lengths xs ys (λ e. ne (ap suc e))) (either (eqb x y) false)

-- texts are the same exactly where they are equal
pub same_equal : (x y : List ℕ) → same x y ≡ true → x ≡ y
unfolding same
same_equal [] [] e = refl
same_equal [] (y ∷ ys) e = let z : ◌≡◌ {A = ℕ} 0 1 = cc in absurd (omega arith)
same_equal (x ∷ xs) [] e = let z : ◌≡◌ {A = ℕ} 0 1 = cc in absurd (omega arith)
same_equal (x ∷ xs) (y ∷ ys) e = go (λ (k : same xs ys ≡ true). same_equal xs ys k) (eqb x y) refl e
  where
    go : (same xs ys ≡ true → xs ≡ ys) → (t : Bool) → eqb x y ≡ t → cond t (same xs ys) false ≡ true → x ∷ xs ≡ y ∷ ys
    go others true p e = rw (eqb-true x y p, others e)
    go others false p e = let z : ◌≡◌ {A = ℕ} 0 1 = cc in absurd (omega arith)

pub same_itself : (x : List ℕ) → same x x ≡ true
unfolding same
same_itself [] = refl
same_itself (x ∷ xs) = rw (eq-eqb x x refl) (same_itself xs)

-- ---- fields

-- where no TAB is left, the rest is the last field
pub last_field : (l : List ℕ) → length l ≤ length (field l) → fields_of l ≡ l ∷ []
unfolding fields_of field onto
last_field [] h = refl
last_field (b ∷ bs) h = go (λ (k : length bs ≤ length (field bs)). last_field bs k) (eqb b 9) h
  where
    go : (length bs ≤ length (field bs) → fields_of bs ≡ bs ∷ [])
        → (t : Bool) → suc (length bs) ≤ length (cond t [] (b ∷ field bs))
        → cond t ([] ∷ fields_of bs) (onto b (fields_of bs)) ≡ (b ∷ bs) ∷ []
    go others true h = absurd (omega arith)
    go others false h = rw (others (omega arith))

pub more_fields : (l : List ℕ) → length (field l) < length l → fields_of l ≡ field l ∷ fields_of (drop (length (field l) + 1) l)
unfolding fields_of field onto
more_fields [] h = absurd (omega arith)
more_fields (b ∷ bs) h = go (λ (k : length (field bs) < length bs). more_fields bs k) (eqb b 9) h
  where
    go : (length (field bs) < length bs → fields_of bs ≡ field bs ∷ fields_of (drop (length (field bs) + 1) bs))
        → (t : Bool) → length (cond t [] (b ∷ field bs)) < suc (length bs)
        → cond t ([] ∷ fields_of bs) (onto b (fields_of bs))
        ≡ cond t [] (b ∷ field bs) ∷ fields_of (drop (length (cond t [] (b ∷ field bs)) + 1) (b ∷ bs))
    go others true h = refl
    go others false h =
        let e : suc (length (field bs)) + 1 ≡ suc (length (field bs) + 1) = omega arith in
        rw (others (omega arith), e)

-- a field is what stands before its end
pub field_front : (l : List ℕ) → take (length (field l)) l ≡ field l
unfolding field
field_front [] = refl
field_front (b ∷ bs) = go (field_front bs) (eqb b 9)
  where
    go : take (length (field bs)) bs ≡ field bs
        → (t : Bool) → take (length (cond t [] (b ∷ field bs))) (b ∷ bs) ≡ cond t [] (b ∷ field bs)
    go others true = refl
    go others false = rw others

-- some field always follows a TAB
record Field (l : List ℕ) : Type 0 where
  one : List ℕ
  others : List (List ℕ)
  are : fields_of l ≡ one ∷ others

some_field : (l : List ℕ) → Field l
some_field l = go (ltb (length (field l)) (length l)) refl
  where
    go : (t : Bool) → ltb (length (field l)) (length l) ≡ t → Field l
    go true e = record { one = field l; others = _; are = more_fields l (ltb-true (length (field l)) (length l) e) }
    go false e = record { one = l; others = []; are = last_field l (ltb-false (length (field l)) (length l) e) }

-- ---- a number's field

-- TAB is no digit
digits_field : (l : List ℕ) → digits (field l) ≡ digits l
unfolding digits field digit
digits_field [] = refl
digits_field (b ∷ bs) = go (digits_field bs) (eqb b 9) refl
  where
    go : digits (field bs) ≡ digits bs → (t : Bool) → eqb b 9 ≡ t → digits (cond t [] (b ∷ field bs)) ≡ digits (b ∷ bs)
    go others true e = rw (eqb-true b 9 e)
    go others false e = rw others

shift : (at n m : ℕ) → eqb (at + n) (at + m) ≡ eqb (0 + n) m
shift at n m = go (eqb (0 + n) m) refl
  where
    go : (t : Bool) → eqb (0 + n) m ≡ t → eqb (at + n) (at + m) ≡ t
    go true e = eq-eqb (at + n) (at + m) (omega (arith, eqb-true (0 + n) m e))
    go false e = ne_eqb (at + n) (at + m) (λ k. eqb-false (0 + n) m e (omega arith))

-- a number from a place on that ends with its field
pub number_field : (line : List ℕ) (at : ℕ) → ends_at (decimal_at line at) (field_end line at) ≡ number_in (field (drop at line))
unfolding ends_at decimal_at decimal_by field_end number_in
number_field line at =
    rw (digits_field (drop at line))
    (go (length (digits (drop at line))) (value_from 0 (digits (drop at line))) (length (field (drop at line)))
    (ltb 0 (length (digits (drop at line)))) (leb (value_from 0 (digits (drop at line))) 4294967295))
  where
    go : (n v m : ℕ) (t u : Bool)
        → ends_at (cond t (cond u (Some (v, at + n)) None) None) (at + m)
        ≡ ends_at (cond t (cond u (Some (v, 0 + n)) None) None) m
    go n v m true true = rw (shift at n m)
    go n v m true false = refl
    go n v m false u = refl

-- ---- hex

-- TAB is no hex digit
pub tab_no_hex : (l : List ℕ) → length (field l) < length l → is_hex l ≡ false
unfolding field is_hex hex_value
tab_no_hex [] h = absurd (omega arith)
tab_no_hex (a ∷ []) h = refl
tab_no_hex (a ∷ b ∷ l) h = go (λ (k : length (field l) < length l). tab_no_hex l k) (eqb a 9) refl (eqb b 9) refl h
  where
    go : (length (field l) < length l → is_hex l ≡ false)
        → (t : Bool) → eqb a 9 ≡ t → (u : Bool) → eqb b 9 ≡ u
        → length (cond t [] (a ∷ cond u [] (b ∷ field l))) < suc (suc (length l))
        → is_hex (a ∷ b ∷ l) ≡ false
    go others true e u f h = rw (eqb-true a 9 e)
    go others false e true f h = rw (eqb-true b 9 f) (either (ltb (hex_value a) 16) false)
    go others false e false f h = rw (others (omega arith), either (ltb (hex_value b) 16) false) (either (ltb (hex_value a) 16) false)

-- ---- the command

module _ (line bytes : List ℕ) where
  -- no TAB
  pub one_field : length line ≤ field_end line 0 → reads Unreadable bytes ≡ read_of line bytes
  unfolding field_end read_of command_of command_of_fields read_by
  one_field h = rw (last_field line (omega arith))

-- two fields leave the bytes alone
two_quiet : (name : List ℕ) (n : Option ℕ) (new bytes : List ℕ) → reads (command_of_two name n) bytes ≡ read_by (command_of_two name n) new bytes
unfolding command_of_two read_by
two_quiet name None new bytes = refl
two_quiet name (Some v) new bytes =
    go (same name (bytes_of "time")) (same name (bytes_of "open")) (same name (bytes_of "drop"))
  where
    go : (t u w : Bool)
        → reads (cond t (Time v) (cond u (Open v) (cond w (Drop v) Unreadable))) bytes
        ≡ read_by (cond t (Time v) (cond u (Open v) (cond w (Drop v) Unreadable))) new bytes
    go true u w = refl
    go false true w = refl
    go false false true = refl
    go false false false = refl

-- three fields change them by the third
three_read : (name : List ℕ) (v : ℕ) (rest bytes : List ℕ)
    → rx_read name v rest bytes ≡ read_by (command_of_three name (Some v) rest) (bytes_in rest) bytes
unfolding rx_read rx_by hex_in command_of_three read_by
three_read name v rest bytes = go (same name (bytes_of "rx")) (is_hex rest) (leb (length (bytes_in rest)) (length bytes)) refl
  where
    found : Bool → Bool → HexRead
    found u w =
        cond u
        (cond w (hex_read (Some (length (bytes_in rest))) (bytes_in rest ++ drop (length (bytes_in rest)) bytes)) (hex_read None bytes))
        (hex_read None bytes)

    go : (t u w : Bool) → leb (length (bytes_in rest)) (length bytes) ≡ w
        → cond t (rx_by v (found u w).answer (found u w).left) (reads Unreadable bytes)
        ≡ read_by (cond t (cond u (Rx v (length (bytes_in rest))) Unreadable) Unreadable) (bytes_in rest) bytes
    go true true true e = rw e
    go true true false e = rw e
    go true false w e = refl
    go false u w e = refl

-- a line of three fields or more, by its second: only pairs of hex digits up to the line's end are read
three_by : List ℕ → Option ℕ → List ℕ → List ℕ → Reads
three_by name None h bytes = reads Unreadable bytes
three_by name (Some v) h bytes = rx_read name v h bytes

just_three : (name f h line bytes : List ℕ) (n : Option ℕ)
    → fields_of line ≡ name ∷ f ∷ h ∷ []
    → number_in f ≡ n
    → three_by name n h bytes ≡ read_of line bytes
unfolding three_by read_of command_of rx_bytes command_of_fields
just_three name f h line bytes None e k = rw (e, k) (unfold command_of_three read_by in refl)
just_three name f h line bytes (Some v) e k = rw (e, k) (three_read name v h bytes)

not_hex : (name h bytes : List ℕ) (v : ℕ) → is_hex h ≡ false → rx_read name v h bytes ≡ reads Unreadable bytes
unfolding rx_read hex_in rx_by
not_hex name h bytes v e = rw e (either (same name (bytes_of "rx")) (reads Unreadable bytes))

four_or_more : (name f h one line bytes : List ℕ) (others : List (List ℕ)) (n : Option ℕ)
    → fields_of line ≡ name ∷ f ∷ field h ∷ one ∷ others
    → is_hex h ≡ false
    → three_by name n h bytes ≡ read_of line bytes
unfolding three_by read_of command_of command_of_fields read_by
four_or_more name f h one line bytes others None e k = rw e
four_or_more name f h one line bytes others (Some v) e k = rw (e, not_hex name h bytes v k)

three_or_more : (name f h line bytes : List ℕ) (n : Option ℕ)
    → fields_of line ≡ name ∷ f ∷ fields_of h
    → number_in f ≡ n
    → three_by name n h bytes ≡ read_of line bytes
three_or_more name f h line bytes n e k = go (ltb (length (field h)) (length h)) refl
  where
    go : (t : Bool) → ltb (length (field h)) (length h) ≡ t → three_by name n h bytes ≡ read_of line bytes
    go true p =
        let tab = ltb-true (length (field h)) (length h) p in
        let s = some_field (drop (length (field h) + 1) h) in
        four_or_more name f h s.one line bytes s.others n (rw (more_fields h tab, s.are) at e) (tab_no_hex h tab)
    go false p = just_three name f h line bytes n (rw (last_field h (ltb-false (length (field h)) (length h) p)) at e) k

module _ (line : List ℕ) (first : ℕ) (at_tab : first ≡ field_end line 0) (more : first < length line) where
  name_is : take first line ≡ field line
  unfolding field_end
  name_is = let e : first ≡ length (field line) = omega arith in rw e (field_front line)

  after_name : fields_of line ≡ take first line ∷ fields_of (drop (first + 1) line)
  unfolding field_end
  after_name =
      let e : length (field line) ≡ first = omega arith in
      rw name_is (rw e at (more_fields line (omega arith)))

  module _ (second : ℕ) (ends : second ≡ field_end line (first + 1)) where
    abbrev rest : List ℕ
    rest = drop (first + 1) line

    length_rest : first + 1 + length (field rest) ≡ second
    unfolding field_end
    length_rest = sym ends

    pub two_fields : (bytes : List ℕ) → length line ≤ second
        → reads (command_of_two (take first line) (ends_at (decimal_at line (first + 1)) second)) bytes ≡ read_of line bytes
    unfolding read_of command_of command_of_fields
    two_fields bytes h =
        let short : length rest ≤ length (field rest) = omega (arith, length_rest, length-drop (first + 1) line) in
        let same_field : field rest ≡ rest = sym (field_front rest) ∙ take_all (length (field rest)) rest short in
        rw (ends, number_field line (first + 1), same_field, after_name, last_field rest short)
        (two_quiet (take first line) (number_in rest) (rx_bytes line) bytes)

    three_fields : (bytes : List ℕ) (n : Option ℕ) → second < length line → ends_at (decimal_at line (first + 1)) second ≡ n
        → three_by (take first line) n (drop (second + 1) line) bytes ≡ read_of line bytes
    three_fields bytes n h k =
        let place : first + 1 + (length (field rest) + 1) ≡ second + 1 = omega (arith, length_rest) in
        let tab : length (field rest) < length rest = omega (arith, length_rest, length-drop (first + 1) line) in
        three_or_more (take first line) (field rest) (drop (second + 1) line) line bytes n
        (rw (after_name, more_fields rest tab, drop-drop (length (field rest) + 1) (first + 1) line, place))
        (sym (number_field line (first + 1)) ∙ (ap (ends_at (decimal_at line (first + 1))) (sym ends) ∙ k))

    pub three_bad : (bytes : List ℕ) → second < length line → ends_at (decimal_at line (first + 1)) second ≡ None
        → reads Unreadable bytes ≡ read_of line bytes
    unfolding three_by
    three_bad bytes h k = three_fields bytes None h k

    pub three_value : (bytes : List ℕ) (v : ℕ) → second < length line → ends_at (decimal_at line (first + 1)) second ≡ Some v
        → rx_read (take first line) v (drop (second + 1) line) bytes ≡ read_of line bytes
    unfolding three_by
    three_value bytes v h k = three_fields bytes (Some v) h k

-- ---- hex that was read

module _ (name : List ℕ) (session : ℕ) (rest bytes : List ℕ) where
  pub rx_bad : (answer : Option ℕ) (left : List ℕ)
      → same name (bytes_of "rx") ≡ true
      → hex_read answer left ≡ hex_in rest bytes
      → answer ≡ None
      → reads Unreadable left ≡ rx_read name session rest bytes
  unfolding rx_read rx_by
  rx_bad answer left s h e = rw (s, ← h, e)

  pub rx_bytes_law : (answer : Option ℕ) (left : List ℕ) (n : ℕ)
      → same name (bytes_of "rx") ≡ true
      → hex_read answer left ≡ hex_in rest bytes
      → answer ≡ Some n
      → reads (Rx session n) left ≡ rx_read name session rest bytes
  unfolding rx_read rx_by
  rx_bytes_law answer left n s h e = rw (s, ← h, e)

  pub rx_other : same name (bytes_of "rx") ≡ false → reads Unreadable bytes ≡ rx_read name session rest bytes
  unfolding rx_read
  rx_other s = rw s
