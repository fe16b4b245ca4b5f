-- What a step of the script prints is nothing, or one line whose first field has no TAB and whose only newline is its last byte; so what is printed less
-- the session is, step by step, each line from its first TAB on, without its newline. Assumes nothing.
use native.Mathlib.Omega.{arith}
use mathlib.Core.Path.{◌≡◌, refl, sym, ◌∙◌, ap}
use mathlib.Core.Bool.{Bool, true, false, cond}
use mathlib.Core.List.{List, [], ◌∷◌, ◌++◌, append_assoc}
use Prim.Native.Nat.{ℕ, zero, suc, ◌+◌, ◌-◌, ◌/◌, ◌%◌, ◌≤◌, ◌<◌}
use Prim.Native.String.{String}
use lib.Dec.{eqb, ltb, leb}
use lib.ListN.{length, take, drop, get_or, length-append}
use lib.Seq.{drop-append_seam, take-append_seam}
use borrow.Author.Tests.{eqb-false, ne_eqb}
use Rattle.packet.specs.Names.{bytes_of, names, name_of}
use Rattle.numbers.specs.Hex.{hex_digit}
use Rattle.session.specs.declared.reply.Answer.{Answer}
use Rattle.session.specs.declared.reply.Answer.TheVariants as answer
use Rattle.lines.specs.Text.{digits_within, decimal_of, hex_of}
use Rattle.lines.specs.Lines.{sent_line, packet_line, closed_line, refused_line}
use Rattle.lines.proofs.TextLaws.{opened, none}
use Rattle.script.specs.Printing.{line_for}
use Rattle.marking.specs.Fields.{fields_end, less_first, less_session}
use Rattle.marking.specs.Verdict.{tail_end, tail_of}

-- ---- bytes without one of them

unfoldable pub without : ℕ → List ℕ → Bool
without b [] = true
without b (x ∷ xs) = cond (eqb x b) false (without b xs)

without_one : (b x : ℕ) (xs : List ℕ) → (x ≡ b → ⊥) → without b xs ≡ true → without b (x ∷ xs) ≡ true
unfolding without
without_one b x xs ne e = rw (ne_eqb x b ne) e

pub without_both : (b : ℕ) (xs ys : List ℕ) → without b xs ≡ true → without b ys ≡ true → without b (xs ++ ys) ≡ true
unfolding without
without_both b [] ys e f = f
without_both b (x ∷ xs) ys e f = go (eqb x b) (λ (k : without b xs ≡ true). without_both b xs ys k f) e
  where
    go : (t : Bool) → (without b xs ≡ true → without b (xs ++ ys) ≡ true) → cond t false (without b xs) ≡ true
        → cond t false (without b (xs ++ ys)) ≡ true
    go true h k = let z : ◌≡◌ {A = ℕ} 0 1 = cc in absurd (omega arith)
    go false h k = h k

pub without_none : (b : ℕ) → without b [] ≡ true
unfolding without
without_none b = refl

digits_without : (b m n : ℕ) → b < 48 → without b (digits_within m n) ≡ true
digits_without b zero n p = rw (none n) (without_one b (48 + n) [] (λ e. omega (arith, e, p)) (without_none b))
digits_without b (suc m) n p = rw (opened m n) (go (digits_without b m (n / 10) p) (ltb n 10))
  where
    below : (r : ℕ) → 48 + r ≡ b → ⊥
    below r e = omega (arith, e, p)

    go : without b (digits_within m (n / 10)) ≡ true → (t : Bool)
        → without b (cond t ((48 + n) ∷ []) (digits_within m (n / 10) ++ ((48 + n % 10) ∷ []))) ≡ true
    go h true = without_one b (48 + n) [] (λ e. omega (arith, e, p)) (without_none b)
    go h false =
        without_both b (digits_within m (n / 10)) ((48 + n % 10) ∷ []) h
        (without_one b (48 + n % 10) [] (below (n % 10)) (without_none b))

decimal_without : (b n : ℕ) → b < 48 → without b (decimal_of n) ≡ true
unfolding decimal_of
decimal_without b n p = digits_without b n n p

digit_above : (n : ℕ) → 48 ≤ hex_digit n
unfolding hex_digit
digit_above n = go (ltb (n % 16) 10) (n % 16)
  where
    go : (t : Bool) (r : ℕ) → 48 ≤ cond t (48 + r) (87 + r)
    go true r = omega arith
    go false r = omega arith

hex_without : (b : ℕ) (bs : List ℕ) → b < 48 → without b (hex_of bs) ≡ true
unfolding hex_of
hex_without b [] p = without_none b
hex_without b (x ∷ xs) p =
    without_one b (hex_digit (x / 16)) _ (λ e. omega (arith, e, p, digit_above (x / 16)))
    (without_one b (hex_digit (x % 16)) _ (λ e. omega (arith, e, p, digit_above (x % 16))) (hex_without b xs p))

all_without : ℕ → List String → Bool
all_without b [] = true
all_without b (s ∷ ss) = cond (without b (bytes_of s)) (all_without b ss) false

name_without : (ss : List String) (kind b : ℕ) → all_without b ss ≡ true → without b (bytes_of (get_or ss kind "")) ≡ true
unfolding all_without
name_without [] kind b e = unfold bytes_of in without_none b
name_without (s ∷ ss) kind b e = go (λ (k : ℕ) (q : all_without b ss ≡ true). name_without ss k b q) (without b (bytes_of s)) refl e kind
  where
    go : ((k : ℕ) → all_without b ss ≡ true → without b (bytes_of (get_or ss k "")) ≡ true)
        → (t : Bool) → without b (bytes_of s) ≡ t → cond t (all_without b ss) false ≡ true
        → (k : ℕ) → without b (bytes_of (get_or (s ∷ ss) k "")) ≡ true
    go others true p q zero = p
    go others true p q (suc k) = others k q
    go others false p q k = let z : ◌≡◌ {A = ℕ} 0 1 = cc in absurd (omega arith)

letters_without : (kind : ℕ) → without 10 (name_of kind) ≡ true
unfolding name_of names all_without without bytes_of
letters_without kind = name_without names kind 10 refl

-- ---- the shape

pub data Shape (l : List ℕ) : Type 0 where
  nothing : l ≡ [] → Shape l
  one : (first rest : List ℕ) → without 9 first ≡ true → without 10 first ≡ true → without 10 rest ≡ true → l ≡ first ++ (9 ∷ rest ++ (10 ∷ [])) → Shape l

sent_shape : (session kind : ℕ) (info : List ℕ) → Shape (sent_line session kind info)
unfolding sent_line
sent_shape session kind info =
    one (decimal_of session) (name_of kind ++ (9 ∷ hex_of info)) (decimal_without 9 session (omega arith)) (decimal_without 10 session (omega arith))
    (without_both 10 (name_of kind) (9 ∷ hex_of info) (letters_without kind)
    (without_one 10 9 (hex_of info) (λ e. omega (arith, e)) (hex_without 10 info (omega arith))))
    (ap (λ (l : List ℕ). decimal_of session ++ (9 ∷ l)) (sym (append_assoc (name_of kind) (9 ∷ hex_of info) (10 ∷ []))))

packet_shape : (session : ℕ) (packet : List ℕ) → Shape (packet_line session packet)
unfolding packet_line
packet_shape session packet = go (leb 2 (length packet)) (leb (length packet) 258) (leb (get_or packet 1 0 % 32) 17)
  where
    go : (a b d : Bool) → Shape (cond a (cond b (cond d (sent_line session (get_or packet 1 0 % 32) (drop 2 packet)) []) []) [])
    go false b d = nothing refl
    go true false d = nothing refl
    go true true false = nothing refl
    go true true true = sent_shape session (get_or packet 1 0 % 32) (drop 2 packet)

closed_without : without 10 (bytes_of "closed") ≡ true
unfolding without bytes_of
closed_without = refl

refused_without : without 10 (bytes_of "refused") ≡ true
unfolding without bytes_of
refused_without = refl

pub line_shape : (session : ℕ) (a : Answer) (out : List ℕ) → Shape (line_for session a out)
unfolding line_for closed_line refused_line
line_shape session (answer.Quiet taken) out = nothing refl
line_shape session (answer.Sent taken size) out = packet_shape session (take size out)
line_shape session (answer.Closed taken) out =
    one (decimal_of session) (bytes_of "closed") (decimal_without 9 session (omega arith)) (decimal_without 10 session (omega arith)) closed_without refl
line_shape session (answer.Refused number) out =
    one (decimal_of session) (bytes_of "refused" ++ (9 ∷ decimal_of number)) (decimal_without 9 session (omega arith))
    (decimal_without 10 session (omega arith))
    (without_both 10 (bytes_of "refused") (9 ∷ decimal_of number) refused_without
    (without_one 10 9 (decimal_of number) (λ e. omega (arith, e)) (decimal_without 10 number (omega arith))))
    (ap (λ (l : List ℕ). decimal_of session ++ (9 ∷ l)) (sym (append_assoc (bytes_of "refused") (9 ∷ decimal_of number) (10 ∷ []))))

-- ---- less the session

passed_first : (first rest : List ℕ) → without 9 first ≡ true → without 10 first ≡ true → less_first false (first ++ rest) ≡ less_first false rest
unfolding less_first without
passed_first [] rest e f = refl
passed_first (b ∷ bs) rest e f =
    go (eqb b 9) (eqb b 10) (λ (x : without 9 bs ≡ true) (y : without 10 bs ≡ true). passed_first bs rest x y) e f
  where
    go : (t u : Bool) → (without 9 bs ≡ true → without 10 bs ≡ true → less_first false (bs ++ rest) ≡ less_first false rest)
        → cond t false (without 9 bs) ≡ true → cond u false (without 10 bs) ≡ true
        → cond u (less_first false (bs ++ rest)) (cond t (9 ∷ less_first true (bs ++ rest)) (less_first false (bs ++ rest))) ≡ less_first false rest
    go true u h k l = let z : ◌≡◌ {A = ℕ} 0 1 = cc in absurd (omega arith)
    go false true h k l = let z : ◌≡◌ {A = ℕ} 0 1 = cc in absurd (omega arith)
    go false false h k l = h k l

kept_rest : (rest more : List ℕ) → without 10 rest ≡ true → less_first true (rest ++ more) ≡ rest ++ less_first true more
unfolding less_first without
kept_rest [] more e = refl
kept_rest (b ∷ bs) more e = go (eqb b 10) (λ (x : without 10 bs ≡ true). kept_rest bs more x) e
  where
    go : (t : Bool) → (without 10 bs ≡ true → less_first true (bs ++ more) ≡ bs ++ less_first true more) → cond t false (without 10 bs) ≡ true
        → cond t (less_first false (bs ++ more)) (b ∷ less_first true (bs ++ more)) ≡ b ∷ (bs ++ less_first true more)
    go true h k = let z : ◌≡◌ {A = ℕ} 0 1 = cc in absurd (omega arith)
    go false h k = ap (λ (l : List ℕ). b ∷ l) (h k)

at_tab : (l : List ℕ) → less_first false (9 ∷ l) ≡ 9 ∷ less_first true l
unfolding less_first
at_tab l = refl

at_newline : (l : List ℕ) → less_first true (10 ∷ l) ≡ less_first false l
unfolding less_first
at_newline l = refl

first_size : (first rest : List ℕ) → without 9 first ≡ true → fields_end 0 (first ++ 9 ∷ rest) ≡ length first
unfolding fields_end without
first_size [] rest e = refl
first_size (b ∷ bs) rest e = go (eqb b 9) (λ (x : without 9 bs ≡ true). first_size bs rest x) e
  where
    go : (t : Bool) → (without 9 bs ≡ true → fields_end 0 (bs ++ 9 ∷ rest) ≡ length bs) → cond t false (without 9 bs) ≡ true
        → cond t 0 (suc (fields_end 0 (bs ++ 9 ∷ rest))) ≡ suc (length bs)
    go true h k = let z : ◌≡◌ {A = ℕ} 0 1 = cc in absurd (omega arith)
    go false h k = ap suc (h k)

module _ (first rest : List ℕ) (e : without 9 first ≡ true) where
  abbrev whole : List ℕ
  whole = first ++ (9 ∷ rest ++ (10 ∷ []))

  sizes : tail_end (length whole) - length first ≡ suc (length rest)
  sizes = omega (arith, length-append first (9 ∷ rest ++ (10 ∷ [])), length-append rest (10 ∷ []))

  tail_is : tail_of whole ≡ 9 ∷ rest
  tail_is =
      ap (λ (k : ℕ). take (tail_end (length whole) - k) (drop k whole)) (first_size first (rest ++ (10 ∷ [])) e)
      ∙ ap (λ (k : ℕ). take k (drop (length first) whole)) sizes
      ∙ ap (λ (l : List ℕ). take (suc (length rest)) l) (drop-append_seam first (9 ∷ rest ++ (10 ∷ [])))
      ∙ ap (λ (l : List ℕ). 9 ∷ l) (take-append_seam rest (10 ∷ []))

no_tail : tail_of [] ≡ []
unfolding fields_end
no_tail = refl

pub less_line : (line more : List ℕ) → Shape line → less_session (line ++ more) ≡ tail_of line ++ less_session more
unfolding less_session
less_line line more (nothing e) = rw e (ap (λ (l : List ℕ). l ++ less_first false more) (sym no_tail))
less_line line more (one first rest a b d e) =
    rw e
    (ap (λ (l : List ℕ). less_first false l) (append_assoc first (9 ∷ rest ++ (10 ∷ [])) more)
    ∙ passed_first first (9 ∷ rest ++ (10 ∷ []) ++ more) a b
    ∙ at_tab (rest ++ (10 ∷ []) ++ more)
    ∙ ap (λ (l : List ℕ). 9 ∷ less_first true l) (append_assoc rest (10 ∷ []) more)
    ∙ ap (λ (l : List ℕ). 9 ∷ l) (kept_rest rest (10 ∷ more) d ∙ ap (λ (l : List ℕ). rest ++ l) (at_newline more))
    ∙ ap (λ (l : List ℕ). l ++ less_first false more) (sym (tail_is first rest a)))

-- it has no newline
pub less_without : (inside : Bool) (printed : List ℕ) → without 10 (less_first inside printed) ≡ true
unfolding less_first
less_without inside [] = without_none 10
less_without inside (b ∷ bs) = go (eqb b 10) refl inside (eqb b 9) (less_without true bs) (less_without false bs)
  where
    go : (t : Bool) → eqb b 10 ≡ t → (i u : Bool) → without 10 (less_first true bs) ≡ true → without 10 (less_first false bs) ≡ true
        → without 10 (cond t (less_first false bs) (cond i (b ∷ less_first true bs) (cond u (9 ∷ less_first true bs) (less_first false bs)))) ≡ true
    go true e i u h k = k
    go false e true u h k = without_one 10 b (less_first true bs) (eqb-false b 10 e) h
    go false e false true h k = without_one 10 9 (less_first true bs) (λ x. omega (arith, x)) h
    go false e false false h k = k

-- and begins with a TAB, if there is any of it
pub data Tabbed (l : List ℕ) : Type 0 where
  empty : l ≡ [] → Tabbed l
  tab : (rest : List ℕ) → l ≡ 9 ∷ rest → Tabbed l

pub less_tabbed : (printed : List ℕ) → Tabbed (less_first false printed)
unfolding less_first
less_tabbed [] = empty refl
less_tabbed (b ∷ bs) = go (eqb b 10) (eqb b 9) (less_tabbed bs)
  where
    go : (t u : Bool) → Tabbed (less_first false bs)
        → Tabbed (cond t (less_first false bs) (cond u (9 ∷ less_first true bs) (less_first false bs)))
    go true u h = h
    go false true h = tab (less_first true bs) refl
    go false false h = h
