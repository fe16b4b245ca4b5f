-- Laws on the printed lines: written piece by piece, each is the line of its definition. Assumes nothing.
use Rattle.std.proofs.Common.{◌≡◌, ℕ, zero, suc, ◌+◌, ◌-◌, ◌*◌, ◌%◌, ◌<◌, ◌≤◌, Bool, true, false, cond, leb, List, [], ◌∷◌, ◌++◌, length, get_or, take, drop, set, replicate, refl, ap, ◌∙◌, append_assoc, arith, length-append, length-drop, take_all, le-leb, leb-true}
use Prim.Native.String.{String}
use borrow.Author.Tests.{lt-leb}
use lib.Seq.{sets, length-sets, take-append_seam}
use Rattle.packet.specs.declared.names.Name.{Name}
use Rattle.packet.specs.Names.{bytes_of, names, name_of, named}
use Rattle.numbers.specs.Numbers.{stored_at}
use Rattle.numbers.proofs.NumberLaws.{stored_at_law}
use Rattle.lines.specs.Text.{decimal_of, hex_of}
use Rattle.lines.specs.Lines.{printed, printed_in, sent_line, packet_line, closed_line, refused_line, error_line, blocks_line}
use Rattle.lines.proofs.TextLaws.{hex_length, digits_most, digits_most_32, digits_most_8}
use Rattle.lines.proofs.Writing.{joined, printed_whole}

-- ---- one piece behind those that stand at the front of the text

module _ (text t t' xs ys : List ℕ) (n : ℕ) (before : t ≡ sets text 0 xs) (place : n ≡ length xs) where
  behind : t' ≡ sets t n ys → t' ≡ sets text 0 (xs ++ ys)
  behind e =
      let z : 0 + length xs ≡ length xs = omega arith in
      rw (e, before, place) (rw z at (joined text 0 xs ys))

  stored_behind : n + length ys ≤ length text → t' ≡ stored_at t n ys → t' ≡ sets text 0 (xs ++ ys)
  stored_behind room e =
      let same : length t ≡ length text = ap length before ∙ length-sets text 0 xs in
      behind (e ∙ stored_at_law t n ys (omega arith))

-- a whole line
whole : (line text t : List ℕ) (n : ℕ) → n ≡ length line → n ≤ length text → t ≡ sets text 0 line → printed n t ≡ printed_in line text
whole line text t n e room w = rw (e, w) (printed_whole line text (omega arith))

-- ---- a link that the server closed

pub closed_size : (session : ℕ) → length (closed_line session) ≡ length (decimal_of session) + 8
unfolding closed_line bytes_of
closed_size session = rw length-append

pub closed_written : (session digits : ℕ) (text t t' : List ℕ)
    → digits ≡ length (decimal_of session)
    → digits + 8 ≤ length text
    → t ≡ sets text 0 (decimal_of session)
    → t' ≡ stored_at t digits (9 ∷ bytes_of "closed" ++ (10 ∷ []))
    → printed (digits + 8) t' ≡ printed_in (closed_line session) text
unfolding closed_line bytes_of
closed_written session digits text t t' d room e e' =
    whole (closed_line session) text t' (digits + 8) (omega (arith, closed_size session)) room
    (stored_behind text t t' (decimal_of session) _ digits e d room e')

-- ---- a local refusal

pub refused_size : (session number : ℕ) → length (refused_line session number) ≡ length (decimal_of session) + 9 + length (decimal_of number) + 1
unfolding refused_line bytes_of
refused_size session number = simp length-append (omega arith)

pub refused_written : (session number first second : ℕ) (text t₁ t₂ t₃ : List ℕ)
    → first ≡ length (decimal_of session)
    → second ≡ length (decimal_of number)
    → first + 9 + second + 1 ≤ length text
    → t₁ ≡ sets text 0 (decimal_of session)
    → t₂ ≡ stored_at t₁ first (9 ∷ bytes_of "refused" ++ (9 ∷ []))
    → t₃ ≡ sets t₂ (first + 9) (decimal_of number)
    → printed (first + 9 + second + 1) (set t₃ (first + 9 + second + 1 - 1) 10) ≡ printed_in (refused_line session number) text
unfolding refused_line bytes_of
refused_written session number first second text t₁ t₂ t₃ d₁ d₂ room e₁ e₂ e₃ =
    let word : List ℕ = 9 ∷ bytes_of "refused" ++ (9 ∷ []) in
    let ds : List ℕ = decimal_of session in
    let w₂ = stored_behind text t₁ t₂ ds word first e₁ d₁ (omega arith) e₂ in
    let w₃ = behind text t₂ t₃ (ds ++ word) (decimal_of number) (first + 9) w₂ (omega (arith, length-append ds word)) e₃ in
    let w₄ = behind text t₃ _ ((ds ++ word) ++ decimal_of number) (10 ∷ []) (first + 9 + second + 1 - 1) w₃
    (omega (arith, length-append (ds ++ word) (decimal_of number), length-append ds word)) refl in
    whole (refused_line session number) text _ (first + 9 + second + 1) (omega (arith, refused_size session number)) room
    (w₄ ∙ ap (sets text 0) (append_assoc (ds ++ word) (decimal_of number) (10 ∷ []) ∙ append_assoc ds word (decimal_of number ++ (10 ∷ []))))

-- ---- a line that can't be read

pub error_size : (number : ℕ) → length (error_line number) ≡ 7 + length (decimal_of number)
unfolding error_line bytes_of
error_size number = simp length-append (omega arith)

pub error_written : (number digits : ℕ) (text t₁ t₂ : List ℕ)
    → digits ≡ length (decimal_of number)
    → 7 + digits ≤ length text
    → t₁ ≡ stored_at text 0 (bytes_of "error" ++ (9 ∷ []))
    → t₂ ≡ sets t₁ 6 (decimal_of number)
    → printed (7 + digits) (set t₂ (7 + digits - 1) 10) ≡ printed_in (error_line number) text
unfolding error_line bytes_of
error_written number digits text t₁ t₂ d room e₁ e₂ =
    let word : List ℕ = bytes_of "error" ++ (9 ∷ []) in
    let w₁ = stored_behind text text t₁ [] word 0 refl refl (omega arith) e₁ in
    let w₂ = behind text t₁ t₂ word (decimal_of number) 6 w₁ refl e₂ in
    let w₃ = behind text t₂ _ (word ++ decimal_of number) (10 ∷ []) (7 + digits - 1) w₂ (omega (arith, length-append word (decimal_of number))) refl in
    whole (error_line number) text _ (7 + digits) (omega (arith, error_size number)) room w₃

-- ---- the last line

pub blocks_size : (free held : ℕ) → length (blocks_line free held) ≡ 8 + length (decimal_of free) + length (decimal_of held) + 1
unfolding blocks_line bytes_of
blocks_size free held = simp length-append (omega arith)

pub blocks_written : (free held first second : ℕ) (text t₁ t₂ t₃ : List ℕ)
    → first ≡ length (decimal_of free)
    → second ≡ length (decimal_of held)
    → 8 + first + second + 1 ≤ length text
    → t₁ ≡ stored_at text 0 (bytes_of "blocks" ++ (9 ∷ []))
    → t₂ ≡ sets t₁ 7 (decimal_of free)
    → t₃ ≡ sets (set t₂ (8 + first - 1) 9) (8 + first) (decimal_of held)
    → printed (8 + first + second + 1) (set t₃ (8 + first + second + 1 - 1) 10) ≡ printed_in (blocks_line free held) text
unfolding blocks_line bytes_of
blocks_written free held first second text t₁ t₂ t₃ d₁ d₂ room e₁ e₂ e₃ =
    let word : List ℕ = bytes_of "blocks" ++ (9 ∷ []) in
    let df : List ℕ = decimal_of free in
    let dh : List ℕ = decimal_of held in
    let w₁ = stored_behind text text t₁ [] word 0 refl refl (omega arith) e₁ in
    let w₂ = behind text t₁ t₂ word df 7 w₁ refl e₂ in
    let n₂ = length-append word df in
    let w₂' = behind text t₂ (set t₂ (8 + first - 1) 9) (word ++ df) (9 ∷ []) (8 + first - 1) w₂ (omega arith) refl in
    let n₂' = length-append (word ++ df) (9 ∷ []) in
    let w₃ = behind text _ t₃ ((word ++ df) ++ (9 ∷ [])) dh (8 + first) w₂' (omega arith) e₃ in
    let n₃ = length-append ((word ++ df) ++ (9 ∷ [])) dh in
    let w₄ = behind text t₃ _ (((word ++ df) ++ (9 ∷ [])) ++ dh) (10 ∷ []) (8 + first + second + 1 - 1) w₃ (omega arith) refl in
    whole (blocks_line free held) text _ (8 + first + second + 1) (omega (arith, blocks_size free held)) room
    (w₄ ∙ ap (sets text 0) (append_assoc ((word ++ df) ++ (9 ∷ [])) dh (10 ∷ []) ∙ append_assoc (word ++ df) (9 ∷ []) (dh ++ (10 ∷ []))))

-- ---- a packet

pub sent_size : (session kind : ℕ) (info : List ℕ)
    → length (sent_line session kind info) ≡ length (decimal_of session) + length (name_of kind) + 2 + 2 * length info + 1
unfolding sent_line
sent_size session kind info = simp length-append (omega (arith, hex_length info))

sent_shape : (ds name hs : List ℕ)
    → ((((ds ++ (9 ∷ [])) ++ name) ++ (9 ∷ [])) ++ hs) ++ (10 ∷ []) ≡ ds ++ (9 ∷ name ++ (9 ∷ hs ++ (10 ∷ [])))
sent_shape ds name hs = simp append_assoc

pub sent_written : (session kind digits letters : ℕ) (info text t₁ t₂ t₃ : List ℕ)
    → digits ≡ length (decimal_of session)
    → letters ≡ length (name_of kind)
    → digits + letters + 2 + 2 * length info + 1 ≤ length text
    → t₁ ≡ sets text 0 (decimal_of session)
    → t₂ ≡ stored_at (set t₁ digits 9) (digits + 1) (name_of kind)
    → t₃ ≡ sets (set t₂ (digits + letters + 2 - 1) 9) (digits + letters + 2) (hex_of info)
    → printed (digits + letters + 2 + 2 * length info + 1) (set t₃ (digits + letters + 2 + 2 * length info + 1 - 1) 10)
    ≡ printed_in (sent_line session kind info) text
unfolding sent_line
sent_written session kind digits letters info text t₁ t₂ t₃ d₁ d₂ room e₁ e₂ e₃ =
    let ds : List ℕ = decimal_of session in
    let name : List ℕ = name_of kind in
    let hs : List ℕ = hex_of info in
    let w₁ = behind text t₁ (set t₁ digits 9) ds (9 ∷ []) digits e₁ d₁ refl in
    let n₁ = length-append ds (9 ∷ []) in
    let w₂ = stored_behind text _ t₂ (ds ++ (9 ∷ [])) name (digits + 1) w₁ (omega arith) (omega arith) e₂ in
    let n₂ = length-append (ds ++ (9 ∷ [])) name in
    let w₂' = behind text t₂ (set t₂ (digits + letters + 2 - 1) 9) ((ds ++ (9 ∷ [])) ++ name) (9 ∷ []) (digits + letters + 2 - 1) w₂
    (omega arith) refl in
    let n₂' = length-append ((ds ++ (9 ∷ [])) ++ name) (9 ∷ []) in
    let w₃ = behind text _ t₃ (((ds ++ (9 ∷ [])) ++ name) ++ (9 ∷ [])) hs (digits + letters + 2) w₂' (omega arith) e₃ in
    let n₃ = length-append (((ds ++ (9 ∷ [])) ++ name) ++ (9 ∷ [])) hs in
    let w₄ = behind text t₃ _ ((((ds ++ (9 ∷ [])) ++ name) ++ (9 ∷ [])) ++ hs) (10 ∷ []) (digits + letters + 2 + 2 * length info + 1 - 1) w₃
    (omega (arith, hex_length info)) refl in
    whole (sent_line session kind info) text _ (digits + letters + 2 + 2 * length info + 1) (omega (arith, sent_size session kind info)) room
    (w₄ ∙ ap (sets text 0) (sent_shape ds name hs))

-- ---- a packet type's name, as it is handed over

-- no name is longer than 17
short : List String → Bool
short [] = true
short (s ∷ ss) = cond (leb (length (bytes_of s)) 17) (short ss) false

name_short : (ss : List String) (kind : ℕ) → short ss ≡ true → length (bytes_of (get_or ss kind "")) ≤ 17
unfolding short
name_short [] kind e = unfold bytes_of in omega arith
name_short (s ∷ ss) kind e = go (λ (k : ℕ) (q : short ss ≡ true). name_short ss k q) (leb (length (bytes_of s)) 17) refl e kind
  where
    go : ((k : ℕ) → short ss ≡ true → length (bytes_of (get_or ss k "")) ≤ 17)
        → (t : Bool) → leb (length (bytes_of s)) 17 ≡ t → cond t (short ss) false ≡ true
        → (k : ℕ) → length (bytes_of (get_or (s ∷ ss) k "")) ≤ 17
    go others true p q zero = leb-true _ 17 p
    go others true p q (suc k) = others k q
    go others false p q k = let z : ◌≡◌ {A = ℕ} 0 1 = cc in absurd (omega arith)

pub letters_most : (kind : ℕ) → length (name_of kind) ≤ 17
unfolding name_of names short bytes_of
letters_most kind = name_short names kind refl

-- the first bytes of the 17, as many as the name has
pub letters : (kind : ℕ) (name : Name) → name ≡ named kind → take name.size name.bytes ≡ name_of kind
unfolding named
letters kind name e = rw e (take-append_seam (name_of kind) _)

pub letters_size : (kind : ℕ) (name : Name) → name ≡ named kind → name.size ≡ length (name_of kind)
unfolding named
letters_size kind name e = rw e

pub letters_within : (kind : ℕ) (name : Name) → name ≡ named kind → name.size ≤ length name.bytes
unfolding named
letters_within kind name e = rw e (omega (arith, length-append (name_of kind) (replicate (17 - length (name_of kind)) 0)))

-- ---- which packets have a line

module _ (session : ℕ) (packet text : List ℕ) where
  no_line : packet_line session packet ≡ [] → printed 0 text ≡ printed_in (packet_line session packet) text
  no_line e = rw e (printed_whole [] text (omega arith))

  pub no_head : length packet < 2 → printed 0 text ≡ printed_in (packet_line session packet) text
  no_head h = no_line (unfold packet_line in rw (lt-leb 2 (length packet) h))

  pub too_long : 258 < length packet → printed 0 text ≡ printed_in (packet_line session packet) text
  too_long h = no_line (unfold packet_line in rw (le-leb 2 (length packet) (omega arith), lt-leb (length packet) 258 h))

  module _ (least : 2 ≤ length packet) (most : length packet ≤ 258) where
    pub no_type : 17 < get_or packet 1 0 % 32 → printed 0 text ≡ printed_in (packet_line session packet) text
    no_type h =
        no_line (unfold packet_line in rw (le-leb 2 (length packet) least, le-leb (length packet) 258 most, lt-leb (get_or packet 1 0 % 32) 17 h))

    pub has_line : get_or packet 1 0 % 32 ≤ 17
        → sent_line session (get_or packet 1 0 % 32) (take (length packet - 2) (drop 2 packet)) ≡ packet_line session packet
    has_line h =
        unfold packet_line in
        rw (
          le-leb 2 (length packet) least,
          le-leb (length packet) 258 most,
          le-leb (get_or packet 1 0 % 32) 17 h,
          take_all (length packet - 2) (drop 2 packet) (omega (arith, length-drop 2 packet)),
        )

-- ---- no line is longer than 542 bytes

pub packet_most : (session : ℕ) (packet : List ℕ) → session < 4294967296 → length (packet_line session packet) ≤ 542
unfolding packet_line
packet_most session packet h = go (leb 2 (length packet)) (leb (length packet) 258) refl (leb (get_or packet 1 0 % 32) 17)
  where
    go : (t u : Bool) → leb (length packet) 258 ≡ u → (w : Bool)
        → length (cond t (cond u (cond w (sent_line session (get_or packet 1 0 % 32) (drop 2 packet)) []) []) []) ≤ 542
    go true true e true =
        let most = leb-true (length packet) 258 e in
        omega (arith, sent_size session (get_or packet 1 0 % 32) (drop 2 packet), length-drop 2 packet, digits_most_32 session h, letters_most (get_or packet 1 0 % 32))
    go true true e false = omega arith
    go true false e w = omega arith
    go false u e w = omega arith

pub closed_most : (session : ℕ) → session < 4294967296 → length (closed_line session) ≤ 18
closed_most session h = omega (arith, closed_size session, digits_most_32 session h)

pub refused_most : (session number : ℕ) → session < 4294967296 → number < 256 → length (refused_line session number) ≤ 23
refused_most session number h k = omega (arith, refused_size session number, digits_most_32 session h, digits_most_8 number k)

pub error_most : (number : ℕ) → number < 18446744073709551616 → length (error_line number) ≤ 27
error_most number h = omega (arith, error_size number, digits_most number h)

pub blocks_most : (free held : ℕ) → free < 18446744073709551616 → held < 18446744073709551616 → length (blocks_line free held) ≤ 49
blocks_most free held h k = omega (arith, blocks_size free held, digits_most free h, digits_most held k)

-- what writing a line leaves is as long as it was
pub printed_length : (line text : List ℕ) → length (printed_in line text).text ≡ length text
unfolding printed_in
printed_length line text = go (leb (length line) (length text)) refl
  where
    go : (t : Bool) → leb (length line) (length text) ≡ t
        → length (cond t (printed (length line) (line ++ drop (length line) text)) (printed 0 text)).text ≡ length text
    go true e =
        let h = leb-true (length line) (length text) e in
        omega (arith, length-append line (drop (length line) text), length-drop (length line) text)
    go false e = refl
