-- No line that is told is longer than 6,144 bytes behind the file's number, and the lent numbers have room for those named. Assumes nothing.
use native.Mathlib.Omega.{arith}
use mathlib.Core.Path.{◌≡◌, refl, sym, ◌∙◌, ap}
use mathlib.Core.Bool.{Bool, true, false, cond, ◌&&◌}
use mathlib.Core.List.{List, [], ◌∷◌, ◌++◌}
use mathlib.Core.Option.{Option, none, some}
use Prim.Native.Nat.{ℕ, zero, suc, ◌*◌, ◌/◌, ◌≤◌, ◌<◌}
use lib.Dec.{eqb, leb}
use lib.ListN.{length, take, drop, get_or, length-append, length-replicate}
use lib.Seq.{take_at}
use borrow.Author.Tests.{leb-true}
use Rattle.packet.specs.Names.{bytes_of}
use Rattle.lines.specs.Text.{decimal_of}
use Rattle.lines.proofs.TextLaws.{digits_most, digits_most_8, digits_most_32}
use Rattle.equation.specs.Tree.{Tree, parse, truth_on}
use Rattle.equation.specs.Marks.{relations_of}
use Rattle.std.proofs.Common.{Some, None, Ok}
use Rattle.std.specs.Prelude as std
use Rattle.table.specs.Table.{files, times, find_of}
use Rattle.table.proofs.Records.{length_files}
use Rattle.table.specs.Order.{next_above, and_then, places_above, in_order}
use Rattle.files.specs.Selection.{passing}
use Rattle.grammar.specs.Formula.{postfix}
use Rattle.grammar.specs.Machine.{Outcome, accepted, refused, outcome_of}
use Rattle.replies.specs.Reply.{said_of}
use Rattle.replies.proofs.ReplyLaws.{refused_size}
use Rattle.replies.proofs.SaidLaws.{said_fits}
use Rattle.why.specs.declared.Explained.{Explained}
use Rattle.why.specs.Answer.{Whys, whys, refused_by, sizes_fit, items_at, time_at, older_of, older_test, told, deliver, reasons_on, file_why, found_why, tree_why, why_of}
use Rattle.reasons.specs.Promised.{Rising}
use Rattle.why.proofs.Settling.{at_most_511}
use Rattle.reasons.proofs.Theorems.{decides}
use Rattle.words.specs.Pieces.{front_of}
use Rattle.words.specs.Why.{number_fields, outcome_word, told_of, told_by, why_line, paper_told, ask_in, room}
use Rattle.words.proofs.WhyLaws.{told_named, front_most, why_line_law}

-- ---- numbers that rise up to 511

fields_most : (low : ℕ) (ns : List ℕ) → Rising low 511 ns → length (number_fields ns) ≤ 11 * length ns
unfolding number_fields
fields_most low [] r = omega arith
fields_most low (n ∷ ns) r =
    omega (
      arith,
      length-append (9 ∷ decimal_of n) (number_fields ns),
      digits_most_32 n (omega (arith, r.1)),
      fields_most n ns r.2,
    )

rises_less : (low high : ℕ) (ns : List ℕ) → high ≤ 511 → Rising low high ns → Rising low 511 ns
rises_less low high [] h r = tt
rises_less low high (n ∷ ns) h r = (r.0, omega (arith, h, r.1), rises_less n high ns h r.2)

-- ---- no more older files than places

places_most : (n after : ℕ) (ts : List ℕ) → length (places_above n after ts) ≤ n
unfolding places_above
places_most zero after ts = omega arith
places_most (suc n) after ts = by (next_above after ts) (λ p. places_most n (get_or ts p 0) ts)
  where
    by : (f : std.Option ℕ) → ((p : ℕ) → length (places_above n (get_or ts p 0) ts) ≤ n) → length (and_then f (λ p. places_above n (get_or ts p 0) ts)) ≤ suc n
    by None h = omega arith
    by (Some p) h = omega (arith, h p)

passing_most : (test : ℕ → Bool) (ps : List ℕ) → length (passing test ps) ≤ length ps
unfolding passing
passing_most test [] = omega arith
passing_most test (p ∷ ps) = by (test p) (passing_most test ps)
  where
    by : (t : Bool) → length (passing test ps) ≤ length ps → length (cond t (p ∷ passing test ps) (passing test ps)) ≤ suc (length ps)
    by true h = omega (arith, h)
    by false h = omega (arith, h)

older_most : (eq disk owner table : List ℕ) (time : ℕ) → length table / 4 ≤ 256 → older_of eq disk owner table time ≤ 256
older_most eq disk owner table time h =
    omega (
      arith,
      h,
      passing_most (older_test eq disk owner table time) (in_order 0 (files table)),
      places_most (length (files table)) 0 (times (files table)),
      length_files table,
    )

-- ---- what is told

abbrev Small : Whys → Type 0
Small w = (length (told_by w) ≤ 6144) × ((told : Explained) → w.answer ≡ Ok told → told.count ≤ 511)

word_most : (w : Explained) → w.older ≤ 256 → length (outcome_word w) ≤ 27
unfolding outcome_word bytes_of
word_most w h = by w.beyond w.matched
  where
    by : (b m : Bool) → length (cond b (bytes_of "beyond\t" ++ decimal_of w.older) (cond m (bytes_of "matched") (bytes_of "unmatched"))) ≤ 27
    by true m = omega (arith, digits_most w.older (omega (arith, h)))
    by false true = omega arith
    by false false = omega arith

small_refused : (n : ℕ) (named : List ℕ) → n < 256 → Small (whys (refused_by n) named)
unfolding told_of
small_refused n named h =
    (omega (arith, refused_size (decimal_of n), digits_most_8 n h), λ told e. let z : ◌≡◌ {A = ℕ} 0 1 = cc in absurd (omega arith))

told_same : (s t : Explained) → ◌≡◌ {A = std.Result Explained ℕ} (Ok s) (Ok t) → s ≡ t
told_same s t e = cc

no : false ≡ true → ⊥
no e = let z : ◌≡◌ {A = ℕ} 0 1 = cc in omega arith

-- the two sizes that matter here
first_two : (a b c d e f g h : Bool) → a && (b && (c && (d && (e && (f && (g && h)))))) ≡ true → (a ≡ true) × (f ≡ true)
first_two true true true true true true g h e = (refl, refl)
first_two false b c d e f g h z = absurd (no z)
first_two true false c d e f g h z = absurd (no z)
first_two true true false d e f g h z = absurd (no z)
first_two true true true false e f g h z = absurd (no z)
first_two true true true true false f g h z = absurd (no z)
first_two true true true true true false g h z = absurd (no z)

sizes : (bytes disk blocks words most : ℕ) → sizes_fit bytes disk blocks words most ≡ true → (bytes ≤ 2047) × (words / 4 ≤ 256)
unfolding sizes_fit
sizes bytes disk blocks words most e =
    let s = first_two (leb bytes 2047) (leb 1 blocks) (leb blocks 4096) (leb (256 * blocks) disk) (leb 1 (words / 4)) (leb (words / 4) 256) (leb 1 most)
    (leb most 50) e in
    (leb-true bytes 2047 s.0, leb-true (words / 4) 256 s.1)

module _ (m : Bool) (older most : ℕ) (rs named : List ℕ) (few : older ≤ 256) (rise : Rising 0 511 rs) (lent : length named ≡ 511) where
  older_told : (told m older most (length rs)).older ≤ 256
  unfolding told
  older_told = by m
    where
      by : (t : Bool) → cond t older 0 ≤ 256
      by true = few
      by false = omega arith

  told_count : (told m older most (length rs)).count ≡ length rs
  unfolding told
  told_count = refl

  taken : take (told m older most (length rs)).count (rs ++ drop (length rs) named) ≡ rs
  unfolding told
  taken = take_at rs (drop (length rs) named) (length rs) refl

  named_short : length rs ≤ 511 → length (told_of (Ok (told m older most (length rs))) (rs ++ drop (length rs) named)) ≤ 6144
  named_short h =
      rw (told_named (told m older most (length rs)) (rs ++ drop (length rs) named)
      ∙ ap (λ (x : List ℕ). outcome_word (told m older most (length rs)) ++ (number_fields x ++ (10 ∷ []))) taken)
      (omega (
        arith,
        h,
        length-append (outcome_word (told m older most (length rs))) (number_fields rs ++ (10 ∷ [])),
        length-append (number_fields rs) (10 ∷ []),
        word_most (told m older most (length rs)) older_told,
        fields_most 0 rs rise,
      ))

  small_delivered : Small (deliver (told m older most (length rs)) rs named)
  unfolding deliver
  small_delivered = by (leb (length rs) (length named)) refl
    where
      by : (t : Bool) → leb (length rs) (length named) ≡ t
          → Small (cond t (whys (Ok (told m older most (length rs))) (rs ++ drop (length rs) named)) (whys (refused_by 33) named))
      by true e =
          let h : length rs ≤ 511 = omega (arith, leb-true (length rs) (length named) e, lent) in
          (named_short h, λ w e. let k : w.count ≡ length rs = ap (λ (x : Explained). x.count) (sym (told_same (told m older most (length rs)) w e)) ∙ told_count in omega (arith, h, k))
      by false e = small_refused 33 named (omega arith)

module _ (eq : List ℕ) (number : ℕ) (disk owner table : List ℕ) (most : ℕ) where
  small_file : (t : Tree) → parse eq ≡ some t → length eq ≤ 2047 → length table / 4 ≤ 256 → (p : ℕ) → Small (file_why eq t disk owner table most room p)
  unfolding file_why
  small_file t e short few p =
      small_delivered (truth_on (items_at disk owner table p) t) (older_of eq disk owner table (time_at table p)) most (reasons_on (items_at disk owner table p) t) room
      (older_most eq disk owner table (time_at table p) few)
      (rises_less 0 (length (relations_of eq)) (reasons_on (items_at disk owner table p) t) (at_most_511 eq short)
      (decides eq t e short (items_at disk owner table p)).rising) (length-replicate {A = ℕ} 511 0)

  small_found : (t : Tree) → parse eq ≡ some t → length eq ≤ 2047 → length table / 4 ≤ 256 → (f : std.Option ℕ) → Small (found_why eq t disk owner table most room f)
  unfolding found_why
  small_found t e short few None = small_refused 4 room (omega arith)
  small_found t e short few (Some p) = by (eqb (time_at table p) 0)
    where
      by : (b : Bool) → Small (cond b (whys (refused_by 11) room) (file_why eq t disk owner table most room p))
      by true = small_refused 11 room (omega arith)
      by false = small_file t e short few p

  small_tree : (o : Option Tree) → parse eq ≡ o → length eq ≤ 2047 → length table / 4 ≤ 256 → Small (tree_why eq o number disk owner table most room)
  unfolding tree_why
  small_tree none e short few = small_refused 8 room (omega arith)
  small_tree (some t) e short few = small_found t e short few (find_of (files table) number)

  small : Small (why_of eq number disk owner table most room)
  unfolding why_of
  small = by (sizes_fit (length eq) (length disk) (length owner) (length table) most) refl
    where
      by : (b : Bool) → sizes_fit (length eq) (length disk) (length owner) (length table) most ≡ b
          → Small (cond b (tree_why eq (parse eq) number disk owner table most room) (whys (refused_by 33) room))
      by true e = let s = sizes (length eq) (length disk) (length owner) (length table) most e in small_tree (parse eq) refl s.0 s.1
      by false e = small_refused 33 room (omega arith)

module _ (disk owner table : List ℕ) (most number : ℕ) where
  pub told_most : (eq : List ℕ) → length (told_by (ask_in disk owner table most number eq)) ≤ 6144
  told_most eq = (small eq number disk owner table most).0

  -- what the code has
  module _ (eq : List ℕ) (told : std.Result Explained ℕ) (named : List ℕ) (e : whys told named ≡ why_of eq number disk owner table most room) where
    pub told_is : told_of told named ≡ told_by (ask_in disk owner table most number eq)
    told_is = ap told_by e

    pub told_short : length (told_of told named) ≤ 6144
    told_short = rw told_is (told_most eq)

    pub count_short : (w : Explained) → told ≡ Ok w → w.count ≤ 511
    count_short w i = (small eq number disk owner table most).1 w (sym (ap (λ (x : Whys). x.answer) e) ∙ i)

  -- ---- an equation as on paper

  paper_small : (text : List ℕ) (o : Outcome) → length (said_of o) ≤ 4096 → length (paper_told (ask_in disk owner table most number) o) ≤ 6144
  unfolding paper_told
  paper_small text (accepted f) h = by (leb (length (postfix f)) 256)
    where
      by : (t : Bool) → length (cond t (told_by (ask_in disk owner table most number (postfix f))) (said_of (accepted f))) ≤ 6144
      by true = told_most (postfix f)
      by false = omega (arith, h)
  paper_small text (refused p why) h = omega (arith, h)

  paper_most : (text : List ℕ) → length text < 9223372036854775808 → length (paper_told (ask_in disk owner table most number) (outcome_of text)) ≤ 6144
  paper_most text h = paper_small text (outcome_of text) (said_fits text h)

-- ---- a whole line

line_most : (number : ℕ) (rest : List ℕ) → number < 4294967296 → length rest ≤ 6144 → length (why_line number rest) ≤ 8192
line_most number rest h i =
    omega (arith, h, i, front_most number h, length-append (front_of number) rest, ap length (why_line_law number rest))

module _ (disk owner table : List ℕ) (most number : ℕ) (h : number < 4294967296) where
  pub why_fits : (eq : List ℕ) → length (why_line number (told_by (ask_in disk owner table most number eq))) ≤ 8192
  why_fits eq = line_most number (told_by (ask_in disk owner table most number eq)) h (told_most disk owner table most number eq)

  pub paper_fits : (text : List ℕ) → length text < 9223372036854775808
      → length (why_line number (paper_told (ask_in disk owner table most number) (outcome_of text))) ≤ 8192
  paper_fits text i =
      line_most number (paper_told (ask_in disk owner table most number) (outcome_of text)) h (paper_most disk owner table most number text i)
