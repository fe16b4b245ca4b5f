-- THE THEOREMS on equations written as on paper: the text reads back as the same bytes, no text with these bytes has fewer pairs of brackets, and
-- `mark` and `deeper` are answered only where no text of the grammar turns into the bytes. Assumes nothing.
use mathlib.Core.Path.{◌≡◌, refl, sym, ap, ◌∙◌}
use mathlib.Core.Bool.{Bool, true, false, cond}
use mathlib.Core.List.{List, [], ◌++◌}
use mathlib.Core.Option.{Option, none, some}
use Prim.Native.Nat.{ℕ, ◌≤◌, ◌<◌}
use native.Mathlib.Omega.{arith}
use lib.Dec.{ltb, leb}
use lib.ListN.{length, get_or, take, drop}
use lib.Seq.{take_at, drop_at}
use borrow.Author.Tests.{ltb-true, ltb-false}
use Rattle.equation.specs.Tree.{Tree, parse}
use Rattle.equation.specs.Newer.{unmarked}
use Rattle.grammar.specs.Formula.{Formula, postfix}
use Rattle.grammar.specs.Grammar.{Reads}
use Rattle.grammar.specs.Machine.{accepted, outcome_of}
use Rattle.grammar.proofs.Complete.{complete}
use Rattle.writing.specs.Text.{text_of, nesting}
use Rattle.writing.specs.Places.{formula_of}
use Rattle.back.specs.Answer.{Answers, answers, delivered, written, written_by, written_of}
use Rattle.std.proofs.Common.{Result, Ok, Err}
use Rattle.back.specs.declared.Answer.{Answer}
use Rattle.back.specs.declared.Answer.TheVariants as answer
use Rattle.writing.proofs.Derived.{AllWhole, text_reads, pairs_of, fewest, flattest}
use Rattle.writing.proofs.Bytes.{no_mark, parsed_whole, parsed_bytes, parsed_means}

-- bytes that are equations as they come in packets
abbrev pub Bytes : List ℕ → Type 0
Bytes bytes = (k : ℕ) → get_or bytes k 0 < 256

-- a text of the grammar that turns into the bytes
pub record TurnsInto (text bytes : List ℕ) : Type 0 where
  pub formula : Formula
  pub reads : Reads text formula
  pub bytes_are : postfix formula ≡ bytes

-- ---- what an answer says

record Delivered (f : Formula) (n : ℕ) (m : ℕ) (out : List ℕ) (k : ℕ) (o : List ℕ) : Type 0 where
  unmarked_all : n ≤ m
  nested : nesting f ≤ 16
  short : n ≤ 256
  is_text : take k o ≡ text_of f
  size : k ≡ length (text_of f)
  untouched : o ≡ text_of f ++ drop k out

-- the same text, otherwise given
moved : (x y : List ℕ) (f : Formula) → x ≡ y → Reads x f → Reads y f
moved x y f e r = record { sum = r.sum; good = r.good; nested = r.nested; is_text = r.is_text ∙ e; is_formula = r.is_formula }

-- answers of different kinds are not the same
abbrev kind_of : Result Answer ℕ → ℕ
kind_of (Ok (answer.Text k)) = 0
kind_of (Err n) = 1
kind_of (Ok answer.Mark) = 2
kind_of (Ok answer.Deeper) = 3
kind_of (Ok answer.Bytes) = 4

abbrev kind : Answers → ℕ
kind r = kind_of r.answer

-- the bytes of a text
abbrev size_in : Result Answer ℕ → ℕ
size_in (Ok (answer.Text k)) = k
size_in (Err n) = 0
size_in (Ok answer.Mark) = 0
size_in (Ok answer.Deeper) = 0
size_in (Ok answer.Bytes) = 0

abbrev size_of : Answers → ℕ
size_of r = size_in r.answer

text_told : (f : Formula) (n m : ℕ) (out : List ℕ) (k : ℕ) (o : List ℕ) → written f n m out ≡ answers (Ok (answer.Text k)) o → Delivered f n m out k o
unfolding written delivered
text_told f n m out k o h = by (ltb m n) refl (ltb 16 (nesting f)) refl (ltb 256 n) refl (leb (length (text_of f)) (length out)) refl h
  where
    by : (a : Bool) → ltb m n ≡ a → (b : Bool) → ltb 16 (nesting f) ≡ b → (c : Bool) → ltb 256 n ≡ c → (d : Bool) → leb (length (text_of f)) (length out) ≡ d
        → cond a (answers (Ok answer.Mark) out)
        (cond b (answers (Ok answer.Deeper) out)
        (cond c (answers (Ok answer.Bytes) out)
        (cond d (answers (Ok (answer.Text (length (text_of f)))) (text_of f ++ drop (length (text_of f)) out)) (answers (Err 33) out))))
        ≡ answers (Ok (answer.Text k)) o
        → Delivered f n m out k o
    by true ea b eb c ec d ed z = absurd (omega (arith, ap kind z))
    by false ea true eb c ec d ed z = absurd (omega (arith, ap kind z))
    by false ea false eb true ec d ed z = absurd (omega (arith, ap kind z))
    by false ea false eb false ec false ed z = absurd (omega (arith, ap kind z))
    by false ea false eb false ec true ed z =
        let p : length (text_of f) ≡ k = ap size_of z in
        let q : text_of f ++ drop (length (text_of f)) out ≡ o = ap (λ (r : Answers). r.out) z in
        record {
          unmarked_all = ltb-false m n ea;
          nested = ltb-false 16 (nesting f) eb;
          short = ltb-false 256 n ec;
          is_text = rw (← q, ← p) (take_at (text_of f) (drop (length (text_of f)) out) (length (text_of f)) refl);
          size = sym p;
          untouched = rw (← p) (sym q);
        }

deeper_told : (f : Formula) (n m : ℕ) (out o : List ℕ) → written f n m out ≡ answers (Ok answer.Deeper) o → 16 < nesting f
unfolding written delivered
deeper_told f n m out o h = by (ltb m n) (ltb 16 (nesting f)) refl (ltb 256 n) (leb (length (text_of f)) (length out)) h
  where
    by : (a b : Bool) → ltb 16 (nesting f) ≡ b → (c d : Bool)
        → cond a (answers (Ok answer.Mark) out)
        (cond b (answers (Ok answer.Deeper) out)
        (cond c (answers (Ok answer.Bytes) out)
        (cond d (answers (Ok (answer.Text (length (text_of f)))) (text_of f ++ drop (length (text_of f)) out)) (answers (Err 33) out))))
        ≡ answers (Ok answer.Deeper) o
        → 16 < nesting f
    by true b eb c d z = absurd (omega (arith, ap kind z))
    by false true eb c d z = ltb-true 16 (nesting f) eb
    by false false eb true d z = absurd (omega (arith, ap kind z))
    by false false eb false true z = absurd (omega (arith, ap kind z))
    by false false eb false false z = absurd (omega (arith, ap kind z))

mark_told : (f : Formula) (n m : ℕ) (out o : List ℕ) → written f n m out ≡ answers (Ok answer.Mark) o → m < n
unfolding written delivered
mark_told f n m out o h = by (ltb m n) refl (ltb 16 (nesting f)) (ltb 256 n) (leb (length (text_of f)) (length out)) h
  where
    by : (a : Bool) → ltb m n ≡ a → (b c d : Bool)
        → cond a (answers (Ok answer.Mark) out)
        (cond b (answers (Ok answer.Deeper) out)
        (cond c (answers (Ok answer.Bytes) out)
        (cond d (answers (Ok (answer.Text (length (text_of f)))) (text_of f ++ drop (length (text_of f)) out)) (answers (Err 33) out))))
        ≡ answers (Ok answer.Mark) o
        → m < n
    by true ea b c d z = ltb-true m n ea
    by false ea true c d z = absurd (omega (arith, ap kind z))
    by false ea false true d z = absurd (omega (arith, ap kind z))
    by false ea false false true z = absurd (omega (arith, ap kind z))
    by false ea false false false z = absurd (omega (arith, ap kind z))

-- an answer that is no refusal by a number is that of the equation's tree
record Parsed (bytes out : List ℕ) (a : Answers) : Type 0 where
  tree : Tree
  parsed : parse bytes ≡ some tree
  gives : written (formula_of tree) (length bytes) (length (unmarked bytes)) out ≡ a

answer_parsed : (bytes out : List ℕ) (a : Result Answer ℕ) (o : List ℕ) → ((n : ℕ) → a ≡ Err n → ⊥) → written_of bytes out ≡ answers a o
    → Parsed bytes out (answers a o)
unfolding written_of written_by
answer_parsed bytes out a o n h = by (ltb 2047 (length bytes)) (parse bytes) refl h
  where
    by : (x : Bool) (t : Option Tree) → parse bytes ≡ t → cond x (answers (Err 33) out) (written_by t (length bytes) (length (unmarked bytes)) out)
        ≡ answers a o → Parsed bytes out (answers a o)
    by true t p z = absurd (n 33 (sym (ap (λ (r : Answers). r.answer) z)))
    by false none p z = absurd (n 8 (sym (ap (λ (r : Answers). r.answer) (unfold written_by in z))))
    by false (some t) p z = record { tree = t; parsed = p; gives = unfold written_by in z }

-- ---- the theorems

module _ (bytes : List ℕ) (small : Bytes bytes) (out : List ℕ) where
  -- a text that was written
  module _ (k : ℕ) (o : List ℕ) (h : written_of bytes out ≡ answers (Ok (answer.Text k)) o) where
    the_tree : Parsed bytes out (answers (Ok (answer.Text k)) o)
    the_tree = answer_parsed bytes out (Ok (answer.Text k)) o (λ n z. omega (arith, ap kind_of z)) h

    abbrev the_formula : Formula
    the_formula = formula_of the_tree.tree

    told : Delivered the_formula (length bytes) (length (unmarked bytes)) out k o
    told = text_told the_formula (length bytes) (length (unmarked bytes)) out k o the_tree.gives

    whole : AllWhole the_formula
    whole = parsed_whole bytes small the_tree.tree the_tree.parsed

    its_bytes : postfix the_formula ≡ bytes
    its_bytes = sym (parsed_bytes bytes small the_tree.tree the_tree.parsed) ∙ no_mark bytes told.unmarked_all

    -- it is a text of the grammar that turns into the same bytes
    pub reads_back : TurnsInto (take k o) bytes
    reads_back =
        record {
          formula = the_formula;
          reads = moved (text_of the_formula) (take k o) the_formula (sym told.is_text) (text_reads the_formula whole told.nested);
          bytes_are = its_bytes;
        }

    -- so the reader accepts it as what the bytes mean
    pub accepted_back : outcome_of (take k o) ≡ accepted reads_back.formula
    accepted_back = complete (take k o) reads_back.formula reads_back.reads

    -- no text of the grammar that turns into these bytes has fewer pairs of brackets
    pub fewest_brackets : (text : List ℕ) (t : TurnsInto text bytes) → pairs_of reads_back.reads ≤ pairs_of t.reads
    unfolding reads_back moved
    fewest_brackets text t =
        fewest text t.formula t.reads the_formula
        (parsed_means bytes small the_tree.tree the_tree.parsed text t.formula t.reads t.bytes_are) whole told.nested

    -- output beyond the text is untouched
    pub beyond : drop k o ≡ drop k out
    beyond = ap (drop k) told.untouched ∙ drop_at (text_of the_formula) (drop k out) k (sym told.size)

  -- nested too deep: no text of the grammar turns into these bytes
  pub deeper_none : (o : List ℕ) → written_of bytes out ≡ answers (Ok answer.Deeper) o → (text : List ℕ) → TurnsInto text bytes → ⊥
  deeper_none o h text t =
      let p = answer_parsed bytes out (Ok answer.Deeper) o (λ n z. omega (arith, ap kind_of z)) h in
      let e = parsed_means bytes small p.tree p.parsed text t.formula t.reads t.bytes_are in
      omega (
        arith,
        deeper_told (formula_of p.tree) (length bytes) (length (unmarked bytes)) out o p.gives,
        flattest text t.formula t.reads (formula_of p.tree) e,
        t.reads.nested,
      )

  -- an end mark: no text of the grammar turns into these bytes either
  pub mark_none : (o : List ℕ) → written_of bytes out ≡ answers (Ok answer.Mark) o → (text : List ℕ) → TurnsInto text bytes → ⊥
  mark_none o h text t =
      let p = answer_parsed bytes out (Ok answer.Mark) o (λ n z. omega (arith, ap kind_of z)) h in
      let e = parsed_means bytes small p.tree p.parsed text t.formula t.reads t.bytes_are in
      omega (
        arith,
        mark_told (formula_of p.tree) (length bytes) (length (unmarked bytes)) out o p.gives,
        ap length (parsed_bytes bytes small p.tree p.parsed),
        ap (λ (f : Formula). length (postfix f)) e,
        ap length t.bytes_are,
      )
