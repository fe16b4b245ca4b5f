-- What is promised holds. Assumes nothing.
use Rattle.std.proofs.Common.{Result, Ok, Err}
use mathlib.Core.Path.{◌≡◌, refl, sym, ap, ◌∙◌}
use mathlib.Core.Bool.{Bool, true, false, cond}
use mathlib.Core.List.{List, ◌++◌}
use Prim.Native.Nat.{ℕ, ◌+◌, ◌≤◌, ◌<◌}
use native.Mathlib.Omega.{arith}
use lib.Dec.{leb}
use lib.ListN.{length, drop}
use borrow.Author.Tests.{leb-true, le-leb, lt-leb}
use Rattle.grammar.specs.Formula.{Formula, postfix}
use Rattle.grammar.specs.Grammar.{Reads, WrongPlace}
use Rattle.grammar.specs.Machine.{Outcome, accepted, refused, outcome_of}
use Rattle.grammar.specs.declared.Reason.{Reason}
use Rattle.grammar.proofs.Complete.{complete}
use Rattle.grammar.proofs.Sound.{sound, one_meaning}
use Rattle.grammar.proofs.Viable.{first_wrong}
use Rattle.grammar.proofs.Bytes.{text_parsed, text_valid, text_truth}
use Rattle.readings.specs.Table.{Told}
use Rattle.readings.proofs.TableLaws.{told}
use Rattle.paper.specs.Answer.{Answers, answers, delivered, answered}
use Rattle.paper.specs.Promised.{Accepts, Promised}
use Rattle.paper.specs.declared.Answer.{Answer}
use Rattle.paper.specs.declared.Answer.TheVariants as answer

-- ---- the answer to a text of the grammar

fits : (bytes out : List ℕ) → length bytes ≤ 256 → length bytes ≤ length out → delivered bytes out ≡ answers (Ok (answer.Bytes (length bytes)))
    (bytes ++ drop (length bytes) out)
unfolding delivered
fits bytes out h i = rw (le-leb (length bytes) 256 h, le-leb (length bytes) (length out) i)

too_short : (bytes out : List ℕ) → length bytes ≤ 256 → length out < length bytes → delivered bytes out ≡ answers (Err 33) out
unfolding delivered
too_short bytes out h i = rw (le-leb (length bytes) 256 h, lt-leb (length bytes) (length out) i)

too_long : (bytes out : List ℕ) → 256 < length bytes → delivered bytes out ≡ answers (Ok answer.Long) out
unfolding delivered
too_long bytes out h = rw (lt-leb (length bytes) 256 h)

accepts : (text : List ℕ) (f : Formula) → Reads text f → length (postfix f) ≤ 256 → Accepts text f
unfolding answered
accepts text f r h =
    record {
      written = λ out i. rw (complete text f r) (fits (postfix f) out h i);
      short = λ out i. rw (complete text f r) (too_short (postfix f) out h i);
      parsed = text_parsed text f r h;
      valid = text_valid text f r h;
      truth = text_truth text f r h;
    }

-- ---- from an answer

Said : List ℕ → List ℕ → ℕ → List ℕ → Type 0
Said bytes out n now = (n ≡ length bytes) × (n ≤ 256) × (now ≡ bytes ++ drop n out)

delivered_said : (bytes out : List ℕ) (n : ℕ) (now : List ℕ) → delivered bytes out ≡ answers (Ok (answer.Bytes n)) now → Said bytes out n now
unfolding delivered Said
delivered_said bytes out n now = by (leb (length bytes) 256) (leb (length bytes) (length out)) refl
  where
    by : (s t : Bool) → leb (length bytes) 256 ≡ s
        → cond s (cond t (answers (Ok (answer.Bytes (length bytes))) (bytes ++ drop (length bytes) out)) (answers (Err 33) out))
        (answers (Ok answer.Long) out) ≡ answers (Ok (answer.Bytes n)) now
        → (n ≡ length bytes) × (n ≤ 256) × (now ≡ bytes ++ drop n out)
    by true true h e =
        let a : ◌≡◌ {A = Result Answer ℕ} (Ok (answer.Bytes (length bytes))) (Ok (answer.Bytes n)) = ap (λ (x : Answers). x.answer) e in
        let k : length bytes ≡ n = cc in
        let o : bytes ++ drop (length bytes) out ≡ now = ap (λ (x : Answers). x.out) e in
        (sym k, omega (arith, leb-true (length bytes) 256 h), sym (rw k at o))
    by true false h e = let a : ◌≡◌ {A = Result Answer ℕ} (Err 33) (Ok (answer.Bytes n)) = ap (λ (x : Answers). x.answer) e in let z : ◌≡◌ {A = ℕ} 0 1 = cc in absurd (omega arith)
    by false t h e = let a : ◌≡◌ {A = Result Answer ℕ} (Ok (answer.Long)) (Ok (answer.Bytes n)) = ap (λ (x : Answers). x.answer) e in let z : ◌≡◌ {A = ℕ} 0 1 = cc in absurd (omega arith)

delivered_right : (bytes out : List ℕ) (p : ℕ) (why : Reason) (now : List ℕ) → delivered bytes out ≡ answers (Ok (answer.Wrong p why)) now → ⊥
unfolding delivered
delivered_right bytes out p why now = by (leb (length bytes) 256) (leb (length bytes) (length out))
  where
    by : (s t : Bool)
        → cond s (cond t (answers (Ok (answer.Bytes (length bytes))) (bytes ++ drop (length bytes) out)) (answers (Err 33) out))
        (answers (Ok answer.Long) out) ≡ answers (Ok (answer.Wrong p why)) now → ⊥
    by true true e = let a : ◌≡◌ {A = Result Answer ℕ} (Ok (answer.Bytes (length bytes))) (Ok (answer.Wrong p why)) = ap (λ (x : Answers). x.answer) e in let z : ◌≡◌ {A = ℕ} 0 1 = cc in omega arith
    by true false e = let a : ◌≡◌ {A = Result Answer ℕ} (Err 33) (Ok (answer.Wrong p why)) = ap (λ (x : Answers). x.answer) e in let z : ◌≡◌ {A = ℕ} 0 1 = cc in omega arith
    by false t e = let a : ◌≡◌ {A = Result Answer ℕ} (Ok (answer.Long)) (Ok (answer.Wrong p why)) = ap (λ (x : Answers). x.answer) e in let z : ◌≡◌ {A = ℕ} 0 1 = cc in omega arith

accepted_by : (text out : List ℕ) (o : Outcome) → outcome_of text ≡ o → (n : ℕ) (now : List ℕ) → answered o out ≡ answers (Ok (answer.Bytes n)) now
    → (f : Formula) × Reads text f × (n ≡ length (postfix f)) × (n ≤ 256) × (now ≡ postfix f ++ drop n out)
unfolding answered Said
accepted_by text out (accepted f) h n now e = let s = delivered_said (postfix f) out n now e in (f, sound text f h, s.0, s.1, s.2)
accepted_by text out (refused p why) h n now e =
    let a : ◌≡◌ {A = Result Answer ℕ} (Ok (answer.Wrong (p + 1) why)) (Ok (answer.Bytes n)) = ap (λ (x : Answers). x.answer) e in let z : ◌≡◌ {A = ℕ} 0 1 = cc in absurd (omega arith)

refused_by_law : (text out : List ℕ) (o : Outcome) → outcome_of text ≡ o → (place : ℕ) (why : Reason) (now : List ℕ) → answered o out ≡ answers
    (Ok (answer.Wrong place why)) now
    → (q : ℕ) × (place ≡ q + 1) × WrongPlace text q × (now ≡ out)
unfolding answered
refused_by_law text out (accepted f) h place why now e = absurd (delivered_right (postfix f) out place why now e)
refused_by_law text out (refused p because) h place why now e =
    let a : ◌≡◌ {A = Result Answer ℕ} (Ok (answer.Wrong (p + 1) because)) (Ok (answer.Wrong place why)) = ap (λ (x : Answers). x.answer) e in
    let k : p + 1 ≡ place = cc in
    (p, sym k, first_wrong text p because h, sym (ap (λ (x : Answers). x.out) e))

reason_by : (text out : List ℕ) (o : Outcome) → outcome_of text ≡ o → (place : ℕ) (why : Reason) (now : List ℕ)
    → answered o out ≡ answers (Ok (answer.Wrong place why)) now → (q : ℕ) × (place ≡ q + 1) × Told text q why
unfolding answered
reason_by text out (accepted f) h place why now e = absurd (delivered_right (postfix f) out place why now e)
reason_by text out (refused p because) h place why now e =
    let a : ◌≡◌ {A = Result Answer ℕ} (Ok (answer.Wrong (p + 1) because)) (Ok (answer.Wrong place why)) = ap (λ (x : Answers). x.answer) e in
    let k : p + 1 ≡ place = cc in
    let j : because ≡ why = cc in
    (p, sym k, told text p why (h ∙ ap (λ (r : Reason). refused p r) j))

pub promised : Promised
unfolding answered
promised =
    record {
      sound = λ text out n now e. accepted_by text out (outcome_of text) refl n now e;
      one_meaning = one_meaning;
      complete = accepts;
      long = λ text f r h out. rw (complete text f r) (too_long (postfix f) out h);
      wrong = λ text out place why now e. refused_by_law text out (outcome_of text) refl place why now e;
      reason = λ text out place why now e. reason_by text out (outcome_of text) refl place why now e;
    }
