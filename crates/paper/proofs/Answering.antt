-- The public call: what it answers is the text's. Assumes nothing.
use Rattle.std.proofs.Common.{Ok, Err}
use mathlib.Core.Path.{◌≡◌, refl, sym, subst, ◌∙◌}
use mathlib.Core.List.{List, []}
use Prim.Native.Nat.{ℕ, ◌+◌, ◌≤◌, ◌<◌}
use native.Mathlib.Omega.{arith}
use lib.ListN.{length, get_or}
use Rattle.grammar.specs.Formula.{postfix, or_after}
use Rattle.grammar.specs.Machine.{have, refused, ended, ending, outcome_of}
use Rattle.grammar.specs.declared.Reason.TheVariants as reason
use Rattle.grammar.proofs.Steps as steps
use Rattle.grammar.proofs.Viable.{first_wrong}
use Rattle.tokens.specs.declared.Wrong.{Wrong}
use Rattle.readings.specs.Contract.{Reading, SumIs, SumRead}
use Rattle.paper.specs.Answer.{Answers, answers, delivered_from, answered, bytes_of}
use Rattle.paper.specs.declared.Answer.TheVariants as answer
use Rattle.tokens.proofs.Places as places
use Rattle.paper.proofs.OutputLaws as output

module _ (text out buffer : List ℕ) where
  module _ (w : Wrong) (r : Reading) (now : List ℕ) (e : r ≡ Err w) (s : SumRead text 0 16 buffer 0 r now) where
    wrong_outcome : outcome_of text ≡ refused w.at w.reason
    wrong_outcome = subst (λ (r : Reading). SumRead text 0 16 buffer 0 r now) e s [] refl

    pub place_within : w.at ≤ length text
    place_within = (first_wrong text w.at w.reason wrong_outcome).within

    pub text_wrong : answers (Ok (answer.Wrong (w.at + 1) w.reason)) out ≡ bytes_of text out
    unfolding answered
    text_wrong = rw wrong_outcome

  module _ (e m : ℕ) (r : Reading) (now : List ℕ) (z : r ≡ Ok (e, m)) (s : SumRead text 0 16 buffer 0 r now) where
    sum_is : SumIs text 0 16 buffer 0 e m now
    sum_is = subst (λ (r : Reading). SumRead text 0 16 buffer 0 r now) z s

    pub text_over : e < length text → answers (Ok (answer.Wrong (e + 1) reason.Connective)) out ≡ bytes_of text out
    unfolding answered
    text_over h =
        let f = sum_is in
        rw (f.runs [] refl ∙ places.halts text e (have f.product f.sum []) reason.Connective h
        (steps.have_top f.product f.sum (get_or text e 0) f.no_blank f.no_and f.no_or))

    pub text_whole : (a : Answers) → length buffer ≡ 256 → length text ≤ e → a ≡ delivered_from now m out → a ≡ bytes_of text out
    unfolding answered ending ended
    text_whole a l h y =
        let f = sum_is in
        let b : length (postfix (or_after f.sum f.product)) ≡ m = omega (arith, f.count) in
        y
        ∙ rw (f.bytes, f.runs [] refl ∙ places.ends text e (have f.product f.sum []) h)
        (output.from_buffer buffer (postfix (or_after f.sum f.product)) out m l (sym b))
