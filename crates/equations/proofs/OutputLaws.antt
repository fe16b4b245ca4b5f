-- Laws on the output (specs/Output.antt), by what stands first in the input. Assumes nothing.
use Rattle.std.proofs.Common.{◌≡◌, ℕ, zero, suc, ◌+◌, ◌≤◌, true, List, [], ◌∷◌, ◌++◌, length, take, drop, sym, refl, ap, ◌∙◌, arith, length-drop}
use mathlib.Core.Path.{fun_ext}
use mathlib.Core.Option.{Option, none, some}
use Rattle.lines.specs.Lines.{error_line}
use Rattle.input.specs.declared.Found.TheVariants as found
use Rattle.input.specs.Input.{line_length, found_of, find_of, by_first}
use Rattle.replies.specs.Reply.{replies_to}
use Rattle.equations.specs.Output.{then_more, lines_from}

-- ---- no more lines than bytes

none_left : (k number : ℕ) → lines_from k number [] ≡ []
unfolding lines_from by_first find_of found_of line_length
none_left zero number = refl
none_left (suc k) number = refl

lines_enough : (j k number : ℕ) (input : List ℕ) → length input ≤ j → length input ≤ k → lines_from j number input ≡ lines_from k number input
unfolding lines_from
lines_enough zero k number [] p q = sym (none_left k number)
lines_enough zero k number (b ∷ bs) p q = absurd (omega (arith, p))
lines_enough (suc j) zero number [] p q = none_left (suc j) number
lines_enough (suc j) zero number (b ∷ bs) p q = absurd (omega (arith, q))
lines_enough (suc j) (suc k) number input p q =
    ap (λ (go : ℕ → List ℕ). by_first (find_of input true) [] (error_line number) go)
    (fun_ext λ n. ap (λ (r : List ℕ). then_more (replies_to (take n input)) (error_line number) r)
    (lines_enough j k (number + 1) (drop (n + 1) input) (omega (arith, p, length-drop (n + 1) input)) (omega (arith, q, length-drop (n + 1) input))))

-- ---- by what stands first

module _ (number : ℕ) (input : List ℕ) where
  one_more : lines_from (length input) number input ≡ lines_from (suc (length input)) number input
  one_more = lines_enough (length input) (suc (length input)) number input (omega arith) (omega arith)

  first_none : find_of input true ≡ found.Nothing → lines_from (suc (length input)) number input ≡ []
  unfolding lines_from by_first
  first_none e = rw e

  pub lines_none : find_of input true ≡ found.Nothing → lines_from (length input) number input ≡ []
  lines_none e = one_more ∙ first_none e

  first_long : find_of input true ≡ found.TooLong → lines_from (suc (length input)) number input ≡ error_line number
  unfolding lines_from by_first
  first_long e = rw e

  pub lines_long : find_of input true ≡ found.TooLong → lines_from (length input) number input ≡ error_line number
  lines_long e = one_more ∙ first_long e

  module _ (n : ℕ) (e : find_of input true ≡ found.Line n) (line : List ℕ) (f : take n input ≡ line) where
    first_line_law : lines_from (suc (length input)) number input
        ≡ then_more (replies_to line) (error_line number) (lines_from (length input) (number + 1) (drop (n + 1) input))
    unfolding lines_from by_first
    first_line_law = rw (e, f)

    by_reply : (o : Option (List ℕ)) → replies_to line ≡ o
        → lines_from (length input) number input
        ≡ then_more o (error_line number) (lines_from (length (drop (n + 1) input)) (number + 1) (drop (n + 1) input))
    by_reply o g =
        one_more ∙ first_line_law ∙ ap (λ (x : Option (List ℕ)). then_more x (error_line number) (lines_from (length input) (number + 1) (drop (n + 1) input))) g
        ∙ ap (λ (r : List ℕ). then_more o (error_line number) r)
        (lines_enough (length input) (length (drop (n + 1) input)) (number + 1) (drop (n + 1) input) (omega (arith, length-drop (n + 1) input))
        (omega arith))

    pub lines_unreadable : replies_to line ≡ none → lines_from (length input) number input ≡ error_line number
    unfolding then_more
    lines_unreadable g = by_reply none g

    pub lines_reply : (reply : List ℕ) → replies_to line ≡ some reply
        → lines_from (length input) number input ≡ reply ++ lines_from (length (drop (n + 1) input)) (number + 1) (drop (n + 1) input)
    unfolding then_more
    lines_reply reply g = by_reply (some reply) g
