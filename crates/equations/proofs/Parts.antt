-- Laws on the parts of a turn: a line that is answered, one that can't be read, and input that is read. Assumes nothing.
use Rattle.std.proofs.Common.{◌≡◌, ℕ, ◌+◌, ◌-◌, ◌≤◌, cond, eqb, ltb, List, ◌++◌, length, take, drop, sym, ap, ◌∙◌, Option, None, Some}
use Rattle.lines.specs.Lines.{printed, printed_in, error_line}
use Rattle.input.specs.Parts.{bytes_from, least_of, wrapped}
use Rattle.input.specs.Input.{shifted, shift_of}
use Rattle.input.proofs.PartLaws.{bytes_part}
use Rattle.input.proofs.Places.{end_part, put_end, input_brought}
use Rattle.replies.specs.Reply.{Replies, replies, reply_of}
use Rattle.equations.specs.declared.progress.Progress.{Progress}
use Rattle.equations.specs.declared.progress.Stage.TheVariants as stage
use Rattle.equations.specs.Turn.{progress_of, Put, put, with_more, error_put, beyond, behind, reply_behind, on_reply, on_replies, answered_of, Filled}

-- ---- a line that can't be read

pub error_put_law : (p r : Progress) (text part : List ℕ) (at n k : ℕ) → at ≡ least_of p.filled (length text) → k ≡ wrapped (p.lines + 1)
    → printed n part ≡ printed_in (error_line k) (take (length text - at) (drop at text))
    → r ≡ with_more p at n stage.Last
    → put r (take at text ++ (part ++ drop (length text - at) (drop at text))) ≡ error_put p text
unfolding error_put
error_put_law p r text part at n k e h f g =
    rw (put_end at text part, g, ← e, ← h, ← f ∙ ap (λ (t : List ℕ). printed_in (error_line k) t) (end_part at text))

-- ---- a line that is answered

pub reply_put : (input text part : List ℕ) (from to at stop start place : ℕ) (r : Option ℕ)
    → stop ≡ cond (ltb to (length input)) to (length input) → start ≡ cond (ltb from stop) from stop → place ≡ least_of at (length text)
    → replies r part ≡ reply_of (take (stop - start) (drop start input)) (take (length text - place) (drop place text))
    → replies r (take place text ++ (part ++ drop (length text - place) (drop place text))) ≡ reply_behind at (bytes_from from to input) text
reply_put input text part from to at stop start place r p q e f =
    rw (put_end place text part, ← e)
    (ap (λ (x : Replies). behind place text x)
    (f ∙ ap (λ (l : List ℕ). reply_of l (take (length text - place) (drop place text))) (bytes_part input from to stop start p q)
    ∙ ap (λ (t : List ℕ). reply_of (bytes_from from to input) t) (end_part place text)))

module _ (p : Progress) (n to : ℕ) (input text left : List ℕ) (r : Option ℕ) (e : to ≡ wrapped (p.from + n))
    (f : replies r left ≡ reply_behind p.filled (bytes_from p.from to input) text) where
  by_reply : on_reply p to r left ≡ answered_of p n input text
  unfolding answered_of
  by_reply =
      ap (λ (x : Replies). on_replies p to x) f
      ∙ ap (λ (k : ℕ). on_replies p k (reply_behind p.filled (bytes_from p.from k input) text)) e

  as_error : r ≡ None → on_reply p to r left ≡ error_put p left
  unfolding on_reply
  as_error z = rw z

  pub answered_none : (w : Put) → r ≡ None → w ≡ error_put p left → w ≡ answered_of p n input text
  answered_none w z g = g ∙ sym (as_error z) ∙ by_reply

  as_line : (size at : ℕ) (q b : Progress) → r ≡ Some size → at ≡ least_of p.filled (length left) → b ≡ beyond p to
      → q ≡ with_more b at size p.stage → put q left ≡ on_reply p to r left
  unfolding on_reply
  as_line size at q b z g h i = rw (z, i, h, g)

  pub answered_line : (size at : ℕ) (q b : Progress) → r ≡ Some size → at ≡ least_of p.filled (length left) → b ≡ beyond p to
      → q ≡ with_more b at size p.stage → put q left ≡ answered_of p n input text
  answered_line size at q b z g h i = as_line size at q b z g h i ∙ by_reply

-- ---- input that is read

pub input_filled : (p : Progress) (input moved brought whole : List ℕ) (size kept n : ℕ)
    → shifted size moved ≡ shift_of p.from p.end input
    → length moved ≡ length input
    → (kept ≤ length moved) × (kept ≡ least_of size (length moved))
    → length brought ≡ length (take (length moved - kept) (drop kept moved))
    → whole ≡ take kept moved ++ (brought ++ drop (length moved - kept) (drop kept moved))
    → n ≤ length (take (length whole - kept) (drop kept whole))
    → Filled p input (progress_of 0 (kept + n) (eqb n 0) p.lines p.filled p.stage) whole
input_filled p input moved brought whole size kept n e f g h i j =
    let b = input_brought p.from p.end input moved brought whole size kept n e f g h i j in
    record { n = n; brought = brought; size = b.size; most = b.most; is = λ text. rw (b.is, b.front) }
