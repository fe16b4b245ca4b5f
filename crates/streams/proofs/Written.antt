-- What several writes come to is one write of all of it. Assumes nothing.
use Rattle.std.proofs.Common.{ℕ, ◌+◌, ◌-◌, List, ◌++◌, length, take, drop, ap, ◌∙◌, append_assoc, arith, length-drop, take_all}
use Rattle.std.proofs.Math.Seq.{take-add}
use Rattle.std.specs.Prelude.{None, Some}
use Rattle.std.specs.declared.option.Option.{Option}
use Rattle.std.specs.Io.KnownBytes.{Appends}

appends_both : (old mid new : Option (List ℕ)) (front back : List ℕ) → Appends old mid front → Appends mid new back → Appends old new (front ++ back)
appends_both None mid new front back p q = tt
appends_both (Some xs) None new front back p q = absurd p
appends_both (Some xs) (Some ys) None front back p q = absurd q
appends_both (Some xs) (Some ys) (Some zs) front back p q = q ∙ ap (λ (l : List ℕ). l ++ back) p ∙ append_assoc xs front back

-- the front of a text, and then n bytes of the rest
pub appends_next : (old mid new : Option (List ℕ)) (text : List ℕ) (done n : ℕ) → Appends old mid (take done text)
    → Appends mid new (take n (take (length text - done) (drop done text))) → Appends old new (take (done + n) text)
appends_next old mid new text done n p q =
    rw (take-add done n text, ← take_all (length text - done) (drop done text) (omega (arith, length-drop done text)))
    (appends_both old mid new (take done text) (take n (take (length text - done) (drop done text))) p q)
