-- Laws of the numbers of refusals. Assumes nothing.
use Rattle.std.proofs.Common.{◌≡◌, ℕ, ◌<◌, cond, eqb, refl, ap, sym, subst, ◌∙◌, Result, Ok, Err, arith}
use Rattle.refusal.specs.declared.Refusal.{Refusal}
use Rattle.refusal.specs.declared.Refusal.TheVariants.{IllFormed, BadContinue, UsedUp, NoSuchFile, SelectionEmpty, ItemMissing, NoHeader, BadEquation}
use Rattle.refusal.specs.declared.Refusal.TheVariants.{NoSuchDestination, FilePartial, FileComplete, NoRoom, BadHeader, HeaderSum, BodySum, ShortOutput, BadSize, BadSession, Unsound}
use Rattle.refusal.specs.Refusal.{number, number_of, numbered}

-- no refusal has the number 0
pub refused : (refusal : Refusal) → 0 < number refusal
refused IllFormed = omega arith
refused BadContinue = omega arith
refused UsedUp = omega arith
refused NoSuchFile = omega arith
refused SelectionEmpty = omega arith
refused ItemMissing = omega arith
refused NoHeader = omega arith
refused BadEquation = omega arith
refused NoSuchDestination = omega arith
refused FilePartial = omega arith
refused FileComplete = omega arith
refused NoRoom = omega arith
refused BadHeader = omega arith
refused HeaderSum = omega arith
refused BodySum = omega arith
refused ShortOutput = omega arith
refused BadSize = omega arith
refused BadSession = omega arith
refused Unsound = omega arith

-- the refusal of a number of the table
abbrev named : ℕ → Refusal
named n =
    cond (eqb n 1) IllFormed (cond (eqb n 2) BadContinue (cond (eqb n 3) UsedUp (cond (eqb n 4) NoSuchFile (cond (eqb n 5) SelectionEmpty (cond (eqb n 6) ItemMissing (cond (eqb n 7) NoHeader (cond (eqb n 8) BadEquation (cond (eqb n 10) NoSuchDestination (cond (eqb n 11) FilePartial (cond (eqb n 12) FileComplete (cond (eqb n 13) NoRoom (cond (eqb n 14) BadHeader (cond (eqb n 15) HeaderSum (cond (eqb n 16) BodySum (cond (eqb n 32) ShortOutput (cond (eqb n 33) BadSize (cond (eqb n 34) BadSession Unsound)))))))))))))))))

named_number : (refusal : Refusal) → named (number refusal) ≡ refusal
named_number IllFormed = refl
named_number BadContinue = refl
named_number UsedUp = refl
named_number NoSuchFile = refl
named_number SelectionEmpty = refl
named_number ItemMissing = refl
named_number NoHeader = refl
named_number BadEquation = refl
named_number NoSuchDestination = refl
named_number FilePartial = refl
named_number FileComplete = refl
named_number NoRoom = refl
named_number BadHeader = refl
named_number HeaderSum = refl
named_number BodySum = refl
named_number ShortOutput = refl
named_number BadSize = refl
named_number BadSession = refl
named_number Unsound = refl

-- no two refusals have the same number
pub apart : (r s : Refusal) → number r ≡ number s → r ≡ s
apart r s e = sym (named_number r) ∙ (ap named e ∙ named_number s)

-- an answer is refused where its number is not 0
pub not_done : (refusal : Refusal) (n : ℕ) → number refusal ≡ n → 0 < n
not_done refusal n e = let h = refused refusal in omega arith

-- an answer is determined by its number where there is nothing else to it, and by itself with the number in the refusal's place
pub number_determines : (r s : Result Unit Refusal) → number_of r ≡ number_of s → r ≡ s
number_determines (Ok a) (Ok b) e = refl
number_determines (Ok a) (Err s) e = let h = refused s in absurd (omega arith)
number_determines (Err r) (Ok b) e = let h = refused r in absurd (omega arith)
number_determines (Err r) (Err s) e = ap Err (apart r s e)

-- the answer of a numbered one
abbrev answered : {A : Type 0} → Result A ℕ → Result A Refusal
answered (Ok a) = Ok a
answered (Err n) = Err (named n)

answered_numbered : {A : Type 0} (r : Result A Refusal) → answered (numbered r) ≡ r
answered_numbered (Ok a) = refl
answered_numbered (Err r) = ap Err (named_number r)

pub numbered_determines : {A : Type 0} (r s : Result A Refusal) → numbered r ≡ numbered s → r ≡ s
numbered_determines r s e = sym (answered_numbered r) ∙ (ap answered e ∙ answered_numbered s)
