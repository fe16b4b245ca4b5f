-- The numbers of document 01, "Refusals by number". Assumes nothing.
use Rattle.std.specs.Prelude.{ℕ, Result, Ok, Err}
use Rattle.refusal.specs.declared.Refusal.{Refusal}
use Rattle.refusal.specs.declared.Refusal.TheVariants.{IllFormed, BadContinue, UsedUp, NoSuchFile, SelectionEmpty, ItemMissing, NoHeader, BadEquation}
use Rattle.refusal.specs.declared.Refusal.TheVariants.{NoSuchDestination, FilePartial, FileComplete, NoRoom, BadHeader, HeaderSum, BodySum}
use Rattle.refusal.specs.declared.Refusal.TheVariants.{ShortOutput, BadSize, BadSession, Unsound}

abbrev pub number : Refusal → ℕ
number IllFormed = 1
number BadContinue = 2
number UsedUp = 3
number NoSuchFile = 4
number SelectionEmpty = 5
number ItemMissing = 6
number NoHeader = 7
number BadEquation = 8
number NoSuchDestination = 10
number FilePartial = 11
number FileComplete = 12
number NoRoom = 13
number BadHeader = 14
number HeaderSum = 15
number BodySum = 16
number ShortOutput = 32
number BadSize = 33
number BadSession = 34
number Unsound = 35

-- the number that stands for an answer: 0 where nothing is refused
abbrev pub number_of : {A : Type 0} → Result A Refusal → ℕ
number_of (Ok a) = 0
number_of (Err refusal) = number refusal

-- the same answer with a refusal's number in the refusal's place
abbrev pub numbered : {A : Type 0} → Result A Refusal → Result A ℕ
numbered (Ok a) = Ok a
numbered (Err refusal) = Err (number refusal)
