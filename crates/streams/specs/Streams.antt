-- What `streams` does to the bytes that a writer holds, where those are known. Assumes nothing.
use Rattle.std.specs.Prelude.{ℕ, Bool, true, false, List, take}
use Rattle.std.specs.declared.option.Option.{Option}
use Rattle.std.specs.Io.KnownBytes.{Appends}

-- all of a text was written, or, where that failed, a part of it
abbrev pub Writes : Option (List ℕ) → Option (List ℕ) → List ℕ → Bool → Type 0
Writes old new text true = Appends old new text
Writes old new text false = (n : ℕ) × Appends old new (take n text)
