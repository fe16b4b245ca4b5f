-- The words of the reasons as the code has them. Assumes nothing.
use Rattle.std.specs.Prelude.{List, ◌++◌, ℕ, ◌-◌, length, replicate}
use Rattle.grammar.specs.declared.Reason.{Reason}
use Rattle.replies.specs.Reply.{word_of}
use Rattle.replies.specs.declared.Word.{Word}

-- a word in ten bytes, the length of the longest
abbrev pub in10 : List ℕ → List ℕ
in10 word = word ++ replicate (10 - length word) 0

unfoldable pub word_for : Reason → Word
word_for why = record { bytes = in10 (word_of why); size = length (word_of why) }
