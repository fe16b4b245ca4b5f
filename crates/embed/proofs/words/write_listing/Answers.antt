-- `embed::words::write_listing` meets its contract. Assumes nothing.
use Rattle.embed.proofs.words.write_listing.Goals as goal

pub returns-in-One : goal.returns-in-One
returns-in-One c = rw c.in-One.is (rw (c.case_word.ensures, c.word.ensures, c.word-in-One.ensures, c.word-in-One-2.ensures) at c.write4.ensures)

pub returns-in-Selected : goal.returns-in-Selected
returns-in-Selected c = rw c.in-Selected.is (rw (c.case_word-in-Selected.ensures, c.word-in-Selected.ensures, c.word-in-Selected-2.ensures, c.word-in-Selected-3.ensures) at c.write4-in-Selected.ensures)
