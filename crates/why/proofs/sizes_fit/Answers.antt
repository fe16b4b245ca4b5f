-- `why::sizes_fit` meets its contract. Each answer follows from the tests that led to it.
use borrow.Author.Tests.{lt-leb, le-leb}
use Rattle.why.specs.Answer.{sizes_fit}
use Rattle.why.proofs.sizes_fit.Goals as goal

pub returns-then-bytes-gt2047 : goal.returns-then-bytes-gt2047
unfolding sizes_fit
returns-then-bytes-gt2047 c = simp (lt-leb _ _ c.if-bytes-gt2047.true)

pub returns-then-blocks-lt1 : goal.returns-then-blocks-lt1
unfolding sizes_fit
returns-then-blocks-lt1 c = simp (le-leb _ _ c.if-bytes-gt2047.false, lt-leb _ _ c.if-blocks-lt1.true)

pub returns-then-blocks-gt4096 : goal.returns-then-blocks-gt4096
unfolding sizes_fit
returns-then-blocks-gt4096 c = simp (le-leb _ _ c.if-bytes-gt2047.false, le-leb _ _ c.if-blocks-lt1.false, lt-leb _ _ c.if-blocks-gt4096.true)

pub returns-then-disk-blocks : goal.returns-then-disk-blocks
unfolding sizes_fit
returns-then-disk-blocks c = simp (
  le-leb _ _ c.if-bytes-gt2047.false,
  le-leb _ _ c.if-blocks-lt1.false,
  le-leb _ _ c.if-blocks-gt4096.false,
  lt-leb _ _ c.if-disk-blocks.true,
)

pub returns-then-words-lt1 : goal.returns-then-words-lt1
unfolding sizes_fit
returns-then-words-lt1 c = simp (
  le-leb _ _ c.if-bytes-gt2047.false,
  le-leb _ _ c.if-blocks-lt1.false,
  le-leb _ _
      c.if-blocks-gt4096.false,
  le-leb _ _ c.if-disk-blocks.false,
  lt-leb _ _ c.if-words-lt1.true,
)

pub returns-then-words-gt256 : goal.returns-then-words-gt256
unfolding sizes_fit
returns-then-words-gt256 c = simp (
  le-leb _ _ c.if-bytes-gt2047.false,
  le-leb _ _ c.if-blocks-lt1.false,
  le-leb _ _
      c.if-blocks-gt4096.false,
  le-leb _ _ c.if-disk-blocks.false,
  le-leb _ _ c.if-words-lt1.false,
  lt-leb _ _ c.if-words-gt256.true,
)

pub returns-then-most-lt1 : goal.returns-then-most-lt1
unfolding sizes_fit
returns-then-most-lt1 c = simp (
  le-leb _ _ c.if-bytes-gt2047.false,
  le-leb _ _
      c.if-blocks-lt1.false,
  le-leb _ _ c.if-blocks-gt4096.false,
  le-leb _ _
      c.if-disk-blocks.false,
  le-leb _ _ c.if-words-lt1.false,
  le-leb _ _ c.if-words-gt256.false,
  lt-leb _ _ c.if-most-lt1.true,
)

pub returns : goal.returns
unfolding sizes_fit
returns c = simp (
  le-leb _ _ c.if-bytes-gt2047.false,
  le-leb _ _
      c.if-blocks-lt1.false,
  le-leb _ _ c.if-blocks-gt4096.false,
  le-leb _ _
      c.if-disk-blocks.false,
  le-leb _ _ c.if-words-lt1.false,
  le-leb _ _ c.if-words-gt256.false,
  le-leb _ _ c.if-most-lt1.false,
)
