-- The words that passday does not know are fair (crates/pass, specs/Sheets.antt): their lines have room, and change nothing. Assumes nothing.
use Rattle.std.proofs.Common.{◌≡◌, ℕ, List, sym, refl, arith}
use mathlib.Core.Option.{Option, none, some}
use Rattle.server.specs.State.{Lent}
use Rattle.script.specs.declared.Day.{Day}
use Rattle.script.specs.Line.{Ran, ran}
use Rattle.pass.specs.Sheets.{Fair}
use Rattle.words.proofs.Lines.{reply_most}
use Rattle.classday.specs.Sheet.{only_prints, prints_at, class_words}

-- what a line prints, where the script and the store stay as they are
record Only (day : Day) (l : Lent) (o : Option (List ℕ)) (r : Ran) : Type 0 where
  line : List ℕ
  said : o ≡ some line
  is : r ≡ ran day l line

only : (day : Day) (l : Lent) (o : Option (List ℕ)) (r : Ran) → only_prints day l o ≡ some r → Only day l o r
unfolding only_prints
only day l none r e = absurd (let z : ◌≡◌ {A = ℕ} 0 1 = cc in omega arith)
only day l (some line) r e = record { line = line; said = refl; is = sym (let z : ran day l line ≡ r = cc in z) }

module _ (day : Day) (l : Lent) (line : List ℕ) (r : Ran) (e : class_words day l line ≡ some r) where
  says : Only day l (prints_at day.server l.disk l.owner l.table line) r
  unfolding class_words
  says = only day l (prints_at day.server l.disk l.owner l.table line) r e

pub class_fair : Fair 8192 class_words
class_fair =
    record {
      short = λ day l line r h e.
          let o = says day l line r e in
          rw o.is (reply_most l.disk _ _ day.server.most line o.line (omega (arith, h)) o.said);
      good = λ day l line r g e. rw (says day l line r e).is g;
      rests = λ day l line r g e. rw (says day l line r e).is g;
    }
