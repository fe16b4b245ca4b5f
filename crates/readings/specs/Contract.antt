-- What the readers promise: where the machine (crates/grammar) goes, whatever stands open around, and what the output then has. Assumes nothing.
use Rattle.std.specs.Prelude.{◌≡◌, false, cond, List, [], ◌∷◌, ℕ, ◌+◌, ◌*◌, ◌≤◌, ◌<◌, ltb, eqb, length, get_or, Result, Ok, Err}
use Rattle.std.proofs.Math.Option.{Option, none}
use Rattle.std.proofs.lemmas.List.Edits.{sets}
use Rattle.equation.specs.Holds.{Relation}
use Rattle.names.specs.Kinds.{is_blank}
use Rattle.grammar.specs.Formula.{Formula, relation_bytes, postfix, and_after, or_after}
use Rattle.grammar.specs.Meaning.{text_relation}
use Rattle.grammar.specs.Machine.{Phase, constant, string, Level, level, fresh, want, inside, have, refused, from}
use Rattle.grammar.specs.declared.Comparison.{Comparison}
use Rattle.grammar.specs.declared.Reason.TheVariants as reason
use Rattle.tokens.specs.Tokens.{wrong_at}
use Rattle.tokens.specs.declared.Wrong.{Wrong}
use Rattle.tokens.specs.Places.{Goes, StopsIn, behind}
use Rattle.readings.specs.declared.Start.{Start}
use Rattle.readings.specs.declared.Start.TheVariants as start
use Rattle.readings.specs.declared.Joiner.{Joiner}
use Rattle.readings.specs.declared.Joiner.TheVariants as joiner

-- the place behind what was read, and how many bytes the output has then; or the first wrong place and the reason
abbrev pub Reading : Type 0
Reading = Result (ℕ × ℕ) Wrong

-- ---- constants and relations. n bytes stand in `out` before, m after

-- a string's characters
pub record StringIs (text : List ℕ) (at : ℕ) (out : List ℕ) (n e m : ℕ) (now : List ℕ) : Type 0 where
  pub content : List ℕ
  pub short : length content ≤ 255
  pub few : length content + at < e
  pub within : e ≤ length text
  pub count : m ≡ n + length content
  pub bytes : now ≡ sets out n content
  pub runs : (id : ℕ) (c : Comparison) (l : Level) (ls : List Level) → Goes text (inside (string id c []) l ls) at (behind l ls (text_relation id c content)) e

abbrev pub StringRead : List ℕ → ℕ → List ℕ → ℕ → Reading → List ℕ → Type 0
StringRead text at out n (Ok (e, m)) now = StringIs text at out n e m now
StringRead text at out n (Err w) now = (id : ℕ) (c : Comparison) → StopsIn text (string id c []) at w.at w.reason

-- a constant that is read from a phase on; a relation has at most six bytes more than twice the constant's
pub record ConstantIs (text : List ℕ) (a : Phase) (at : ℕ) (out : List ℕ) (n e m : ℕ) (now : List ℕ) : Type 0 where
  pub relation : Relation
  pub few : length (relation_bytes relation) + 2 * at ≤ 2 * e + 6
  pub within : e ≤ length text
  pub count : m ≡ n + length (relation_bytes relation)
  pub bytes : now ≡ sets out n (relation_bytes relation)
  pub runs : (l : Level) (ls : List Level) → Goes text (inside a l ls) at (behind l ls relation) e

abbrev pub ConstantReadFrom : List ℕ → Phase → ℕ → List ℕ → ℕ → Reading → List ℕ → Type 0
ConstantReadFrom text a at out n (Ok (e, m)) now = ConstantIs text a at out n e m now
ConstantReadFrom text a at out n (Err w) now = StopsIn text a at w.at w.reason

abbrev pub ConstantRead : List ℕ → ℕ → ℕ → Comparison → List ℕ → ℕ → Reading → List ℕ → Type 0
ConstantRead text at id c out n r now = ConstantReadFrom text (constant id c) at out n r now

abbrev pub StringConstantRead : List ℕ → ℕ → ℕ → Comparison → List ℕ → ℕ → Reading → List ℕ → Type 0
StringConstantRead text at id c out n r now = ConstantReadFrom text (string id c []) at out n r now

pub record RelationIs (text : List ℕ) (at : ℕ) (out : List ℕ) (n e m : ℕ) (now : List ℕ) : Type 0 where
  pub relation : Relation
  pub few : length (relation_bytes relation) + 2 * at < 2 * e
  pub within : e ≤ length text
  pub count : m ≡ n + length (relation_bytes relation)
  pub bytes : now ≡ sets out n (relation_bytes relation)
  pub runs : (l : Level) (ls : List Level) → Goes text (want l ls) at (behind l ls relation) e

abbrev pub RelationRead : List ℕ → ℕ → List ℕ → ℕ → Reading → List ℕ → Type 0
RelationRead text at out n (Ok (e, m)) now = RelationIs text at out n e m now
RelationRead text at out n (Err w) now = (l : Level) (ls : List Level) → from (want l ls) at text ≡ refused w.at w.reason

-- ---- what a factor begins with, connectives, and the closing bracket

pub record Opens (text : List ℕ) (at left e : ℕ) : Type 0 where
  pub room : 0 < left
  pub forward : at < e
  pub within : e ≤ length text
  pub runs : (l : Level) (ls : List Level) → length ls + left ≡ 16 → Goes text (want l ls) at (want fresh (l ∷ ls)) e

pub record Relates (text : List ℕ) (at q : ℕ) : Type 0 where
  pub forward : at ≤ q
  pub within : q ≤ length text
  pub no_blank : is_blank (get_or text q 0) ≡ false
  pub no_open : get_or text q 0 ≡ 40 → ⊥
  pub runs : (l : Level) (ls : List Level) → Goes text (want l ls) at (want l ls) q

abbrev pub StartRead : List ℕ → ℕ → ℕ → Start → Type 0
StartRead text at left (start.Open e) = Opens text at left e
StartRead text at left (start.Relation q) = Relates text at q
StartRead text at left (start.Deep p) = (l : Level) (ls : List Level) → length ls + left ≡ 16 → from (want l ls) at text ≡ refused p reason.Deeper

unfoldable pub join_at : List ℕ → ℕ → ℕ → Joiner
join_at text at b = cond (eqb (get_or text at 0) b) (cond (eqb (get_or text (at + 1) 0) b) joiner.Whole joiner.Half) joiner.Other

unfoldable pub closed_at : List ℕ → ℕ → ℕ → Reading
closed_at text at m =
    cond (eqb (get_or text at 0) 41) (Ok (at + 1, m)) (cond (ltb at (length text)) (Err (wrong_at at reason.Connective)) (Err (wrong_at at reason.Bracket)))

-- ---- the cycle

pub record FactorIs (text : List ℕ) (at left : ℕ) (out : List ℕ) (n e m : ℕ) (now : List ℕ) : Type 0 where
  pub means : Formula
  pub few : length (postfix means) + 2 * at < 2 * e
  pub within : e ≤ length text
  pub count : m ≡ n + length (postfix means)
  pub bytes : now ≡ sets out n (postfix means)
  pub runs : (l : Level) (ls : List Level) → length ls + left ≡ 16 → Goes text (want l ls) at (have (and_after l.product means) l.sum ls) e

abbrev pub FactorRead : List ℕ → ℕ → ℕ → List ℕ → ℕ → Reading → List ℕ → Type 0
FactorRead text at left out n (Ok (e, m)) now = FactorIs text at left out n e m now
FactorRead text at left out n (Err w) now = (l : Level) (ls : List Level) → length ls + left ≡ 16 → from (want l ls) at text ≡ refused w.at w.reason

pub record ProductIs (text : List ℕ) (at left : ℕ) (out : List ℕ) (n e m : ℕ) (now : List ℕ) : Type 0 where
  pub means : Formula
  pub few : length (postfix means) + 2 * at < 2 * e
  pub within : e ≤ length text
  pub no_blank : is_blank (get_or text e 0) ≡ false
  pub no_and : get_or text e 0 ≡ 38 → ⊥
  pub count : m ≡ n + length (postfix means)
  pub bytes : now ≡ sets out n (postfix means)
  pub runs : (o : Option Formula) (ls : List Level) → length ls + left ≡ 16 → Goes text (want (level o none) ls) at (have means o ls) e

abbrev pub ProductRead : List ℕ → ℕ → ℕ → List ℕ → ℕ → Reading → List ℕ → Type 0
ProductRead text at left out n (Ok (e, m)) now = ProductIs text at left out n e m now
ProductRead text at left out n (Err w) now = (o : Option Formula) (ls : List Level) → length ls + left ≡ 16 → from
    (want (level o none) ls) at text ≡ refused w.at w.reason

pub record SumIs (text : List ℕ) (at left : ℕ) (out : List ℕ) (n e m : ℕ) (now : List ℕ) : Type 0 where
  pub sum : Option Formula
  pub product : Formula
  pub few : length (postfix (or_after sum product)) + 2 * at < 2 * e
  pub within : e ≤ length text
  pub no_blank : is_blank (get_or text e 0) ≡ false
  pub no_and : get_or text e 0 ≡ 38 → ⊥
  pub no_or : get_or text e 0 ≡ 124 → ⊥
  pub count : m ≡ n + length (postfix (or_after sum product))
  pub bytes : now ≡ sets out n (postfix (or_after sum product))
  pub runs : (ls : List Level) → length ls + left ≡ 16 → Goes text (want fresh ls) at (have product sum ls) e

abbrev pub SumRead : List ℕ → ℕ → ℕ → List ℕ → ℕ → Reading → List ℕ → Type 0
SumRead text at left out n (Ok (e, m)) now = SumIs text at left out n e m now
SumRead text at left out n (Err w) now = (ls : List Level) → length ls + left ≡ 16 → from (want fresh ls) at text ≡ refused w.at w.reason
