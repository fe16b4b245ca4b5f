-- What is answered, case by case.
use mathlib.Core.Path.{◌≡◌, refl, ap, ◌∙◌}
use mathlib.Core.Bool.{Bool, true, false, ◌&&◌, cond}
use mathlib.Core.List.{List, ◌++◌}
use mathlib.Core.Option.{Option, none, some}
use Prim.Native.Nat.{ℕ, ◌*◌, ◌/◌, ◌≤◌, ◌<◌}
use native.Mathlib.Omega.{arith}
use lib.Dec.{leb}
use lib.ListN.{length, drop}
use borrow.Author.Tests.{leb-true, le-leb, lt-leb, eq-eqb, ne_eqb, le-ltb}
use Rattle.equation.specs.Tree.{Tree, parse, truth_on}
use Rattle.equation.specs.Answer.{refusal, validity_of}
use Rattle.std.proofs.Common.{Some, None, Ok}
use Rattle.std.specs.Prelude as std
use Rattle.table.specs.Table.{files, find_of}
use Rattle.why.specs.declared.Explained.{Explained}
use Rattle.why.specs.Sizes.{Store}
use Rattle.why.specs.Answer.{whys, refused_by, sizes_fit, items_at, time_at, older_of, told, deliver, reasons_on, file_why, found_why, tree_why, why_of}

-- ---- sizes in the table

pub record Fit (bytes disk blocks words most : ℕ) : Type 0 where
  pub short : bytes ≤ 2047
  pub some_blocks : 1 ≤ blocks
  pub most_blocks : blocks ≤ 4096
  pub whole : 256 * blocks ≤ disk
  pub some_places : 1 ≤ words / 4
  pub most_places : words / 4 ≤ 256
  pub some_listed : 1 ≤ most
  pub most_listed : most ≤ 50

both_true : (a b : Bool) → a && b ≡ true → (a ≡ true) × (b ≡ true)
both_true true b e = (refl, e)
both_true false b e = absurd (let z : ◌≡◌ {A = ℕ} 0 1 = cc in omega arith)

pub fit_of : (bytes disk blocks words most : ℕ) → sizes_fit bytes disk blocks words most ≡ true → Fit bytes disk blocks words most
unfolding sizes_fit
fit_of bytes disk blocks words most e =
    let e1 = both_true (leb bytes 2047) _ e in
    let e2 = both_true (leb 1 blocks) _ e1.1 in
    let e3 = both_true (leb blocks 4096) _ e2.1 in
    let e4 = both_true (leb (256 * blocks) disk) _ e3.1 in
    let e5 = both_true (leb 1 (words / 4)) _ e4.1 in
    let e6 = both_true (leb (words / 4) 256) _ e5.1 in
    let e7 = both_true (leb 1 most) _ e6.1 in
    record {
      short = leb-true bytes 2047 e1.0;
      some_blocks = leb-true 1 blocks e2.0;
      most_blocks = leb-true blocks 4096 e3.0;
      whole = leb-true (256 * blocks) disk e4.0;
      some_places = leb-true 1 (words / 4) e5.0;
      most_places = leb-true (words / 4) 256 e6.0;
      some_listed = leb-true 1 most e7.0;
      most_listed = leb-true most 50 e7.1;
    }

pub store_of : (disk owner : List ℕ) (bytes words most : ℕ) → Fit bytes (length disk) (length owner) words most → Store disk owner
store_of disk owner bytes words most f = record { some = f.some_blocks; most = f.most_blocks; bytes = f.whole }

-- ---- on a file

module _ (eq : List ℕ) (t : Tree) (disk owner table : List ℕ) (most : ℕ) (named : List ℕ) (place : ℕ) where
  abbrev rs : List ℕ
  rs = reasons_on (items_at disk owner table place) t

  -- the older files count only where the file matched
  told_where : (m : Bool) (older o n : ℕ) → o ≡ cond m older 0 → told m o most n ≡ told m older most n
  unfolding told
  told_where true older o n e = rw e
  told_where false older o n e = refl

  pub file_short : (n : ℕ) → n ≡ length rs → length named < n → whys (refused_by 33) named ≡ file_why eq t disk owner table most named place
  unfolding file_why deliver
  file_short n e h = rw (lt-leb (length rs) (length named) (omega arith))

  pub file_told : (m : Bool) (o n : ℕ) (named' : List ℕ) (a : Explained)
      → m ≡ truth_on (items_at disk owner table place) t
      → o ≡ cond m (older_of eq disk owner table (time_at table place)) 0
      → n ≡ length rs
      → n ≤ length named
      → named' ≡ rs ++ drop n named
      → a ≡ told m o most n
      → whys (Ok a) named' ≡ file_why eq t disk owner table most named place
  unfolding file_why deliver
  file_told m o n named' a em eo en h e ea =
      let w : a ≡ told (truth_on (items_at disk owner table place) t) (older_of eq disk owner table (time_at table place)) most (length rs) =
      ea ∙ told_where m (older_of eq disk owner table (time_at table place)) o n eo
      ∙ ap (λ (b : Bool). told b (older_of eq disk owner table (time_at table place)) most n) em
      ∙ ap (told (truth_on (items_at disk owner table place) t) (older_of eq disk owner table (time_at table place)) most) en in
      let f : named' ≡ rs ++ drop (length rs) named = e ∙ ap (λ (k : ℕ). rs ++ drop k named) en in
      rw (le-leb (length rs) (length named) (omega arith), w, f)

  -- ---- on the file at a place

  pub place_partial : time_at table place ≡ 0 → whys (refused_by 11) named ≡ found_why eq t disk owner table most named (Some place)
  unfolding found_why
  place_partial e = rw (eq-eqb (time_at table place) 0 e)

  pub place_complete : (time_at table place ≡ 0 → ⊥) → file_why eq t disk owner table most named place ≡ found_why eq t disk owner table most named (Some place)
  unfolding found_why
  place_complete h = rw (ne_eqb (time_at table place) 0 h)

-- ---- on the file of a number

module _ (eq : List ℕ) (number : ℕ) (disk owner table : List ℕ) (most : ℕ) (named : List ℕ) where
  pub number_tree : (t : Tree) (found : std.Option ℕ) → parse eq ≡ some t → found ≡ find_of (files table) number
      → found_why eq t disk owner table most named found ≡ tree_why eq (parse eq) number disk owner table most named
  unfolding tree_why
  number_tree t found e f = rw (e, f)

  pub number_none : (t : Tree) → parse eq ≡ some t → None ≡ find_of (files table) number
      → whys (refused_by 4) named ≡ tree_why eq (parse eq) number disk owner table most named
  unfolding found_why
  number_none t e f = number_tree t None e f

  -- ---- the whole

  abbrev fits : Bool
  fits = sizes_fit (length eq) (length disk) (length owner) (length table) most

  pub why_fits : fits ≡ true → tree_why eq (parse eq) number disk owner table most named ≡ why_of eq number disk owner table most named
  unfolding why_of
  why_fits e = rw e

  pub why_sizes : fits ≡ false → whys (refused_by 33) named ≡ why_of eq number disk owner table most named
  unfolding why_of
  why_sizes e = rw e

  pub why_refused : fits ≡ true → (n : ℕ) → n ≡ validity_of eq → (n ≡ 0 → ⊥) → whys (refused_by n) named ≡ why_of eq number disk owner table most named
  unfolding validity_of refusal tree_why
  why_refused e n v z =
      let f = fit_of (length eq) (length disk) (length owner) (length table) most e in
      go (parse eq) refl (rw (le-ltb 2047 (length eq) f.short) at v) ∙ why_fits e
    where
      go : (o : Option Tree) → parse eq ≡ o → n ≡ refusal o → whys (refused_by n) named ≡ tree_why eq (parse eq) number disk owner table most named
      go none p v = rw (p, v)
      go (some t) p v = absurd (z v)
