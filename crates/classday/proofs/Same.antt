-- On a script of passday's words alone `classday` prints what `passday` prints. Assumes nothing.
use Rattle.std.proofs.Common.{◌≡◌, ℕ, zero, suc, ◌+◌, Bool, true, false, cond, not, ◌||◌, eqb, ltb, List, [], ◌∷◌, ◌++◌, length, take, drop, sym, refl, ap, ◌∙◌, add-one, arith, drop_of_length-le, ltb-false, ltb-true, le-ltb, lt-ltb}
use mathlib.Core.Path.{fun_ext}
use mathlib.Core.Option.{Option, none, some}
use Rattle.packet.specs.Names.{bytes_of}
use Rattle.server.specs.State.{Lent}
use Rattle.history.specs.Calls.{made}
use Rattle.lines.specs.declared.commands.Command.{Command}
use Rattle.lines.specs.declared.commands.Command.TheVariants as command
use Rattle.lines.specs.Commands.{fields_of, command_of_fields, command_of, onto}
use Rattle.names.specs.Names.{begins_with}
use Rattle.input.specs.declared.Found.{Found}
use Rattle.input.specs.declared.Found.TheVariants as found
use Rattle.input.specs.Input.{line_length, found_of, find_of, by_first}
use Rattle.script.specs.declared.Day.{Day}
use Rattle.script.specs.declared.doing.Doing.TheVariants as doing
use Rattle.script.specs.Day.{day_of}
use Rattle.script.specs.Line.{Ran}
use Rattle.script.specs.Sheet.{first_line, last_line, error_then_last, run_of}
use Rattle.pass.specs.Narrow.{readable_of}
use Rattle.pass.specs.Sheets.{no_more, by_reader, does_by, goes_on, lines_by, sheet_by}
use Rattle.pass.proofs.SheetLaws.{no_more_law}
use Rattle.words.specs.Why.{reply_by}
use Rattle.classday.specs.Sheet.{only_prints, class_words, class_sheet_of}
use Rattle.classday.specs.Same.{lines_of, has_class_word, passday_line, passday_lines, SameAsPassday}

-- ---- a line

clash : true ≡ false → ⊥
clash e = let z : ◌≡◌ {A = ℕ} 0 1 = cc in omega arith

neither : (day : Day) (l : Lent) (a b : Bool) (x y : Option (List ℕ)) → a || b ≡ false → only_prints day l (cond a x (cond b y none)) ≡ none
unfolding only_prints
neither day l true b x y e = absurd (clash e)
neither day l false true x y e = absurd (clash e)
neither day l false false x y e = refl

no_word : (day : Day) (l : Lent) (line : List ℕ) → has_class_word line ≡ false → class_words day l line ≡ none
unfolding has_class_word class_words reply_by
no_word day l line e = neither day l (begins_with (bytes_of "why\t") line) (begins_with (bytes_of "why-bytes\t") line) _ _ e

readable_same : (c : Command) (a b own : Option Ran) → readable_of c ≡ true → by_reader c a own ≡ by_reader c b own
unfolding readable_of by_reader
readable_same command.Unreadable a b own e = absurd (clash (sym e))
readable_same (command.Time clock) a b own e = refl
readable_same (command.Open session) a b own e = refl
readable_same (command.Drop session) a b own e = refl
readable_same (command.Rx session n) a b own e = refl

-- a line that passday can read, or that has none of the other words, does the same
line_same : (day : Day) (l : Lent) (line : List ℕ) → passday_line line ≡ true → does_by class_words day l line ≡ does_by no_more day l line
unfolding passday_line
line_same day l line e = by (readable_of (command_of line)) refl (has_class_word line) refl e
  where
    by : (r : Bool) → readable_of (command_of line) ≡ r → (w : Bool) → has_class_word line ≡ w → r || not w ≡ true
        → does_by class_words day l line ≡ does_by no_more day l line
    by true f w g e = readable_same (command_of line) (class_words day l line) none (some (run_of day l line)) f
    by false f true g e = absurd (clash (sym e))
    by false f false g e = ap (λ (o : Option Ran). by_reader (command_of line) o (some (run_of day l line))) (no_word day l line g)

-- ---- the lines of a script

-- the first line, and those behind its newline
abbrev rest : Bool → List ℕ → List (List ℕ)
rest true bs = lines_of bs
rest false bs = []

onto_first : (b : ℕ) (x : List ℕ) (xs : List (List ℕ)) → onto b (x ∷ xs) ≡ (b ∷ x) ∷ xs
unfolding onto
onto_first b x xs = refl

none_plain : passday_lines (lines_of []) ≡ true
unfolding lines_of passday_lines passday_line has_class_word begins_with bytes_of readable_of command_of command_of_fields fields_of
none_plain = refl

other : {n : ℕ} → found.TooLong ≡ found.Line n → ⊥
other e = let z : ◌≡◌ {A = ℕ} 0 1 = cc in omega arith

nothing : {n : ℕ} → found.Nothing ≡ found.Line n → ⊥
nothing e = let z : ◌≡◌ {A = ℕ} 0 1 = cc in omega arith

same : {m n : ℕ} → found.Line m ≡ found.Line n → m ≡ n
same e = cc

by_part : (last error : List ℕ) (f g : ℕ → List ℕ) → by_first found.Part last error f ≡ by_first found.Part last error g
unfolding by_first
by_part last error f g = refl

by_long : (last error : List ℕ) (f g : ℕ → List ℕ) → by_first found.TooLong last error f ≡ by_first found.TooLong last error g
unfolding by_first
by_long last error f g = refl

by_nothing : (last error : List ℕ) (f g : ℕ → List ℕ) → by_first found.Nothing last error f ≡ by_first found.Nothing last error g
unfolding by_first
by_nothing last error f g = refl

by_line : (n : ℕ) (last error : List ℕ) (f g : ℕ → List ℕ) → f n ≡ g n → by_first (found.Line n) last error f ≡ by_first (found.Line n) last error g
unfolding by_first
by_line n last error f g e = e

less_suc : (a b : ℕ) → ltb (suc a) (suc b) ≡ ltb a b
less_suc a b = by (ltb a b) refl
  where
    by : (t : Bool) → ltb a b ≡ t → ltb (suc a) (suc b) ≡ t
    by true e = lt-ltb (suc a) (suc b) (omega (arith, ltb-true a b e))
    by false e = le-ltb (suc a) (suc b) (omega (arith, ltb-false a b e))

first_line_law : (script : List ℕ)
    → lines_of script ≡ take (line_length script) script ∷ rest (ltb (line_length script) (length script)) (drop (suc (line_length script)) script)
unfolding lines_of line_length
first_line_law [] = refl
first_line_law (b ∷ bs) = by (eqb b 10) (first_line_law bs)
  where
    by : (t : Bool)
        → lines_of bs ≡ take (line_length bs) bs ∷ rest (ltb (line_length bs) (length bs)) (drop (suc (line_length bs)) bs)
        → cond t ([] ∷ lines_of bs) (onto b (lines_of bs))
        ≡ take (cond t 0 (suc (line_length bs))) (b ∷ bs)
        ∷ rest (ltb (cond t 0 (suc (line_length bs))) (suc (length bs))) (drop (suc (cond t 0 (suc (line_length bs)))) (b ∷ bs))
    by true e = rw (lt-ltb 0 (suc (length bs)) (omega arith))
    by false e = ap (onto b) e ∙ onto_first b _ _ ∙ rw (less_suc (line_length bs) (length bs))

module _ (script : List ℕ) (all : passday_lines (lines_of script) ≡ true) where
  parts : passday_lines (take (line_length script) script ∷ rest (ltb (line_length script) (length script)) (drop (suc (line_length script)) script)) ≡ true
  parts = rw (first_line_law script) at all

  first_plain : passday_line (take (line_length script) script) ≡ true
  unfolding passday_lines
  first_plain = by (passday_line (take (line_length script) script)) (passday_lines (rest (ltb (line_length script) (length script)) (drop (suc (line_length script)) script))) parts
    where
      by : (a b : Bool) → cond a b false ≡ true → a ≡ true
      by true b e = refl
      by false b e = absurd (clash (sym e))

  others : passday_lines (rest (ltb (line_length script) (length script)) (drop (suc (line_length script)) script)) ≡ true
  unfolding passday_lines
  others = by (passday_line (take (line_length script) script)) (passday_lines (rest (ltb (line_length script) (length script)) (drop (suc (line_length script)) script))) parts
    where
      by : (a b : Bool) → cond a b false ≡ true → b ≡ true
      by true b e = e
      by false b e = absurd (clash (sym e))

  -- the lines behind the first are plain too; where it has no newline, nothing stands behind it
  behind_plain : passday_lines (lines_of (drop (suc (line_length script)) script)) ≡ true
  behind_plain = by (ltb (line_length script) (length script)) refl others
    where
      by : (t : Bool) → ltb (line_length script) (length script) ≡ t → passday_lines (rest t (drop (suc (line_length script)) script)) ≡ true
          → passday_lines (lines_of (drop (suc (line_length script)) script)) ≡ true
      by true f e = e
      by false f e =
          rw (drop_of_length-le script {i = suc (line_length script)} (omega (arith, ltb-false (line_length script) (length script) f))) none_plain

found_first : (script : List ℕ) (n : ℕ) → find_of script true ≡ found.Line n → line_length script ≡ n
unfolding find_of found_of
found_first script n e = by (ltb 131072 (line_length script)) (ltb (line_length script) (length script)) (eqb (line_length script) 0) e
  where
    by : (a b c : Bool)
        → cond a found.TooLong (cond b (found.Line (line_length script)) (cond c found.Nothing (found.Line (line_length script)))) ≡ found.Line n
        → line_length script ≡ n
    by true b c e = absurd (other e)
    by false true c e = same e
    by false false true e = absurd (nothing e)
    by false false false e = same e

-- ---- the sheets

lines_same : (k : ℕ) (day : Day) (l : Lent) (number : ℕ) (script : List ℕ) → passday_lines (lines_of script) ≡ true
    → lines_by class_words k day l number script ≡ lines_by no_more k day l number script
unfolding lines_by
lines_same zero day l number script all = refl
lines_same (suc k) day l number script all =
    by (find_of script true) refl
    (λ n r p. lines_same k r.day r.lent (number + 1) (drop (n + 1) script) p)
  where
    by : (f : Found) → find_of script true ≡ f
        → ((n : ℕ) (r : Ran) → passday_lines (lines_of (drop (n + 1) script)) ≡ true
        → lines_by class_words k r.day r.lent (number + 1) (drop (n + 1) script)
        ≡ lines_by no_more k r.day r.lent (number + 1) (drop (n + 1) script))
        → by_first f (last_line l) (error_then_last number l)
        (λ n. goes_on (does_by class_words day l (take n script)) (error_then_last number l)
        (λ r. lines_by class_words k r.day r.lent (number + 1) (drop (n + 1) script)))
        ≡ by_first f (last_line l) (error_then_last number l)
        (λ n. goes_on (does_by no_more day l (take n script)) (error_then_last number l)
        (λ r. lines_by no_more k r.day r.lent (number + 1) (drop (n + 1) script)))
    by found.Part e ih = by_part (last_line l) (error_then_last number l) _ _
    by found.TooLong e ih = by_long (last_line l) (error_then_last number l) _ _
    by found.Nothing e ih = by_nothing (last_line l) (error_then_last number l) _ _
    by (found.Line n) e ih =
        by_line n (last_line l) (error_then_last number l) _ _
        (ap (λ (o : Option Ran). goes_on o (error_then_last number l)
        (λ r. lines_by class_words k r.day r.lent (number + 1) (drop (n + 1) script)))
        (line_same day l (take n script) (rw (found_first script n e) at (first_plain script all)))
        ∙ ap (λ (go : Ran → List ℕ). goes_on (does_by no_more day l (take n script)) (error_then_last number l) go)
        (fun_ext λ r. ih n r (rw (add-one n) (rw (found_first script n e) at (behind_plain script all)))))

-- THEOREM
pub same_as_passday : SameAsPassday
unfolding class_sheet_of sheet_by
same_as_passday s script all =
    ap (λ (x : List ℕ). first_line ++ x) (lines_same (length script) (day_of (made s).server 0 doing.Rest) (made s).lent 1 script all) ∙ no_more_law s script
