-- Laws on the parts of a turn: a step, the last lines, a line that is begun, and input that is read. Assumes nothing.
use Rattle.std.proofs.Common.{◌≡◌, ℕ, ◌+◌, ◌-◌, ◌^◌, ◌<◌, ◌≤◌, true, false, eqb, List, ◌++◌, length, take, drop, sym, refl, ap, ◌∙◌, arith}
use mathlib.Core.Option.{Option, none, some}
use Rattle.blocks.specs.FreeMap.{free_count}
use Rattle.blocks.specs.Owners.{held_count}
use Rattle.server.specs.State.{Lent}
use Rattle.lines.specs.declared.commands.Command.{Command}
use Rattle.lines.specs.declared.commands.Command.TheVariants as command
use Rattle.lines.specs.Commands.{Reads, reads, read_of}
use Rattle.lines.specs.Lines.{printed, printed_in, error_line, blocks_line}
use Rattle.script.specs.declared.Day.{Day}
use Rattle.script.specs.declared.Stepped.{Stepped}
use Rattle.input.specs.Parts.{bytes_from, least_of, wrapped}
use Rattle.input.specs.Input.{shifted, shift_of}
use Rattle.script.specs.Day.{stepping, step_behind}
use Rattle.script.specs.Line.{Ran, ran}
use Rattle.script.specs.Sheet.{Counted}
use Rattle.input.proofs.Places.{end_part, put_end, wrapped_same, input_brought}
use Rattle.pass.specs.declared.Pass.{Pass}
use Rattle.pass.specs.declared.Stage.{Stage}
use Rattle.pass.specs.declared.Stage.TheVariants as stage
use Rattle.pass.specs.Sheets.{More}
use Rattle.pass.specs.Pass.{Memory, memory, passing, pass_of, stepped_of, Put, put, put_of, put_in, last_put, error_then_last_put}
use Rattle.pass.specs.Pass.{passed_over, beyond, said_of, begun_as, begun_of}
use Rattle.pass.specs.Narrow.{readable_of, Filled}

-- ---- a step

pub step_joins : (p r : Pass) (l left : Lent) (input bytes text after : List ℕ) (s : Stepped)
    → stepping s left after ≡ step_behind p.filled p.day l bytes text
    → r ≡ pass_of s.day p.from p.end p.ended p.lines (wrapped (least_of p.filled (length text) + s.written)) p.stage
    → passing r (memory left input bytes after) ≡ stepped_of p (memory l input bytes text)
unfolding stepped_of
step_joins p r l left input bytes text after s e f = rw (← e, f)

pub stepped_as : (p r : Pass) (s : Stepped) (size at : ℕ) → at ≡ least_of p.filled size
    → r ≡ pass_of s.day p.from p.end p.ended p.lines (wrapped (at + s.written)) p.stage
    → r ≡ pass_of s.day p.from p.end p.ended p.lines (wrapped (least_of p.filled size + s.written)) p.stage
stepped_as p r s size at e f =
    f ∙ ap (λ (k : ℕ). pass_of s.day p.from p.end p.ended p.lines (wrapped (k + s.written)) p.stage) e

-- ---- the last lines

module _ (p : Pass) (text part : List ℕ) (at n : ℕ) (e : at ≡ least_of p.filled (length text)) where
  abbrev left : List ℕ
  left = take at text ++ (part ++ drop (length text - at) (drop at text))

  -- a line is put behind what waits
  line_put : (s : Stage) (line : List ℕ) (r : Pass) → printed n part ≡ printed_in line (take (length text - at) (drop at text))
      → r ≡ pass_of p.day p.from p.end p.ended p.lines (wrapped (at + n)) s → put r left ≡ put_of s line p text
  unfolding put_of
  line_put s line r f g = rw (put_end at text part, g, ← e, ← f ∙ ap (λ (t : List ℕ). printed_in line t) (end_part at text))

  pub last_put_law : (map owner : List ℕ) (r : Pass)
      → printed n part ≡ printed_in (blocks_line (free_count (take 64 map)) (held_count owner)) (take (length text - at) (drop at text))
      → r ≡ pass_of p.day p.from p.end p.ended p.lines (wrapped (at + n)) stage.Last → put r left ≡ last_put p map owner text
  unfolding last_put
  last_put_law map owner r f g = line_put stage.Last (blocks_line (free_count (take 64 map)) (held_count owner)) r f g

  pub error_put_law : (map owner : List ℕ) (r q : Pass) (k : ℕ) (after : List ℕ) → k ≡ wrapped (p.lines + 1)
      → printed n part ≡ printed_in (error_line k) (take (length text - at) (drop at text))
      → q ≡ pass_of p.day p.from p.end p.ended p.lines (wrapped (at + n)) p.stage
      → put r after ≡ last_put q map owner left
      → put r after ≡ error_then_last_put p map owner text
  unfolding error_then_last_put
  error_put_law map owner r q k after h f g last =
      last
      ∙ ap (λ (w : Put). last_put w.pass map owner w.text)
      (line_put p.stage (error_line k) q f g ∙ ap (λ (j : ℕ). put_of p.stage (error_line j) p text) h)

-- ---- a line that is begun

readable : (does : Option Ran) (p : Pass) (to : ℕ) (c : Command) (m : Memory) → readable_of c ≡ true
    → begun_as does p to c m ≡ passing (beyond p to c) m
unfolding readable_of begun_as
readable does p to command.Unreadable m e = let z : false ≡ true = e in cc
readable does p to (command.Time clock) m e = refl
readable does p to (command.Open session) m e = refl
readable does p to (command.Drop session) m e = refl
readable does p to (command.Rx session n) m e = refl

unreadable : (does : Option Ran) (p : Pass) (to : ℕ) (c : Command) (m : Memory) → readable_of c ≡ false → begun_as does p to c m ≡ said_of does p to m
unfolding readable_of begun_as
unreadable does p to command.Unreadable m e = refl
unreadable does p to (command.Time clock) m e = let z : true ≡ false = e in cc
unreadable does p to (command.Open session) m e = let z : true ≡ false = e in cc
unreadable does p to (command.Drop session) m e = let z : true ≡ false = e in cc
unreadable does p to (command.Rx session n) m e = let z : true ≡ false = e in cc

none_unreadable : (c : Command) (map owner : List ℕ) → readable_of c ≡ true → c ≡ command.Unreadable → Counted map owner
unfolding readable_of
none_unreadable c map owner e f = let z : false ≡ true = sym (ap readable_of f) ∙ e in absurd (let y : ◌≡◌ {A = ℕ} 0 1 = cc in omega arith)

module _ (p r : Pass) (n : ℕ) (input bytes left : List ℕ) (to : ℕ) (c : Command) (at : to ≡ wrapped (p.from + n))
    (read : reads c left ≡ read_of (bytes_from p.from to input) bytes) where
  module _ (more : More) (l : Lent) (text : List ℕ) where
    -- what the line does where passday can't read it
    abbrev does : Option Ran
    does = more p.day l (bytes_from p.from to input)

    begun_as_law : (m : Memory) → passing r m ≡ begun_as does p to c (memory l input left text) → passing r m ≡ begun_of more p n (memory l input bytes text)
    unfolding begun_of
    begun_as_law m e = rw (← at, ← read) e

    pub line_begun_law : readable_of c ≡ true → r ≡ beyond p to c → passing r (memory l input left text) ≡ begun_of more p n (memory l input bytes text)
    line_begun_law e f = begun_as_law (memory l input left text) (rw (readable does p to c (memory l input left text) e, f))

    pub line_unread : readable_of c ≡ false → (m : Memory) → passing r m ≡ said_of does p to (memory l input left text)
        → passing r m ≡ begun_of more p n (memory l input bytes text)
    line_unread e m f = begun_as_law m (rw (unreadable does p to c (memory l input left text) e) f)

  pub begun_counted : readable_of c ≡ true → (map owner : List ℕ)
      → (read_of (bytes_from p.from (wrapped (p.from + n)) input) bytes).command ≡ command.Unreadable → Counted map owner
  begun_counted e map owner f =
      none_unreadable c map owner e
      (ap (λ (x : Reads). x.command) read ∙ ap (λ (k : ℕ). (read_of (bytes_from p.from k input) bytes).command) at ∙ f)

-- ---- a line that passday can't read, by what it does

module _ (p r : Pass) (to : ℕ) (l : Lent) (input bytes text : List ℕ) (does : Option Ran) where
  pub none_said : does ≡ none → (after : List ℕ) → put r after ≡ error_then_last_put p l.map l.owner text
      → passing r (memory l input bytes after) ≡ said_of does p to (memory l input bytes text)
  unfolding said_of
  none_said f after g = rw f (ap (λ (w : Put). put_in (memory l input bytes text) w) g)

  pub some_said : (day : Day) (later : Lent) (line after : List ℕ) (size : ℕ) → does ≡ some (ran day later line)
      → printed size after ≡ printed_in line (drop (least_of p.filled (length text)) text)
      → r ≡ passed_over day p to (wrapped (least_of p.filled (length text) + size))
      → passing r (memory later input bytes (take (least_of p.filled (length text)) text ++ after)) ≡ said_of does p to (memory l input bytes text)
  unfolding said_of
  some_said day later line after size f g h = rw (f, ← g, h)

-- ---- input that is read

pub input_refilled : (p r : Pass) (input moved brought whole : List ℕ) (size kept n : ℕ) → length input < 2 ^ 63
    → r ≡ pass_of p.day 0 (wrapped (kept + n)) (eqb n 0) p.lines p.filled p.stage
    → shifted size moved ≡ shift_of p.from p.end input
    → length moved ≡ length input
    → (kept ≤ length moved) × (kept ≡ least_of size (length moved))
    → length brought ≡ length (take (length moved - kept) (drop kept moved))
    → whole ≡ take kept moved ++ (brought ++ drop (length moved - kept) (drop kept moved))
    → n ≤ length (take (length whole - kept) (drop kept whole))
    → Filled p input r whole
input_refilled p r input moved brought whole size kept n small is e f g h i j =
    let b = input_brought p.from p.end input moved brought whole size kept n e f g h i j in
    let w : wrapped (kept + n) ≡ kept + n = wrapped_same (kept + n) (omega (arith, small, f, g.0, b.size, b.most)) in
    record { n = n; brought = brought; size = b.size; most = b.most; is = λ l bytes text. rw (is, w, b.is, b.front) }
