-- A program's own start: its memory is large enough, and its turns begin at the server just made. Assumes nothing.
use Rattle.std.proofs.Common.{◌≡◌, ℕ, ◌≤◌, true, false, List, length, refl, arith, Result, Ok}
use Rattle.refusal.specs.declared.Refusal.{Refusal}
use Rattle.refusal.specs.Refusal.{numbered}
use Rattle.server.specs.declared.Server.{Server}
use Rattle.server.specs.State.{Lent, lent}
use Rattle.server.specs.Check.{sizes_fit, room_fits}
use Rattle.server.specs.Making.{makes, emptied}
use Rattle.history.specs.Calls.{Start, legal, making, made}
use Rattle.pass.specs.declared.Pass.{Pass}
use Rattle.pass.specs.Sheets.{More}
use Rattle.pass.specs.Pass.{Memory, memory, Passing, new_of, over_of}
use Rattle.pass.specs.Run.{Played, EveryRunOf}
use Rattle.pass.specs.Whole.{start_of, Ready, PlayedAll, OwnRunOf}

-- the sizes of the program's arrays
pub record Sizes (m : Memory) : Type 0 where
  pub disk : length m.lent.disk ≡ 32768
  pub map : length m.lent.map ≡ 2
  pub owner : length m.lent.owner ≡ 128
  pub table : length m.lent.table ≡ 128
  pub selected : length m.lent.selected ≡ 200
  pub held : length m.lent.held ≡ 1032
  pub input : length m.input ≡ 262144
  pub bytes : length m.bytes ≡ 65536
  pub text : length m.text ≡ 65536

legal_sizes : (m : Memory) → Sizes m → legal (start_of m.lent) ≡ true
unfolding sizes_fit room_fits
legal_sizes m s = rw (s.disk, s.map, s.owner, s.table, s.selected, s.held)

pub ready : (room : ℕ) → room ≤ 65536 → (m : Memory) → Sizes m → Ready room m
ready room few m s =
    record {
      legal = legal_sizes m s;
      room = record {
        input = omega (arith, s.input);
        input_most = omega (arith, s.input);
        bytes = omega (arith, s.bytes);
        text = omega (arith, few, s.text);
        text_most = omega (arith, s.text);
      };
    }

pub new_going : (p : Pass) (sv : Server) → p ≡ new_of sv → over_of p.stage ≡ false
unfolding over_of
new_going p sv e = rw e

pub made_played : (room : ℕ) (more : More) (l : Lent) (input bytes text : List ℕ) (r : Result Server Refusal) (sv : Server) (map owner table selected held : List ℕ) (p : Pass) (after : Passing)
    → makes (numbered r) (emptied map owner table selected held) ≡ making (start_of l)
    → r ≡ Ok sv
    → p ≡ new_of sv
    → Played room more p (memory (lent l.disk map owner table selected held) input bytes text) after
    → PlayedAll room more (memory l input bytes text) after
unfolding made
made_played room more l input bytes text r sv map owner table selected held p after e g f h = rw (← e, g, ← f) h

-- ---- what every run prints, the program's own does

pub own_run : (room : ℕ) (more : More) (sheet : Start → List ℕ → List ℕ) → EveryRunOf room more sheet → OwnRunOf room more sheet
own_run room more sheet every m ready after p small =
    every (start_of m.lent) ready.legal (memory (made (start_of m.lent)).lent m.input m.bytes m.text) refl
    (record {
      input = ready.room.input;
      input_most = ready.room.input_most;
      bytes = ready.room.bytes;
      text = ready.room.text;
      text_most = ready.room.text_most;
    }) p.turns p.read p.wrote after p.run small
