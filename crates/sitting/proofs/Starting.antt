-- The program's own start: its memory is large enough, and its turns begin at the server just made. Assumes nothing.
use Rattle.std.proofs.Common.{◌≡◌, ℕ, true, false, List, length, arith, Result, Ok}
use Rattle.refusal.specs.declared.Refusal.{Refusal}
use Rattle.refusal.specs.Refusal.{numbered}
use Rattle.server.specs.declared.Server.{Server}
use Rattle.server.specs.State.{Lent, lent}
use Rattle.server.specs.Check.{sizes_fit, room_fits}
use Rattle.server.specs.Making.{makes, emptied}
use Rattle.history.specs.Calls.{legal, making, made}
use Rattle.marking.specs.declared.Kind.{Kind}
use Rattle.sitting.specs.declared.turn.Sitting.{Sitting}
use Rattle.sitting.specs.Turn.{Memory, memory, State, new_of, over_of}
use Rattle.sitting.specs.Run.{Played}
use Rattle.sitting.specs.Whole.{start_of, Ready, PlayedAll}

-- the sizes of the program's arrays
pub record Sizes (m : Memory) : Type 0 where
  pub disk : length m.lent.disk ≡ 32768
  pub map : length m.lent.map ≡ 2
  pub owner : length m.lent.owner ≡ 128
  pub table : length m.lent.table ≡ 128
  pub selected : length m.lent.selected ≡ 200
  pub held : length m.lent.held ≡ 1032
  pub input : length m.input ≡ 262144
  pub bytes : length m.bytes ≡ 65536
  pub text : length m.text ≡ 262144

legal_sizes : (m : Memory) → Sizes m → legal (start_of m.lent) ≡ true
unfolding sizes_fit room_fits
legal_sizes m s = rw (s.disk, s.map, s.owner, s.table, s.selected, s.held)

pub ready : (m : Memory) → Sizes m → Ready m
ready m s =
    record {
      legal = legal_sizes m s;
      room = record {
        input = omega (arith, s.input);
        input_most = omega (arith, s.input);
        bytes = omega (arith, s.bytes);
        text = omega (arith, s.text);
        text_most = omega (arith, s.text);
      };
    }

pub new_going : (k : Kind) (p : Sitting) (sv : Server) → p ≡ new_of k sv → over_of p.stage ≡ false
unfolding over_of
new_going k p sv e = rw e

pub made_played : (k : Kind) (l : Lent) (input bytes text : List ℕ) (r : Result Server Refusal) (sv : Server) (map owner table selected held : List ℕ) (p : Sitting) (after : State)
    → makes (numbered r) (emptied map owner table selected held) ≡ making (start_of l)
    → r ≡ Ok sv
    → p ≡ new_of k sv
    → Played p (memory (lent l.disk map owner table selected held) input bytes text) after
    → PlayedAll k (memory l input bytes text) after
unfolding made
made_played k l input bytes text r sv map owner table selected held p after e g f h = rw (← e, g, ← f) h
