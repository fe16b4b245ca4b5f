-- What the parts of a turn come to, over the slices that each of them is lent. Assumes nothing.
use Rattle.std.specs.Prelude.{◌≡◌, ℕ, ◌+◌, ◌≤◌, Bool, true, false, List, length}
use Rattle.server.specs.State.{Lent}
use Rattle.lines.specs.declared.commands.Command.{Command}
use Rattle.lines.specs.declared.commands.Command.TheVariants as command
use Rattle.sitting.specs.declared.turn.Sitting.{Sitting}
use Rattle.sitting.specs.Turn.{memory, state, flushed_of, kept_of, filled_to}

-- a line that can be read
unfoldable pub readable_of : Command → Bool
readable_of command.Unreadable = false
readable_of (command.Time clock) = true
readable_of (command.Open session) = true
readable_of (command.Drop session) = true
readable_of (command.Rx session n) = true

-- whether all was written is not known beforehand
pub record Flushed (p r : Sitting) : Type 0 where
  pub written : Bool
  pub is : r ≡ flushed_of written p

-- nor is what a read brings: `brought` is what stands behind the part that is kept, and n bytes of it are new
pub record Filled (p : Sitting) (input : List ℕ) (r : Sitting) (after : List ℕ) : Type 0 where
  pub n : ℕ
  pub brought : List ℕ
  pub size : kept_of p input + length brought ≡ length input
  pub most : n ≤ length brought
  pub is : (l : Lent) (bytes text : List ℕ) → state r (memory l after bytes text) ≡ filled_to p (memory l input bytes text) n brought
