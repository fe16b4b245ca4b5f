use mathlib.Core.Path.{◌≡◌}
use Prim.Native.Nat.{◌+◌, ◌*◌, ◌-◌}
use native.Mathlib.Nat.{add-sub_cancel_left}
use Rattle.server.specs.Turns.{hear_of}
use Rattle.server.proofs.turns.hear.Goals as goal

pub shape_of-held : goal.shape_of-held
shape_of-held c = c.held-1.given.1

pub returns : goal.returns
unfolding hear_of
returns c = let e = c in let d : e.args.i * 258 + 258 - e.args.i * 258 ≡ 258 = add-sub_cancel_left (e.args.i * 258) 258 in rw (d, ← rw d at c.receive.ensures)
