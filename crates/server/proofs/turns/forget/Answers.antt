use native.Mathlib.Omega.{arith}
use mathlib.Core.Path.{◌≡◌}
use Prim.Native.Nat.{◌+◌, ◌*◌, ◌-◌}
use native.Mathlib.Nat.{add-sub_cancel_left}
use lib.ListN.{length, take, drop, length-drop}
use lib.Seq.{length-take-le}
use Rattle.server.proofs.turns.forget.Goals as goal

pub shape_of-selected : goal.shape_of-selected
shape_of-selected c = c.selected-1.given.1

pub shape_of-held : goal.shape_of-held
shape_of-held c = c.held-1.given.1

pub returns : goal.returns
returns c = let e = c in let s = e.args.selected.now in let h = e.args.held.now in let a = e.args.i * e.args.most in let b = e.args.i * 258 in let d : a + e.args.most - a ≡ e.args.most = add-sub_cancel_left a e.args.most in let f : b + 258 - b ≡ 258 = add-sub_cancel_left b 258 in let n : length (take e.args.most (drop a s)) ≡ e.args.most = length-take-le e.args.most (drop a s) (rw (length-drop a s) (omega (arith, e.requires.2))) in let m : length (take 258 (drop b h)) ≡ 258 = length-take-le 258 (drop b h) (rw (length-drop b h) (omega (arith, e.requires.3))) in record { selected_after = rw (d, rw (d, n) at c.forget.ensures); held_after = rw (f, rw (f, m) at c.forget-2.ensures) }
