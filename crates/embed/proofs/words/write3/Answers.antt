use native.Mathlib.Omega.{arith}
use lib.ListN.{length-set}
use Rattle.embed.proofs.Writing.{run_three}
use Rattle.embed.proofs.words.write3.Goals as goal

pub bounds-state-at-2 : goal.bounds-state-at-2
bounds-state-at-2 c = simp length-set (omega arith)

pub bounds-state-at-3 : goal.bounds-state-at-3
bounds-state-at-3 c = simp length-set (omega arith)

pub returns : goal.returns
returns c = run_three c.args.state.now c.args.at c.args.a c.args.b c.args.c
