use native.Mathlib.Omega.{arith}
use lib.ListN.{length-set}
use Rattle.embed.proofs.words.write_head.Goals as goal

pub bounds-state-1 : goal.bounds-state-1
bounds-state-1 c = simp length-set (omega arith)

pub bounds-state-2 : goal.bounds-state-2
bounds-state-2 c = simp length-set (omega arith)

pub bounds-state-3 : goal.bounds-state-3
bounds-state-3 c = simp length-set (omega arith)

pub bounds-state-4 : goal.bounds-state-4
bounds-state-4 c = simp length-set (omega arith)

pub bounds-state-5 : goal.bounds-state-5
bounds-state-5 c = simp length-set (omega arith)

pub returns : goal.returns
returns c = record { state_after = rw (c.word.ensures, c.word-2.ensures, c.word-3.ensures, c.word-4.ensures, c.word32.ensures.value, c.word32-2.ensures.value); last_fits = record { number = c.word32.ensures.n_bound; time = c.word32-2.ensures.n_bound } }
