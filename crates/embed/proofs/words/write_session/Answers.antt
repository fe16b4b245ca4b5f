use mathlib.Core.Path.{◌∙◌}
use native.Mathlib.Omega.{arith}
use lib.ListN.{length-set}
use Rattle.embed.proofs.Writing.{run_session}
use Rattle.embed.proofs.words.write_session.Goals as goal

pub write_up-requires : goal.write_up-requires
write_up-requires c = (omega (arith, c.requires.0), simp length-set (omega (arith, c.requires.1)))

pub write_down-requires : goal.write_down-requires
write_down-requires c = (omega (arith, c.requires.0), omega (arith, c.requires.1, c.write_up.auto.state, length-set c.args.state.now c.args.at c.flag_word.result))

pub write3-requires : goal.write3-requires
write3-requires c = (omega (arith, c.requires.0), omega (arith, c.requires.1, c.write_down.auto.state, c.write_up.auto.state, length-set c.args.state.now c.args.at c.flag_word.result))

pub shape_of-state : goal.shape_of-state
shape_of-state c = c.write3.auto.state ∙ c.write_down.auto.state ∙ c.write_up.auto.state ∙ length-set c.args.state.now c.args.at c.flag_word.result

pub returns : goal.returns
returns c = record { state_after = rw (← run_session c.args.state.now c.args.at c.args.s, ← c.flag_word.ensures, ← c.write_up.ensures.state_after, ← c.write_down.ensures.state_after) (rw (c.word.ensures, c.word-2.ensures, c.word-3.ensures) at c.write3.ensures); session_fits = record { up = c.write_up.ensures.up_fits; down = c.write_down.ensures.down_fits } }
