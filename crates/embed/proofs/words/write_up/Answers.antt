use Rattle.embed.specs.Words.{up_words}
use Rattle.embed.proofs.Fitting.{idle_up, receiving, ignoring}
use Rattle.embed.specs.Fit.{UpFits}
use mathlib.Core.Path.{sym, subst}
use Rattle.embed.proofs.words.write_up.Goals as goal

pub returns-in-Idle : goal.returns-in-Idle
unfolding up_words
returns-in-Idle c = record { state_after = rw c.in-Idle.is c.write4.ensures; up_fits = subst UpFits (sym c.in-Idle.is) idle_up }

pub returns-in-Receiving : goal.returns-in-Receiving
unfolding up_words
returns-in-Receiving c = record { state_after = rw c.in-Receiving.is (rw (c.word.ensures, c.word32.ensures.value, c.word32-in-Receiving.ensures.value) at c.write4-in-Receiving.ensures); up_fits = subst UpFits (sym c.in-Receiving.is) (receiving _ _ _ c.word32.ensures.n_bound c.word32-in-Receiving.ensures.n_bound) }

pub returns-in-Ignoring : goal.returns-in-Ignoring
unfolding up_words
returns-in-Ignoring c = record { state_after = rw c.in-Ignoring.is c.write4-in-Ignoring.ensures; up_fits = subst UpFits (sym c.in-Ignoring.is) ignoring }
