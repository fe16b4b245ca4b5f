-- `embed::words::write_down` meets its contract. Assumes nothing.
use mathlib.Core.Path.{sym, subst}
use Rattle.embed.specs.Fit.{DownFits}
use Rattle.embed.specs.Words.{down_words}
use Rattle.embed.proofs.Fitting.{idle_down, sending, ended, aborting, listing}
use Rattle.embed.proofs.words.write_down.Goals as goal

pub returns-in-Idle : goal.returns-in-Idle
unfolding down_words
returns-in-Idle c = record { state_after = rw c.in-Idle.is c.write4.ensures; down_fits = subst DownFits (sym c.in-Idle.is) idle_down }

pub returns-in-Sending : goal.returns-in-Sending
unfolding down_words
returns-in-Sending c = record { state_after = rw c.in-Sending.is (rw (c.word.ensures, c.word32.ensures.value, c.word32-in-Sending.ensures.value) at c.write4-in-Sending.ensures); down_fits = subst DownFits (sym c.in-Sending.is) (sending _ _ _ c.word32.ensures.n_bound c.word32-in-Sending.ensures.n_bound) }

pub returns-in-Ended : goal.returns-in-Ended
unfolding down_words
returns-in-Ended c = record { state_after = rw c.in-Ended.is (rw c.word-in-Ended.ensures at c.write4-in-Ended.ensures); down_fits = subst DownFits (sym c.in-Ended.is) (ended _) }

pub returns-in-Aborting : goal.returns-in-Aborting
unfolding down_words
returns-in-Aborting c = record { state_after = rw c.in-Aborting.is (rw c.word-in-Aborting.ensures at c.write4-in-Aborting.ensures); down_fits = subst DownFits (sym c.in-Aborting.is) (aborting _) }

pub returns-in-Listing : goal.returns-in-Listing
unfolding down_words
returns-in-Listing c = record { state_after = rw c.in-Listing.is c.write_listing.ensures; down_fits = subst DownFits (sym c.in-Listing.is) (listing _ _ _ _) }
