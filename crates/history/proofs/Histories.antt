-- After any calls from the empty store the state is good, the sizes are those it was made with, and no call is refused by 33 or 35.
use mathlib.Core.Path.{◌≡◌, refl, ◌∙◌}
use mathlib.Core.Bool.{true}
use Rattle.session.specs.declared.reply.Answer.TheVariants as answer
use Rattle.history.specs.Calls.{Call, call_of, Start, legal, made, History, start, ◌▸◌, after}
use Rattle.acts.specs.Change.{Change}
use Rattle.history.specs.Good.{Good}
use Rattle.history.specs.Stored.{files_of}
use Rattle.history.proofs.Made.{made_good}
use Rattle.history.proofs.Leaves.{SameSizes}
use Rattle.history.proofs.Kept.{good_kept, call_change, sizes_kept}
use Rattle.history.proofs.Never as never

module _ (s : Start) (ok : legal s ≡ true) where
  pub good_after : (h : History) → Good (after s h).server (after s h).lent
  unfolding after
  good_after start = made_good s ok
  good_after (h ▸ c) = good_kept (after s h).server (after s h).lent (good_after h) c

  -- "a call changes no file but its own"
  pub change_after : (h : History) (c : Call)
      → Change (after s h).server.last (files_of (after s h).server (after s h).lent) (after s (h ▸ c)).server.last
      (files_of (after s (h ▸ c)).server (after s (h ▸ c)).lent)
  unfolding after
  change_after h c = call_change (after s h).server (after s h).lent (good_after h) c

  -- "35 .. never for a state that calls made from the empty store"
  pub never_35 : (h : History) (c : Call) → (call_of (after s h).server (after s h).lent c).done.answer ≡ answer.Refused 35 → ⊥
  never_35 h c = never.never_35 (after s h).server (after s h).lent (good_after h) c

  -- what is lent stays long enough, and the sizes stay those of the table
  pub never_33 : (h : History) (c : Call) → (call_of (after s h).server (after s h).lent c).done.answer ≡ answer.Refused 33 → ⊥
  never_33 h c = never.never_33 (after s h).server (after s h).lent (good_after h) c

  next_sizes : (h : History) (c : Call) → SameSizes (made s).server (after s h).server → SameSizes (made s).server (after s (h ▸ c)).server
  unfolding after
  next_sizes h c e =
      let k = sizes_kept (after s h).server (after s h).lent (good_after h) c in
      record {
        blocks = k.blocks ∙ e.blocks;
        files = k.files ∙ e.files;
        sessions = k.sessions ∙ e.sessions;
        most = k.most ∙ e.most;
      }

  -- the sizes are those that the server was made with
  pub sizes_after : (h : History) → SameSizes (made s).server (after s h).server
  unfolding after
  sizes_after start = record { blocks = refl; files = refl; sessions = refl; most = refl }
  sizes_after (h ▸ c) = next_sizes h c (sizes_after h)
