-- The acts of the downlink, and closing (document 01, "Downlink", "Equations", "Lost link"). Assumes nothing.
use Rattle.std.specs.Prelude.{Bool, cond, List, ℕ, eqb, ltb, length, take, replicate}
use Rattle.session.specs.declared.state.Session.{Session}
use Rattle.session.specs.declared.state.Downlink.TheVariants as down
use Rattle.session.specs.declared.state.Listed.{Listed}
use Rattle.session.specs.declared.reply.Reply.TheVariants.{Nothing, Closing, DownloadError, Aborted, Completed, Selected}
use Rattle.session.specs.State.{closed_session, with_down, with_next, with_selection}
use Rattle.files.specs.Completion.{destinations_at}
use Rattle.files.specs.Selection.{count_in, refusal_in, Selects, select_of}
use Rattle.carry.specs.declared.turn.Last.{Last}
use Rattle.carry.specs.declared.turn.Turn.{Turn}
use Rattle.carry.specs.Turn.{turn_of, Chooses, chooses}

-- "The unfinished packet and the selection are forgotten."
unfoldable pub close_turn : Last → List ℕ → Chooses
close_turn last selected = chooses (turn_of closed_session last Closing) (replicate (length selected) 0)

-- "SELECT_RESP has their number"; "a refused SELECT keeps the old selection"
unfoldable pub selected_as : Session → Last → Selects → Chooses
selected_as s last r =
    cond (eqb (refusal_in r.answer) 0)
    (chooses (turn_of (with_selection s (count_in r.answer)) last (Selected (count_in r.answer))) r.selected)
    (chooses (turn_of s last (DownloadError (refusal_in r.answer))) r.selected)

unfoldable pub select_turn : Session → Last → ℕ → ℕ → List ℕ → List ℕ → List ℕ → List ℕ → List ℕ → Chooses
select_turn s last most size info disk owner table selected =
    cond (ltb (length info) size) (chooses (turn_of s last Nothing) selected)
    (selected_as s last (select_of (take size info) disk owner table selected most))

-- 10 "lock destination above the file's number of destinations"; "an accepted command moves past it"; "Locks are not held"
unfoldable pub begin_turn : Session → Last → ℕ → ℕ → ℕ → ℕ → List ℕ → List ℕ → List ℕ → Turn
begin_turn s last place offset lock passed disk owner table =
    cond (ltb (destinations_at disk owner table place) lock) (turn_of s last (DownloadError 10))
    (turn_of (with_down (with_next s passed) (down.Sending place offset 0)) last Nothing)

-- a directory: "An accepted directory of number 0 moves the same place in the selection that downloads move, past every file it sends."
unfoldable pub list_turn : Session → Last → Listed → Bool → ℕ → Turn
list_turn s last listed long passed = turn_of (with_down (with_next s passed) (down.Listing listed long 0 0)) last Nothing

-- "DL_ACK_CMD gets DL_COMPLETED_RESP, or DL_ABORTED_RESP if its destination number is not zero and the file has fewer destinations."
unfoldable pub confirm_turn : Session → Last → ℕ → ℕ → List ℕ → List ℕ → List ℕ → Turn
confirm_turn s last place destination disk owner table =
    cond (ltb (destinations_at disk owner table place) destination) (turn_of (with_down s down.Idle) last Aborted)
    (turn_of (with_down s down.Idle) last Completed)
