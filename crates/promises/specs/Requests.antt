-- What a request of the driver brings with nothing due (demand 2). What one request brings is the machine's `on_request`
-- (crates/model/specs/Downlink.antt). Assumes nothing.
use Rattle.std.specs.Prelude.{◌≡◌, Bool, true, false, List, ℕ, Ok}
use Rattle.session.specs.declared.state.Downlink.{Downlink}
use Rattle.session.specs.declared.state.Downlink.TheVariants as down
use Rattle.session.specs.declared.reply.Answer.TheVariants as answer
use Rattle.server.specs.declared.Server.{Server}
use Rattle.server.specs.State.{Lent, outcome, done_with, link_of}
use Rattle.history.specs.Calls.{request, call_of}
use Rattle.promises.specs.Parts.{check_in}

-- whether a packet is due
unfoldable pub is_due : Downlink → Bool
is_due down.Idle = false
is_due (down.Sending place offset sent) = true
is_due (down.Ended place) = false
is_due (down.Aborting place) = true
is_due (down.Listing listed long done sent) = true

-- "with nothing due it yields nothing and changes nothing": the server, what is lent and the output are as they were
abbrev pub NothingDue : Type 0
NothingDue =
    (sv : Server) (l : Lent) (session : ℕ) (out : List ℕ) (i : ℕ)
    → check_in sv l (request session out) ≡ Ok i
    → is_due (link_of sv i).down ≡ false
    → call_of sv l (request session out) ≡ outcome (done_with sv (answer.Quiet 0)) l out
