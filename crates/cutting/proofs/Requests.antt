-- With nothing due a request changes nothing. Assumes nothing.
use mathlib.Core.Path.{◌≡◌, refl}
use mathlib.Core.Bool.{false}
use mathlib.Core.List.{List}
use Prim.Native.Nat.{ℕ, ◌*◌}
use native.Mathlib.Omega.{arith}
use lib.Seq.{set-get_or}
use Rattle.session.specs.declared.state.Session.{Session}
use Rattle.session.specs.declared.state.Downlink.{Downlink}
use Rattle.session.specs.declared.state.Downlink.TheVariants as down
use Rattle.session.specs.declared.reply.Answer.TheVariants as answer
use Rattle.session.specs.State.{closed_session}
use Rattle.table.specs.declared.File as table
use Rattle.server.specs.State.{link_of, part, owner_part, table_part}
use Rattle.sending.specs.Sending.{due_of}
use Rattle.sending.specs.Sending as sending
use Rattle.server.specs.Calls as server
use Rattle.server.specs.Calls.{due_as, request_of, request_by}
use Rattle.table.specs.Table.{files}
use Rattle.promises.specs.Requests.{is_due, NothingDue}

not_due : (d : Downlink) (s : Session) (disk owner : List ℕ) (fs : List table.File) (selected out : List ℕ) → is_due d ≡ false
    → due_of d s disk owner fs selected out ≡ sending.asked (sending.asked_of s (answer.Quiet 0)) out
unfolding is_due due_of
not_due down.Idle s disk owner fs selected out e = refl
not_due (down.Sending place offset sent) s disk owner fs selected out e = let z : ◌≡◌ {A = ℕ} 0 1 = cc in absurd (omega arith)
not_due (down.Ended place) s disk owner fs selected out e = refl
not_due (down.Aborting place) s disk owner fs selected out e = let z : ◌≡◌ {A = ℕ} 0 1 = cc in absurd (omega arith)
not_due (down.Listing t long done sent) s disk owner fs selected out e = let z : ◌≡◌ {A = ℕ} 0 1 = cc in absurd (omega arith)

-- THEOREM: with nothing due a request changes nothing
pub nothing_due : NothingDue
unfolding request_of request_by server.on_request due_as
nothing_due sv l session out i e q =
    rw (e, not_due (link_of sv i).down (link_of sv i) l.disk (owner_part sv l) (files (table_part sv l)) (part (i * sv.most) sv.most l.selected) out q, set-get_or sv.links i closed_session)
