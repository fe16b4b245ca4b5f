-- `server::calls::on_request` meets its contract. Assumes nothing.
use mathlib.Core.Path.{◌≡◌, ap, sym}
use mathlib.Core.List.{List}
use Prim.Native.Nat.{ℕ, ◌+◌, ◌*◌, ◌-◌, ◌≤◌}
use native.Mathlib.Omega.{arith}
use native.Mathlib.Nat.{add-sub_cancel_left, mul-le-mul}
use lib.ListN.{length, take, drop}
use lib.Seq.{length-take-le}
use Rattle.session.specs.declared.state.Session.{Session}
use Rattle.table.specs.Table.{files}
use Rattle.sending.specs.declared.Asked.{Asked}
use Rattle.sending.specs.Sending.{asked, due_of, due_in}
use Rattle.sending.proofs.SendLaws.{due_fits}
use Rattle.server.specs.declared.Server.{Server}
use Rattle.server.specs.State.{part, done_with, with_link}
use Rattle.refusal.specs.Refusal.{numbered}
use Rattle.server.specs.Calls.{opened, on_request, due_as}
use Rattle.server.proofs.calls.on_request.Goals as goal

-- what is due on the parts. The code counts a part's entries as its end less its start
due-done : (sv : Server) (i : ℕ) (s : Session) (disk owner table selected out : List ℕ) (a : Asked) (out' : List ℕ) → 258 ≤ length out → asked a out' ≡ due_in s disk (take sv.blocks owner) (files (take (4 * sv.files) table)) (take (i * sv.most + sv.most - i * sv.most) (drop (i * sv.most) selected)) out → opened (done_with (with_link sv i a.session) a.answer) out' ≡ due_as sv i (due_of s.down s disk (take sv.blocks owner) (files (take (4 * sv.files) table)) (part (i * sv.most) sv.most selected) out)
unfolding due_as
due-done sv i s disk owner table selected out a out' room due =
    let d : i * sv.most + sv.most - i * sv.most ≡ sv.most = add-sub_cancel_left (i * sv.most) sv.most in
    rw (← due_fits s disk (take sv.blocks owner) (files (take (4 * sv.files) table)) (part (i * sv.most) sv.most selected) out room, ← rw d at due)

pub offset_bounds-server-i : goal.offset_bounds-server-i
offset_bounds-server-i c = omega (arith, (c.requires _ (ap numbered c.in-Ok.is)).session)

pub bounds-server-i : goal.bounds-server-i
bounds-server-i c = omega (arith, (c.requires _ (ap numbered c.in-Ok.is)).session)

pub overflow_mul-x : goal.overflow_mul-x
overflow_mul-x c = omega (arith, (c.requires _ (ap numbered c.in-Ok.is)).files)

pub overflow_mul-a : goal.overflow_mul-a
overflow_mul-a c = omega (arith, mul-le-mul (c.requires _ (ap numbered c.in-Ok.is)).session (c.requires _ (ap numbered c.in-Ok.is)).most)

pub overflow_add-e : goal.overflow_add-e
overflow_add-e c = omega (arith, mul-le-mul (c.requires _ (ap numbered c.in-Ok.is)).session (c.requires _ (ap numbered c.in-Ok.is)).most, (c.requires _ (ap numbered c.in-Ok.is)).most)

pub slice_bounds-due-end : goal.slice_bounds-due-end
slice_bounds-due-end c = sym (length-take-le _ c.args.owner.now (c.requires _ (ap numbered c.in-Ok.is)).owners)

pub slice_bounds-due-end-in-Ok : goal.slice_bounds-due-end-in-Ok
slice_bounds-due-end-in-Ok c = sym (length-take-le _ c.args.table.now (c.requires _ (ap numbered c.in-Ok.is)).records)

pub offset_bounds-selected-a : goal.offset_bounds-selected-a
offset_bounds-selected-a c = omega (arith, mul-le-mul (c.requires _ (ap numbered c.in-Ok.is)).session (c.requires _ (ap numbered c.in-Ok.is)).most)

pub slice_bounds-due-count : goal.slice_bounds-due-count
slice_bounds-due-count c = omega arith

pub slice_bounds-due-start : goal.slice_bounds-due-start
slice_bounds-due-start c = omega arith

pub slice_bounds-due-end-in-Ok-2 : goal.slice_bounds-due-end-in-Ok-2
slice_bounds-due-end-in-Ok-2 c = (c.requires _ (ap numbered c.in-Ok.is)).selections

pub with_link-requires : goal.with_link-requires
with_link-requires c = omega (arith, (c.requires _ (ap numbered c.in-Ok.is)).session)

pub returns-in-Err : goal.returns-in-Err
unfolding on_request
returns-in-Err c = rw (c.in-Err.is, ← c.into.ensures)

pub returns-in-Ok : goal.returns-in-Ok
unfolding on_request
returns-in-Ok c =
    rw (c.in-Ok.is, c.with_link.ensures)
    (due-done _ _ _ _ _ _ _ _ _ _ (c.requires _ (ap numbered c.in-Ok.is)).packet c.due-asked.ensures)
