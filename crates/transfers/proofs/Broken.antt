-- A DL_NAK_CMD breaks a directory off. Assumes nothing.
use mathlib.Core.Path.{◌≡◌, refl, sym, ap, ◌∙◌}
use mathlib.Core.Bool.{Bool, cond}
use mathlib.Core.List.{List, [], ◌++◌}
use mathlib.Core.Option.{some}
use Prim.Native.Nat.{ℕ, ◌+◌, ◌-◌, ◌≤◌, ◌<◌}
use borrow.Author.Tests.{le-ltb, eq-eqb}
use lib.ListN.{length, get_or-eq_default}
use lib.Seq.{get_or-set_same}
use Rattle.packet.specs.Packet.{packet_of}
use Rattle.packet.specs.Frame.{packet}
use Rattle.session.specs.declared.reply.Reply.TheVariants as reply
use Rattle.session.specs.Reply.{tell}
use Rattle.calls.specs.Call.{receive}
use Rattle.model.specs.State.{Downlink, no_download, listing, Session, closed_session, with_down, with_held}
use Rattle.model.specs.State.{Model, session_at, in_session, Turn, turn, Stepped, stepped}
use Rattle.model.specs.Downlink.{on_dl_nak_cmd}
use Rattle.model.specs.Step.{by_type, on_packet, ends_in, step}
use Rattle.transfers.specs.Downloads.{sent_to}
use Rattle.transfers.specs.Directories.{Listing, BrokenOff, DirectoryBreaks}
use Rattle.steps.proofs.Calls.{by_lt, open_refusal}
use Rattle.transfers.proofs.Uplink.{clash, sent_in, sent_info_law}
use Rattle.transfers.proofs.Quiet.{found, step_is, own, found_there}

module _ (m : Model) (session : ℕ) (long : Bool) (ns : List ℕ) (offset : ℕ) (d : Listing m session long ns offset) (clock : ℕ) (input out : List ℕ)
    (came : ends_in ((session_at m (session - 1)).held ++ input) ≡ some (packet 13 [])) (room : 258 ≤ length out) where
  abbrev i : ℕ
  i = session - 1

  abbrev M : Model
  M = found m session clock input out 13 [] came

  abbrev taken : ℕ
  taken = 2 - length (session_at m i).held

  inside : i < length m.sessions
  inside =
      by_lt i (length m.sessions) (λ k. k)
      (λ k. clash (sym (ap (λ (s : Session). s.linked) (get_or-eq_default m.sessions closed_session k)) ∙ d.linked))

  own_is : session_at M i ≡ with_held [] (session_at m i)
  own_is = own m session clock input out 13 [] came inside

  nak_is : (x : Downlink) → (session_at M i).down ≡ x → on_packet M i clock 13 [] ≡ on_dl_nak_cmd x M i
  unfolding by_type
  nak_is x e = ap (λ (y : Downlink). on_dl_nak_cmd y M i) e

  breaks : on_dl_nak_cmd (listing long ns offset) M i ≡ turn reply.DataEnd (in_session i (with_down no_download) M)
  unfolding on_dl_nak_cmd
  breaks = refl

  turn_is : on_packet M i clock 13 [] ≡ turn reply.DataEnd (in_session i (with_down no_download) M)
  turn_is = nak_is (listing long ns offset) (ap (λ (s : Session). s.down) own_is ∙ d.down) ∙ breaks

  call_is : step m (receive session clock input out) ≡ stepped (tell reply.DataEnd taken out) (in_session i (with_down no_download) M)
  call_is =
      step_is m session clock input out 13 [] came
      (open_refusal m session (length out) d.from_one inside d.linked ∙ ap (λ (b : Bool). cond b 32 0) (le-ltb (length out) 258 room))
      ∙ ap (λ (t : Turn). stepped (tell t.reply taken out) t.after) turn_is

  session_is : session_at (step m (receive session clock input out)).after i ≡ with_down no_download (session_at M i)
  session_is =
      ap (λ (s : Stepped). session_at s.after i) call_is
      ∙ get_or-set_same M.sessions i (with_down no_download (session_at M i)) closed_session (found_there m session clock input out 13 [] came inside)

  sent_is : sent_to m session (receive session clock input out) ≡ packet_of 1 []
  unfolding sent_to tell
  sent_is = rw (eq-eqb session session refl) (ap (λ (s : Stepped). sent_in s.told) call_is ∙ sent_info_law 1 [] taken out)

  broken_here : BrokenOff m session (receive session clock input out)
  broken_here =
      record {
        sent = sent_is;
        linked = ap (λ (s : Session). s.linked) session_is ∙ ap (λ (s : Session). s.linked) own_is ∙ d.linked;
        down = ap (λ (s : Session). s.down) session_is;
        selected = ap (λ (s : Session). s.selected) session_is ∙ ap (λ (s : Session). s.selected) own_is;
        next = ap (λ (s : Session). s.next) session_is ∙ ap (λ (s : Session). s.next) own_is;
      }

-- THEOREM: a DL_NAK_CMD breaks a directory off
pub directory_breaks : DirectoryBreaks
directory_breaks m session long ns offset d clock input out came room = broken_here m session long ns offset d clock input out came room
