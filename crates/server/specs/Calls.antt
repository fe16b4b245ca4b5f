-- The calls of the driver (document 01). Each is one definition of all that it is handed: the answer, the server, the slices and the output
-- afterwards. `sound` says whether the state is none that 35 refuses: `receive_of` and the others test the state that they are handed; a driver that keeps
-- the state from call to call and shows it to nobody may say true, since "35 .. never for a state that calls made from the empty store". Assumes nothing.
use Rattle.std.specs.Prelude.{◌≡◌, Bool, true, false, List, ℕ, ◌+◌, ◌*◌, ◌≤◌, length, replicate, Result, Ok, Err}
use Rattle.session.specs.declared.reply.Answer.TheVariants as answer
use Rattle.session.specs.declared.reply.Reply.TheVariants.{Login}
use Rattle.session.specs.State.{closed_session, fresh_session, with_held}
use Rattle.session.specs.Reply.{answered}
use Rattle.carry.specs.Turn.{mem, Turned}
use Rattle.server.specs.declared.Server.{Server}
use Rattle.server.specs.declared.Done.{Done}
use Rattle.server.specs.State.{Lent, lent, Outcome, outcome, done_with, link_of, with_link, with_turn, part, with_part, owner_part, table_part}
use Rattle.server.specs.Check.{sound_in, check_for}
use Rattle.table.specs.Table.{files}
use Rattle.sending.specs.Sending.{Due, due_of}
use Rattle.server.specs.Turns.{HeardIn, hear_of, act_of, ActPre}

-- ---- receive

-- the reply goes out
unfoldable pub answered_by : Server → ℕ → ℕ → List ℕ → List ℕ → Turned → Outcome
answered_by sv i taken held out t =
    outcome (done_with (with_turn sv i t.turn) (answered t.turn.reply taken out).answer)
    (lent t.mem.disk t.mem.map t.mem.owner t.mem.table t.mem.selected held) (answered t.turn.reply taken out).out

-- what was heard is acted on
unfoldable pub heard_by : Server → ℕ → ℕ → Lent → List ℕ → HeardIn → Outcome
heard_by sv i clock l out h =
    answered_by sv i h.framed.taken h.held out
    (act_of sv i (with_held (link_of sv i) h.framed.held) h.framed.frame clock h.framed.info
    (mem l.disk l.map l.owner l.table l.selected))

unfoldable pub step_of : Server → ℕ → ℕ → List ℕ → Lent → List ℕ → Outcome
step_of sv i clock input l out = heard_by sv i clock l out (hear_of l.held i (link_of sv i).held input)

-- what is asked of the session of a call that goes through
abbrev pub Goes : Result ℕ ℕ → (ℕ → Type 0) → Type 0
Goes k P = (i : ℕ) → k ≡ Ok i → P i

-- "32 to 35 change nothing, take no byte and write nothing."
unfoldable pub on_check : Result ℕ ℕ → Server → Lent → List ℕ → ℕ → List ℕ → Outcome
on_check (Err n) sv l out clock input = outcome (done_with sv (answer.Refused n)) l out
on_check (Ok i) sv l out clock input = step_of sv i clock input l out

unfoldable pub receive_by : Bool → Server → Lent → List ℕ → ℕ → ℕ → List ℕ → Outcome
receive_by sound sv l out session clock input = on_check (check_for sound sv l session true (length out)) sv l out clock input

unfoldable pub receive_of : Server → Lent → List ℕ → ℕ → ℕ → List ℕ → Outcome
receive_of sv l out session clock input = receive_by (sound_in sv l) sv l out session clock input

-- what the slices have room for
pub record StepPre (sv : Server) (i : ℕ) (map owner table selected held : List ℕ) : Type 0 where
  pub act : ActPre sv i map owner table selected
  pub part : i * 258 + 258 ≤ length held

-- ---- login

-- a call that changes the server and the output alone
pub record Opened : Type 0 where
  pub done : Done
  pub out : List ℕ

abbrev pub opened : Done → List ℕ → Opened
opened d out = record { done = d; out = out }

-- "Login sends the 32-bit clock (4 bytes) and flags 4"
unfoldable pub on_login : Result ℕ ℕ → Server → List ℕ → ℕ → Opened
on_login (Err n) sv out clock = opened (done_with sv (answer.Refused n)) out
on_login (Ok i) sv out clock =
    opened (done_with (with_link sv i fresh_session) (answered (Login clock) 0 out).answer) (answered (Login clock) 0 out).out

unfoldable pub login_by : Bool → Server → Lent → List ℕ → ℕ → ℕ → Opened
login_by sound sv l out session clock = on_login (check_for sound sv l session false (length out)) sv out clock

unfoldable pub login_of : Server → Lent → List ℕ → ℕ → ℕ → Opened
login_of sv l out session clock = login_by (sound_in sv l) sv l out session clock

-- ---- lose

-- a call that changes the server, the selections and the unfinished packets
pub record Lost : Type 0 where
  pub done : Done
  pub selected : List ℕ
  pub held : List ℕ

abbrev pub lost : Done → List ℕ → List ℕ → Lost
lost d selected held = record { done = d; selected = selected; held = held }

-- "After a link lost at any byte, or closed, the partial holds exactly the whole DATA packets received .. The unfinished packet and the
-- selection are forgotten."
unfoldable pub on_lose : Result ℕ ℕ → Server → List ℕ → List ℕ → Lost
on_lose (Err n) sv selected held = lost (done_with sv (answer.Refused n)) selected held
on_lose (Ok i) sv selected held =
    lost (done_with (with_link sv i closed_session) (answer.Quiet 0)) (with_part (i * sv.most) sv.most (replicate sv.most 0) selected)
    (with_part (i * 258) 258 (replicate 258 0) held)

-- there is no output, so 32 is not given
unfoldable pub lose_by : Bool → Server → Lent → ℕ → Lost
lose_by sound sv l session = on_lose (check_for sound sv l session true 258) sv l.selected l.held

unfoldable pub lose_of : Server → Lent → ℕ → Lost
lose_of sv l session = lose_by (sound_in sv l) sv l session

-- what the slices have room for
pub record LosePre (sv : Server) (i : ℕ) (selected held : List ℕ) : Type 0 where
  pub session : i ≤ 3
  pub most : sv.most ≤ 50
  pub selections : i * sv.most + sv.most ≤ length selected
  pub part : i * 258 + 258 ≤ length held

-- ---- request

unfoldable pub due_as : Server → ℕ → Due → Opened
due_as sv i d = opened (done_with (with_link sv i d.asked.session) d.asked.answer) d.out

unfoldable pub on_request : Result ℕ ℕ → Server → Lent → List ℕ → Opened
on_request (Err n) sv l out = opened (done_with sv (answer.Refused n)) out
on_request (Ok i) sv l out =
    due_as sv i
    (due_of (link_of sv i).down (link_of sv i) l.disk (owner_part sv l) (files (table_part sv l)) (part (i * sv.most) sv.most l.selected) out)

unfoldable pub request_by : Bool → Server → Lent → List ℕ → ℕ → Opened
request_by sound sv l out session = on_request (check_for sound sv l session true (length out)) sv l out

unfoldable pub request_of : Server → Lent → List ℕ → ℕ → Opened
request_of sv l out session = request_by (sound_in sv l) sv l out session

-- what the slices have room for
pub record DuePre (sv : Server) (i : ℕ) (owner table selected out : List ℕ) : Type 0 where
  pub session : i ≤ 3
  pub files : sv.files ≤ 256
  pub most : sv.most ≤ 50
  pub owners : sv.blocks ≤ length owner
  pub records : 4 * sv.files ≤ length table
  pub selections : i * sv.most + sv.most ≤ length selected
  pub packet : 258 ≤ length out
