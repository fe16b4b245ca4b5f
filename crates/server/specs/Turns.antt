-- What the bytes of a link bring about: heard, decided on, carried out. Assumes nothing.
use Rattle.std.specs.Prelude.{cond, List, [], ◌∷◌, ◌++◌, ℕ, ◌+◌, ◌*◌, ◌≤◌, ltb, length, take, drop}
use Rattle.packet.specs.declared.frame.Frame.{Frame}
use Rattle.packet.specs.declared.frame.Frame.TheVariants.{Open, TooLong, Whole, Refused}
use Rattle.packet.specs.declared.frame.Framed.{Framed}
use Rattle.packet.specs.Frame.{receive_of}
use Rattle.session.specs.declared.state.Session.{Session}
use Rattle.session.specs.State.{closed_session}
use Rattle.table.specs.Table.{files}
use Rattle.decide.specs.Decide.{decide_of}
use Rattle.carry.specs.Turn.{Mem, mem, Turned, turned}
use Rattle.carry.specs.Carry.{carry_out}
use Rattle.server.specs.declared.Server.{Server}
use Rattle.server.specs.State.{link_of, words, part, with_part}

-- ---- hearing

-- what was heard, and all unfinished packets afterwards
pub record HeardIn : Type 0 where
  pub framed : Framed
  pub held : List ℕ

abbrev pub heard_in : Framed → List ℕ → HeardIn
heard_in f held = record { framed = f; held = held }

unfoldable pub hear_of : List ℕ → ℕ → ℕ → List ℕ → HeardIn
hear_of held i count input =
    heard_in (receive_of (part (i * 258) 258 held) count input).answer
    (with_part (i * 258) 258 (receive_of (part (i * 258) 258 held) count input).part held)

-- ---- acting

-- the information length of a whole packet
unfoldable pub size_in : Frame → ℕ
size_in Open = 0
size_in TooLong = 0
size_in (Whole kind size) = size
size_in (Refused n) = 0

-- the parts that are the store's and the session's
abbrev pub parts_of : Server → ℕ → Mem → Mem
parts_of sv i m =
    mem m.disk (take (words sv.blocks) m.map) (take sv.blocks m.owner) (take (4 * sv.files) m.table)
    (part (i * sv.most) sv.most m.selected)

abbrev pub used_of : ℕ → ℕ → Session → Session
used_of sessions i s = cond (ltb i sessions) s closed_session

-- the sessions in use: one beyond them is none of the server's, so it uploads nothing, whatever it holds
abbrev pub in_use : Server → List Session
in_use sv =
    used_of sv.sessions 0 (link_of sv 0) ∷ used_of sv.sessions 1 (link_of sv 1) ∷ used_of sv.sessions 2 (link_of sv 2)
    ∷ used_of sv.sessions 3 (link_of sv 3) ∷ []

-- put back into what was lent
unfoldable pub put_back : Server → ℕ → Mem → Turned → Turned
put_back sv i m t =
    turned t.turn
    (mem t.mem.disk (t.mem.map ++ drop (words sv.blocks) m.map) (t.mem.owner ++ drop sv.blocks m.owner)
    (t.mem.table ++ drop (4 * sv.files) m.table) (with_part (i * sv.most) sv.most t.mem.selected m.selected))

unfoldable pub act_of : Server → ℕ → Session → Frame → ℕ → List ℕ → Mem → Turned
act_of sv i s frame clock info m =
    put_back sv i m
    (carry_out
    (decide_of s (in_use sv) frame info (files (take (4 * sv.files) m.table)) (part (i * sv.most) sv.most m.selected))
    s sv.last clock sv.most (size_in frame) info (parts_of sv i m))

-- what the slices must have room for
pub record ActPre (sv : Server) (i : ℕ) (map owner table selected : List ℕ) : Type 0 where
  pub blocks : sv.blocks ≤ 4096
  pub files : sv.files ≤ 256
  pub most : sv.most ≤ 50
  pub session : i ≤ 3
  pub words : words sv.blocks ≤ length map
  pub owners : sv.blocks ≤ length owner
  pub records : 4 * sv.files ≤ length table
  pub selections : i * sv.most + sv.most ≤ length selected
