-- The framing of one link: FTL0's instance of Machine.antt (document 01, "Packets"). Assumes nothing.
use Rattle.std.specs.Prelude.{cond, List, [], ◌++◌, ℕ, ◌+◌, ◌-◌, ltb, eqb, length, get_or, set, take, drop, replicate}
use Rattle.std.proofs.Math.Option.{Option, none, some}
use Rattle.packet.specs.Machine.{Step, more, ends, Call, call}
use Rattle.packet.specs.Packet.{announced, kind_in}
use Rattle.packet.specs.declared.frame.Frame.{Frame}
use Rattle.packet.specs.declared.frame.Frame.TheVariants.{Open, TooLong, Whole, Refused}
use Rattle.packet.specs.declared.frame.Framed.{Framed}

-- the bytes of an unfinished packet: how many, at the front of a part of 258 bytes
pub record Held : Type 0 where
  pub count : ℕ
  pub part : List ℕ

-- no byte of a packet; a finished packet leaves this
abbrev pub none_held : Held
none_held = record { count = 0; part = replicate 258 0 }

pub data Event : Type 0 where
  -- a whole packet: its type and its information
  packet : ℕ → List ℕ → Event
  -- "An announced length above 256 closes the link at its second byte (H)"
  too_long : Event

-- the length that a part's first two bytes announce, and the packet in it
abbrev pub announced_in : List ℕ → ℕ
announced_in p = announced (get_or p 0 0) (get_or p 1 0)

abbrev pub packet_in : List ℕ → Event
packet_in p = packet (kind_in (get_or p 1 0)) (take (announced_in p) (drop 2 p))

-- what the first n bytes of a part come to
unfoldable pub judged : ℕ → List ℕ → Step Held Event
judged n p =
    cond (ltb n 2) (more (record { count = n; part = p }))
    (cond (ltb 256 (announced_in p)) (ends none_held too_long)
    (cond (ltb n (2 + announced_in p)) (more (record { count = n; part = p }))
    (ends none_held (packet_in p))))

-- one byte of the link
unfoldable pub byte : Held → ℕ → Step Held Event
byte h b = judged (h.count + 1) (set h.part h.count b)

-- ---- the call on a lent part: what it answers, and what it leaves in the part

pub record Heard : Type 0 where
  pub answer : Framed
  pub part : List ℕ

abbrev pub heard : Framed → List ℕ → Heard
heard r p = record { answer = r; part = p }

-- information in 256 bytes, the others zero
abbrev pub padded : List ℕ → List ℕ
padded info = info ++ replicate (256 - length info) 0

-- an answer without a packet
unfoldable pub without_packet : ℕ → ℕ → Frame → Framed
without_packet taken held frame = record { taken = taken; held = held; frame = frame; info = padded [] }

-- what a call of the machine answers
unfoldable pub answer_by : ℕ → Held → Option Event → Framed
answer_by taken h none = without_packet taken h.count Open
answer_by taken h (some too_long) = without_packet taken h.count TooLong
answer_by taken h (some (packet kind info)) = record { taken = taken; held = h.count; frame = Whole kind (length info); info = padded info }

unfoldable pub answer_of : Call Held Event → Heard
answer_of c = heard (answer_by c.taken c.state c.event) c.state.part

-- "33 local: a size or length outside the table .. or a lent buffer too short": the part is not 258 bytes, or is said to hold more than a packet
abbrev pub refused_part : List ℕ → ℕ → Heard
refused_part part held = heard (without_packet 0 held (Refused 33)) part

-- "A receive call takes bytes up to the end of one packet, or all it was lent, and says how many it took."
unfoldable pub receive_of : List ℕ → ℕ → List ℕ → Heard
receive_of part held input =
    cond (eqb (length part) 258)
    (cond (ltb held 258) (answer_of (call byte (record { count = held; part = part }) input)) (refused_part part held))
    (refused_part part held)
