-- Where links bring bytes, the bytes accepted are bytes. Assumes nothing.
use mathlib.Core.Bool.{Bool, true, false, cond}
use mathlib.Core.List.{List, [], ◌∷◌, ◌++◌}
use mathlib.Core.Option.{Option, none, some}
use Prim.Native.Nat.{ℕ, ◌+◌}
use lib.Dec.{eqb, ltb}
use lib.ListN.{length, take, drop}
use Rattle.packet.specs.Frame as frame
use Rattle.packet.specs.Frame.{packet, too_long, announced_in, packet_in}
use Rattle.header.proofs.Written.{Bytes, bytes_drop, bytes_take, bytes_join}
use Rattle.session.specs.declared.reply.Answer.{Answer}
use Rattle.session.specs.declared.reply.Answer.TheVariants as answer
use Rattle.decide.specs.Words.{word_at}
use Rattle.calls.specs.Call.{Call, login, receive, request, lose}
use Rattle.model.specs.Step.{ends_in}
use Rattle.steps.specs.Parts.{type_of}
use Rattle.accepted.specs.Exchange.{session_of, Transcript, blank, ◌▹◌}
use Rattle.accepted.specs.Link.{taken_by, behind, received_by, anew_by, bytes_by, link_bytes, heard_by}
use Rattle.accepted.specs.Events.{Event, nothing, given, added, finished, dropped, upload_of, on_quiet, on_go, on_sent, on_answer, event_by, event_in}
use Rattle.accepted.specs.Accepted.{added_by, accepted}
use Rattle.accepted.specs.Agreement.{AreBytes, BringsBytes, OfBytes}

are_bytes : (xs : List ℕ) → AreBytes xs → Bytes xs
are_bytes [] a = tt
are_bytes (x ∷ xs) a = (a.0, are_bytes xs a.1)

-- ---- what is heard

abbrev HeardBytes : Option frame.Event → Type 0
HeardBytes none = Unit {0}
HeardBytes (some too_long) = Unit {0}
HeardBytes (some (packet kind info)) = Bytes info

ends_bytes : (bs : List ℕ) → Bytes bs → HeardBytes (ends_in bs)
unfolding ends_in
ends_bytes bs v = go (ltb (length bs) 2) (ltb 256 (announced_in bs)) (ltb (length bs) (2 + announced_in bs))
  where
    go : (a b c : Bool) → HeardBytes (cond a none (cond b (some too_long) (cond c none (some (packet_in bs)))))
    go true b c = tt
    go false true c = tt
    go false false true = tt
    go false false false = bytes_take (announced_in bs) (drop 2 bs) (bytes_drop 2 bs v)

taken_bytes : (a : Answer) (input : List ℕ) → Bytes input → Bytes (taken_by a input)
unfolding taken_by
taken_bytes (answer.Quiet taken) input v = bytes_take taken input v
taken_bytes (answer.Sent taken size) input v = bytes_take taken input v
taken_bytes (answer.Closed taken) input v = bytes_take taken input v
taken_bytes (answer.Refused r) input v = tt

behind_bytes : (e : Option frame.Event) (bs : List ℕ) → Bytes bs → Bytes (behind e bs)
unfolding behind
behind_bytes none bs v = v
behind_bytes (some e) bs v = tt

received_bytes : (a : Answer) (input was : List ℕ) → Bytes input → Bytes was → Bytes (received_by a input was)
unfolding received_by
received_bytes (answer.Quiet taken) input was v w = behind_bytes _ _ (bytes_join was (take taken input) w (bytes_take taken input v))
received_bytes (answer.Sent taken size) input was v w = behind_bytes _ _ (bytes_join was (take taken input) w (bytes_take taken input v))
received_bytes (answer.Closed taken) input was v w = tt
received_bytes (answer.Refused r) input was v w = w

anew_bytes : (a : Answer) (was : List ℕ) → Bytes was → Bytes (anew_by a was)
unfolding anew_by
anew_bytes (answer.Quiet taken) was w = tt
anew_bytes (answer.Sent taken size) was w = tt
anew_bytes (answer.Closed taken) was w = tt
anew_bytes (answer.Refused r) was w = w

call_bytes : (c : Call) → BringsBytes c → (a : Answer) (was : List ℕ) → Bytes was → Bytes (bytes_by c a was)
call_bytes (login session clock out) b a was w = anew_bytes a was w
call_bytes (receive session clock input out) b a was w = received_bytes a input was (are_bytes input b) w
call_bytes (request session out) b a was w = w
call_bytes (lose session) b a was w = anew_bytes a was w

link_bytes_law : (t : Transcript) → OfBytes t → (i : ℕ) → Bytes (link_bytes t i)
unfolding link_bytes
link_bytes_law blank b i = tt
link_bytes_law (t ▹ x) b i = go (eqb (session_of x.call) i) (link_bytes_law t b.0 i)
  where
    go : (c : Bool) → Bytes (link_bytes t i) → Bytes (cond c (bytes_by x.call x.told.answer (link_bytes t i)) (link_bytes t i))
    go true w = call_bytes x.call b.1 x.told.answer (link_bytes t i) w
    go false w = w

heard_bytes : (c : Call) → BringsBytes c → (a : Answer) (was : List ℕ) → Bytes was → HeardBytes (heard_by c a was)
heard_bytes (login session clock out) b a was w = tt
heard_bytes (receive session clock input out) b a was w =
    ends_bytes (was ++ taken_by a input) (bytes_join was (taken_by a input) w (taken_bytes a input (are_bytes input b)))
heard_bytes (request session out) b a was w = tt
heard_bytes (lose session) b a was w = tt

-- ---- what is accepted

module _ (n : ℕ) where
  abbrev AddsBytes : Event → Type 0
  AddsBytes e = Bytes (added_by e n)

  pick : (b : Bool) (x y : Event) → AddsBytes x → AddsBytes y → AddsBytes (cond b x y)
  pick true x y j k = j
  pick false x y j k = k

  quiet_bytes : (u : ℕ) (h : Option frame.Event) → HeardBytes h → AddsBytes (on_quiet u h)
  unfolding on_quiet added_by
  quiet_bytes u none v = tt
  quiet_bytes u (some too_long) v = tt
  quiet_bytes u (some (packet kind info)) v =
      pick (eqb kind 0) (cond (eqb u 0) nothing (added u info)) nothing (pick (eqb u 0) nothing (added u info) tt (own (eqb u n))) tt
    where
      own : (b : Bool) → Bytes (cond b info [])
      own true = v
      own false = tt

  go_bytes : (number : ℕ) (h : Option frame.Event) → AddsBytes (on_go number h)
  unfolding on_go added_by
  go_bytes number none = tt
  go_bytes number (some too_long) = tt
  go_bytes number (some (packet kind info)) = pick (eqb (word_at info 0) 0) (given number (word_at info 4)) nothing tt tt

  answer_bytes : (a : Answer) (out : List ℕ) (u : ℕ) (h : Option frame.Event) (clock : ℕ) → HeardBytes h → AddsBytes (on_answer a out u h clock)
  unfolding on_answer on_sent added_by
  answer_bytes (answer.Quiet taken) out u h clock v = quiet_bytes u h v
  answer_bytes (answer.Sent taken size) out u h clock v =
      let sent = take size out in
      pick (eqb (type_of sent) 4) (on_go (word_at sent 2) h) (cond (eqb (type_of sent) 6) (finished u clock) (cond (eqb (type_of sent) 7) (dropped u) nothing))
      (go_bytes (word_at sent 2) h)
      (pick (eqb (type_of sent) 6) (finished u clock) (cond (eqb (type_of sent) 7) (dropped u) nothing) tt
      (pick (eqb (type_of sent) 7) (dropped u) nothing tt tt))
  answer_bytes (answer.Closed taken) out u h clock v = tt
  answer_bytes (answer.Refused r) out u h clock v = tt

  event_bytes : (u : ℕ) (h : Option frame.Event) (c : Call) (a : Answer) (out : List ℕ) → HeardBytes h → AddsBytes (event_by u h c a out)
  unfolding added_by
  event_bytes u h (login session clock o) a out v = tt
  event_bytes u h (receive session clock input o) a out v = answer_bytes a out u h clock v
  event_bytes u h (request session o) a out v = tt
  event_bytes u h (lose session) a out v = tt

  -- THEOREM
  pub accepted_bytes : (t : Transcript) → OfBytes t → Bytes (accepted t n)
  unfolding accepted
  accepted_bytes blank b = tt
  accepted_bytes (t ▹ x) b =
      let was = link_bytes t (session_of x.call) in
      bytes_join (accepted t n) (added_by (event_in t x) n) (accepted_bytes t b.0)
      (event_bytes (upload_of t (session_of x.call)) (heard_by x.call x.told.answer was) x.call x.told.answer x.told.out
      (heard_bytes x.call b.1 x.told.answer was (link_bytes_law t b.0 (session_of x.call))))
