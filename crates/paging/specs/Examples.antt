-- The proved examples of document 01, P1 to P12, in one statement: what the server's own definitions give is what the paper says. Assumes nothing.
use Rattle.std.specs.Prelude.{◌≡◌, true, false, List, [], ◌∷◌, map, ℕ, take, replicate, Some}
use Rattle.packet.specs.Packet.{packet_of}
use Rattle.packet.specs.Frame as frame
use Rattle.packet.specs.declared.frame.Frame.{Frame}
use Rattle.packet.specs.declared.frame.Frame.TheVariants.{TooLong}
use Rattle.text.specs.Match.{matches}
use Rattle.header.specs.Header.{verdict}
use Rattle.equation.specs.Answer.{validity_of}
use Rattle.table.specs.Given.{blocks_for, upload_time}
use Rattle.session.specs.declared.reply.Reply.{Reply}
use Rattle.session.specs.declared.reply.Reply.TheVariants.{Login, UploadError, Selected}
use Rattle.session.specs.State.{fresh_session}
use Rattle.session.specs.Reply.{answered}
use Rattle.decide.specs.declared.act.Act.TheVariants as act
use Rattle.decide.specs.Decide.{decide_of}

-- the first n bytes of the output that a reply leaves, the output having been 258 zeros
abbrev pub sent : ℕ → Reply → List ℕ
sent n r = take n (answered r 0 (replicate 258 0)).out

-- what a link with no unfinished packet makes of two bytes
abbrev pub head_of : ℕ → ℕ → Frame
head_of a b = (frame.receive_of (replicate 258 0) 0 (a ∷ b ∷ [])).answer.frame

-- P8 "an 80-byte file with only the mandatory items, sums and sizes right, and no body"
unfoldable pub smallest : List ℕ
smallest =
    170 ∷ 85 ∷ 1 ∷ 0 ∷ 4 ∷ 0 ∷ 0 ∷ 0 ∷ 0 ∷ 2 ∷ 0 ∷ 8 ∷ 0 ∷ 0 ∷ 0 ∷ 0 ∷ 0 ∷ 0 ∷ 0 ∷ 0 ∷ 3 ∷ 0 ∷ 3 ∷ 0 ∷ 0 ∷ 0 ∷ 4 ∷ 0 ∷
    4 ∷ 80 ∷ 0 ∷ 0 ∷ 0 ∷ 5 ∷ 0 ∷ 4 ∷ 0 ∷ 0 ∷ 0 ∷ 0 ∷ 6 ∷ 0 ∷ 4 ∷ 0 ∷ 0 ∷ 0 ∷ 0 ∷ 7 ∷ 0 ∷ 1 ∷ 0 ∷ 8 ∷ 0 ∷ 1 ∷ 0 ∷ 9 ∷
    0 ∷ 2 ∷ 0 ∷ 0 ∷ 10 ∷ 0 ∷ 2 ∷ 26 ∷ 2 ∷ 11 ∷ 0 ∷ 2 ∷ 80 ∷ 0 ∷ 18 ∷ 0 ∷ 4 ∷ 0 ∷ 0 ∷ 0 ∷ 0 ∷ 0 ∷ 0 ∷ 0 ∷ []

-- P9 title (22h) greater than "m"; P11 title equal to five `*`
abbrev pub above_m : List ℕ
above_m = 147 ∷ 34 ∷ 0 ∷ 1 ∷ 109 ∷ []

abbrev pub five_stars : List ℕ
five_stars = 131 ∷ 34 ∷ 0 ∷ 5 ∷ 42 ∷ 42 ∷ 42 ∷ 42 ∷ 42 ∷ []

-- P10 `*land*` and "Landrover"
abbrev pub land : List ℕ
land = 42 ∷ 108 ∷ 97 ∷ 110 ∷ 100 ∷ 42 ∷ []

abbrev pub Landrover : List ℕ
Landrover = 76 ∷ 97 ∷ 110 ∷ 100 ∷ 114 ∷ 111 ∷ 118 ∷ 101 ∷ 114 ∷ []

-- what the definitions give, and what the paper says
pub record Examples : Type 0 where
  -- P1 "DATA of 256 bytes begins 00 20."
  pub p1 : take 2 (packet_of 0 (replicate 256 0)) ≡ 0 ∷ 32 ∷ []
  -- P2 "01 20 closes.": the length is above 256, and this closes the link
  pub p2 : head_of 1 32 ≡ TooLong
  pub p2_closes : decide_of fresh_session [] (head_of 1 32) (replicate 256 0) [] [] ≡ act.Close
  -- P3 "LOGIN_RESP at time 0: 05 02 00 00 00 00 04."
  pub p3 : sent 7 (Login 0) ≡ 5 ∷ 2 ∷ 0 ∷ 0 ∷ 0 ∷ 0 ∷ 4 ∷ []
  -- P4 "SELECT_RESP begins 02 11."
  pub p4 : sent 2 (Selected 3) ≡ 2 ∷ 17 ∷ []
  -- P5 "UL_ERROR 13: 01 05 0d."
  pub p5 : sent 3 (UploadError 13) ≡ 1 ∷ 5 ∷ 13 ∷ []
  -- P6 "lengths 0, 256, 257 take 0, 1, 2 blocks."
  pub p6 : map blocks_for (0 ∷ 256 ∷ 257 ∷ []) ≡ 0 ∷ 1 ∷ 2 ∷ []
  -- P7 "last time 1000, clock 900: 1001; clock 2000: 2000."
  pub p7 : upload_time 900 1000 ≡ Some 1001
  pub p7_later : upload_time 2000 1000 ≡ Some 2000
  -- P8 the file of 80 bytes "is accepted; its first 79 bytes, announced as 79: 14."
  pub p8 : verdict smallest 80 ≡ 0
  pub p8_short : verdict (take 79 smallest) 79 ≡ 14
  -- P9 "title greater than "m": 8."
  pub p9 : validity_of above_m ≡ 8
  -- P10 "`*land*` matches "Landrover"; `?` does not match ""."
  pub p10 : matches land Landrover ≡ true
  pub p10_empty : matches (63 ∷ []) [] ≡ false
  -- P11 "five `*`: 8."
  pub p11 : validity_of five_stars ≡ 8
  -- P12 "the empty equation: 8."
  pub p12 : validity_of [] ≡ 8
