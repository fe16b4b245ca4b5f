-- What the paper's examples say, the statement being a hypothesis: the bytes and the numbers one by one. Assumes nothing.
use mathlib.Core.Path.{◌≡◌}
use mathlib.Core.Bool.{true, false}
use mathlib.Core.List.{[], ◌∷◌, map}
use lib.ListN.{take, replicate}
use Rattle.packet.specs.Packet.{packet_of}
use Rattle.packet.specs.declared.frame.Frame.TheVariants.{TooLong}
use Rattle.text.specs.Match.{matches}
use Rattle.header.specs.Header.{verdict}
use Rattle.equation.specs.Answer.{validity_of}
use Rattle.std.proofs.Common.{Some}
use Rattle.table.specs.Given.{blocks_for, upload_time}
use Rattle.session.specs.declared.reply.Reply.TheVariants.{Login, UploadError, Selected}
use Rattle.session.specs.State.{fresh_session}
use Rattle.decide.specs.declared.act.Act.TheVariants as act
use Rattle.decide.specs.Decide.{decide_of}
use Rattle.paging.specs.Examples.{sent, head_of, smallest, above_m, five_stars, land, Landrover, Examples}

module _ (e : Examples) where
  -- the lengths 256 and 257
  pub lengths :
      (take 2 (packet_of 0 (replicate 256 0)) ≡ 0 ∷ 32 ∷ [])
      × (head_of 1 32 ≡ TooLong)
      × (decide_of fresh_session [] (head_of 1 32) (replicate 256 0) [] [] ≡ act.Close)
  lengths = (e.p1, e.p2, e.p2_closes)

  -- LOGIN_RESP, SELECT_RESP, UL_ERROR_RESP
  pub replies :
      (sent 7 (Login 0) ≡ 5 ∷ 2 ∷ 0 ∷ 0 ∷ 0 ∷ 0 ∷ 4 ∷ []) × (sent 2 (Selected 3) ≡ 2 ∷ 17 ∷ []) × (sent 3 (UploadError 13) ≡ 1 ∷ 5 ∷ 13 ∷ [])
  replies = (e.p3, e.p4, e.p5)

  -- blocks and times
  pub amounts :
      (map blocks_for (0 ∷ 256 ∷ 257 ∷ []) ≡ 0 ∷ 1 ∷ 2 ∷ []) × (upload_time 900 1000 ≡ Some 1001) × (upload_time 2000 1000 ≡ Some 2000)
  amounts = (e.p6, e.p7, e.p7_later)

  -- the file of 80 bytes, and its first 79
  pub files : (verdict smallest 80 ≡ 0) × (verdict (take 79 smallest) 79 ≡ 14)
  files = (e.p8, e.p8_short)

  -- equations that are refused, and texts that match or not
  pub equations : (validity_of above_m ≡ 8) × (validity_of five_stars ≡ 8) × (validity_of [] ≡ 8)
  equations = (e.p9, e.p11, e.p12)

  pub texts : (matches land Landrover ≡ true) × (matches (63 ∷ []) [] ≡ false)
  texts = (e.p10, e.p10_empty)
