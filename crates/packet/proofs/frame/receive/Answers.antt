use native.Mathlib.Omega.{arith}
use mathlib.Core.Path.{◌∙◌}
use Rattle.packet.proofs.FrameLaws.{refused_size, refused_count, end_size, heard_more_law, heard_long, heard_end}
use Rattle.packet.proofs.frame.receive.Goals as goal
use Rattle.packet.proofs.frame.receive.Goals.{then-part-ne258-via-then-part-ne258, then-part-ne258-via-else-part-ne258+then-held-ge258}

pub returns-then-part-ne258 : goal.returns-then-part-ne258
returns-then-part-ne258 c =
    elim c.then-part-ne258.branch [
      | then-part-ne258-via-then-part-ne258 w ↦ rw c.without_packet.ensures (refused_size _ _ _ w.if-part-ne258.true)
      | then-part-ne258-via-else-part-ne258+then-held-ge258 w ↦ rw c.without_packet.ensures (refused_count _ _ _ w.if-part-ne258.false w.if-held-ge258.true)
    ]

pub information-info-requires : goal.information-info-requires
information-info-requires c = let f = c.feed-fed in let s = end_size _ _ _ f.result f.new.part f.ensures c.in-End.is in (omega (arith, c.announced_by-size.ensures.0, f.auto.part, s), rw c.announced_by-size.ensures.0 s)

pub returns-in-More : goal.returns-in-More
returns-in-More c = let f = c.feed-fed in rw c.without_packet-in-More.ensures (heard_more_law _ _ _ f.result f.new.part f.ensures c.if-part-ne258.false c.if-held-ge258.false c.in-More.is)

pub returns-in-Long : goal.returns-in-Long
returns-in-Long c = let f = c.feed-fed in rw (c.without_packet-in-Long.ensures, c.forget.ensures, f.auto.part, c.if-part-ne258.false) (heard_long _ _ _ f.result f.new.part f.ensures c.if-part-ne258.false c.if-held-ge258.false c.in-Long.is)

pub returns-in-End : goal.returns-in-End
returns-in-End c = let f = c.feed-fed in rw (c.information-info.ensures, c.announced_by-size.ensures.0, c.forget-in-End.ensures, f.auto.part, c.if-part-ne258.false) (heard_end _ _ _ f.result f.new.part f.ensures c.if-part-ne258.false c.if-held-ge258.false c.in-End.is (f.auto.part ∙ c.if-part-ne258.false))
