-- How the framing's code goes: bytes are stored up to the end of a packet, which stays in the part until it is taken out.
-- That this comes to Frame.antt is proved in proofs/FrameLaws.antt. Assumes nothing.
use Rattle.std.specs.Prelude.{cond, List, [], ◌∷◌, ℕ, ◌+◌, ◌-◌, ltb, set}
use Rattle.packet.specs.Frame.{announced_in}
use Rattle.packet.specs.declared.frame.Mark.{Mark}
use Rattle.packet.specs.declared.frame.Mark.TheVariants.{More, Long, End}
use Rattle.packet.specs.declared.frame.Fed.{Fed}

-- what the first n bytes of a part come to
unfoldable pub mark_of : ℕ → List ℕ → Mark
mark_of n p = cond (ltb n 2) More (cond (ltb 256 (announced_in p)) Long (cond (ltb n (2 + announced_in p)) More End))

-- how many bytes a part of n bytes takes before it is judged again: those of the head, then those that the head announces; where that is too
-- long or they are there, one
unfoldable pub wanted_of : ℕ → List ℕ → ℕ
wanted_of n p = cond (ltb n 2) (2 - n) (cond (ltb 256 (announced_in p)) 1 (cond (ltb n (2 + announced_in p)) (2 + announced_in p - n) 1))

abbrev pub least_of : ℕ → ℕ → ℕ
least_of a b = cond (ltb a b) a b

pub record Part : Type 0 where
  pub fed : Fed
  pub part : List ℕ

abbrev pub fed_in : Fed → List ℕ → Part
fed_in f p = record { fed = f; part = p }

abbrev pub fed_more : ℕ → Part → Part
fed_more k r = fed_in (record { taken = k + r.fed.taken; held = r.fed.held; mark = r.fed.mark }) r.part

-- one byte was stored, giving n bytes in p: the packet ends there, or the rest of the bytes counts
unfoldable pub after_byte : Mark → ℕ → List ℕ → Part → Part
after_byte More n p r = fed_more 1 r
after_byte Long n p r = fed_in (record { taken = 1; held = n; mark = Long }) p
after_byte End n p r = fed_in (record { taken = 1; held = n; mark = End }) p

unfoldable pub feed_of : List ℕ → ℕ → List ℕ → Part
feed_of p n [] = fed_in (record { taken = 0; held = n; mark = More }) p
feed_of p n (b ∷ bs) = after_byte (mark_of (n + 1) (set p n b)) (n + 1) (set p n b) (feed_of (set p n b) (n + 1) bs)
