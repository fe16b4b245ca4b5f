-- each turn takes one letter off the name and one byte off the text that are left
use mathlib.Core.Path.{sym, ap, ◌∙◌}
use native.Mathlib.Omega.{arith}
use lib.ListN.{length}
use Rattle.std.proofs.lemmas.Slice.Zip.{Zip-more, either_empty_from_Zip}
use Rattle.names.proofs.RowLaws.{sharing_more, sharing_stops, sharing_ends}
use Rattle.names.proofs.table.shared_letters.Goals as goal

pub returns-then-lowered : goal.returns-then-lowered
returns-then-lowered c =
    let k = Zip-more c.loop-letter.letter-iterator c.next.new.self c.next.result (c.in-Some.letter, c.in-Some.b) c.in-Some.is c.next.ensures.steps in
    omega (arith, c.loop-letter.invariant.shares, sharing_stops _ _ _ _ _ _ k.0 k.1 (λ e. c.if-lowered.true (c.lowered.ensures ∙ e ∙ sym c.lowered-in-loop-letter.ensures)))

pub loop-letter-preserved : goal.loop-letter-preserved
loop-letter-preserved c =
    let k = Zip-more c.loop-letter.letter-iterator c.next.new.self c.next.result (c.in-Some.letter, c.in-Some.b) c.in-Some.is c.next.ensures.steps in record {
      passed = omega (arith, ap length k.0);
      shares = omega (arith, sharing_more _ _ _ _ _ _ k.0 k.1 (sym c.lowered.ensures ∙ c.if-lowered.false ∙ c.lowered-in-loop-letter.ensures));
    }

pub returns : goal.returns
returns c = omega (arith, c.loop-letter.invariant.shares, sharing_ends _ _ (either_empty_from_Zip c.loop-letter.letter-iterator c.next.new.self c.next.result c.in-None.is c.next.ensures.steps))
