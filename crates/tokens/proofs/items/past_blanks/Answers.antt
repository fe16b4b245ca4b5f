use Rattle.std.proofs.Common.{◌≡◌, get_or, refl, sym, ◌∙◌, arith}
use lib.ListN.{get_or-eq_default}
use Rattle.names.specs.Kinds.{is_blank}
use Rattle.tokens.proofs.Places as places
use Rattle.tokens.proofs.items.past_blanks.Goals as goal

pub loop-e-init : goal.loop-e-init
loop-e-init c = record { within = omega arith; same = refl }

pub returns-then-not-is_blank : goal.returns-then-not-is_blank
returns-then-not-is_blank c =
    let l = c.loop-e in places.blanks_end c.args.text.now l.e _ refl (sym c.is_blank.ensures ∙ c.if-not-is_blank.true) ∙ l.invariant.same

pub loop-e-preserved : goal.loop-e-preserved
loop-e-preserved c =
    let l = c.loop-e in
    record {
      within = omega arith;
      same = sym (places.blanks_more c.args.text.now l.e _ refl (sym c.is_blank.ensures ∙ c.if-not-is_blank.false)) ∙ l.invariant.same;
    }

pub returns : goal.returns
unfolding is_blank
returns c =
    let l = c.loop-e in
    let e : c.max.result ≡ l.e = omega (arith, l.invariant.within, c.max.ensures) in
    let z : 0 ≡ get_or c.args.text.now l.e 0 = sym (get_or-eq_default c.args.text.now 0 {n = l.e} (omega arith)) in
    rw e (places.blanks_end c.args.text.now l.e 0 z refl ∙ l.invariant.same)
