use Rattle.words.proofs.PieceLaws.{joins, room_first, room_then}
use Rattle.packet.specs.Names.{bytes_of}
use mathlib.Core.Path.{refl, sym, ap}
use Rattle.refusal.specs.Refusal.{number, numbered}
use mathlib.Core.List.{[], ◌∷◌, ◌++◌}
use lib.ListN.{take}
use lib.Seq.{length-take-le}
use Rattle.lines.specs.Text.{decimal_of}
use Rattle.words.specs.Why.{outcome_word, number_fields}
use Rattle.words.proofs.WhyLaws as laws
use Rattle.words.proofs.push_told.Goals as goal

pub push_outcome-a-requires : goal.push_outcome-a-requires
push_outcome-a-requires c = room_first c.args.out.now c.args.n (outcome_word c.in-Ok.told) (number_fields (take c.in-Ok.told.count c.args.named.now) ++ (10 ∷ [])) (rw (laws.told_ok c.in-Ok.told c.args.told c.args.named.now c.in-Ok.is) at c.requires.0)

pub slice_bounds-push_numbers-end : goal.slice_bounds-push_numbers-end
slice_bounds-push_numbers-end c = sym (length-take-le c.in-Ok.told.count c.args.named.now (c.requires.1 c.in-Ok.told (ap numbered c.in-Ok.is)))

pub push_numbers-b-requires : goal.push_numbers-b-requires
push_numbers-b-requires c =
    let fits = room_then c.args.out.now c.args.n (outcome_word c.in-Ok.told) (number_fields (take c.in-Ok.told.count c.args.named.now) ++ (10 ∷ [])) (rw (laws.told_ok c.in-Ok.told c.args.told c.args.named.now c.in-Ok.is) at c.requires.0) c.push_outcome-a.result c.push_outcome-a.new.out c.push_outcome-a.auto.out c.push_outcome-a.ensures in
    room_first c.push_outcome-a.new.out c.push_outcome-a.result (number_fields (take c.in-Ok.told.count c.args.named.now)) (10 ∷ []) fits

pub push-requires : goal.push-requires
push-requires c =
    let fits = room_then c.args.out.now c.args.n (outcome_word c.in-Ok.told) (number_fields (take c.in-Ok.told.count c.args.named.now) ++ (10 ∷ [])) (rw (laws.told_ok c.in-Ok.told c.args.told c.args.named.now c.in-Ok.is) at c.requires.0) c.push_outcome-a.result c.push_outcome-a.new.out c.push_outcome-a.auto.out c.push_outcome-a.ensures in
    room_then c.push_outcome-a.new.out c.push_outcome-a.result (number_fields (take c.in-Ok.told.count c.args.named.now)) (10 ∷ []) fits
    c.push_numbers-b.result c.push_numbers-b.new.out c.push_numbers-b.auto.out c.push_numbers-b.ensures

pub returns-in-Ok : goal.returns-in-Ok
returns-in-Ok c =
    rw (laws.told_ok c.in-Ok.told c.args.told c.args.named.now c.in-Ok.is)
    (joins c.push_outcome-a.ensures (joins c.push_numbers-b.ensures c.push.ensures))

pub push-d-requires : goal.push-d-requires
unfolding bytes_of
push-d-requires c = room_first c.args.out.now c.args.n (bytes_of "refused\t") (decimal_of (number c.in-Err.refusal) ++ (10 ∷ [])) (rw (laws.told_err c.args.told c.in-Err.refusal _ c.args.named.now c.in-Err.is refl) at c.requires.0)

pub push_decimal-e-requires : goal.push_decimal-e-requires
unfolding bytes_of
push_decimal-e-requires c =
    let fits = room_then c.args.out.now c.args.n (bytes_of "refused\t") (decimal_of c.from.result ++ (10 ∷ [])) (rw (laws.told_err c.args.told c.in-Err.refusal _ c.args.named.now c.in-Err.is c.from.ensures) at c.requires.0) c.push-d.result c.push-d.new.out c.push-d.auto.out c.push-d.ensures in
    room_first c.push-d.new.out c.push-d.result (decimal_of c.from.result) (10 ∷ []) fits

pub push-requires-in-Err : goal.push-requires-in-Err
unfolding bytes_of
push-requires-in-Err c =
    let fits = room_then c.args.out.now c.args.n (bytes_of "refused\t") (decimal_of c.from.result ++ (10 ∷ [])) (rw (laws.told_err c.args.told c.in-Err.refusal _ c.args.named.now c.in-Err.is c.from.ensures) at c.requires.0) c.push-d.result c.push-d.new.out c.push-d.auto.out c.push-d.ensures in
    room_then c.push-d.new.out c.push-d.result (decimal_of c.from.result) (10 ∷ []) fits
    c.push_decimal-e.result c.push_decimal-e.new.out c.push_decimal-e.auto.out c.push_decimal-e.ensures

pub returns-in-Err : goal.returns-in-Err
unfolding bytes_of
returns-in-Err c =
    rw (laws.told_err c.args.told c.in-Err.refusal _ c.args.named.now c.in-Err.is c.from.ensures)
    (joins c.push-d.ensures (joins c.push_decimal-e.ensures c.push-in-Err.ensures))
