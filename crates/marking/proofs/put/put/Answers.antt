use Rattle.std.proofs.Common.{◌++◌, arith, length-append}
use Rattle.marking.proofs.PutLaws.{put_none, put_fits}
use Rattle.marking.proofs.put.put.Goals as goal

pub least-place-requires : goal.least-place-requires
least-place-requires c = tt

pub returns-then-room-first : goal.returns-then-room-first
returns-then-room-first c =
    let a = c.args in
    put_none a.at _ (a.first.now ++ (a.second.now ++ a.third.now)) a.text.now c.least-place.ensures.2
    (omega (arith, length-append a.first.now (a.second.now ++ a.third.now), length-append a.second.now a.third.now))

pub returns-then-after-second : goal.returns-then-after-second
returns-then-after-second c =
    let a = c.args in
    put_none a.at _ (a.first.now ++ (a.second.now ++ a.third.now)) a.text.now c.least-place.ensures.2
    (omega (arith, length-append a.first.now (a.second.now ++ a.third.now), length-append a.second.now a.third.now))

pub returns-then-after-second-2 : goal.returns-then-after-second-2
returns-then-after-second-2 c =
    let a = c.args in
    put_none a.at _ (a.first.now ++ (a.second.now ++ a.third.now)) a.text.now c.least-place.ensures.2
    (omega (arith, length-append a.first.now (a.second.now ++ a.third.now), length-append a.second.now a.third.now))

pub returns : goal.returns
returns c =
    let a = c.args in
    let e = length-append a.first.now (a.second.now ++ a.third.now) in
    let f = length-append a.second.now a.third.now in
    put_fits a.at _ _ (a.first.now ++ (a.second.now ++ a.third.now)) a.text.now _ c.least-place.ensures.2
    (omega (arith, e, f)) (omega (arith, e, f)) c.put_pieces.ensures
