-- SPDX-License-Identifier: MIT
use Rattle.std.proofs.Common.{◌≡◌, ◌++◌, [], ◌∷◌, ◌+◌, ap, length, rules}
use Rattle.rrc_report.proofs.CallSteps.{offered_more}
use Rattle.rrc_report.proofs.answers.tell_all.Goals as goal

pub loop-offer-preserved : goal.loop-offer-preserved
loop-offer-preserved g c =
    let place = c.args.first.place in
    let added : c.push.new.self ≡ c.loop-offer.told ++ c.in_ok-tell.field-0 ∷ [] = search rules in
    let number : place + length c.as_slice.result.now ≡ place + length c.loop-offer.told = ap (λ l. place + length l) c.as_slice.ensures in
    rw added
    (offered_more g.C.Calls.makes c.args.first.line place (place + length c.as_slice.result.now) c.loop-offer.yielded c.args.cache.now c.loop-offer.cache c.tell.new.cache
    c.loop-offer.told c.in-Some.offer c.in_ok-tell.field-0 c.loop-offer.invariant number c.in_ok-tell.ensures)
