-- SPDX-License-Identifier: MIT
use Rattle.std.proofs.Common.{rules, ◌≡◌, None, sym, subst, inr}
use Rattle.std.specs.Prelude.{◌⊎◌, IfNone}
use Rattle.rrc_shelf.specs.Readings.{IsOtherAtLast, ResponseRefused}
use Rattle.rrc_c.proofs.reading_calls.rrc_read_response.Goals as goal

pub returns-in-Err-clause-due : goal.returns-in-Err-clause-due
returns-in-Err-clause-due c =
    let none : c.args.offers.now.seal.reading ≡ None = search rules in
    let refused = subst (ResponseRefused c.args.octets.now c.args.zone.now c.args.name.now c.args.terms.now) (sym c.number.ensures.value) c.in-Err.ensures.refused in
    let other = (c.number.result ≡ 20) × IsOtherAtLast c.args.octets.now c.args.zone.now c.args.name.now c.args.terms.now in
    subst (λ reading. IfNone reading ((c.number.result ≡ 0) ⊎ (other ⊎ ResponseRefused c.args.octets.now c.args.zone.now c.args.name.now c.args.terms.now c.number.result))) (sym none) (inr (inr refused))
