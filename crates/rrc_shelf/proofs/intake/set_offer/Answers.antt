-- SPDX-License-Identifier: MIT
use Rattle.std.proofs.Common.{◌≡◌, ℕ, List, true, sym, ap, ◌∙◌, inr}
use Rattle.rrc_name.specs.Key.{KeyOf}
use Rattle.rrc_name.specs.Wire.{folded}
use Rattle.rrc_name.specs.declared.slot.Slot.TheVariants.{Set}
use Rattle.rrc_wire.specs.Layout.{is_kept}
use Rattle.rrc_shelf.specs.Asks.{data_text}
use Rattle.rrc_shelf.specs.Refusals.{AreData, IsTrust}
use Rattle.rrc_shelf.specs.Checks.{number_of}
use Rattle.rrc_shelf.proofs.SetFits.{on_ok, some_where_fit, life_where_fit, lacks_where_unfit}
use Rattle.rrc_shelf.proofs.Taking.{map_err}
use Rattle.rrc_shelf.proofs.intake.set_offer.Goals as goal

-- the key of a set
abbrev set_key : List ℕ → ℕ → ℕ → KeyOf
set_key name rtype class = record { name = folded name; class = class; slot = Set rtype }

pub returns-clause-fit : goal.returns-clause-fit
returns-clause-fit c =
    let trusted : IsTrust c.args.set.now.trust = c.in_ok-check_trust.ensures.fit in
    let type_kept : is_kept c.args.set.now.rtype c.args.set.now.rclass ≡ true = sym c.is_kept.ensures ∙ c.if-not-is_kept.false in
    let stand = ap data_text c.in_ok-new.ensures.ok ∙ c.in_ok-rdata_in.ensures.stand in
    on_ok c.offer_of.result _ _
    (λ fit. (
      trusted,
      (
        type_kept,
        (
          tt,
          (
            c.in_ok-owner.ensures.wire_form,
            (
              record { items = _; stand = c.in_ok-rdata_in.ensures.stand; plain = c.in_ok-rdata_in.ensures.plain },
              (
                some_where_fit c.in_ok-key.key c.trust_of.result c.args.set.now.ttl c.owner.inside.wire c.in_ok-new.field-0 c.args.octets.now stand fit,
                (life_where_fit c.in_ok-key.key c.trust_of.result c.args.set.now.ttl c.owner.inside.wire c.in_ok-new.field-0 c.args.octets.now stand fit, tt),
              ),
            ),
          ),
        ),
      ),
    ))
    c.offer_of.ensures.fit

pub returns-clause-refused : goal.returns-clause-refused
returns-clause-refused c =
    let trusted : IsTrust c.args.set.now.trust = c.in_ok-check_trust.ensures.fit in
    let type_kept : is_kept c.args.set.now.rtype c.args.set.now.rclass ≡ true = sym c.is_kept.ensures ∙ c.if-not-is_kept.false in
    let stand = ap data_text c.in_ok-new.ensures.ok ∙ c.in_ok-rdata_in.ensures.stand in
    let are : AreData c.args.set.now.rtype c.args.octets.now = record { items = _; stand = c.in_ok-rdata_in.ensures.stand; plain = c.in_ok-rdata_in.ensures.plain } in
    map_err c.offer_of.result _ _
    (λ status why. inr (
      trusted,
      inr (
        type_kept,
        inr (
          tt,
          inr (
            c.in_ok-owner.ensures.wire_form,
            inr (
              are,
              lacks_where_unfit c.in_ok-key.key c.trust_of.result c.args.set.now.ttl c.owner.inside.wire c.in_ok-new.field-0 c.args.octets.now stand c.args.set.now.rtype c.args.set.now.rclass (number_of status)
                  (c.in_ok-key.ensures ∙ ap (λ name. set_key name c.args.set.now.rtype c.args.set.now.rclass) (sym c.owner.view_is)) why,
            ),
          ),
        ),
      ),
    ))
    c.offer_of.ensures.refused
