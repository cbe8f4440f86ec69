-- SPDX-License-Identifier: MIT
use Rattle.std.proofs.Common.{rules, ◌≤◌, [], ◌∷◌, ◌++◌, length, sym, ap, subst, ◌∙◌, inl, inr}
use Rattle.std.specs.List.{AllByRecursion}
use Rattle.rrc_wire.specs.Plain.{IsPlain}
use Rattle.rrc_shelf.specs.Checks.{memory, number_of, unless, Refuses}
use Rattle.rrc_shelf.specs.Refusals.{AreData}
use Rattle.rrc_shelf.specs.Asks.{datum, data_text}
use Rattle.rrc_shelf.specs.declared.status.Status.TheVariants.{BadData}
use Rattle.rrc_shelf.proofs.Data.{cut_off, datum_refused, no_datum}
use Rattle.rrc_shelf.proofs.Filling.{moved}
use Rattle.rrc_shelf.proofs.Refusing.{all_more, on_err}
use Rattle.rrc_shelf.proofs.intake.items_in.Goals as goal

pub loop-rest-preserved : goal.loop-rest-preserved
loop-rest-preserved c =
    let item = c.in_ok-data_in.field-0 in
    let behind = c.in_ok-datum.behind.now in
    let plain = all_more (IsPlain c.args.rtype) c.loop-rest.items item c.loop-rest.invariant.1 (subst (IsPlain c.args.rtype) (sym c.in_ok-data_in.ensures.rdata) c.in_ok-data_in.ensures.plain) in (
      moved c.loop-rest.items c.push.new.self item c.loop-rest.rest.now behind c.args.octets.now c.loop-rest.invariant.0
          (c.in_ok-datum.ensures.parts ∙ ap (λ octets. datum octets ++ behind) (sym c.in_ok-data_in.ensures.rdata)) c.in_ok-push.ensures.ok,
      subst (AllByRecursion (IsPlain c.args.rtype)) (sym c.in_ok-push.ensures.ok) plain,
    )

pub returns-in_err-datum-clause-refused : goal.returns-in_err-datum-clause-refused
returns-in_err-datum-clause-refused c =
    let rest = c.loop-rest.rest.now in
    let told = c.in_err-datum.ensures.cut_off in
    let some : 1 ≤ length c.loop-rest.rest.now = search rules in
    on_err c.from_residual.result c.in_err-datum.field-0.0 (Refuses (memory ∷ unless BadData (AreData c.args.rtype c.args.octets.now) ∷ [])) c.from_residual.ensures.1
    (inr (tt, inl (told.0, cut_off c.args.rtype c.loop-rest.items rest c.args.octets.now c.loop-rest.invariant.0 some (no_datum rest told.1))))

pub returns-in_err-data_in-clause-refused : goal.returns-in_err-data_in-clause-refused
returns-in_err-data_in-clause-refused c =
    let items = c.loop-rest.items in
    let first = c.in_ok-datum.datum.now in
    let behind = c.in_ok-datum.behind.now in
    let refusal = c.in_err-data_in.field-0.0 in
    on_err c.from_residual-in_err-data_in.result refusal (Refuses (memory ∷ unless BadData (AreData c.args.rtype c.args.octets.now) ∷ [])) c.from_residual-in_err-data_in.ensures.1
    (datum_refused c.args.rtype items first behind c.args.octets.now (number_of refusal)
    (ap (λ octets. data_text items ++ octets) (sym c.in_ok-datum.ensures.parts) ∙ c.loop-rest.invariant.0) c.in_err-data_in.ensures.refused)
