-- SPDX-License-Identifier: MIT
use Rattle.std.proofs.Common.{sym, subst}
use Rattle.rrc_history.specs.declared.snapshot.Entry.{Entry}
use Rattle.rrc_history.specs.Fits.{OfferOf}
use Rattle.rrc_history.specs.Views.{held_in}
use Rattle.rrc_share.specs.Evictions.{Took}
use Rattle.rrc_share.specs.Shelf.{ShelfOf}
use Rattle.rrc_share.specs.Trims.{Becomes, Evicts}
use Rattle.rrc_share.proofs.Trimming.{data_went, evicts_then, failure_went, none_went}
use Rattle.rrc_share.proofs.trim.evict_recorded.Goals as goal

pub returns-in_default-clause-ok : goal.returns-in_default-clause-ok
returns-in_default-clause-ok c = none_went c.args.shelf.now.shelf c.in_default.ensures.value

pub returns-in_err-sweep_no_time-clause-evicts : goal.returns-in_err-sweep_no_time-clause-evicts
returns-in_err-sweep_no_time-clause-evicts c =
    let old : ShelfOf = c.args.shelf.now.shelf in
    let middle : ShelfOf = c.offer_no_time.new.shelf.shelf in
    let first : Evicts c.args.tag c.args.moment old middle =
    subst (λ (offer : OfferOf). Evicts c.args.tag offer.moment old middle) c.in_ok-offer.ensures c.in_ok-offer_no_time.ensures.evicts in
    evicts_then c.args.tag c.args.moment old middle c.sweep_no_time.new.shelf.shelf first (c.sweep_no_time.ensures.evicts c.args.moment)

pub returns-in_ok-sweep_no_time-clause-evicts : goal.returns-in_ok-sweep_no_time-clause-evicts
returns-in_ok-sweep_no_time-clause-evicts c =
    let old : ShelfOf = c.args.shelf.now.shelf in
    let middle : ShelfOf = c.offer_no_time.new.shelf.shelf in
    let first : Evicts c.args.tag c.args.moment old middle =
    subst (λ (offer : OfferOf). Evicts c.args.tag offer.moment old middle) c.in_ok-offer.ensures c.in_ok-offer_no_time.ensures.evicts in
    evicts_then c.args.tag c.args.moment old middle c.sweep_no_time.new.shelf.shelf first (c.sweep_no_time.ensures.evicts c.args.moment)

pub returns-in_ok-sweep_no_time-clause-ok : goal.returns-in_ok-sweep_no_time-clause-ok
returns-in_ok-sweep_no_time-clause-ok c =
    let old : ShelfOf = c.args.shelf.now.shelf in
    let middle : ShelfOf = c.offer_no_time.new.shelf.shelf in
    let entry : Entry = held_in c.in-Some.held in
    failure_went old middle c.sweep_no_time.new.shelf.shelf entry c.args.moment c.in_ok-offer_no_time.field-0 c.in-Some.ensures.value (sym c.if-not-is_data.ensures) c.requires.lasting
    c.in_ok-offer_no_time.ensures.evicts.rules
    (subst (λ (offer : OfferOf). Becomes old middle (Took offer c.in_ok-offer_no_time.field-0)) c.in_ok-offer.ensures c.in_ok-offer_no_time.ensures.ok)
    c.in_ok-sweep_no_time.ensures.ok

pub returns-else-not-is_data-clause-ok : goal.returns-else-not-is_data-clause-ok
returns-else-not-is_data-clause-ok c =
    let old : ShelfOf = c.args.shelf.now.shelf in
    let new : ShelfOf = c.offer_no_time.new.shelf.shelf in
    data_went old new (held_in c.in-Some.held) c.args.moment c.in_ok-offer_no_time.field-0 c.in-Some.ensures.value (sym c.if-not-is_data.ensures)
    (subst (λ (offer : OfferOf). Becomes old new (Took offer c.in_ok-offer_no_time.field-0)) c.in_ok-offer.ensures c.in_ok-offer_no_time.ensures.ok)
