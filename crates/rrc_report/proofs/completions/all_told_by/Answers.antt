-- SPDX-License-Identifier: MIT
use Rattle.std.proofs.Common.{◌<◌, length, Some, Bor, sym, ap, ◌∙◌, arith}
use Rattle.rrc_history.specs.declared.event.Event.{Event}
use Rattle.rrc_report.proofs.ToldSteps.{told_apart, told_off, told_on}
use Rattle.rrc_report.proofs.completions.all_told_by.Goals as goal

abbrev now : Bor Event → Event
now event = event.now

pub returns-then-told-events : goal.returns-then-told-events
returns-then-told-events c = sym (told_apart now c.args.told.now c.args.events.now c.if-told-events.true)

pub returns-in-None : goal.returns-in-None
returns-in-None c =
    let within = c.loop-place-test.true in
    let size = c.if-told-events.false in
    let also : c.loop-place.place < length c.args.events.now = omega (arith, within, size) in
    sym (told_off now c.args.told.now c.args.events.now c.loop-place.place c.index-told-place.result c.index-events-place.result within also c.index-told-place.is c.index-events-place.is
    (sym c.in_ok-told_by.ensures ∙ c.in-None.is))

pub loop-place-preserved : goal.loop-place-preserved
loop-place-preserved c =
    let within = c.loop-place-test.true in
    let size = c.if-told-events.false in
    let also : c.loop-place.place < length c.args.events.now = omega (arith, within, size) in
    told_on now c.args.told.now c.args.events.now c.loop-place.all.items c.loop-place.place c.index-told-place.result c.index-events-place.result c.in-Some.told within also
    c.index-told-place.is c.index-events-place.is c.loop-place.invariant (sym c.in_ok-told_by.ensures ∙ c.in-Some.is)
    ∙ ap Some (sym c.in_ok-push-in-Some.ensures.items)
