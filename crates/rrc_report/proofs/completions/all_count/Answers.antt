-- SPDX-License-Identifier: MIT
use Rattle.std.proofs.Common.{◌<◌, length, Bor, sym, ◌∙◌, arith}
use Rattle.rrc_history.specs.declared.event.Event.{Event}
use Rattle.rrc_report.proofs.ToldSteps.{count_apart, count_off, count_on}
use Rattle.rrc_report.proofs.completions.all_count.Goals as goal

abbrev now : Bor Event → Event
now event = event.now

pub returns-then-removed-events : goal.returns-then-removed-events
returns-then-removed-events c = sym (count_apart now c.args.removed.now c.args.events.now c.if-removed-events.true)

pub returns-then-not-counts : goal.returns-then-not-counts
returns-then-not-counts c =
    let within = c.loop-place-test.true in
    let size = c.if-removed-events.false in
    let also : c.loop-place.place < length c.args.events.now = omega (arith, within, size) in
    sym (count_off now c.args.removed.now c.args.events.now c.loop-place.place c.index-events-place.result within also c.index-events-place.is
    (sym c.counts.ensures ∙ c.if-not-counts.true))

pub loop-place-preserved : goal.loop-place-preserved
loop-place-preserved c =
    let within = c.loop-place-test.true in
    let size = c.if-removed-events.false in
    let also : c.loop-place.place < length c.args.events.now = omega (arith, within, size) in
    count_on now c.args.removed.now c.args.events.now c.loop-place.place c.index-events-place.result within also c.index-events-place.is
    c.loop-place.invariant (sym c.counts.ensures ∙ c.if-not-counts.false)
