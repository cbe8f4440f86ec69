-- SPDX-License-Identifier: MIT
use Rattle.std.proofs.Common.{◌∙◌, ap, subst, not}
use Rattle.rrc_trace.specs.Repeats.{FindsRepeats}
use Rattle.rrc_trace.proofs.RepeatLemmas.{has-same, finds-more}
use Rattle.rrc_trace.proofs.read.item.is_new.Goals as goal

pub returns-in_ok-insert-in-Some-clause-new : goal.returns-in_ok-insert-in-Some-clause-new
returns-in_ok-insert-in-Some-clause-new c =
    let finds = subst (λ tree. FindsRepeats c.args.rtype tree c.args.items.now) c.in-Some.is c.requires in
    c.in_ok-insert-in-Some.ensures.added
    ∙ ap not (has-same c.args.rtype c.args.items.now c.args.item.now c.in-Some.tree c.in_ok-into_vec-in-Some.field-0 finds
    (c.in_ok-into_vec-in-Some.ensures ∙ c.in_ok-lowered_rdata-in-Some.ensures))

pub returns-in_ok-insert-in-Some-clause-finds : goal.returns-in_ok-insert-in-Some-clause-finds
returns-in_ok-insert-in-Some-clause-finds c =
    let finds = subst (λ tree. FindsRepeats c.args.rtype tree c.args.items.now) c.in-Some.is c.requires in
    finds-more c.args.rtype c.args.items.now c.args.item.now c.in-Some.tree c.in_ok-into_vec-in-Some.field-0 finds
    (c.in_ok-into_vec-in-Some.ensures ∙ c.in_ok-lowered_rdata-in-Some.ensures) c.insert.new.self c.in_ok-insert-in-Some.ensures.updates.0
