-- SPDX-License-Identifier: MIT
use Rattle.std.proofs.Common.{◌≡◌, ◌+◌, List, reverse, sym, ap, subst, ◌∙◌}
use Rattle.std.proofs.lemmas.List.{length-reverse}
use Rattle.rrc_history.specs.declared.event.Event.{Event as Image}
use Rattle.rrc_history.specs.declared.rules.Rules.{Rules}
use Rattle.rrc_history.specs.declared.snapshot.Entry.{Entry}
use Rattle.rrc_history.specs.declared.snapshot.Snapshot.{Snapshot}
use Rattle.rrc_history.specs.Past.{number_after}
use Rattle.rrc_history.specs.Sound.{AreSound}
use Rattle.rrc_cache.specs.Calls.{Leaves}
use Rattle.rrc_cache.proofs.restored.closing_after.Goals as goal

pub close-requires : goal.close-requires
close-requires c =
    let snapshot : Snapshot = c.args.snapshot.now in
    let past : List Image = reverse c.args.events.now in
    let entries : List Entry = c.in_ok-store.store.entries in
    let by_rules : AreSound c.rules.result.capacity (number_after snapshot past) entries =
    subst (λ (rules : Rules). AreSound rules.capacity (number_after snapshot past) entries) (sym c.rules.ensures.value) c.in_ok-store.ensures.ok.kept in
    let next : number_after snapshot past ≡ c.number_after-first.result = ap (λ n. snapshot.first + n) (length-reverse c.args.events.now) ∙ sym c.number_after-first.ensures in
    subst (λ n. AreSound c.rules.result.capacity n entries) next by_rules

pub returns-clause-leaves : goal.returns-clause-leaves
returns-clause-leaves c =
    subst (λ (closing : Snapshot). Leaves c.args.snapshot.now (reverse c.args.events.now) closing.entries) (sym c.in_ok-closing.ensures.ok) c.in_ok-store.ensures.ok

pub returns-clause-rules : goal.returns-clause-rules
returns-clause-rules c = ap (λ (closing : Snapshot). closing.rules) c.in_ok-closing.ensures.ok ∙ c.rules.ensures.value

pub returns-clause-first : goal.returns-clause-first
returns-clause-first c = ap (λ (closing : Snapshot). closing.first) c.in_ok-closing.ensures.ok ∙ c.number_after-first.ensures

pub returns-clause-leads : goal.returns-clause-leads
returns-clause-leads c =
    let snapshot : Snapshot = c.args.snapshot.now in
    let past : List Image = reverse c.args.events.now in
    let closing : Snapshot = c.in_ok-closing.closing in
    let rules : closing.rules ≡ snapshot.rules = ap (λ (closing : Snapshot). closing.rules) c.in_ok-closing.ensures.ok ∙ c.rules.ensures.value in
    let first : closing.first ≡ number_after snapshot past =
    ap (λ (closing : Snapshot). closing.first) c.in_ok-closing.ensures.ok ∙ (c.number_after-first.ensures ∙ sym (ap (λ n. snapshot.first + n) (length-reverse c.args.events.now))) in
    let leaves : Leaves snapshot past closing.entries = subst (λ (closing : Snapshot). Leaves snapshot past closing.entries) (sym c.in_ok-closing.ensures.ok) c.in_ok-store.ensures.ok in
    record { legal = leaves.legal; closes = record { rules = rules; first = first; contents = leaves.contents } }
