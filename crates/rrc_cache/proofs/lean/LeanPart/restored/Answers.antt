-- SPDX-License-Identifier: MIT
use Rattle.std.proofs.Common.{◌≡◌, ◌≤◌, ◌^◌, ℕ, ap, arith, subst, sym, ◌∙◌}
use Rattle.rrc_history.specs.declared.rules.Rules.{Rules}
use Rattle.rrc_history.specs.declared.snapshot.Snapshot.{Snapshot}
use Rattle.rrc_cache.specs.Lean.{HoldsLean, begun_with, next_chapter}
use Rattle.rrc_cache.specs.Pairs.{StoreOf}
use Rattle.rrc_cache.specs.Part.{PartOf}
use Rattle.rrc_cache.proofs.LeanKeeping.{restored_holds}
use Rattle.rrc_cache.proofs.lean.LeanPart.restored.Goals as goal

pub invariant_of-result : goal.invariant_of-result
invariant_of-result c =
    let snapshot : Snapshot = c.args.snapshot.now in
    let store : StoreOf = c.in_ok-of.field-0 in
    let part : c.then.result.part ≡ begun_with snapshot = c.then.ensures ∙ ap (λ (p : PartOf). next_chapter p snapshot) c.new-2.ensures in
    let first : c.snapshot.inside.first ≡ snapshot.first = ap (λ (s : Snapshot). s.first) c.snapshot.view_is in
    let few : snapshot.first ≤ 2 ^ 62 = omega (arith, first, c.if-snapshot-gt-NUMBER_LIMIT.false) in
    let entries : store.entries ≡ snapshot.entries = ap (λ (s : StoreOf). s.entries) c.in_ok-of.ensures.ok in
    let stale : store.stale ≡ snapshot.rules.stale = ap (λ (s : StoreOf). s.stale) c.in_ok-of.ensures.ok in
    let holds : HoldsLean (begun_with snapshot) 2 snapshot.first snapshot.rules store 0 = restored_holds snapshot store entries stale few c.in_ok-of.ensures.sound in
    let P : PartOf → Type 0 = λ p. HoldsLean p 2 c.snapshot.inside.first c.rules-rules.result store 0 in
    let F : ℕ → Type 0 = λ n. HoldsLean (begun_with snapshot) 2 n c.rules-rules.result store 0 in
    let R : Rules → Type 0 = λ rules. HoldsLean (begun_with snapshot) 2 snapshot.first rules store 0 in
    subst P (sym part) (subst F (sym first) (subst R (sym c.rules-rules.ensures.value) holds))
