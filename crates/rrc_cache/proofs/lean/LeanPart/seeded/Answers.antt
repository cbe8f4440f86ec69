-- SPDX-License-Identifier: MIT
use Rattle.std.proofs.Common.{ap, subst, sym}
use Rattle.rrc_cache.specs.Lean.{HoldsLean}
use Rattle.rrc_cache.specs.Pairs.{StoreOf}
use Rattle.rrc_cache.specs.Part.{PartOf}
use Rattle.rrc_cache.proofs.LeanKeeping.{empty_holds}
use Rattle.rrc_cache.proofs.lean.LeanPart.seeded.Goals as goal

pub invariant_of-result : goal.invariant_of-result
invariant_of-result c =
    let P : PartOf → Type 0 = λ part. HoldsLean part 1 0 c.args.rules c.in_ok-new.field-0 0 in
    subst P (sym c.new-3.ensures)
    (empty_holds c.args.rules c.in_ok-new.field-0 (ap (λ (store : StoreOf). store.entries) c.in_ok-new.ensures)
    (ap (λ (store : StoreOf). store.stale) c.in_ok-new.ensures))
