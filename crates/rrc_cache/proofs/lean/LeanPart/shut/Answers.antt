-- SPDX-License-Identifier: MIT
use Rattle.std.proofs.Common.{◌+◌, ◌<◌, ◌^◌, ap, arith, subst, sym, ◌∙◌}
use Rattle.rrc_history.specs.declared.snapshot.Snapshot.{Snapshot}
use Rattle.rrc_cache.specs.Lean.{HoldsLean, next_chapter}
use Rattle.rrc_cache.specs.Pairs.{StoreOf}
use Rattle.rrc_cache.specs.Part.{PartOf}
use Rattle.rrc_cache.proofs.Closed.{shut_done}
use Rattle.rrc_cache.proofs.lean.LeanPart.shut.Goals as goal

pub invariant_of-self-2 : goal.invariant_of-self-2
invariant_of-self-2 c =
    let part : PartOf = c.self.inside.history.part in
    let below : c.self.inside.number < 2 ^ 62 = omega (arith, c.if-self-ge-NUMBER_LIMIT.false) in
    let P : StoreOf → Type 0 = λ store. HoldsLean c.then-self-inside.result.part (c.self.inside.number + 1) c.self.inside.next c.self.inside.rules store 0 in
    subst P (sym c.close.ensures.same)
    ((shut_done c.args.self.now part c.then-self-inside.result.part c.self.inside.number c.self.inside.next c.self.inside.rules c.self.inside.store
    c.self.inside.swept_until c.in_ok-closing.closing c.self.view_is (c.then-self-inside.ensures ∙ ap (λ (closing : Snapshot). next_chapter part closing) c.deref.ensures)
    c.self.invariant below c.in_ok-closing.ensures.ok).holds)
