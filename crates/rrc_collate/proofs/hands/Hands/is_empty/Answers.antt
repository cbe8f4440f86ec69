-- SPDX-License-Identifier: MIT
use Rattle.std.proofs.Common.{ap, sym, refl, ◌∙◌, arith}
use Rattle.std.proofs.lemmas.Bool.{false≢true}
use Rattle.rrc_collate.proofs.HandLemmas.{shown, empty_here, not_empty_here, all_empty}
use Rattle.rrc_collate.proofs.hands.Hands.is_empty.Goals as goal

pub returns-then-not-is_nothing : goal.returns-then-not-is_nothing
returns-then-not-is_nothing c =
    let is = ap (shown (λ hand. hand.items) (λ event. event.now)) c.deref-hand-items.ensures.value ∙ c.self.view_is in (
      λ impossible. absurd (false≢true impossible),
      λ empty. absurd (not_empty_here (λ hand. hand.items) (λ event. event.now) c.deref-hand-items.result.now c.args.self.now c.loop-hand.hand-index c.hand-item.result
          is c.loop-hand-test.true c.hand-item.is (λ none. false≢true (sym c.if-not-is_nothing.true ∙ c.is_nothing.ensures.1 none)) empty),
    )

pub loop-hand-preserved : goal.loop-hand-preserved
loop-hand-preserved c =
    let is = ap (shown (λ hand. hand.items) (λ event. event.now)) c.deref-hand-items.ensures.value ∙ c.self.view_is in
    empty_here (λ hand. hand.items) (λ event. event.now) c.deref-hand-items.result.now c.args.self.now c.loop-hand.hand-index c.hand-item.result
    is c.loop-hand-test.true c.hand-item.is (c.is_nothing.ensures.0 c.if-not-is_nothing.false) c.loop-hand.invariant

pub returns : goal.returns
returns c =
    let is = ap (shown (λ hand. hand.items) (λ event. event.now)) c.deref-hand-items.ensures.value ∙ c.self.view_is in (
      λ _. all_empty (λ hand. hand.items) (λ event. event.now) c.deref-hand-items.result.now c.args.self.now c.loop-hand.hand-index
          is (omega (arith, c.loop-hand-test.false)) c.loop-hand.invariant,
      λ _. refl,
    )
