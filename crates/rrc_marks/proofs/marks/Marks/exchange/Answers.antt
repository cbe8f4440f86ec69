-- SPDX-License-Identifier: MIT
use Rattle.std.proofs.Common.{rules, refl, arith, ap, subst, ◌<◌}
use Rattle.rrc_marks.specs.Told.{Exchanges}
use Rattle.rrc_marks.proofs.Allowed.{begin_allowed}
use Rattle.rrc_marks.proofs.Counted.{counted_exchange}
use Rattle.rrc_marks.proofs.marks.Marks.exchange.Goals as goal

pub overflow_add-mark : goal.overflow_add-mark
overflow_add-mark c = let marks = ap (λ b. b.marks) c.self.view_is in omega arith

pub compare_exchange-requires : goal.compare_exchange-requires
compare_exchange-requires c =
    let marks = ap (λ b. b.marks) c.self.view_is in
    let below : c.args.mark < c.self.inside.marks = omega arith in
    (search rules, omega arith, begin_allowed _ _ _ _ _ _ (omega arith) (omega arith))

pub invariant_of-pass : goal.invariant_of-pass
invariant_of-pass c =
    let passes = ap (λ h. h.table.words) c.pass.view_is in
    let own = ap (λ t. t.words) c.requires.own in
    let table = ap (λ b. b.table.words) c.self.view_is in
    let marks = ap (λ b. b.marks) c.self.view_is in
    let laid_out = c.self.invariant.word_count in
    counted_exchange _ _ _ _ _ _ c.args.mark _ c.compare_exchange.ensures.0 (omega arith) c.pass.invariant (c.compare_exchange.ensures.2 c.args.mark refl)

pub returns-clause-outcome : goal.returns-clause-outcome
returns-clause-outcome c = subst (λ h. Exchanges h.view c.args.mark c.compare_exchange.result c.compare_exchange.new.seat.me.0) c.pass.view_is (c.compare_exchange.ensures.2 c.args.mark refl).0
