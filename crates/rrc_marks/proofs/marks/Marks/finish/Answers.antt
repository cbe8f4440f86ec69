-- SPDX-License-Identifier: MIT
use Rattle.std.proofs.Common.{rules, refl, arith, ap, sym, subst, ◌+◌, ◌<◌}
use Rattle.rrc_marks.specs.Views.{Holds}
use Rattle.rrc_marks.proofs.Allowed.{finish_allowed}
use Rattle.rrc_marks.proofs.Counted.{counted_finish}
use Rattle.rrc_marks.proofs.marks.Marks.finish.Goals as goal
use Rattle.rrc_marks.proofs.marks.Marks.finish.Goals.{After-store-arg-1}

-- the pass inside holds the mark
holds : (c : After-store-arg-1) → Holds c.pass.inside.seat.me.0 c.args.mark
holds c = subst (λ h. Holds h.view c.args.mark) (sym c.pass.view_is) c.requires.holds

-- so the table has a word for it
has_word : (c : After-store-arg-1) → c.args.mark + 1 < c.self.inside.table.shared.table_id.words
has_word c =
    let there = c.pass.invariant.marks c.args.mark (holds c) in
    let passes = ap (λ h. h.table.words) c.pass.view_is in
    let own = ap (λ t. t.words) c.requires.own in
    let table = ap (λ b. b.table.words) c.self.view_is in
    omega arith

pub overflow_add-mark : goal.overflow_add-mark
overflow_add-mark c = let word = has_word c in let laid_out = c.self.invariant.word_count in let limited = c.self.invariant.limited in omega arith

pub store-requires : goal.store-requires
store-requires c =
    let word = has_word c in
    let laid_out = c.self.invariant.word_count in
    let below : c.args.mark < c.self.inside.marks = omega arith in
    (search rules, word, finish_allowed _ _ _ _ _ _ (omega arith) (omega arith) (holds c))

pub invariant_of-pass : goal.invariant_of-pass
invariant_of-pass c = counted_finish _ _ _ _ _ _ c.args.mark c.store.ensures.0 c.pass.invariant (c.store.ensures.2 c.args.mark refl)
