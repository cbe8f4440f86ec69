-- SPDX-License-Identifier: MIT
use Rattle.std.proofs.Common.{arith, sym, subst, ◌≡◌, []}
use Rattle.rrc_marks.specs.Views.{IsAlone}
use Rattle.rrc_marks.specs.Ends.{last_words, IsSettled}
use Rattle.rrc_marks.proofs.Allowed.{hands_out}
use Rattle.rrc_marks.proofs.marks.Marks.into_words.Goals as goal

pub returns-clause-settled : goal.returns-clause-settled
returns-clause-settled c =
    let values = c.close_with.ensures.values in
    let is = c.pass.view_is in
    let alone = subst (λ h. IsAlone h.view) (sym is) c.requires.alone in
    let free = subst (λ h. h.view.held ≡ []) (sym is) c.requires.free in
    subst (λ h. IsSettled (last_words c.close_with.result) h.view) is (hands_out _ _ _ _ _ values.2.0 values.2.1 values.2.2 (omega arith) alone free)
