-- SPDX-License-Identifier: MIT
use Rattle.std.proofs.Common.{◌<◌, subst, sym, ◌∙◌}
use Rattle.std.specs.List.{All}
use Rattle.rrc_collate.specs.declared.valued.Valued.{Valued}
use Rattle.rrc_collate.proofs.Turned.{told_below}
use Rattle.rrc_collate.proofs.turns.all_rise.Goals as goal

pub never_falls-requires : goal.never_falls-requires
never_falls-requires c =
    subst (λ found. All (λ (valued : Valued). valued.class < c.args.questions) found) (sym (c.as_slice-in-loop-whole.ensures.value ∙ c.in_ok-found.ensures))
    (told_below c.args.questions c.args.fates.now c.args.turns.now c.as_slice.result.now c.requires.numbered)
