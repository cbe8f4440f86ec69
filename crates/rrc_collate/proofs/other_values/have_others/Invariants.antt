-- SPDX-License-Identifier: MIT
-- those so far have others
use Rattle.std.proofs.Common.{take}
use Rattle.std.specs.List.{All}
use Rattle.rrc_collate.specs.OtherValues.{HasOther}
use Rattle.rrc_collate.proofs.other_values.have_others.Given as goal

abbrev pub invariant-loop-valued : goal.invariant-loop-valued
invariant-loop-valued l = All (λ valued. HasOther l.present valued) (take l.valued-index l.wanted)
