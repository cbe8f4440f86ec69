-- SPDX-License-Identifier: MIT
use Rattle.std.proofs.Common.{◌∙◌, subst, sym}
use Rattle.rrc_name.specs.Wire.{IsWireForm}
use Rattle.rrc_name.proofs.Spelling.{root-IsWireForm}
use Rattle.rrc_name.proofs.name.Name.root.Goals as goal

pub invariant_of-result : goal.invariant_of-result
invariant_of-result c = subst IsWireForm (sym (c.in_ok-new.ensures.ok ∙ c.in_ok-from_slice.ensures)) root-IsWireForm
