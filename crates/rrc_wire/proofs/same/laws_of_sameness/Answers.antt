-- SPDX-License-Identifier: MIT
use Rattle.std.proofs.Common.{refl}
use Rattle.rrc_wire.specs.Plain.{is_plain}
use Rattle.rrc_wire.specs.SameRdataLaws.{same_rdata-equiv}
use Rattle.rrc_wire.proofs.PlainParts.{is_plain-Decides}
use Rattle.rrc_wire.proofs.LoweredParts.{lowered_is_plain, lowers_names}
use Rattle.rrc_wire.proofs.same.laws_of_sameness.Goals as goal

pub returns-clause-plain : goal.returns-clause-plain
returns-clause-plain c = is_plain-Decides

pub returns-clause-lowered : goal.returns-clause-lowered
returns-clause-lowered c = lowers_names

pub returns-clause-stays_plain : goal.returns-clause-stays_plain
returns-clause-stays_plain c = λ rtype octets. lowered_is_plain (is_plain rtype octets) rtype octets refl

pub returns-clause-equivalence : goal.returns-clause-equivalence
returns-clause-equivalence c = same_rdata-equiv
