-- SPDX-License-Identifier: MIT
use Rattle.std.proofs.Common.{arith}
use Rattle.rrc_archive.proofs.read.body.tell_octets.Goals as goal

pub returns : goal.returns
returns c = λ i. omega (arith, c.type_inv.octets i)
