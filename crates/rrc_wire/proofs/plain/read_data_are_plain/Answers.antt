-- SPDX-License-Identifier: MIT
use Rattle.rrc_wire.proofs.ReadData.{reads_plain_data}
use Rattle.rrc_wire.proofs.plain.read_data_are_plain.Goals as goal

pub returns : goal.returns
returns c = reads_plain_data
