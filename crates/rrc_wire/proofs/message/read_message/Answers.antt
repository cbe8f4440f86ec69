-- SPDX-License-Identifier: MIT
use Rattle.rrc_wire.proofs.Laws.{given-ok, given-err}
use Rattle.rrc_wire.proofs.message.read_message.Goals as goal

pub returns-clause-ok : goal.returns-clause-ok
returns-clause-ok c = given-ok c.args.octets.now c.read_whole.result c.read_whole.ensures

pub returns-clause-err : goal.returns-clause-err
returns-clause-err c = given-err c.args.octets.now c.read_whole.result c.read_whole.ensures
