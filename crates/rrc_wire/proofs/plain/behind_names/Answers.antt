-- SPDX-License-Identifier: MIT
use Rattle.rrc_wire.proofs.FrontNames.{leaves_behind_name, leaves_fewer}
use Rattle.rrc_wire.proofs.plain.behind_names.Goals as goal

pub returns-in-None-clause-none : goal.returns-in-None-clause-none
returns-in-None-clause-none c = λ behind are.
    leaves_fewer c.args.octets.now c.args.names c.loop.counter c.loop.rest.now behind c.loop-test.true c.in-None.ensures.none c.loop.invariant are

pub loop-preserved : goal.loop-preserved
loop-preserved c =
    leaves_behind_name c.args.octets.now c.args.names c.loop.counter c.loop.rest.now c.in-Some.behind.now c.loop-test.true c.in-Some.ensures.name c.loop.invariant
