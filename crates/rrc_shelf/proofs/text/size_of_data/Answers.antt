-- SPDX-License-Identifier: MIT
use Rattle.std.proofs.Common.{arith}
use Rattle.rrc_shelf.proofs.Refusing.{wide_next, tellable_whole}
use Rattle.rrc_shelf.proofs.text.size_of_data.Goals as goal

pub returns-then-len-gt-MOST-clause-none : goal.returns-then-len-gt-MOST-clause-none
returns-then-len-gt-MOST-clause-none c =
    wide_next c.args.items.now c.loop-octets.octets-index c.octets-item.result _ c.loop-octets-test.true c.octets-item.is (omega (arith, c.if-len-gt-MOST.true, c.len.ensures))

pub returns-clause-some : goal.returns-clause-some
returns-clause-some c =
    let known = c.loop-octets.invariant in
    tellable_whole c.args.items.now c.loop-octets.octets-index c.loop-octets.size c.loop-octets-test.false known.counted known.narrow known.small
