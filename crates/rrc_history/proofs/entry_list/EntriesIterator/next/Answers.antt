-- SPDX-License-Identifier: MIT
use Rattle.std.proofs.Common.{arith}
use Rattle.rrc_history.proofs.Places.{entry_more}
use Rattle.rrc_history.proofs.entry_list.EntriesIterator.next.Goals as goal

pub returns-clause-steps : goal.returns-clause-steps
returns-clause-steps c =
    entry_more c.self.inside.list.now c.args.self.now c.self.inside.passed c.entry-entry.result.now c.self.view_is (omega (arith, c.if-self-len.false, c.len.ensures)) c.entry-entry.ensures
