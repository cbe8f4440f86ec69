-- SPDX-License-Identifier: MIT
use Rattle.rrc_text.proofs.OutputLemmas.{then}
use Rattle.rrc_text.proofs.write.reply.put_reply.Goals as goal

pub returns-in-Fresh : goal.returns-in-Fresh
returns-in-Fresh g c = rw c.in-Fresh.is (then c.put_word.ensures c.put_set.ensures)

pub returns-in-Stale : goal.returns-in-Stale
returns-in-Stale g c = rw c.in-Stale.is (then c.put_word-in-Stale.ensures c.put_set-in-Stale.ensures)

pub returns-in-NoData : goal.returns-in-NoData
returns-in-NoData g c = rw c.in-NoData.is (then c.put_word-in-NoData.ensures c.put_soa.ensures)

pub returns-in-NxDomain : goal.returns-in-NxDomain
returns-in-NxDomain g c = rw c.in-NxDomain.is (then c.put_word-in-NxDomain.ensures c.put_soa-in-NxDomain.ensures)
