-- SPDX-License-Identifier: MIT
-- as many keys went as there were turns, each while there were more octets than the limit
use Rattle.rrc_share.proofs.Trimming.{HasEvicted}
use Rattle.rrc_share.proofs.trim.evict.Given as goal

abbrev pub invariant-loop-removed : goal.invariant-loop-removed
invariant-loop-removed l = HasEvicted l.tag l.moment l.limit l.removed l.fn.shelf l.shelf
