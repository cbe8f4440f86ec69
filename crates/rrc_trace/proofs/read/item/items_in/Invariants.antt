-- SPDX-License-Identifier: MIT
-- the pieces that are left say, behind the items so far, what all of them say; and the tree has these items
use Rattle.rrc_trace.specs.Repeats.{FindsRepeats}
use Rattle.rrc_trace.proofs.ItemLemmas.{IsRead}
use Rattle.rrc_trace.proofs.read.item.items_in.Given as goal

abbrev pub invariant-loop-seen : goal.invariant-loop-seen
invariant-loop-seen l = IsRead l.rtype l.field l.items l._seen l.rest × FindsRepeats l.rtype l.tree l.items
