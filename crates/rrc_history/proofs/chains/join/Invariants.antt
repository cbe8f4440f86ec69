-- SPDX-License-Identifier: MIT
use Rattle.std.specs.Vec.Iter.{into_iter_items}
use Rattle.rrc_history.proofs.Joining.{IsJoined}
use Rattle.rrc_history.proofs.chains.join.Given as goal

abbrev pub invariant-loop-chapter : goal.invariant-loop-chapter
invariant-loop-chapter l = IsJoined l.fn.first (into_iter_items l.fn.behind) l.whole (into_iter_items l.chapter-iterator)
