-- SPDX-License-Identifier: MIT
-- the items so far were put, and the others are left
use Rattle.std.proofs.Common.{drop}
use Rattle.rrc_text.specs.Replies.{items_text, more_items_text}
use Rattle.rrc_text.proofs.OutputLemmas.{Leaves}
use Rattle.rrc_text.proofs.write.reply.put_items.Given as goal

abbrev pub invariant-loop-item : goal.invariant-loop-item
invariant-loop-item g l = Leaves g.W.Write.contents l.fn.output l.output (items_text l.items) (more_items_text (drop l.item-index l.others))
