-- SPDX-License-Identifier: MIT
use Rattle.std.proofs.Common.{ap}
use Rattle.rrc_text.specs.Replies.{more_items_text}
use Rattle.rrc_text.proofs.OutputLemmas.{then, front_left, less_left}
use Rattle.rrc_text.proofs.write.reply.put_items.Goals as goal

pub loop-item-preserved : goal.loop-item-preserved
loop-item-preserved g c =
    let split = ap (more_items_text) (front_left c.in-Some.others.now c.loop-item.item-index c.item-item.result c.loop-item-test.true c.item-item.is) in
    less_left c.loop-item.invariant split (then c.put_word.ensures c.put_item-in-loop-item.ensures)
