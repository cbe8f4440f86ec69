-- SPDX-License-Identifier: MIT
use Rattle.std.proofs.Common.{arith}
use Rattle.rrc_name.proofs.LabelOrder.{length-labels_of}
use Rattle.rrc_name.proofs.order.label_count.Goals as goal

pub overflow_add-count : goal.overflow_add-count
overflow_add-count c = omega (arith, length-labels_of c.args.name.now c.requires)
