-- SPDX-License-Identifier: MIT
use Rattle.std.proofs.Common.{rules}
use Rattle.rrc_text.proofs.write.reply.put_class.Goals as goal

pub returns-else-class-ne-IN : goal.returns-else-class-ne-IN
returns-else-class-ne-IN g c = search rules fits 100
