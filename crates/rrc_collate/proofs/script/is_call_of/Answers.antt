-- SPDX-License-Identifier: MIT
use Rattle.rrc_collate.specs.Calls.{call_of}
use Rattle.rrc_collate.proofs.CallLaws.{call_eq-Decides}
use Rattle.rrc_collate.proofs.script.is_call_of.Goals as goal

pub returns : goal.returns
returns c = call_eq-Decides (call_of c.args.event.now) c.args.call.now c.is_same_call.result c.is_same_call.ensures
