-- SPDX-License-Identifier: MIT
-- the offers so far stand behind the operations that there were
use Rattle.std.proofs.Common.{◌≡◌, ◌++◌, map}
use Rattle.rrc_script.specs.Scripts.{offering}
use Rattle.rrc_script.proofs.operations.add_offers.Given as goal

abbrev pub invariant-loop-offer : goal.invariant-loop-offer
invariant-loop-offer l = l.operations.items ≡ l.initial.operations.items ++ map (offering l.config.parts) l.yielded
