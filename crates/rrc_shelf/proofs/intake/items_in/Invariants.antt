-- SPDX-License-Identifier: MIT
use Rattle.std.proofs.Common.{◌≡◌, ◌++◌, length}
use Rattle.std.specs.List.{AllByRecursion}
use Rattle.rrc_wire.specs.Plain.{IsPlain}
use Rattle.rrc_shelf.specs.Asks.{data_text}
use Rattle.rrc_shelf.proofs.intake.items_in.Given as goal

abbrev pub invariant-loop-rest : goal.invariant-loop-rest
invariant-loop-rest l = (data_text l.items ++ l.rest ≡ l.octets) × AllByRecursion (IsPlain l.rtype) l.items

abbrev pub decreases-loop-rest : goal.decreases-loop-rest
decreases-loop-rest l = length l.rest
