-- SPDX-License-Identifier: MIT
-- what is left of the digits spells, behind the number so far, what all of them spell
use Rattle.std.proofs.Common.{◌≡◌, ◌≤◌, drop}
use Rattle.rrc_text.specs.Numbers.{number_behind, number_of, at_most}
use Rattle.rrc_text.proofs.read.number.number_in.Given as goal

abbrev pub invariant-loop-digit : goal.invariant-loop-digit
invariant-loop-digit l =
    (l.number ≤ l.most) × (at_most l.most (number_behind l.number (drop l.digit-index l.digits)) ≡ at_most l.most (number_of l.digits))
