-- SPDX-License-Identifier: MIT
-- so many places
use Rattle.std.proofs.Common.{◌≡◌, length}
use Rattle.rrc_report.proofs.answer_table.blank_table.Given as goal

abbrev pub invariant-loop : goal.invariant-loop
invariant-loop l = length l.table.items ≡ l.counter
