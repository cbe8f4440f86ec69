-- SPDX-License-Identifier: MIT
use Rattle.std.proofs.Common.{◌≡◌}
use Rattle.rrc_name.specs.KeyRef.{key_of}
use Rattle.rrc_history.specs.Past.{entry_at}
use Rattle.rrc_history.proofs.past.entry_at.Given as goal

abbrev pub invariant-loop-entry : goal.invariant-loop-entry
invariant-loop-entry l = entry_at (key_of l.key) l.entry-iterator ≡ entry_at (key_of l.key) l.entries
