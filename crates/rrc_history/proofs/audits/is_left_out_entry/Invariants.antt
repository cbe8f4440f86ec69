-- SPDX-License-Identifier: MIT
use Rattle.std.proofs.Common.{◌≡◌}
use Rattle.std.specs.Prelude.{reverse}
use Rattle.std.specs.List.{list_any}
use Rattle.rrc_history.specs.declared.snapshot.Entry.{Entry}
use Rattle.rrc_history.specs.Auditing.{is_left_out}
use Rattle.rrc_history.proofs.audits.is_left_out_entry.Given as goal

abbrev pub invariant-loop-entry : goal.invariant-loop-entry
invariant-loop-entry l =
    list_any (λ (entry : Entry). is_left_out l.snapshot (reverse l.past) l.moment l.gone entry.key) l.entry-iterator
    ≡ list_any (λ (entry : Entry). is_left_out l.snapshot (reverse l.past) l.moment l.gone entry.key) l.snapshot.entries
