-- SPDX-License-Identifier: MIT
-- what is left to read, behind what was read, is all that was to read
use Rattle.std.proofs.Common.{◌≡◌, ◌-◌}
use Rattle.rrc_wire.specs.Reading.{times}
use Rattle.rrc_wire.specs.Record.{record_at, section_at}
use Rattle.rrc_wire.proofs.record.read_section.Given as goal

abbrev pub invariant-loop : goal.invariant-loop
invariant-loop l = record {
  unchanged : l.source ≡ l.fn.source;
  left : times (record_at l.fn.source) (l.records - l.counter) l.kept l.next ≡ section_at l.fn.source l.records l.place;
}
