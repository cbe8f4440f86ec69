-- SPDX-License-Identifier: MIT
-- what is left to read, behind what was read, is all that was to read
use Rattle.std.proofs.Common.{◌≡◌, ◌-◌, length}
use Rattle.rrc_wire.specs.Reading.{times}
use Rattle.rrc_wire.specs.Data.{name_in_data}
use Rattle.rrc_wire.specs.Plain.{Fills}
use Rattle.rrc_wire.proofs.data.read_names.Given as goal

abbrev pub invariant-loop : goal.invariant-loop
invariant-loop l = record {
  unchanged : l.source ≡ l.fn.source;
  left : times (name_in_data l.fn.source l.end) (l.names - l.counter) l.before l.next ≡ times (name_in_data l.fn.source l.end) l.names l.fn.before l.place;
  fills : Fills (record { before = length l.fn.before; names = l.counter; behind = 0 }) l.before;
}
