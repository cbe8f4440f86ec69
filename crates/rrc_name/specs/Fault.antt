-- SPDX-License-Identifier: MIT
-- The numbers of the faults of a name's text and of its wire form.
use Rattle.std.specs.Prelude.{ℕ}
use Rattle.rrc_name.specs.declared.fault.NameFault.{NameFault}
use Rattle.rrc_name.specs.declared.fault.NameFault.TheVariants.{EmptyLabel, LabelTooLong, NameTooLong, BadEscape, Memory}
use Rattle.rrc_name.specs.declared.fault.WireNameFault.{WireNameFault}
use Rattle.rrc_name.specs.declared.fault.WireNameFault.TheVariants as wire

-- the number of a fault
abbrev pub number_of : NameFault → ℕ
number_of EmptyLabel = 1
number_of LabelTooLong = 2
number_of NameTooLong = 3
number_of BadEscape = 4
number_of Memory = 5

-- the number of a fault of a wire form
abbrev pub wire_number_of : WireNameFault → ℕ
wire_number_of wire.Short = 1
wire_number_of wire.LabelTooLong = 2
wire_number_of wire.NameTooLong = 3
wire_number_of wire.LeftOver = 4
wire_number_of wire.Memory = 5
