-- SPDX-License-Identifier: MIT
-- The faults of messages by their numbers.
use Rattle.std.specs.Prelude.{ℕ}
use Rattle.rrc_wire.specs.declared.fault.WireFault.{WireFault}
use Rattle.rrc_wire.specs.declared.fault.WireFault.TheVariants.{Short, ReservedLabel, BadPointer, NameTooLong, BadData, NotResponse, NotOneQuestion, TooLong, Memory}

-- the number of a fault
abbrev pub number_of : WireFault → ℕ
number_of Short = 1
number_of ReservedLabel = 2
number_of BadPointer = 3
number_of NameTooLong = 4
number_of BadData = 5
number_of NotResponse = 6
number_of NotOneQuestion = 7
number_of TooLong = 8
number_of Memory = 9
