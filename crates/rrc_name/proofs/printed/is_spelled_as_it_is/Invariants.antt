-- SPDX-License-Identifier: MIT
-- the octets so far spell themselves
use Rattle.std.proofs.Common.{◌≡◌, take}
use Rattle.std.specs.List.{flat_map}
use Rattle.rrc_name.specs.Text.{spelling_of}
use Rattle.rrc_name.proofs.printed.is_spelled_as_it_is.Given as goal

abbrev pub invariant-loop-octet : goal.invariant-loop-octet
invariant-loop-octet l = flat_map spelling_of (take l.octet-index l.label) ≡ take l.octet-index l.label
