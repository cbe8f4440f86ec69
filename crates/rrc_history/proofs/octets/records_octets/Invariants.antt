-- SPDX-License-Identifier: MIT
use Rattle.std.proofs.Common.{◌≡◌, ◌^◌, ◌%◌, ◌+◌, drop}
use Rattle.rrc_history.specs.Octets.{records_octets}
use Rattle.rrc_history.proofs.octets.records_octets.Given as goal

abbrev pub invariant-loop-rdata : goal.invariant-loop-rdata
invariant-loop-rdata l = (l.octets + records_octets (drop l.rdata-index l.records)) % 2 ^ 64 ≡ records_octets l.records % 2 ^ 64
