-- SPDX-License-Identifier: MIT
use Rattle.std.proofs.Common.{◌≡◌, ◌+◌, ◌^◌, ◌<◌, length, drop}
use Rattle.rrc_shelf.specs.Asks.{data_text, AreNarrow}
use Rattle.rrc_shelf.proofs.text.size_of_data.Given as goal

abbrev pub invariant-loop-octets : goal.invariant-loop-octets
invariant-loop-octets l = record {
  counted : l.size + length (data_text (drop l.octets-index l.items)) ≡ length (data_text l.items);
  narrow : AreNarrow (drop l.octets-index l.items) → AreNarrow l.items;
  small : l.size < 2 ^ 64;
}
