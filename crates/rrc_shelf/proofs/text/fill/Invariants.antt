-- SPDX-License-Identifier: MIT
use Rattle.std.proofs.Common.{◌≡◌, ◌++◌, length, take}
use Rattle.rrc_shelf.specs.Asks.{data_text, IsFilled}
use Rattle.rrc_shelf.proofs.text.fill.Given as goal

abbrev pub invariant-loop-octets : goal.invariant-loop-octets
invariant-loop-octets l =
    IsFilled l.fn.buffer (l.owner ++ data_text (take l.octets-index l.items)) l.buffer × (l.at ≡ length (l.owner ++ data_text (take l.octets-index l.items)))
