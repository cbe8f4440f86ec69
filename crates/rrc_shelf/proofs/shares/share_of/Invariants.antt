-- SPDX-License-Identifier: MIT
-- those of the part among the offers so far
use Rattle.std.proofs.Common.{◌≡◌, take}
use Rattle.rrc_shelf.specs.Readings.{share_of}
use Rattle.rrc_shelf.proofs.shares.share_of.Given as goal

abbrev pub invariant-loop-one : goal.invariant-loop-one
invariant-loop-one l = l.offers.items ≡ share_of l.part (take l.one-index l.placed)
