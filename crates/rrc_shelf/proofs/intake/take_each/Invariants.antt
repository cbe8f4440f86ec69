-- SPDX-License-Identifier: MIT
use Rattle.std.proofs.Common.{◌≡◌, length}
use Rattle.rrc_shelf.specs.Offers.{TakesAll, total}
use Rattle.rrc_shelf.proofs.intake.take_each.Given as goal

abbrev pub invariant-loop-offer : goal.invariant-loop-offer
invariant-loop-offer l = TakesAll l.line l.yielded l.counts l.initial.shelf l.shelf × (total l.counts ≡ length l.yielded)
