-- SPDX-License-Identifier: MIT
-- as many sweeps were made as there were turns
use Rattle.rrc_shelf.proofs.Sweeping.{HasSwept}
use Rattle.rrc_shelf.proofs.sweeps.sweep_steps.Given as goal

abbrev pub invariant-loop : goal.invariant-loop
invariant-loop l = HasSwept l.terms l.removed l.counter l.fn.shelf l.shelf
