-- SPDX-License-Identifier: MIT
use Rattle.std.proofs.Common.{rules}
use Rattle.rrc_sets.proofs.message.offers_in.Goals as goal

pub returns-in-Ok-clause-ok : goal.returns-in-Ok-clause-ok
returns-in-Ok-clause-ok c = record { message = c.in_ok-message.message; begins = c.in_ok-message.ensures.ok; offered = c.in-Ok.ensures.ok }

pub returns-in-Ok-clause-moments : goal.returns-in-Ok-clause-moments
returns-in-Ok-clause-moments c = search rules fits 100
