-- SPDX-License-Identifier: MIT
use Rattle.rrc_replay.proofs.UnlawfulLemmas.{never_refused}
use Rattle.rrc_replay.proofs.unlawful.closing_of.Goals as goal

pub unreachable-requires : goal.unreachable-requires
unreachable-requires c =
    never_refused c.args.snapshot c.args.events.items c.in-Err.refused.fault c.in-BadNumber.is c.requires c.in-Err.ensures.err
