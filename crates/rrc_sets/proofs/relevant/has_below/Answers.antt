-- SPDX-License-Identifier: MIT
use Rattle.std.proofs.Common.{rules}
use Rattle.rrc_sets.proofs.relevant.has_below.Goals as goal

pub returns-in-Some : goal.returns-in-Some
returns-in-Some c = search rules fits 100
