-- SPDX-License-Identifier: MIT
use Rattle.std.proofs.Common.{rules}
use Rattle.rrc_sets.proofs.limits.Limits.new.Goals as goal

pub returns-clause-value : goal.returns-clause-value
returns-clause-value c = search rules fits 100
