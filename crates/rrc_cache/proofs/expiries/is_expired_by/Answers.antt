-- SPDX-License-Identifier: MIT
use Rattle.std.proofs.Common.{rules}
use Rattle.rrc_cache.proofs.expiries.is_expired_by.Goals as goal

pub returns-in-Some : goal.returns-in-Some
returns-in-Some c = search rules fits 100
