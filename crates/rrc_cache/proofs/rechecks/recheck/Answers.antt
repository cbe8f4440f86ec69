-- SPDX-License-Identifier: MIT
use Rattle.rrc_cache.proofs.rechecks.recheck.Goals as goal

pub returns-clause-ok : goal.returns-clause-ok
returns-clause-ok c = c.recheck_seeded.ensures.ok

pub returns-clause-err : goal.returns-clause-err
returns-clause-err c = c.recheck_seeded.ensures.err
