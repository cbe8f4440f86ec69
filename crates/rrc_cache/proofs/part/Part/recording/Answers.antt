-- SPDX-License-Identifier: MIT
use Rattle.rrc_cache.proofs.Begun.{begins_recorded}
use Rattle.rrc_cache.proofs.part.Part.recording.Goals as goal

pub returns-in-Ok-clause-ok : goal.returns-in-Ok-clause-ok
returns-in-Ok-clause-ok c =
    begins_recorded c.args.lean c.shut.new.self c.in-Ok.field-0-0 c.in-Ok.ensures.ok
