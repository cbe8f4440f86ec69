-- SPDX-License-Identifier: MIT
-- Rechecks: why a history was not found legal.
use Rattle.std.specs.Prelude.{List}
use Rattle.rrc_history.specs.declared.event.Event.{Event}
use Rattle.rrc_history.specs.declared.snapshot.Snapshot.{Snapshot}
use Rattle.rrc_history.specs.Audits.{IsFirstBad}
use Rattle.rrc_cache.specs.declared.rechecks.RecheckFault.{RecheckFault}
use Rattle.rrc_cache.specs.declared.rechecks.RecheckFault.TheVariants.{FirstBad, Memory}

-- the first event that is not right stands at the place that was told
abbrev pub IsFault : Snapshot → List Event → RecheckFault → Type 0
IsFault snapshot events (FirstBad bad) = IsFirstBad snapshot events bad.0
IsFault snapshot events Memory = Unit {0}
