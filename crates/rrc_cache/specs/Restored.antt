-- SPDX-License-Identifier: MIT
-- Chapters that are read again: why a snapshot and events are none.
use Rattle.std.specs.Prelude.{◌≡◌, ◌⊎◌, ◌≤◌, ◌^◌, ℕ, List}
use Rattle.rrc_history.specs.declared.event.Event.{Event}
use Rattle.rrc_history.specs.declared.snapshot.Snapshot.{Snapshot}
use Rattle.rrc_history.specs.Audits.{IsFirstBad}
use Rattle.rrc_cache.specs.Classless.{IsNumber}
use Rattle.rrc_cache.specs.declared.classless.ChapterFault.{ChapterFault}
use Rattle.rrc_cache.specs.declared.classless.ChapterFault.TheVariants.{BadNumber, NotLegal, Memory}
use Rattle.rrc_cache.specs.declared.restored.NotRestored.{NotRestored}

-- the number is none of a chapter; or it is one, and an event is not right or memory was refused
abbrev pub IsWhyNotRestored : ℕ → Snapshot → List Event → ChapterFault → Type 0
IsWhyNotRestored number snapshot events BadNumber = (number ≡ 0) ⊎ (2 ^ 62 ≤ number)
IsWhyNotRestored number snapshot events (NotLegal place) = IsNumber number × IsFirstBad snapshot events place
IsWhyNotRestored number snapshot events Memory = IsNumber number

-- a refusal hands back what it was given
abbrev pub HandsBack : Snapshot → List Event → NotRestored → Type 0
HandsBack snapshot events refused = (refused.snapshot ≡ snapshot) × (refused.events.items ≡ events)
