-- SPDX-License-Identifier: MIT
-- Chapters that were made before keys had a class: which numbers they may have, and why events are none.
use Rattle.std.specs.Prelude.{◌≡◌, ◌⊎◌, ◌<◌, ◌≤◌, ◌^◌, ℕ, List}
use Rattle.rrc_history.specs.declared.classless.Event.{Event}
use Rattle.rrc_history.specs.declared.classless.Snapshot.{Snapshot}
use Rattle.rrc_history.specs.classless.Audits.{IsFirstBad}
use Rattle.rrc_cache.specs.declared.classless.ChapterFault.{ChapterFault}
use Rattle.rrc_cache.specs.declared.classless.ChapterFault.TheVariants.{BadNumber, NotLegal, Memory}
use Rattle.rrc_cache.specs.declared.rechecks.RecheckFault.{RecheckFault}
use Rattle.rrc_cache.specs.declared.rechecks.RecheckFault.TheVariants as recheck

-- the number of a fault
abbrev pub number_of : ChapterFault → ℕ
number_of BadNumber = 1
number_of (NotLegal place) = 2
number_of Memory = 3

-- what a recheck found
abbrev pub fault_of : RecheckFault → ChapterFault
fault_of (recheck.FirstBad bad) = NotLegal bad.0
fault_of recheck.Memory = Memory

-- a chapter that is closed may have the number
pub record IsNumber (number : ℕ) : Type 0 where
  pub some : 1 ≤ number
  pub below : number < 2 ^ 62

-- the event at the place is the first that was not right by the definitions of that time
abbrev pub IsWhyNotLegal : Snapshot → List Event → ChapterFault → Type 0
IsWhyNotLegal snapshot events BadNumber = ⊥
IsWhyNotLegal snapshot events (NotLegal place) = IsFirstBad snapshot events place
IsWhyNotLegal snapshot events Memory = Unit {0}

-- the number is none of a chapter; or it is one, and an event is not right or memory was refused
abbrev pub IsWhyNoChapter : ℕ → Snapshot → List Event → ChapterFault → Type 0
IsWhyNoChapter number snapshot events BadNumber = (number ≡ 0) ⊎ (2 ^ 62 ≤ number)
IsWhyNoChapter number snapshot events (NotLegal place) = IsNumber number × IsFirstBad snapshot events place
IsWhyNoChapter number snapshot events Memory = IsNumber number
