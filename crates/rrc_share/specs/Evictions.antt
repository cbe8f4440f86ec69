-- SPDX-License-Identifier: MIT
-- What the steps of a trim leave of what keys hold.
use Rattle.std.specs.Prelude.{◌≡◌, ℕ, ◌+◌, ◌-◌, ◌^◌, ◌<◌, ◌≤◌, ⊤, List, [], length, take, Bool, true, false, Option}
use Rattle.rrc_name.specs.Key.{KeyOf}
use Rattle.rrc_history.specs.declared.event.Outcome.{Outcome}
use Rattle.rrc_history.specs.declared.snapshot.Entry.{Entry}
use Rattle.rrc_history.specs.Fits.{OfferOf}
use Rattle.rrc_history.specs.Lives.{LAST_MOMENT}
use Rattle.rrc_cache.specs.Part.{PartOf, next_number}
use Rattle.rrc_cache.specs.Taken.{IsTaken}
use Rattle.rrc_cache.specs.declared.refusal.Refusal.{Refusal}
use Rattle.rrc_cache.specs.declared.refusal.Refusal.TheVariants.{HistoryFull, MomentTooLarge, Memory}
use Rattle.rrc_share.specs.Shelf.{ShelfOf}
use Rattle.rrc_share.specs.Trims.{lasting, Becomes}

-- what has no time went
abbrev pub AreTheLasting : ℕ → List Entry → List Entry → Type 0
AreTheLasting stale before after = after ≡ lasting stale before

-- what an offer left of entries
abbrev pub Took : OfferOf → Outcome → List Entry → List Entry → Type 0
Took offer outcome before after = (capacity number : ℕ) × (evicted : Option KeyOf) × IsTaken capacity number offer before outcome evicted after

-- the key touched least recently went
abbrev pub AreTheOthers : List Entry → List Entry → Type 0
AreTheOthers before after = (after ≡ take (length before - 1) before) × (1 ≤ length before)

-- there was no key
abbrev pub AreNone : List Entry → List Entry → Type 0
AreNone before after = (before ≡ []) × (after ≡ before)

-- by whether a key went
abbrev pub EvictsLast : Bool → ShelfOf → ShelfOf → Type 0
EvictsLast true old new = Becomes old new AreTheOthers
EvictsLast false old new = Becomes old new AreNone

-- why a sweep at moment 0 of a part that records nothing is refused: its numbers do not go on to two
-- events, or memory
abbrev pub IsSweepRefusal : PartOf → Refusal → Type 0
IsSweepRefusal part HistoryFull = 2 ^ 62 ≤ next_number part + 1
IsSweepRefusal part MomentTooLarge = ⊥
IsSweepRefusal part Memory = ⊤

-- why a key of such a part is not evicted: never for memory
abbrev pub IsEvictRefusal : PartOf → ℕ → Refusal → Type 0
IsEvictRefusal part moment HistoryFull = 2 ^ 62 ≤ next_number part + 1
IsEvictRefusal part moment MomentTooLarge = LAST_MOMENT < moment
IsEvictRefusal part moment Memory = ⊥
