-- SPDX-License-Identifier: MIT
-- What the calls leave of a list of entries, the key touched last first.
use Rattle.std.specs.Prelude.{◌≡◌, ℕ, List, [], ◌∷◌, Bool, false, not, ◌||◌, Option, Some, None, filter, map}
use Rattle.std.specs.List.{AllByRecursion}
use Rattle.rrc_name.specs.Key.{KeyOf, key_eq}
use Rattle.rrc_name.specs.declared.slot.Slot.TheVariants.{Set, Nx, Failed}
use Rattle.rrc_history.specs.declared.event.Outcome.{Outcome}
use Rattle.rrc_history.specs.declared.event.Outcome.TheVariants.{Kept, Cleared, LessTrusted}
use Rattle.rrc_history.specs.declared.snapshot.Entry.{Entry}
use Rattle.rrc_history.specs.Asked.{AskOf}
use Rattle.rrc_history.specs.Fits.{OfferOf}
use Rattle.rrc_history.specs.Lives.{is_fully_expired}
use Rattle.rrc_history.specs.Judged.{Found}
use Rattle.rrc_history.specs.Past.{entry_at, entry_of, key_at, is_evicted}

-- none of the entries has the key
abbrev pub LacksKey : KeyOf → List Entry → Type 0
LacksKey key entries = AllByRecursion (λ entry. key_eq key entry.key ≡ false) entries

-- no two entries have the same key
abbrev pub AreApart : List Entry → Type 0
AreApart [] = Unit {0}
AreApart (entry ∷ entries) = LacksKey entry.key entries × AreApart entries

-- the entries of the keys that stay
abbrev pub staying : (KeyOf → Bool) → List Entry → List Entry
staying out entries = filter (λ entry. not (out entry.key)) entries

-- ---- offers

-- a key goes where another takes its place, or where it is evicted
abbrev pub goes : KeyOf → Option KeyOf → KeyOf → Bool
goes key evicted other = key_eq key other || is_evicted other evicted

-- what an offer leaves of the entries
abbrev pub kept_after : Outcome → OfferOf → ℕ → Option KeyOf → List Entry → List Entry
kept_after Kept offer number evicted entries = entry_of offer number ∷ staying (goes offer.key evicted) entries
kept_after Cleared offer number evicted entries = staying (goes offer.key None) entries
kept_after LessTrusted offer number evicted entries = entries

-- ---- asks

-- what the keys of an ask hold among entries
abbrev pub found_among : List Entry → AskOf → Found
found_among entries ask = record {
  set = entry_at (key_at ask (Set ask.rtype)) entries;
  nx = entry_at (key_at ask Nx) entries;
  failed = entry_at (key_at ask (Failed ask.rtype)) entries;
}

-- the entries with that of a key in front
abbrev pub in_front : KeyOf → Option Entry → List Entry → List Entry
in_front key None entries = entries
in_front key (Some entry) entries = entry ∷ staying (goes key None) entries

-- the entries with the one that is found under a key in front
abbrev pub promoted : KeyOf → List Entry → List Entry
promoted key entries = in_front key (entry_at key entries) entries

-- what an answer leaves of the entries: the one that gave it comes to the front
abbrev pub answered_from : Option KeyOf → List Entry → List Entry
answered_from None entries = entries
answered_from (Some key) entries = promoted key entries

-- ---- sweeps

-- the entries that are not fully expired
abbrev pub living : ℕ → ℕ → List Entry → List Entry
living stale moment entries = filter (λ entry. not (is_fully_expired stale entry moment)) entries

-- the keys of the fully expired entries, as these stand
abbrev pub fully_expired_keys : ℕ → ℕ → List Entry → List KeyOf
fully_expired_keys stale moment entries = map (λ entry. entry.key) (filter (λ entry. is_fully_expired stale entry moment) entries)
