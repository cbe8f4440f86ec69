-- SPDX-License-Identifier: MIT
-- Lists of entries that share what they have in common: each names an entry by its place in a batch of entries.
use Rattle.std.specs.Prelude.{ℕ, List, [], Option, Some, None, IsSome, Bool, false, not, ◌==◌, filter, filter_map, slice_get, slice_index_or}
use Rattle.std.specs.List.{AllByRecursion, list_any}
use Rattle.rrc_history.specs.declared.snapshot.Entry.{Entry}
use Rattle.rrc_history.specs.declared.entry_list.Place.{Place}

-- the entry at a place of the batches, if there is one
abbrev pub entry_in : List (List Entry) → Place → Option Entry
entry_in batches place = slice_get (slice_index_or batches place.batch []) place.place

-- the entries at places, in their order
abbrev pub entries_at : List (List Entry) → List Place → List Entry
entries_at batches places = filter_map (entry_in batches) places

-- there is an entry at each of the places
abbrev pub AreFilled : List (List Entry) → List Place → Type 0
AreFilled batches places = AllByRecursion (λ place. IsSome (entry_in batches place)) places

-- an entry has one of the numbers
abbrev pub has_number : List ℕ → Entry → Bool
has_number numbers entry = list_any (λ number. number == entry.number) numbers

-- the entries that have none of the numbers, in their order
abbrev pub without : List ℕ → List Entry → List Entry
without numbers entries = filter (λ entry. not (has_number numbers entry)) entries

-- there is an entry, and it has none of the numbers
abbrev pub stays : List ℕ → Option Entry → Bool
stays numbers None = false
stays numbers (Some entry) = not (has_number numbers entry)

-- the places whose entries have none of the numbers, in their order
abbrev pub places_staying : List ℕ → List (List Entry) → List Place → List Place
places_staying numbers batches places = filter (λ place. stays numbers (entry_in batches place)) places
