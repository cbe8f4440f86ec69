-- SPDX-License-Identifier: MIT
-- The lines of a chapter, each at its place.
use Rattle.std.proofs.Common.{◌≡◌, ℕ, zero, suc, ◌+◌, ◌<◌, Some, refl, sym, ap, ◌∙◌, arith}
use Rattle.std.proofs.Common.{List, [], ◌∷◌, ◌++◌, length, map}
use Rattle.std.specs.List.{slice_get}
use Rattle.std.specs.Option.{option_map}
use Rattle.std.proofs.lemmas.Option.{slice_get-map, slice_get_within}
use Rattle.std.proofs.lemmas.List.{length-map}
use Rattle.rrc_history.specs.declared.event.Event.{Event}
use Rattle.rrc_history.specs.declared.snapshot.Entry.{Entry}
use Rattle.rrc_archive.specs.Archive.{WrittenOf, lines_of, entry_text, event_text}

-- a place within the first of two lists
in_front : {A : Type 0} (xs ys : List A) (i : ℕ) → i < length xs
    → slice_get (xs ++ ys) i ≡ slice_get xs i
in_front [] ys i within = absurd (omega arith)
in_front (x ∷ xs) ys zero within = refl
in_front (x ∷ xs) ys (suc i) within = in_front xs ys i (omega arith)

-- a place behind the first of two lists
behind_front : {A : Type 0} (xs ys : List A) (i : ℕ)
    → slice_get (xs ++ ys) (length xs + i) ≡ slice_get ys i
behind_front [] ys i = let none : 0 + i ≡ i = omega arith in ap (slice_get ys) none
behind_front (x ∷ xs) ys i =
    let next : length (x ∷ xs) + i ≡ suc (length xs + i) = omega arith in
    ap (slice_get (x ∷ xs ++ ys)) next ∙ behind_front xs ys i

-- an entry stands behind the head, at its place
pub entry_line : (written : WrittenOf) (place behind : ℕ) (entry : Entry) → place ≡ suc behind
    → slice_get written.entries behind ≡ Some entry
    → Some (entry_text entry) ≡ slice_get (lines_of written) place
entry_line written place behind entry next is =
    let front = map entry_text written.entries in
    let count : length front ≡ length written.entries = length-map written.entries entry_text in
    let held : behind < length written.entries = slice_get_within written.entries behind entry is in
    let within : behind < length front = omega (arith, count, held) in
    let stands = in_front front (map event_text written.events) behind within in
    let told = slice_get-map entry_text written.entries behind ∙ ap (option_map entry_text) is in
    sym (ap (slice_get (lines_of written)) next ∙ stands ∙ told)

-- an event stands behind the head and the entries, at its place
pub event_line : (written : WrittenOf) (place behind at : ℕ) (event : Event) → place ≡ suc behind
    → behind ≡ length written.entries + at → slice_get written.events at ≡ Some event
    → Some (event_text event) ≡ slice_get (lines_of written) place
event_line written place behind at event next past is =
    let front = map entry_text written.entries in
    let count : length front ≡ length written.entries = length-map written.entries entry_text in
    let there : behind ≡ length front + at = omega (arith, count, past) in
    let stands = behind_front front (map event_text written.events) at in
    let told = slice_get-map event_text written.events at ∙ ap (option_map event_text) is in
    sym (ap (slice_get (lines_of written)) (next ∙ ap suc there) ∙ stands ∙ told)
