-- SPDX-License-Identifier: MIT
-- Reading a name fails where it has a fault, and only there.
use Rattle.std.proofs.Common.{◌≡◌, ℕ, zero, suc, ◌+◌, ◌-◌, ◌<◌, ◌≤◌, List, [], ◌++◌, length, Option, Some, None, Result, Ok, Err, refl, ap, subst, ◌∙◌, arith, length-append, unwrap_or, slice_index, nat_lt, nat_le, eqb, cond}
use Rattle.std.specs.Prelude.{slice_range}
use Rattle.std.proofs.lemmas.Bool.Decides.{nat_tests}
use Rattle.rrc_wire.specs.declared.fault.WireFault.{WireFault}
use Rattle.rrc_wire.specs.declared.fault.WireFault.TheVariants.{ReservedLabel, BadPointer, NameTooLong}
use Rattle.rrc_wire.specs.Item.{ItemOf, End, Label, Pointer, RunOf, label_at, pointer_at, item_at, to_end, target_at}
use Rattle.rrc_wire.specs.Name.{name_from, name_at}
use Rattle.rrc_wire.specs.FirstFault.{BeginsLabel, BeginsPointer, NameFails, NameFailsAt}
use Rattle.rrc_wire.proofs.Items.{item_at-Label, item_at-Pointer, length-slice_range}
use Rattle.rrc_wire.proofs.Steps.{true_le, false_lt}
use Rattle.rrc_wire.proofs.NameLoop.{name_from-Err, name_from-Label, name_from-Pointer}
use Rattle.rrc_wire.proofs.NameGrammar.{Label-item_at, Pointer-item_at}
use Rattle.rrc_wire.proofs.Failing.{err_is, Parts, so, not_so, cond_err, true_lt, false_le, false_eq}

-- ---- an item that is a fault is one of the name

-- what is tested of an item, behind the tests before it
abbrev whole_label : RunOf → ℕ → ℕ → Result ItemOf WireFault
whole_label run place octets = cond (nat_lt run.end (place + 1 + octets)) (Err run.past) (Ok (Label octets))

abbrev lower_target : List ℕ → RunOf → ℕ → Result ItemOf WireFault
lower_target message run place = cond (nat_lt (target_at message place) run.start) (Ok (Pointer (target_at message place))) (Err BadPointer)

abbrev no_label : List ℕ → RunOf → ℕ → ℕ → Result ItemOf WireFault
no_label message run place octet = cond (nat_lt octet 192) (Err ReservedLabel) (pointer_at message run place)

abbrev no_end : List ℕ → RunOf → ℕ → ℕ → ℕ → Result ItemOf WireFault
no_end message run size place octet = cond (nat_lt octet 64) (label_at run size place octet) (no_label message run place octet)

abbrev some_octet : List ℕ → RunOf → ℕ → ℕ → ℕ → Result ItemOf WireFault
some_octet message run size place octet = cond (eqb octet 0) (Ok End) (no_end message run size place octet)

label_at-fails : (message : List ℕ) (run : RunOf) (size place octets : ℕ) (fault : WireFault) → BeginsLabel message run place octets
    → label_at run size place octets ≡ Err fault → NameFails message run size place fault
label_at-fails message run size place octets fault begins h = long (cond_err (nat_lt 255 (size + octets + 2)) (Err NameTooLong) (whole_label run place octets) fault h)
  where
    cut : size + octets + 2 ≤ 255 → Parts (nat_lt run.end (place + 1 + octets)) (Err run.past) (Ok (Label octets)) fault → NameFails message run size place fault
    cut fits (so is e) = subst (NameFails message run size place) (err_is run.past fault e) (NameFails.label_cut_off begins fits (true_lt run.end (place + 1 + octets) is))
    cut fits (not_so is e) = absurd cc

    long : Parts (nat_lt 255 (size + octets + 2)) (Err NameTooLong) (whole_label run place octets) fault → NameFails message run size place fault
    long (so is e) = subst (NameFails message run size place) (err_is NameTooLong fault e) (NameFails.too_long begins (true_lt 255 (size + octets + 2) is))
    long (not_so is e) = cut (false_lt 255 (size + octets + 2) is) (cond_err (nat_lt run.end (place + 1 + octets)) (Err run.past) (Ok (Label octets)) fault e)

pointer_at-fails : (message : List ℕ) (run : RunOf) (size place : ℕ) (fault : WireFault) → place < run.end → 192 ≤ slice_index message place
    → pointer_at message run place ≡ Err fault → NameFails message run size place fault
pointer_at-fails message run size place fault within bits h = cut (cond_err (nat_lt run.end (place + 2)) (Err run.past) (lower_target message run place) fault h)
  where
    bad : place + 2 ≤ run.end → Parts (nat_lt (target_at message place) run.start) (Ok (Pointer (target_at message place))) (Err BadPointer) fault → NameFails message run size place fault
    bad whole (so is e) = absurd cc
    bad whole (not_so is e) =
        subst (NameFails message run size place) (err_is BadPointer fault e)
        (NameFails.bad_pointer (record { within = whole; top_bits = bits; target_is = refl }) (false_lt (target_at message place) run.start is))

    cut : Parts (nat_lt run.end (place + 2)) (Err run.past) (lower_target message run place) fault → NameFails message run size place fault
    cut (so is e) = subst (NameFails message run size place) (err_is run.past fault e) (NameFails.pointer_cut_off within bits (true_lt run.end (place + 2) is))
    cut (not_so is e) =
        bad (false_lt run.end (place + 2) is) (cond_err (nat_lt (target_at message place) run.start) (Ok (Pointer (target_at message place))) (Err BadPointer) fault e)

octet-fails : (message : List ℕ) (run : RunOf) (size place octet : ℕ) (fault : WireFault) → place < run.end → slice_index message place ≡ octet
    → some_octet message run size place octet ≡ Err fault → NameFails message run size place fault
octet-fails message run size place octet fault within at h = ends (cond_err (eqb octet 0) (Ok End) (no_end message run size place octet) fault h)
  where
    other : 64 ≤ octet → Parts (nat_lt octet 192) (Err ReservedLabel) (pointer_at message run place) fault → NameFails message run size place fault
    other high (so is e) =
        subst (NameFails message run size place) (err_is ReservedLabel fault e) (NameFails.reserved within (omega (arith, at, high)) (omega (arith, at, true_lt octet 192 is)))
    other high (not_so is e) = pointer_at-fails message run size place fault within (omega (arith, at, false_lt octet 192 is)) e

    label : (octet ≡ 0 → ⊥) → Parts (nat_lt octet 64) (label_at run size place octet) (no_label message run place octet) fault → NameFails message run size place fault
    label some (so is e) =
        label_at-fails message run size place octet fault
        (record { within = within; octets_are = at; some = omega (arith, some); few = omega (arith, true_lt octet 64 is) }) e
    label some (not_so is e) = other (false_lt octet 64 is) (cond_err (nat_lt octet 192) (Err ReservedLabel) (pointer_at message run place) fault e)

    ends : Parts (eqb octet 0) (Ok End) (no_end message run size place octet) fault → NameFails message run size place fault
    ends (so is e) = absurd cc
    ends (not_so is e) = label (false_eq octet 0 is) (cond_err (nat_lt octet 64) (label_at run size place octet) (no_label message run place octet) fault e)

item_at-fails : (message : List ℕ) (run : RunOf) (size place : ℕ) (fault : WireFault) → item_at message run size place ≡ Err fault → NameFails message run size place fault
item_at-fails message run size place fault h =
    by (cond_err (nat_le run.end place) (Err run.past) (some_octet message run size place (slice_index message place)) fault h)
  where
    by : Parts (nat_le run.end place) (Err run.past) (some_octet message run size place (slice_index message place)) fault → NameFails message run size place fault
    by (so is e) = subst (NameFails message run size place) (err_is run.past fault e) (NameFails.missing (true_le run.end place is))
    by (not_so is e) = octet-fails message run size place (slice_index message place) fault (false_le run.end place is) refl e

-- ---- a name that is not read has a fault

abbrev Fails : ℕ → Type 0
Fails items = (message : List ℕ) (run : RunOf) (before : List ℕ) (behind : Option ℕ) (place : ℕ) (fault : WireFault) → run.end ≤ length message → length before ≤ 254
    → run.start + 256 ≤ items + length before → name_from items message run before behind place ≡ Err fault → NameFails message run (length before) place fault

after_item : (items : ℕ) → Fails items → (message : List ℕ) (run : RunOf) (before : List ℕ) (behind : Option ℕ) (place : ℕ) (fault : WireFault) → run.end ≤ length message → length before ≤ 254
    → run.start + 256 ≤ suc items + length before → (item : Result ItemOf WireFault) → item_at message run (length before) place ≡ item
    → name_from (suc items) message run before behind place ≡ Err fault → NameFails message run (length before) place fault
after_item items rest message run before behind place fault inside room enough (Err other) is h =
    let read = rw (is, name_from) at h in
    let same : other ≡ fault = err_is {A = List ℕ × ℕ} other fault read in
    item_at-fails message run (length before) place fault (is ∙ ap (λ (f : WireFault). Err f) same)
after_item items rest message run before behind place fault inside room enough (Ok End) is h = absurd (cc (rw (is, name_from) at h))
after_item items rest message run before behind place fault inside room enough (Ok (Label octets)) is h =
    let stands = item_at-Label message run (length before) place octets is in
    let end = place + 1 + octets in
    let front = slice_range message place end in
    let part : length front ≡ end - place = length-slice_range message place end (omega arith) (omega (arith, stands.within)) in
    let size : length (before ++ front) ≡ length before + 1 + octets = omega (arith, part, length-append before front) in
    let found = rest message run (before ++ front) behind end fault inside (omega (arith, stands.room, size)) (omega (arith, size)) (rw (is, name_from) at h) in
    NameFails.behind_label
    (record { within = omega (arith, stands.within); octets_are = stands.length_octet; some = stands.some; few = stands.few }) stands.room stands.within
    (subst (λ n. NameFails message run n end fault) size found)
after_item items rest message run before behind place fault inside room enough (Ok (Pointer target)) is h =
    let stands = item_at-Pointer message run (length before) place target is in
    let found = rest message (to_end message target) before (Some (unwrap_or behind (place + 2))) target fault (omega arith) room (omega (arith, stands.lower)) (rw (is, name_from) at h) in
    NameFails.behind_pointer (record { within = stands.within; top_bits = stands.top_bits; target_is = stands.target_is }) stands.lower found

name_from-fails : (items : ℕ) → Fails items
name_from-fails zero message run before behind place fault inside room enough h = absurd (omega arith)
name_from-fails (suc items) message run before behind place fault inside room enough h =
    after_item items (name_from-fails items) message run before behind place fault inside room enough (item_at message run (length before) place) refl h

pub name_at-fails : (message : List ℕ) (first : RunOf) (fault : WireFault) → first.end ≤ length message → name_at message first ≡ Err fault → NameFails message first 0 first.start fault
name_at-fails message first fault inside h = name_from-fails (first.start + 256) message first [] None first.start fault inside (omega arith) (omega arith) h

pub outer-fails : (message : List ℕ) (place : ℕ) (fault : WireFault) → name_at message (to_end message place) ≡ Err fault → NameFailsAt message place fault
outer-fails message place fault h = name_at-fails message (to_end message place) fault (omega arith) h

-- ---- a name that has a fault is not read

item_at-missing : (message : List ℕ) (run : RunOf) (size place : ℕ) → run.end ≤ place → item_at message run size place ≡ Err run.past
item_at-missing message run size place past = grind (arith, nat_tests)

item_at-reserved : (message : List ℕ) (run : RunOf) (size place : ℕ) → place < run.end → 64 ≤ slice_index message place → slice_index message place < 192
    → item_at message run size place ≡ Err ReservedLabel
item_at-reserved message run size place within high low = grind (arith, nat_tests)

item_at-too_long : (message : List ℕ) (run : RunOf) (size place octets : ℕ) → BeginsLabel message run place octets → 255 < size + octets + 2
    → item_at message run size place ≡ Err NameTooLong
item_at-too_long message run size place octets begins long = grind (arith, nat_tests, begins.within, begins.octets_are, begins.some, begins.few)

item_at-label_cut_off : (message : List ℕ) (run : RunOf) (size place octets : ℕ) → BeginsLabel message run place octets → size + octets + 2 ≤ 255 → run.end < place + 1 + octets
    → item_at message run size place ≡ Err run.past
item_at-label_cut_off message run size place octets begins fits cut = grind (arith, nat_tests, begins.within, begins.octets_are, begins.some, begins.few)

item_at-pointer_cut_off : (message : List ℕ) (run : RunOf) (size place : ℕ) → place < run.end → 192 ≤ slice_index message place → run.end < place + 2
    → item_at message run size place ≡ Err run.past
item_at-pointer_cut_off message run size place within bits cut = grind (arith, nat_tests)

item_at-bad_pointer : (message : List ℕ) (run : RunOf) (size place target : ℕ) → BeginsPointer message run place target → run.start ≤ target
    → item_at message run size place ≡ Err BadPointer
item_at-bad_pointer message run size place target begins high = grind (arith, nat_tests, begins.within, begins.top_bits, begins.target_is)

abbrev Breaks : List ℕ → RunOf → ℕ → ℕ → WireFault → Type 0
Breaks message run size place fault = (items : ℕ) (before : List ℕ) (behind : Option ℕ) → run.end ≤ length message → length before ≡ size → size ≤ 254
    → run.start + 256 ≤ items + size → name_from items message run before behind place ≡ Err fault

NameFails-breaks : {message : List ℕ} {run : RunOf} {size place : ℕ} {fault : WireFault} → NameFails message run size place fault → Breaks message run size place fault
NameFails-breaks {message} (NameFails.missing {run = run} {place = place} past) items before behind inside is room enough =
    name_from-Err items message run before behind place run.past (omega arith) (item_at-missing message run (length before) place past)
NameFails-breaks {message} (NameFails.reserved {run = run} {place = place} within high low) items before behind inside is room enough =
    name_from-Err items message run before behind place ReservedLabel (omega arith) (item_at-reserved message run (length before) place within high low)
NameFails-breaks {message} (NameFails.too_long {run = run} {place = place} {octets = octets} begins long) items before behind inside is room enough =
    name_from-Err items message run before behind place NameTooLong (omega arith) (item_at-too_long message run (length before) place octets begins (omega arith))
NameFails-breaks {message} (NameFails.label_cut_off {run = run} {place = place} {octets = octets} begins fits cut) items before behind inside is room enough =
    name_from-Err items message run before behind place run.past (omega arith) (item_at-label_cut_off message run (length before) place octets begins (omega arith) cut)
NameFails-breaks {message} (NameFails.pointer_cut_off {run = run} {place = place} within bits cut) items before behind inside is room enough =
    name_from-Err items message run before behind place run.past (omega arith) (item_at-pointer_cut_off message run (length before) place within bits cut)
NameFails-breaks {message} (NameFails.bad_pointer {run = run} {place = place} {target = target} begins high) items before behind inside is room enough =
    name_from-Err items message run before behind place BadPointer (omega arith) (item_at-bad_pointer message run (length before) place target begins high)
NameFails-breaks {message} (NameFails.behind_label {run = run} {size = size} {place = place} {octets = octets} {fault = fault} begins fits whole rest) items before behind inside is room enough =
    let end = place + 1 + octets in
    let front = slice_range message place end in
    let part : length front ≡ end - place = length-slice_range message place end (omega arith) (omega arith) in
    let longer : length (before ++ front) ≡ size + 1 + octets = omega (arith, part, length-append before front) in
    let item : item_at message run (length before) place ≡ Ok (Label octets) =
    Label-item_at message run (length before) place octets (record { length_octet = begins.octets_are; some = begins.some; few = begins.few; room = omega arith; within = whole }) in
    name_from-Label items message run before behind place octets (omega arith) item
    ∙ NameFails-breaks rest (items - 1) (before ++ front) behind inside longer (omega arith) (omega arith)
NameFails-breaks {message} (NameFails.behind_pointer {run = run} {place = place} {target = target} begins lower rest) items before behind inside is room enough =
    name_from-Pointer items message run before behind place target (omega arith)
    (Pointer-item_at message run (length before) place target (record { top_bits = begins.top_bits; target_is = begins.target_is; lower = lower; within = begins.within }))
    ∙ NameFails-breaks rest (items - 1) before (Some (unwrap_or behind (place + 2))) (omega arith) is room (omega arith)

pub name_at-fault : (message : List ℕ) (first : RunOf) (fault : WireFault) → first.end ≤ length message → NameFails message first 0 first.start fault → name_at message first ≡ Err fault
name_at-fault message first fault inside bad = NameFails-breaks bad (first.start + 256) [] None inside refl (omega arith) (omega arith)

pub outer-fault : (message : List ℕ) (place : ℕ) (fault : WireFault) → NameFailsAt message place fault → name_at message (to_end message place) ≡ Err fault
outer-fault message place fault bad = name_at-fault message (to_end message place) fault (omega arith) bad
