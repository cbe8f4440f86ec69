-- SPDX-License-Identifier: MIT
-- A name is read where one stands, and only there.
use Rattle.std.proofs.Common.{◌≡◌, ℕ, zero, suc, ◌+◌, ◌-◌, ◌<◌, ◌≤◌, List, [], ◌∷◌, ◌++◌, length, Option, Some, None, Result, Ok, Err, refl, sym, ap, subst, ◌∙◌, arith, append_assoc, length-append, unwrap_or, slice_index}
use Rattle.std.specs.Prelude.{slice_range}
use Rattle.std.proofs.lemmas.Bool.Decides.{nat_tests}
use Rattle.rrc_name.specs.Wire.{wire_of}
use Rattle.rrc_wire.specs.declared.fault.WireFault.{WireFault}
use Rattle.rrc_wire.specs.declared.fault.WireFault.TheVariants.{Short}
use Rattle.rrc_wire.specs.Item.{ItemOf, End, Label, Pointer, RunOf, item_at, to_end}
use Rattle.rrc_wire.specs.Name.{name_from, name_at}
use Rattle.rrc_wire.specs.Grammar.{NameAt, root, label, pointer, StandsAt}
use Rattle.rrc_wire.proofs.Items.{LabelStands, PointerStands, item_at-End, item_at-Label, item_at-Pointer, slice_range-label, length-slice_range}
use Rattle.rrc_wire.proofs.Steps.{ok_is}
use Rattle.rrc_wire.proofs.NameLoop.{name_from-End, name_from-Label, name_from-Pointer}

-- behind the labels before it, the rest of a name was found at a place
pub record Found (message : List ℕ) (run : RunOf) (before : List ℕ) (behind : Option ℕ) (place : ℕ) (name : List ℕ) (next : ℕ) : Type 0 where
  pub labels : List (List ℕ)
  pub follows : ℕ
  pub labels_stand : NameAt message run.end run.start place labels follows
  pub octets : before ++ wire_of labels ≡ name
  pub next_is : next ≡ unwrap_or behind follows
  pub short : length name ≤ 255

abbrev Finds : ℕ → Type 0
Finds items = (message : List ℕ) (run : RunOf) (before : List ℕ) (behind : Option ℕ) (place : ℕ) (name : List ℕ) (next : ℕ) → run.end ≤ length message → length before ≤ 254
    → name_from items message run before behind place ≡ Ok (name, next) → Found message run before behind place name next

after_item : (items : ℕ) → Finds items → (message : List ℕ) (run : RunOf) (before : List ℕ) (behind : Option ℕ) (place : ℕ) (name : List ℕ) (next : ℕ) → run.end ≤ length message → length before ≤ 254
    → (item : Result ItemOf WireFault) → item_at message run (length before) place ≡ item
    → name_from (suc items) message run before behind place ≡ Ok (name, next) → Found message run before behind place name next
after_item items rest message run before behind place name next within room (Err fault) is h = absurd (cc (rw (is, name_from) at h))
after_item items rest message run before behind place name next within room (Ok End) is h =
    let stands = item_at-End message run (length before) place is in
    let made : List ℕ × ℕ = (before ++ 0 ∷ [], unwrap_or behind (place + 1)) in
    let wanted : List ℕ × ℕ = (name, next) in
    let read : made ≡ wanted = ok_is made wanted (rw (is, name_from) at h) in
    let octets : before ++ 0 ∷ [] ≡ name = ap (λ (p : List ℕ × ℕ). p.0) read in
    record {
      labels = [];
      follows = place + 1;
      labels_stand = root stands.within stands.zero_octet refl;
      octets = octets;
      next_is = sym (ap (λ (p : List ℕ × ℕ). p.1) read);
      short = omega (arith, ap length octets, length-append before (0 ∷ []));
    }
after_item items rest message run before behind place name next within room (Ok (Label octets)) is h =
    let stands = item_at-Label message run (length before) place octets is in
    let end = place + 1 + octets in
    let first = slice_range message (place + 1) end in
    let size : length first ≡ octets = omega (arith, length-slice_range message (place + 1) end (omega arith) (omega (arith, stands.within))) in
    let part : slice_range message place end ≡ length first ∷ first = slice_range-label message place octets stands.length_octet (omega (arith, stands.within)) ∙ ap (λ n. n ∷ first) (sym size) in
    let found = rest message run (before ++ slice_range message place end) behind end name next within
    (omega (arith, stands.room, ap length part, length-append before (slice_range message place end))) (rw (is, name_from) at h) in
    record {
      labels = first ∷ found.labels;
      follows = found.follows;
      labels_stand = label (stands.length_octet ∙ sym size) (omega (arith, stands.some)) (omega (arith, stands.few)) (ap (λ n. place + 1 + n) (sym size)) stands.within refl found.labels_stand;
      octets = sym (append_assoc before (length first ∷ first) (wire_of found.labels)) ∙ ap (λ p. (before ++ p) ++ wire_of found.labels) (sym part) ∙ found.octets;
      next_is = found.next_is;
      short = found.short;
    }
after_item items rest message run before behind place name next within room (Ok (Pointer target)) is h =
    let stands = item_at-Pointer message run (length before) place target is in
    let found = rest message (to_end message target) before (Some (unwrap_or behind (place + 2))) target name next (omega arith) room (rw (is, name_from) at h) in
    record {
      labels = found.labels;
      follows = place + 2;
      labels_stand = pointer stands.within stands.top_bits stands.target_is stands.lower refl found.labels_stand;
      octets = found.octets;
      next_is = found.next_is;
      short = found.short;
    }

pub name_from-finds : (items : ℕ) → Finds items
name_from-finds zero message run before behind place name next within room h = absurd cc
name_from-finds (suc items) message run before behind place name next within room h =
    after_item items (name_from-finds items) message run before behind place name next within room (item_at message run (length before) place) refl h

-- what is read as a name stands there
pub name_at-stands : (message : List ℕ) (first : RunOf) (name : List ℕ) (next : ℕ) → first.end ≤ length message → name_at message first ≡ Ok (name, next) → StandsAt message first.end first.start name next
name_at-stands message first name next within h =
    let found = name_from-finds (first.start + 256) message first [] None first.start name next within (omega arith) h in
    record {
      labels = found.labels;
      labels_stand = subst (λ n. NameAt message first.end first.start first.start found.labels n) (sym found.next_is) found.labels_stand;
      octets = found.octets;
      short = found.short;
    }

-- the items that stand there are read
pub End-item_at : (message : List ℕ) (run : RunOf) (size place : ℕ) → place < run.end → slice_index message place ≡ 0 → item_at message run size place ≡ Ok End
End-item_at message run size place within octet = grind (arith, nat_tests)

pub Label-item_at : (message : List ℕ) (run : RunOf) (size place octets : ℕ) → LabelStands message run size place octets → item_at message run size place ≡ Ok (Label octets)
Label-item_at message run size place octets stands = grind (arith, nat_tests, stands.length_octet, stands.some, stands.few, stands.room, stands.within)

pub Pointer-item_at : (message : List ℕ) (run : RunOf) (size place target : ℕ) → PointerStands message run place target → item_at message run size place ≡ Ok (Pointer target)
Pointer-item_at message run size place target stands = grind (arith, nat_tests, stands.top_bits, stands.target_is, stands.lower, stands.within)

abbrev run_of : ℕ → ℕ → WireFault → RunOf
run_of start end past = record { start = start; end = end; past = past }

abbrev Reads : (message : List ℕ) → ℕ → ℕ → ℕ → List (List ℕ) → ℕ → Type 0
Reads message end start place labels next = (past : WireFault) (items : ℕ) (before : List ℕ) (behind : Option ℕ) → end ≤ length message → length before + length (wire_of labels) ≤ 255 → start + 256 ≤ items + length before
    → name_from items message (run_of start end past) before behind place ≡ Ok (before ++ wire_of labels, unwrap_or behind next)

wire_of-some : (labels : List (List ℕ)) → 1 ≤ length (wire_of labels)
wire_of-some [] = omega arith
wire_of-some (first ∷ labels) = omega arith

-- the rest of a name that stands is read
pub NameAt-reads : {message : List ℕ} {end start place next : ℕ} {labels : List (List ℕ)} → NameAt message end start place labels next → Reads message end start place labels next
NameAt-reads {message} {end} {start} {place} (root within octet is) past items before behind inside fits enough =
    name_from-End items message (run_of start end past) before behind place (omega arith) (End-item_at message (run_of start end past) (length before) place within octet)
    ∙ ap (λ n. Ok (before ++ 0 ∷ [], unwrap_or behind n)) (sym is)
NameAt-reads {message} {end} {start} {place} (label {behind = follows} {next = next} {first = first} {labels = labels} octet some few follows_is within part rest) past items before behind inside fits enough =
    let run = run_of start end past in
    let octets = length first in
    let front = slice_range message place (place + 1 + octets) in
    let parts : front ≡ octets ∷ first =
    slice_range-label message place octets octet (omega arith) ∙ ap (λ p. octets ∷ p) (ap (slice_range message (place + 1)) (sym follows_is) ∙ sym part) in
    let some_left = wire_of-some labels in
    let room : length before + octets + 2 ≤ 255 = omega (arith, some_left, fits, length-append first (wire_of labels)) in
    let size : length (before ++ front) ≡ length before + (octets + 1) = omega (arith, ap length parts, length-append before front) in
    let item : item_at message run (length before) place ≡ Ok (Label octets) =
    Label-item_at message run (length before) place octets (record { length_octet = octet; some = some; few = few; room = room; within = omega arith }) in
    name_from-Label items message run before behind place octets (omega arith) item
    ∙ ap (λ n. name_from (items - 1) message run (before ++ front) behind n) (sym follows_is)
    ∙ NameAt-reads rest past (items - 1) (before ++ front) behind inside (omega (arith, size, length-append first (wire_of labels))) (omega (arith, size))
    ∙ ap (λ name. Ok (name, unwrap_or behind next)) (append_assoc before front (wire_of labels) ∙ ap (λ p. before ++ (p ++ wire_of labels)) parts)
NameAt-reads {message} {end} {start} {place} (pointer {target = target} {labels = labels} within bits target_is lower is rest) past items before behind inside fits enough =
    let run = run_of start end past in
    name_from-Pointer items message run before behind place target (omega arith)
    (Pointer-item_at message run (length before) place target (record { top_bits = bits; target_is = target_is; lower = lower; within = within }))
    ∙ NameAt-reads rest Short (items - 1) before (Some (unwrap_or behind (place + 2))) (omega arith) fits (omega arith)
    ∙ ap (λ n. Ok (before ++ wire_of labels, unwrap_or behind n)) (sym is)

-- a name that stands is read
pub StandsAt-reads : (message : List ℕ) (end place next : ℕ) (name : List ℕ) (past : WireFault) → end ≤ length message → StandsAt message end place name next
    → name_at message (run_of place end past) ≡ Ok (name, next)
StandsAt-reads message end place next name past inside stands =
    NameAt-reads stands.labels_stand past (place + 256) [] None inside (omega (arith, ap length stands.octets, stands.short)) (omega arith)
    ∙ ap (λ octets. Ok (octets, next)) stands.octets
