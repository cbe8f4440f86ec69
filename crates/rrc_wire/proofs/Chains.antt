-- SPDX-License-Identifier: MIT
-- A chain of pointers leads to one place, and a name goes on there as it does at the chain's first place.
use Rattle.std.proofs.Common.{length-append, ◌≡◌, ◌⊎◌, ℕ, zero, suc, ◌+◌, ◌^◌, ◌<◌, ◌≤◌, List, [], ◌∷◌, ◌++◌, length, min, slice_index, get_or, Some, Result, Ok, Err, refl, sym, subst, ◌∙◌, arith, inl, inr, below_more}
use Rattle.std.proofs.lemmas.List.{get_or_push, get_or_append_left}
use Rattle.std.proofs.lemmas.Grind.{get_or_default_zero}
use Rattle.rrc_wire.specs.declared.fault.WireFault.{WireFault}
use Rattle.rrc_wire.specs.Item.{ItemOf, End, Label, Pointer, RunOf, item_at, to_end}
use Rattle.rrc_wire.specs.Grammar.{NameAt, root, label, pointer, StandsAt}
use Rattle.rrc_wire.specs.Chain.{PointsTo, PointsNowhere, Leads, ends, points, AreEnds, LeadsToName}
use Rattle.rrc_wire.proofs.Items.{item_at-Pointer}
use Rattle.rrc_wire.proofs.NameLoop.{Goes, goes-Pointer}
use Rattle.rrc_wire.proofs.NameGrammar.{Pointer-item_at}

-- the first item of a run is a pointer exactly where one stands at its beginning
pub item-points : (message : List ℕ) (place target : ℕ) → item_at message (to_end message place) 0 place ≡ Ok (Pointer target) → PointsTo message place target
item-points message place target is =
    let stands = item_at-Pointer message (to_end message place) 0 place target is in
    record { within = stands.within; top_bits = stands.top_bits; target_is = stands.target_is; lower = stands.lower }

pub points-item : (message : List ℕ) (size place target : ℕ) → PointsTo message place target → item_at message (to_end message place) size place ≡ Ok (Pointer target)
points-item message size place target to =
    Pointer-item_at message (to_end message place) size place target (record { top_bits = to.top_bits; target_is = to.target_is; lower = to.lower; within = to.within })

pub nowhere : (message : List ℕ) (place : ℕ) (item : Result ItemOf WireFault) → item_at message (to_end message place) 0 place ≡ item → ((target : ℕ) → item ≡ Ok (Pointer target) → ⊥)
    → PointsNowhere message place
nowhere message place item is no_pointer target to = no_pointer target (sym is ∙ points-item message 0 place target to)

-- what is left to read from a chain's first place is left to read from its last
pub goes-leads : {message : List ℕ} {place last : ℕ} → Leads message place last → (first : RunOf) (before : List ℕ) (behind : ℕ) → length before ≤ 254
    → Goes message first (to_end message place) before (Some behind) place → Goes message first (to_end message last) before (Some behind) last
goes-leads (ends none) first before behind room goes = goes
goes-leads {message} {place} (points {target = target} to rest) first before behind room goes =
    goes-leads rest first before behind room (goes-Pointer message first (to_end message place) before (Some behind) place target room goes (points-item message (length before) place target to))

pub leads-below : {message : List ℕ} {place last : ℕ} → Leads message place last → last ≤ place
leads-below (ends none) = omega arith
leads-below (points to rest) = omega (arith, to.lower, leads-below rest)

-- a table with one more place
pub ends-push : (message table : List ℕ) (place end : ℕ) → length table ≡ place → AreEnds message table → Leads message place end → AreEnds message (table ++ end ∷ [])
ends-push message table place end many are leads =
    let more = table ++ end ∷ [] in
    let size : length more ≡ place + 1 = omega (arith, length-append table (end ∷ [])) in
    let below = below_more (λ (at : ℕ). Leads message at (slice_index more at)) place
    (λ at lt. subst (Leads message at) (sym (get_or_append_left table (end ∷ []) 0 at (omega arith))) (are.lead at (omega arith)))
    (subst (Leads message place) (sym (get_or_push table end 0 place many)) leads) in
    record { lead = λ at lt. below at (omega arith) }

-- a chain leads to where the table says that it does from its first pointer's target
pub leads-table : (message table : List ℕ) (place target end : ℕ) → AreEnds message table → PointsTo message place target → target < length table → end ≡ get_or table target end
    → Leads message place end
leads-table message table place target end are to lt is =
    points to (subst (Leads message target) (sym (is ∙ get_or_default_zero table target end lt)) (are.lead target lt))

-- what a pointer leads to is in the whole table
pub target-in : (message : List ℕ) (place target : ℕ) → PointsTo message place target → target < min (length message) (2 ^ 14)
target-in message place target to = omega (arith, to.within, to.target_is, to.lower)

-- whether a pointer to a lower place stands at a place
decided : (message : List ℕ) (place : ℕ) (item : Result ItemOf WireFault) → item_at message (to_end message place) 0 place ≡ item → ((target : ℕ) × PointsTo message place target) ⊎ PointsNowhere message place
decided message place (Err fault) is = inr (nowhere message place (Err fault) is (λ target h. cc))
decided message place (Ok End) is = inr (nowhere message place (Ok End) is (λ target h. cc))
decided message place (Ok (Label octets)) is = inr (nowhere message place (Ok (Label octets)) is (λ target h. cc))
decided message place (Ok (Pointer target)) is = inl (target, item-points message place target is)

after_first : (message : List ℕ) (bound place : ℕ) → place < suc bound → ((next : ℕ) → next < bound → (last : ℕ) × Leads message next last)
    → ((target : ℕ) × PointsTo message place target) ⊎ PointsNowhere message place → (last : ℕ) × Leads message place last
after_first message bound place lt rest (inr none) = (place, ends none)
after_first message bound place lt rest (inl (target, to)) =
    let next = rest target (omega (arith, to.lower)) in (next.0, points to next.1)

leads_somewhere : (message : List ℕ) (bound place : ℕ) → place < bound → (last : ℕ) × Leads message place last
leads_somewhere message zero place lt = absurd (omega arith)
leads_somewhere message (suc bound) place lt =
    after_first message bound place lt (leads_somewhere message bound) (decided message place (item_at message (to_end message place) 0 place) refl)

same_target : {message : List ℕ} {place target other : ℕ} → PointsTo message place target → PointsTo message place other → other ≡ target
same_target to also = also.target_is ∙ sym to.target_is

leads_once : {message : List ℕ} {place last other : ℕ} → Leads message place last → Leads message place other → other ≡ last
leads_once (ends none) (ends also) = refl
leads_once (ends none) (points {target = target} to rest) = absurd (none target to)
leads_once (points {target = target} to rest) (ends none) = absurd (none target to)
leads_once {message} {other = other} (points {target = target} to rest) (points {target = next} also others) =
    leads_once rest (subst (λ n. Leads message n other) (same_target to also) others)

-- the rest of a name that begins with a pointer stands at the pointer's target
record RestStands (message : List ℕ) (target : ℕ) (labels : List (List ℕ)) : Type 0 where
  pub behind : ℕ
  pub stands : NameAt message (length message) target target labels behind

rest_stands : {message : List ℕ} {run end place target next : ℕ} {labels : List (List ℕ)} → PointsTo message place target → NameAt message end run place labels next → RestStands message target labels
rest_stands to (root within octet is) = absurd (omega (arith, to.top_bits, octet))
rest_stands to (label octet some few is within part rest) = absurd (omega (arith, to.top_bits, octet, few))
rest_stands {message} to (pointer {target = other} {behind = behind} {labels = labels} within bits target_is lower is rest) =
    record { behind = behind; stands = subst (λ n. NameAt message (length message) n n labels behind) (target_is ∙ sym to.target_is) rest }

pub stands_there : {message : List ℕ} {place last : ℕ} → Leads message place last → (name : List ℕ) (next : ℕ) → StandsAt message (length message) place name next → (behind : ℕ) × StandsAt message (length message) last name behind
stands_there (ends none) name next stands = (next, stands)
stands_there (points to rest) name next stands =
    let step = rest_stands to stands.labels_stand in
    stands_there rest name step.behind (record { labels = stands.labels; labels_stand = step.stands; octets = stands.octets; short = stands.short })

pub stands_here : {message : List ℕ} {place last : ℕ} → Leads message place last → (name : List ℕ) (behind : ℕ) → StandsAt message (length message) last name behind → (next : ℕ) × StandsAt message (length message) place name next
stands_here (ends none) name behind stands = (behind, stands)
stands_here {message} {place} (points to rest) name behind stands =
    let step = stands_here rest name behind stands in (
      place + 2,
      record {
        labels = step.1.labels;
        labels_stand = pointer to.within to.top_bits to.target_is to.lower refl step.1.labels_stand;
        octets = step.1.octets;
        short = step.1.short;
      },
    )

-- each chain leads to one place, and the name there is the name at its beginning
pub leads_to_name : (message : List ℕ) (place : ℕ) → LeadsToName message place
leads_to_name message place =
    let found = leads_somewhere message (suc place) place (omega arith) in
    record {
      last = found.0;
      leads = found.1;
      only = λ other also. leads_once found.1 also;
      there = stands_there found.1;
      here = stands_here found.1;
    }
