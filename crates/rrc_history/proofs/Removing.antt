-- SPDX-License-Identifier: MIT
-- Whether a sweep removed what it had to, and lists it in order.
use Rattle.std.specs.Prelude.{◌≡◌, ℕ, List, [], ◌∷◌, reverse, Bool, true, false, not, ◌&&◌, ◌||◌, None}
use Rattle.std.specs.Bool.{Decides}
use Rattle.std.specs.List.{AllByRecursion, list_all}
use Rattle.std.specs.List.Sorted.{IsStrictlySortedBy}
use Rattle.std.specs.declared.cmp.Ordering.{Ordering}
use Rattle.std.specs.declared.cmp.Ordering.TheVariants.{Less, Equal, Greater}
use Rattle.std.proofs.Common.{refl, sym, ap, ◌∙◌}
use Rattle.std.proofs.lemmas.Bool.{and_from, and_parts}
use Rattle.rrc_name.specs.Key.{KeyOf, key_eq, key_order}
use Rattle.rrc_name.specs.lemmas.KeyLaws.{key_eq-laws, key_eq-same, key_order-total}
use Rattle.rrc_history.specs.declared.event.Event.{Event}
use Rattle.rrc_history.specs.declared.snapshot.Snapshot.{Snapshot}
use Rattle.rrc_history.specs.Past.{held, is_among}
use Rattle.rrc_history.specs.Right.{is_swept}
use Rattle.rrc_history.specs.Auditing.{is_less, are_ordered, are_in_order, is_left_out, are_fully_expired, is_somewhere}
use Rattle.rrc_history.proofs.Candidates.{nowhere_held, passes_nowhere}

-- ---- order

less_by : (order : Ordering) → is_less order ≡ true → order ≡ Less
less_by Less h = refl
less_by Equal h = absurd cc
less_by Greater h = absurd cc

behind_further : (before key : KeyOf) (keys : List KeyOf) → key_order before key ≡ Less → AllByRecursion (λ k. key_order key k ≡ Less) keys → AllByRecursion (λ k. key_order before k ≡ Less) keys
behind_further before key [] less all = tt
behind_further before key (next ∷ keys) less all = (key_order-total.trans before key next less all.0, behind_further before key keys less all.1)

ordered_sorted : (before : KeyOf) (keys : List KeyOf) → are_ordered before keys ≡ true → AllByRecursion (λ k. key_order before k ≡ Less) keys × IsStrictlySortedBy key_order keys
unfolding IsStrictlySortedBy
ordered_sorted before [] h = (tt, tt)
ordered_sorted before (key ∷ keys) h =
    let parts = and_parts (is_less (key_order before key)) (are_ordered key keys) h in
    let less : key_order before key ≡ Less = less_by (key_order before key) parts.0 in
    let behind = ordered_sorted key keys parts.1 in
    ((less, behind_further before key keys less behind.0), behind)

sorted_ordered : (before : KeyOf) (keys : List KeyOf) → AllByRecursion (λ k. key_order before k ≡ Less) keys → IsStrictlySortedBy key_order keys → are_ordered before keys ≡ true
unfolding IsStrictlySortedBy
sorted_ordered before [] all sorted = refl
sorted_ordered before (key ∷ keys) all sorted =
    and_from (is_less (key_order before key)) (are_ordered key keys) (ap is_less all.0) (sorted_ordered key keys sorted.0 sorted.1)

pub in_order_Decides : (keys : List KeyOf) → Decides (are_in_order keys) (IsStrictlySortedBy key_order keys)
unfolding IsStrictlySortedBy
in_order_Decides [] = (λ h. tt, λ s. refl)
in_order_Decides (key ∷ keys) = (λ h. ordered_sorted key keys h, λ s. sorted_ordered key keys s.0 s.1)

-- ---- the fully expired

all_among : (test : KeyOf → Bool) (key : KeyOf) (keys : List KeyOf) → list_all test keys ≡ true → is_among key keys ≡ true → test key ≡ true
all_among test key [] all among = absurd cc
all_among test key (first ∷ keys) all among = by (all_among test key keys parts.1) (key_eq key first) refl
  where
    parts : (test first ≡ true) × (list_all test keys ≡ true)
    parts = and_parts (test first) (list_all test keys) all

    by : (is_among key keys ≡ true → test key ≡ true) → (same : Bool) → key_eq key first ≡ same → test key ≡ true
    by rest true is = ap test (key_eq-same key first is) ∙ parts.0
    by rest false is = rest (rw is at among)

or_true : (b : Bool) → (b || true) ≡ true
or_true true = refl
or_true false = refl

among_all : (test : KeyOf → Bool) (keys : List KeyOf) → ((key : KeyOf) → is_among key keys ≡ true → test key ≡ true) → list_all test keys ≡ true
among_all test [] all = refl
among_all test (first ∷ keys) all =
    let own : is_among first (first ∷ keys) ≡ true = ap (λ b. b || is_among first keys) (key_eq-laws.refl first) in
    and_from (test first) (list_all test keys) (all first own)
    (among_all test keys (λ key among. all key (ap (λ b. key_eq key first || b) among ∙ or_true (key_eq key first))))

false_by : (b : Bool) → not b ≡ true → b ≡ false
false_by true h = absurd cc
false_by false h = refl

pub expired_Decides : (snapshot : Snapshot) (events : List Event) (moment : ℕ) (gone : List KeyOf)
    → Decides (are_fully_expired snapshot (reverse events) events moment gone) ((key : KeyOf) → is_among key gone ≡ is_swept snapshot.rules.stale (held snapshot (reverse events) key) moment)
expired_Decides snapshot events moment gone = (to, from)
  where
    swept : KeyOf → Bool
    swept key = is_swept snapshot.rules.stale (held snapshot (reverse events) key) moment

    test : KeyOf → Bool
    test = is_left_out snapshot (reverse events) moment gone

    to : are_fully_expired snapshot (reverse events) events moment gone ≡ true → (key : KeyOf) → is_among key gone ≡ swept key
    to h key = by (is_among key gone) refl (swept key) refl
      where
        parts : (list_all swept gone ≡ true) × (not (is_somewhere test snapshot events) ≡ true)
        parts = and_parts (list_all swept gone) (not (is_somewhere test snapshot events)) h

        by : (among : Bool) → is_among key gone ≡ among → (dead : Bool) → swept key ≡ dead → is_among key gone ≡ swept key
        by true is dead at = is ∙ sym (all_among swept key gone parts.0 is)
        by false is false at = is ∙ sym at
        by false is true at =
            let passes : test key ≡ true = and_from (swept key) (not (is_among key gone)) at (ap not is) in
            let none : held snapshot (reverse events) key ≡ None = nowhere_held test snapshot events (false_by (is_somewhere test snapshot events) parts.1) key passes in
            let bad : false ≡ true = sym (ap (λ before. is_swept snapshot.rules.stale before moment) none) ∙ at in
            absurd cc

    from : ((key : KeyOf) → is_among key gone ≡ swept key) → are_fully_expired snapshot (reverse events) events moment gone ≡ true
    from agree =
        let none : is_somewhere test snapshot events ≡ false = passes_nowhere test snapshot events fails in
        and_from (list_all swept gone) (not (is_somewhere test snapshot events)) (among_all swept gone (λ key among. sym (agree key) ∙ among)) (ap not none)
      where
        fails : (key : KeyOf) → test key ≡ false
        fails key = ap (λ b. b && not (is_among key gone)) (sym (agree key)) ∙ never (is_among key gone)
          where
            never : (b : Bool) → (b && not b) ≡ false
            never true = refl
            never false = refl
