-- SPDX-License-Identifier: MIT
-- The calls determine the history: what became of each is right in one way alone.
use Rattle.std.specs.Prelude.{◌≡◌, ℕ, ◌<◌, ◌≤◌, List, [], ◌∷◌, Bool, true, false, Option, Some, None}
use Rattle.std.specs.declared.cmp.Ordering.{Ordering}
use Rattle.std.specs.declared.cmp.Ordering.TheVariants.{Less, Equal, Greater}
use Rattle.std.specs.Ordering.{ordering_reverse, is_eq}
use Rattle.std.specs.List.{AllByRecursion}
use Rattle.std.specs.List.Sorted.{IsStrictlySortedBy}
use Rattle.std.proofs.Common.{refl, sym, ap, subst, ◌∙◌, arith}
use Rattle.rrc_name.specs.Key.{KeyOf, key_eq, key_order}
use Rattle.rrc_name.specs.lemmas.KeyLaws.{key_eq-laws, key_eq-same, key_order-ties, key_order-total}
use Rattle.rrc_history.specs.declared.event.Event.{Event}
use Rattle.rrc_history.specs.declared.event.Event.TheVariants.{Offered, Asked, Swept}
use Rattle.rrc_history.specs.declared.event.Outcome.{Outcome}
use Rattle.rrc_history.specs.declared.snapshot.Entry.{Entry}
use Rattle.rrc_history.specs.declared.snapshot.Snapshot.{Snapshot}
use Rattle.rrc_history.specs.Fits.{OfferOf}
use Rattle.rrc_history.specs.Past.{held, touch, entry_at, is_among, FallsBelow, AreContents, number_after}
use Rattle.rrc_history.specs.Right.{evicted_by, IsRightThen, IsRightOffer, IsRightAsk, IsRightSweep}
use Rattle.rrc_history.specs.WholeLaws.{IsSameCall, CallsDetermineHistory}

-- ---- contents

-- an entry among others was touched before their bound
pub found_below : (snapshot : Snapshot) (past : List Event) (number : ℕ) (entries : List Entry) (key : KeyOf) (entry : Entry) → FallsBelow snapshot past number entries
    → entry_at key entries ≡ Some entry → touch snapshot past key < number
found_below snapshot past number [] key entry falls at = absurd cc
found_below snapshot past number (first ∷ entries) key entry falls at = by (found_below snapshot past (touch snapshot past first.key) entries key entry falls.1) (key_eq key first.key) refl
  where
    by : (entry_at key entries ≡ Some entry → touch snapshot past key < touch snapshot past first.key) → (same : Bool) → key_eq key first.key ≡ same
        → touch snapshot past key < number
    by later true is = let e : touch snapshot past key ≡ touch snapshot past first.key = ap (touch snapshot past) (key_eq-same key first.key is) in omega (arith, e, falls.0)
    by later false is = let behind : entry_at key entries ≡ Some entry = rw is at at in let less = later behind in omega (arith, less, falls.0)

-- a key that was touched no earlier than their bound is not among entries
none_above : (snapshot : Snapshot) (past : List Event) (number : ℕ) (entries : List Entry) (key : KeyOf) → FallsBelow snapshot past number entries
    → number ≤ touch snapshot past key → entry_at key entries ≡ None
none_above snapshot past number [] key falls above = refl
none_above snapshot past number (first ∷ entries) key falls above =
    by (none_above snapshot past (touch snapshot past first.key) entries key falls.1 (omega (arith, falls.0, above))) (key_eq key first.key) refl
  where
    by : entry_at key entries ≡ None → (same : Bool) → key_eq key first.key ≡ same → entry_at key (first ∷ entries) ≡ None
    by none true is = let e : touch snapshot past key ≡ touch snapshot past first.key = ap (touch snapshot past) (key_eq-same key first.key is) in absurd (omega (arith, e, falls.0, above))
    by none false is = rw is none

-- an entry in front is found
pub first_found : (entry : Entry) (entries : List Entry) → entry_at entry.key (entry ∷ entries) ≡ Some entry
first_found entry entries = let same = key_eq-laws.refl entry.key in rw same refl

-- behind an entry that both lists begin with they agree
agree_behind : (snapshot : Snapshot) (past : List Event) (entry : Entry) (entries others : List Entry) → FallsBelow snapshot past (touch snapshot past entry.key) entries
    → FallsBelow snapshot past (touch snapshot past entry.key) others → ((key : KeyOf) → entry_at key (entry ∷ entries) ≡ entry_at key (entry ∷ others))
    → (key : KeyOf) → entry_at key entries ≡ entry_at key others
agree_behind snapshot past entry entries others falls other_falls agree key = by (key_eq key entry.key) refl
  where
    by : (same : Bool) → key_eq key entry.key ≡ same → entry_at key entries ≡ entry_at key others
    by true is =
        let e : touch snapshot past key ≡ touch snapshot past entry.key = ap (touch snapshot past) (key_eq-same key entry.key is) in
        none_above snapshot past (touch snapshot past entry.key) entries key falls (omega (arith, e))
        ∙ sym (none_above snapshot past (touch snapshot past entry.key) others key other_falls (omega (arith, e)))
    by false is = rw is at (agree key)

-- two lists that agree and fall begin with the same entry
same_first : (snapshot : Snapshot) (past : List Event) (entry other : Entry) (entries others : List Entry) → FallsBelow snapshot past (touch snapshot past entry.key) entries
    → FallsBelow snapshot past (touch snapshot past other.key) others → ((key : KeyOf) → entry_at key (entry ∷ entries) ≡ entry_at key (other ∷ others)) → entry ≡ other
same_first snapshot past entry other entries others falls other_falls agree = by (key_eq entry.key other.key) refl
  where
    some : {A : Type 0} {a b : A} → Some a ≡ Some b → a ≡ b
    some is = cc

    by : (same : Bool) → key_eq entry.key other.key ≡ same → entry ≡ other
    by true is =
        let there : entry_at entry.key (other ∷ others) ≡ Some other = rw is refl in
        some (sym (first_found entry entries) ∙ agree entry.key ∙ there)
    by false is =
        let mirrored : key_eq other.key entry.key ≡ false = key_eq-laws.symm other.key entry.key ∙ is in
        let there : entry_at entry.key others ≡ Some entry = rw is at (sym (agree entry.key) ∙ first_found entry entries) in
        let here : entry_at other.key entries ≡ Some other = rw mirrored at (agree other.key ∙ first_found other others) in
        let less = found_below snapshot past (touch snapshot past other.key) others entry.key entry other_falls there in
        let more = found_below snapshot past (touch snapshot past entry.key) entries other.key other falls here in
        absurd (omega (arith, less, more))

same_entries : (snapshot : Snapshot) (past : List Event) (number bound : ℕ) (entries others : List Entry) → FallsBelow snapshot past number entries → FallsBelow snapshot past bound others
    → ((key : KeyOf) → entry_at key entries ≡ entry_at key others) → entries ≡ others
same_entries snapshot past number bound [] [] falls other_falls agree = refl
same_entries snapshot past number bound [] (other ∷ others) falls other_falls agree = let no : None ≡ Some other = agree other.key ∙ first_found other others in absurd cc
same_entries snapshot past number bound (entry ∷ entries) [] falls other_falls agree = let no : Some entry ≡ None = sym (first_found entry entries) ∙ agree entry.key in absurd cc
same_entries snapshot past number bound (entry ∷ entries) (other ∷ others) falls other_falls agree =
    let first : entry ≡ other = same_first snapshot past entry other entries others falls.1 other_falls.1 agree in
    let others_fall : FallsBelow snapshot past (touch snapshot past entry.key) others = subst (λ e. FallsBelow snapshot past (touch snapshot past e.key) others) (sym first) other_falls.1 in
    let agrees : (key : KeyOf) → entry_at key (entry ∷ entries) ≡ entry_at key (entry ∷ others) = λ key. agree key ∙ ap (λ e. entry_at key (e ∷ others)) (sym first) in
    let behind : entries ≡ others =
    same_entries snapshot past (touch snapshot past entry.key) (touch snapshot past entry.key) entries others falls.1 others_fall
    (agree_behind snapshot past entry entries others falls.1 others_fall agrees) in
    ap (λ e. e ∷ entries) first ∙ ap (λ es. other ∷ es) behind

-- a past has one list of contents
pub one_contents : (snapshot : Snapshot) (past : List Event) (entries others : List Entry) → AreContents snapshot past entries → AreContents snapshot past others → entries ≡ others
one_contents snapshot past entries others are also =
    same_entries snapshot past (number_after snapshot past) (number_after snapshot past) entries others are.falling also.falling (λ key. are.agree key ∙ sym (also.agree key))

-- ---- the keys of a sweep

-- sorted keys stand behind the first, and are sorted
sorted_first : (key : KeyOf) (keys : List KeyOf) → IsStrictlySortedBy key_order (key ∷ keys) → AllByRecursion (λ k. key_order key k ≡ Less) keys
unfolding IsStrictlySortedBy
sorted_first key keys sorted = sorted.0

sorted_others : (key : KeyOf) (keys : List KeyOf) → IsStrictlySortedBy key_order (key ∷ keys) → IsStrictlySortedBy key_order keys
unfolding IsStrictlySortedBy
sorted_others key keys sorted = sorted.1

-- a key among keys that stand behind one stands behind it
behind_all : (key other : KeyOf) (keys : List KeyOf) → AllByRecursion (λ k. key_order key k ≡ Less) keys → is_among other keys ≡ true → key_order key other ≡ Less
behind_all key other [] all among = absurd cc
behind_all key other (first ∷ keys) all among = by (behind_all key other keys all.1) (key_eq other first) refl
  where
    by : (is_among other keys ≡ true → key_order key other ≡ Less) → (same : Bool) → key_eq other first ≡ same → key_order key other ≡ Less
    by later true is = ap (key_order key) (key_eq-same other first is) ∙ all.0
    by later false is = later (rw is at among)

-- keys that are ordered are not equal
ordered_apart : (key other : KeyOf) → key_order key other ≡ Less → key_eq key other ≡ false
ordered_apart key other less = key_order-ties key other ∙ ap is_eq less

-- a key in front is among its keys
first_among : (key : KeyOf) (keys : List KeyOf) → is_among key (key ∷ keys) ≡ true
first_among key keys = let same = key_eq-laws.refl key in rw same refl

-- a key that is ordered before the first of sorted keys is none of them
not_among : (key first : KeyOf) (keys : List KeyOf) → IsStrictlySortedBy key_order (first ∷ keys) → key_order key first ≡ Less → is_among key (first ∷ keys) ≡ false
not_among key first keys sorted less = by (is_among key keys) refl
  where
    apart : key_eq key first ≡ false
    apart = ordered_apart key first less

    by : (among : Bool) → is_among key keys ≡ among → is_among key (first ∷ keys) ≡ false
    by false is = rw (apart, is) refl
    by true is =
        let later : key_order first key ≡ Less = behind_all first key keys (sorted_first first keys sorted) is in
        let mirrored : key_order key first ≡ ordering_reverse (key_order first key) = key_order-total.antisymm key first in
        let bad : Less ≡ Greater = sym less ∙ (mirrored ∙ ap ordering_reverse later) in
        absurd cc

-- the first of sorted keys is not among those behind it
not_behind : (key : KeyOf) (keys : List KeyOf) → IsStrictlySortedBy key_order (key ∷ keys) → is_among key keys ≡ false
not_behind key keys sorted = by (is_among key keys) refl
  where
    by : (among : Bool) → is_among key keys ≡ among → is_among key keys ≡ false
    by false is = is
    by true is =
        let less : key_order key key ≡ Less = behind_all key key keys (sorted_first key keys sorted) is in
        let bad : true ≡ false = sym (key_eq-laws.refl key) ∙ ordered_apart key key less in absurd cc

same_first_key : (key other : KeyOf) (keys others : List KeyOf) → IsStrictlySortedBy key_order (key ∷ keys) → IsStrictlySortedBy key_order (other ∷ others)
    → ((k : KeyOf) → is_among k (key ∷ keys) ≡ is_among k (other ∷ others)) → key ≡ other
same_first_key key other keys others sorted other_sorted agree = by (key_order key other) refl
  where
    by : (order : Ordering) → key_order key other ≡ order → key ≡ other
    by Equal is = key_eq-same key other (key_order-ties key other ∙ ap is_eq is)
    by Less is = let bad : true ≡ false = sym (first_among key keys) ∙ (agree key ∙ not_among key other others other_sorted is) in absurd cc
    by Greater is =
        let less : key_order other key ≡ Less = key_order-total.antisymm other key ∙ ap ordering_reverse is in
        let bad : true ≡ false = sym (first_among other others) ∙ (sym (agree other) ∙ not_among other key keys sorted less) in absurd cc

agree_behind_key : (key : KeyOf) (keys others : List KeyOf) → IsStrictlySortedBy key_order (key ∷ keys) → IsStrictlySortedBy key_order (key ∷ others)
    → ((k : KeyOf) → is_among k (key ∷ keys) ≡ is_among k (key ∷ others)) → (k : KeyOf) → is_among k keys ≡ is_among k others
agree_behind_key key keys others sorted other_sorted agree k = by (key_eq k key) refl
  where
    by : (same : Bool) → key_eq k key ≡ same → is_among k keys ≡ is_among k others
    by true is =
        let e : k ≡ key = key_eq-same k key is in
        ap (λ x. is_among x keys) e ∙ (not_behind key keys sorted ∙ (sym (not_behind key others other_sorted) ∙ ap (λ x. is_among x others) (sym e)))
    by false is = rw is at (agree k)

same_keys : (keys others : List KeyOf) → IsStrictlySortedBy key_order keys → IsStrictlySortedBy key_order others → ((k : KeyOf) → is_among k keys ≡ is_among k others) → keys ≡ others
same_keys [] [] sorted other_sorted agree = refl
same_keys [] (other ∷ others) sorted other_sorted agree = let no : false ≡ true = agree other ∙ first_among other others in absurd cc
same_keys (key ∷ keys) [] sorted other_sorted agree = let no : true ≡ false = sym (first_among key keys) ∙ agree key in absurd cc
same_keys (key ∷ keys) (other ∷ others) sorted other_sorted agree =
    let first : key ≡ other = same_first_key key other keys others sorted other_sorted agree in
    let sorted_too : IsStrictlySortedBy key_order (key ∷ others) = subst (λ k. IsStrictlySortedBy key_order (k ∷ others)) (sym first) other_sorted in
    let agrees : (k : KeyOf) → is_among k (key ∷ keys) ≡ is_among k (key ∷ others) = λ k. agree k ∙ ap (λ f. is_among k (f ∷ others)) (sym first) in
    ap (λ k. k ∷ keys) first ∙ ap (λ ks. other ∷ ks) (same_keys keys others (sorted_others key keys sorted) (sorted_others other others other_sorted) (agree_behind_key key keys others sorted sorted_too agrees))

-- ---- events and histories

one_offer : (snapshot : Snapshot) (past : List Event) (offer : OfferOf) (outcome other : Outcome) (evicted other_evicted : Option KeyOf)
    → IsRightOffer snapshot past offer outcome evicted → IsRightOffer snapshot past offer other other_evicted → (outcome ≡ other) × (evicted ≡ other_evicted)
one_offer snapshot past offer outcome other evicted other_evicted right also =
    let same : outcome ≡ other = right.judged ∙ sym also.judged in
    let contents : right.entries ≡ also.entries = one_contents snapshot past right.entries also.entries right.contents also.contents in (
      same,
      right.evicts
          ∙ (ap (λ es. evicted_by snapshot.rules.capacity es (held snapshot past offer.key) outcome) contents
          ∙ (ap (λ o. evicted_by snapshot.rules.capacity also.entries (held snapshot past offer.key) o) same ∙ sym also.evicts)),
    )

-- what is right after a past is right in one way
pub one_event : (snapshot : Snapshot) (past : List Event) (event other : Event) → IsRightThen snapshot past event → IsRightThen snapshot past other → IsSameCall event other → event ≡ other
one_event snapshot past (Offered outcome tag offer evicted) (Offered other_outcome other_tag other other_evicted) right also same =
    let same_offer : IsRightOffer snapshot past offer other_outcome other_evicted = subst (λ o. IsRightOffer snapshot past o other_outcome other_evicted) (sym same.1) also in
    let told = one_offer snapshot past offer outcome other_outcome evicted other_evicted right same_offer in
    λ i. Offered (told.0 i) (same.0 i) (same.1 i) (told.1 i)
one_event snapshot past (Asked tag ask reply) (Asked other_tag other other_reply) right also same =
    let same_ask : IsRightAsk snapshot past ask other_reply = subst (λ a. IsRightAsk snapshot past a other_reply) (sym same.1) also in
    let told : reply ≡ other_reply = right.answered ∙ sym same_ask.answered in
    λ i. Asked (same.0 i) (same.1 i) (told i)
one_event snapshot past (Swept tag moment gone) (Swept other_tag other other_gone) right also same =
    let same_sweep : IsRightSweep snapshot past moment other_gone = subst (λ m. IsRightSweep snapshot past m other_gone) (sym same.1) also in
    let told : gone ≡ other_gone = same_keys gone other_gone right.sorted same_sweep.sorted (λ key. right.expired key ∙ sym (same_sweep.expired key)) in
    λ i. Swept (same.0 i) (same.1 i) (told i)
one_event snapshot past (Offered outcome tag offer evicted) (Asked other_tag other other_reply) right also same = absurd same
one_event snapshot past (Offered outcome tag offer evicted) (Swept other_tag other other_gone) right also same = absurd same
one_event snapshot past (Asked tag ask reply) (Offered other_outcome other_tag other other_evicted) right also same = absurd same
one_event snapshot past (Asked tag ask reply) (Swept other_tag other other_gone) right also same = absurd same
one_event snapshot past (Swept tag moment gone) (Offered other_outcome other_tag other other_evicted) right also same = absurd same
one_event snapshot past (Swept tag moment gone) (Asked other_tag other other_reply) right also same = absurd same

pub calls_determine : CallsDetermineHistory
calls_determine snapshot [] [] legal also same = refl
calls_determine snapshot [] (other ∷ others) legal also same = absurd same
calls_determine snapshot (event ∷ past) [] legal also same = absurd same
calls_determine snapshot (event ∷ past) (other ∷ others) legal also same =
    let behind : past ≡ others = calls_determine snapshot past others legal.1 also.1 same.1 in
    let right : IsRightThen snapshot past other = subst (λ p. IsRightThen snapshot p other) (sym behind) also.0.right in
    ap (λ e. e ∷ past) (one_event snapshot past event other legal.0.right right same.0) ∙ ap (λ p. other ∷ p) behind
