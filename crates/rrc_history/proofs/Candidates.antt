-- SPDX-License-Identifier: MIT
-- Every key that is held is one of the snapshot's or of an offer's.
use Rattle.std.specs.Prelude.{◌≡◌, ℕ, List, [], ◌∷◌, reverse, Bool, true, false, ◌||◌, if◌then◌else◌, Option, None}
use Rattle.std.proofs.Common.{refl, sym, ap, ◌∙◌}
use Rattle.std.proofs.lemmas.List.{reverse-append}
use Rattle.std.proofs.lemmas.List.Folds.{list_any-append}
use Rattle.std.proofs.lemmas.Bool.{or_parts}
use Rattle.std.specs.List.{list_any}
use Rattle.rrc_name.specs.Key.{KeyOf, key_eq}
use Rattle.rrc_name.specs.lemmas.KeyLaws.{key_eq-same}
use Rattle.rrc_history.specs.declared.event.Event.{Event}
use Rattle.rrc_history.specs.declared.event.Event.TheVariants.{Offered, Asked, Swept}
use Rattle.rrc_history.specs.declared.event.Outcome.{Outcome}
use Rattle.rrc_history.specs.declared.event.Outcome.TheVariants.{Kept, Cleared, LessTrusted}
use Rattle.rrc_history.specs.declared.snapshot.Entry.{Entry}
use Rattle.rrc_history.specs.declared.snapshot.Snapshot.{Snapshot}
use Rattle.rrc_history.specs.Fits.{OfferOf}
use Rattle.rrc_history.specs.Past.{held, held_after_offer, entry_at, is_among, is_evicted, number_after}
use Rattle.rrc_history.specs.Auditing.{is_offered, is_somewhere}

-- ---- tests of lists

or_flipped : (a b : Bool) → (a || (b || false)) ≡ (b || a)
or_flipped true true = refl
or_flipped true false = refl
or_flipped false true = refl
or_flipped false false = refl

any-reverse : {X : Type 0} (test : X → Bool) (xs : List X) → list_any test (reverse xs) ≡ list_any test xs
any-reverse test [] = refl
any-reverse test (x ∷ xs) =
    ap (list_any test) (reverse-append (x ∷ []) xs)
    ∙ (list_any-append test (reverse xs) (x ∷ [])
    ∙ (or_flipped (list_any test (reverse xs)) (test x) ∙ ap (λ b. test x || b) (any-reverse test xs)))

no_any : {X : Type 0} (test : X → Bool) → ((x : X) → test x ≡ false) → (xs : List X) → list_any test xs ≡ false
no_any test none [] = refl
no_any test none (x ∷ xs) = let here = none x in rw here (no_any test none xs)

-- ---- keys

-- where no entry's key passes, nothing is found under one that does
none_at : (test : KeyOf → Bool) (key : KeyOf) → test key ≡ true → (entries : List Entry) → list_any (λ entry. test entry.key) entries ≡ false → entry_at key entries ≡ None
none_at test key passes [] none = refl
none_at test key passes (entry ∷ entries) none = by (none_at test key passes entries parts.1) (key_eq key entry.key) refl
  where
    parts : (test entry.key ≡ false) × (list_any (λ e. test e.key) entries ≡ false)
    parts = or_parts (test entry.key) (list_any (λ e. test e.key) entries) none

    by : entry_at key entries ≡ None → (same : Bool) → key_eq key entry.key ≡ same → entry_at key (entry ∷ entries) ≡ None
    by rest true is = let bad : true ≡ false = sym passes ∙ (ap test (key_eq-same key entry.key is) ∙ parts.0) in absurd cc
    by rest false is = rw is rest

abbrev nothing : Option Entry
nothing = None

both_none : (b : Bool) → (if b then nothing else nothing) ≡ nothing
both_none true = refl
both_none false = refl

-- an offer of another key stores nothing under a key
none_after : (number : ℕ) (offer : OfferOf) (outcome : Outcome) (evicted : Option KeyOf) (key : KeyOf) (before : Option Entry) → key_eq key offer.key ≡ false → before ≡ None
    → held_after_offer number offer outcome evicted key before ≡ None
none_after number offer Kept evicted key before apart none = rw (apart, none) (both_none (is_evicted key evicted))
none_after number offer Cleared evicted key before apart none = rw apart none
none_after number offer LessTrusted evicted key before apart none = none

held_none : (test : KeyOf → Bool) (key : KeyOf) → test key ≡ true → (snapshot : Snapshot) (past : List Event) → list_any (λ entry. test entry.key) snapshot.entries ≡ false
    → list_any (is_offered test) past ≡ false → held snapshot past key ≡ None
unfolding held
held_none test key passes snapshot [] none none_offered = none_at test key passes snapshot.entries none
held_none test key passes snapshot (Offered outcome tag offer evicted ∷ past) none none_offered =
    let parts = or_parts (test offer.key) (list_any (is_offered test) past) none_offered in
    by parts.0 (held_none test key passes snapshot past none parts.1) (key_eq key offer.key) refl
  where
    by : test offer.key ≡ false → held snapshot past key ≡ None → (same : Bool) → key_eq key offer.key ≡ same
        → held_after_offer (number_after snapshot past) offer outcome evicted key (held snapshot past key) ≡ None
    by fails before true is = let bad : true ≡ false = sym passes ∙ (ap test (key_eq-same key offer.key is) ∙ fails) in absurd cc
    by fails before false is = none_after (number_after snapshot past) offer outcome evicted key (held snapshot past key) is before
held_none test key passes snapshot (Asked tag ask reply ∷ past) none none_offered = held_none test key passes snapshot past none none_offered
held_none test key passes snapshot (Swept tag moment gone ∷ past) none none_offered =
    ap (λ (before : Option Entry). if is_among key gone then None else before) (held_none test key passes snapshot past none none_offered) ∙ both_none (is_among key gone)

-- where a test passes for no key of the snapshot and of no offer, a key for which it passes holds nothing
pub nowhere_held : (test : KeyOf → Bool) (snapshot : Snapshot) (events : List Event) → is_somewhere test snapshot events ≡ false
    → (key : KeyOf) → test key ≡ true → held snapshot (reverse events) key ≡ None
nowhere_held test snapshot events none key passes =
    let parts = or_parts (list_any (λ (entry : Entry). test entry.key) snapshot.entries) (list_any (is_offered test) events) none in
    held_none test key passes snapshot (reverse events) parts.0 (any-reverse (is_offered test) events ∙ parts.1)

-- a test that passes for no key passes nowhere
pub passes_nowhere : (test : KeyOf → Bool) (snapshot : Snapshot) (events : List Event) → ((key : KeyOf) → test key ≡ false) → is_somewhere test snapshot events ≡ false
passes_nowhere test snapshot events none =
    let entries : list_any (λ (entry : Entry). test entry.key) snapshot.entries ≡ false = no_any (λ (entry : Entry). test entry.key) (λ entry. none entry.key) snapshot.entries in
    rw entries (no_any (is_offered test) offered events)
  where
    offered : (event : Event) → is_offered test event ≡ false
    offered (Offered outcome tag offer evicted) = none offer.key
    offered (Asked tag ask reply) = refl
    offered (Swept tag moment gone) = refl
