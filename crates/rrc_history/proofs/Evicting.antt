-- SPDX-License-Identifier: MIT
-- The key that was touched least recently, and whether an offer evicted what it had to.
use Rattle.std.specs.Prelude.{◌≡◌, ℕ, ◌<◌, ◌≤◌, List, [], ◌∷◌, length, reverse, Bool, true, false, not, ◌&&◌, ◌==◌, nat_lt, if◌then◌else◌, Option, Some, None}
use Rattle.std.specs.Bool.{Decides}
use Rattle.std.proofs.Common.{refl, sym, ap, subst, ◌∙◌, arith}
use Rattle.std.proofs.lemmas.Bool.{and_from, and_parts}
use Rattle.std.proofs.lemmas.Bool.Decides.{nat_tests}
use Rattle.rrc_name.specs.Key.{KeyOf, key_eq}
use Rattle.rrc_name.specs.lemmas.KeyLaws.{key_eq-laws, key_eq-same}
use Rattle.rrc_history.specs.declared.event.Event.{Event}
use Rattle.rrc_history.specs.declared.event.Outcome.{Outcome}
use Rattle.rrc_history.specs.declared.event.Outcome.TheVariants.{Kept, Cleared, LessTrusted}
use Rattle.rrc_history.specs.declared.snapshot.Entry.{Entry}
use Rattle.rrc_history.specs.declared.snapshot.Snapshot.{Snapshot}
use Rattle.rrc_history.specs.Past.{held, touch, entry_at, FallsBelow, AreContents, last_key, number_after}
use Rattle.rrc_history.specs.Right.{evicted_by}
use Rattle.rrc_history.specs.Auditing.{is_there, is_lower, is_least, is_victim, is_rightly_evicted, is_somewhere}
use Rattle.rrc_history.specs.lemmas.OneHistory.{found_below}
use Rattle.rrc_history.proofs.Candidates.{nowhere_held, passes_nowhere}

-- what is there is something
pub some_there : {A : Type 0} (o : Option A) → is_there o ≡ true → (x : A) × (o ≡ Some x)
some_there None h = absurd cc
some_there (Some x) h = (x, refl)

-- a key that is found behind an entry is found
there_behind : (key : KeyOf) (entry : Entry) (entries : List Entry) → is_there (entry_at key entries) ≡ true → is_there (entry_at key (entry ∷ entries)) ≡ true
there_behind key entry entries h = by (key_eq key entry.key) refl
  where
    by : (same : Bool) → key_eq key entry.key ≡ same → is_there (entry_at key (entry ∷ entries)) ≡ true
    by true is = rw is refl
    by false is = rw is h

first_there : (entry : Entry) (entries : List Entry) → is_there (entry_at entry.key (entry ∷ entries)) ≡ true
first_there entry entries = let same = key_eq-laws.refl entry.key in rw same refl

some_key : (a b : KeyOf) → Some a ≡ Some b → a ≡ b
some_key a b h = cc

-- the last key is found
pub last_there : (key : KeyOf) (entries : List Entry) → last_key entries ≡ Some key → is_there (entry_at key entries) ≡ true
last_there key [] h = absurd cc
last_there key (entry ∷ []) h = subst (λ k. is_there (entry_at k (entry ∷ [])) ≡ true) (some_key entry.key key h) (first_there entry [])
last_there key (entry ∷ next ∷ entries) h = there_behind key entry (next ∷ entries) (last_there key (next ∷ entries) h)

-- the last key was touched no later than any that is found
last_least : (snapshot : Snapshot) (past : List Event) (number : ℕ) (entries : List Entry) (key : KeyOf) → FallsBelow snapshot past number entries → last_key entries ≡ Some key
    → (other : KeyOf) → is_there (entry_at other entries) ≡ true → touch snapshot past key ≤ touch snapshot past other
last_least snapshot past number [] key falls h other there = absurd cc
last_least snapshot past number (entry ∷ []) key falls h other there = by (key_eq other entry.key) refl
  where
    by : (same : Bool) → key_eq other entry.key ≡ same → touch snapshot past key ≤ touch snapshot past other
    by true is =
        let e : touch snapshot past other ≡ touch snapshot past entry.key = ap (touch snapshot past) (key_eq-same other entry.key is) in
        let f : touch snapshot past entry.key ≡ touch snapshot past key = ap (touch snapshot past) (some_key entry.key key h) in
        omega (arith, e, f)
    by false is = let bad : false ≡ true = rw is at there in absurd cc
last_least snapshot past number (entry ∷ next ∷ entries) key falls h other there =
    by (last_least snapshot past (touch snapshot past entry.key) (next ∷ entries) key falls.1 h other) (key_eq other entry.key) refl
  where
    by : (is_there (entry_at other (next ∷ entries)) ≡ true → touch snapshot past key ≤ touch snapshot past other) → (same : Bool) → key_eq other entry.key ≡ same → touch snapshot past key ≤ touch snapshot past other
    by rest true is =
        let e : touch snapshot past other ≡ touch snapshot past entry.key = ap (touch snapshot past) (key_eq-same other entry.key is) in
        let at = some_there (entry_at key (next ∷ entries)) (last_there key (next ∷ entries) h) in
        let less : touch snapshot past key < touch snapshot past entry.key = found_below snapshot past (touch snapshot past entry.key) (next ∷ entries) key at.0 falls.1 at.1 in
        omega (arith, e, less)
    by rest false is = rest (rw is at there)

-- a key that is found and was touched no later than any that is found is the last
least_last : (snapshot : Snapshot) (past : List Event) (number : ℕ) (entries : List Entry) (key : KeyOf) → FallsBelow snapshot past number entries → is_there (entry_at key entries) ≡ true
    → ((other : KeyOf) → is_there (entry_at other entries) ≡ true → touch snapshot past key ≤ touch snapshot past other) → last_key entries ≡ Some key
least_last snapshot past number [] key falls there least = absurd cc
least_last snapshot past number (entry ∷ []) key falls there least = by (key_eq key entry.key) refl
  where
    by : (same : Bool) → key_eq key entry.key ≡ same → Some entry.key ≡ Some key
    by true is = ap Some (sym (key_eq-same key entry.key is))
    by false is = let bad : false ≡ true = rw is at there in absurd cc
least_last snapshot past number (entry ∷ next ∷ entries) key falls there least =
    by
    (λ found. least_last snapshot past (touch snapshot past entry.key) (next ∷ entries) key falls.1 found (λ other at. least other (there_behind other entry (next ∷ entries) at)))
    (key_eq key entry.key) refl
  where
    by : (is_there (entry_at key (next ∷ entries)) ≡ true → last_key (next ∷ entries) ≡ Some key) → (same : Bool) → key_eq key entry.key ≡ same → last_key (next ∷ entries) ≡ Some key
    by rest true is =
        let e : touch snapshot past key ≡ touch snapshot past entry.key = ap (touch snapshot past) (key_eq-same key entry.key is) in
        let le : touch snapshot past key ≤ touch snapshot past next.key = least next.key (there_behind next.key entry (next ∷ entries) (first_there next entries)) in
        absurd (omega (arith, e, le, falls.1.0))
    by rest false is = rest (rw is at there)

-- ---- what is to go

false_by : (b : Bool) → not b ≡ true → b ≡ false
false_by true h = absurd cc
false_by false h = refl

not_lower : (a b : ℕ) → nat_lt a b ≡ false → b ≤ a
not_lower a b h = grind (arith, nat_tests)

lower_not : (a b : ℕ) → b ≤ a → nat_lt a b ≡ false
lower_not a b h = grind (arith, nat_tests)

pub least_Decides : (snapshot : Snapshot) (events : List Event) (entries : List Entry) → AreContents snapshot (reverse events) entries → (key : KeyOf)
    → Decides (is_least snapshot (reverse events) events key) (last_key entries ≡ Some key)
least_Decides snapshot events entries are key = (to, from)
  where
    past : List Event
    past = reverse events

    test : KeyOf → Bool
    test = is_lower snapshot past (touch snapshot past key)

    there : (other : KeyOf) → is_there (entry_at other entries) ≡ true → is_there (held snapshot past other) ≡ true
    there other h = ap is_there (sym (are.agree other)) ∙ h

    to : is_least snapshot past events key ≡ true → last_key entries ≡ Some key
    to h = least_last snapshot past (number_after snapshot past) entries key are.falling (ap is_there (are.agree key) ∙ parts.0) least
      where
        parts : (is_there (held snapshot past key) ≡ true) × (not (is_somewhere test snapshot events) ≡ true)
        parts = and_parts (is_there (held snapshot past key)) (not (is_somewhere test snapshot events)) h

        least : (other : KeyOf) → is_there (entry_at other entries) ≡ true → touch snapshot past key ≤ touch snapshot past other
        least other at = by (nat_lt (touch snapshot past other) (touch snapshot past key)) refl
          where
            by : (lower : Bool) → nat_lt (touch snapshot past other) (touch snapshot past key) ≡ lower → touch snapshot past key ≤ touch snapshot past other
            by false is = not_lower (touch snapshot past other) (touch snapshot past key) is
            by true is =
                let passes : test other ≡ true = and_from (is_there (held snapshot past other)) (nat_lt (touch snapshot past other) (touch snapshot past key)) (there other at) is in
                let none : held snapshot past other ≡ None = nowhere_held test snapshot events (false_by (is_somewhere test snapshot events) parts.1) other passes in
                let bad : false ≡ true = sym (ap is_there none) ∙ there other at in
                absurd cc

    from : last_key entries ≡ Some key → is_least snapshot past events key ≡ true
    from h =
        let none : is_somewhere test snapshot events ≡ false = passes_nowhere test snapshot events fails in
        and_from (is_there (held snapshot past key)) (not (is_somewhere test snapshot events)) (there key (last_there key entries h)) (ap not none)
      where
        fails : (other : KeyOf) → test other ≡ false
        fails other = by (is_there (held snapshot past other)) refl
          where
            by : (b : Bool) → is_there (held snapshot past other) ≡ b → (b && nat_lt (touch snapshot past other) (touch snapshot past key)) ≡ false
            by false is = refl
            by true is =
                lower_not (touch snapshot past other) (touch snapshot past key)
                (last_least snapshot past (number_after snapshot past) entries key are.falling h other (ap is_there (are.agree other) ∙ is))

none_Decides : (evicted : Option KeyOf) → Decides (not (is_there evicted)) (evicted ≡ None)
none_Decides None = (λ h. refl, λ h. refl)
none_Decides (Some key) = (λ h. absurd cc, λ h. absurd cc)

none_last : (entries : List Entry) → last_key entries ≡ None → length entries ≡ 0
none_last [] h = refl
none_last (entry ∷ []) h = absurd cc
none_last (entry ∷ next ∷ entries) h = absurd (let none = none_last (next ∷ entries) h in omega (arith, none))

-- an offer evicted what it had to
pub evicts_Decides : (snapshot : Snapshot) (events : List Event) (entries : List Entry) → AreContents snapshot (reverse events) entries → (before : Option Entry) (outcome : Outcome)
    → (evicted : Option KeyOf)
    → Decides (is_rightly_evicted snapshot (reverse events) events (length entries) outcome (is_there before) evicted) (evicted ≡ evicted_by snapshot.rules.capacity entries before outcome)
evicts_Decides snapshot events entries are (Some entry) Kept evicted = none_Decides evicted
evicts_Decides snapshot events entries are (Some entry) Cleared evicted = none_Decides evicted
evicts_Decides snapshot events entries are (Some entry) LessTrusted evicted = none_Decides evicted
evicts_Decides snapshot events entries are None Cleared evicted = none_Decides evicted
evicts_Decides snapshot events entries are None LessTrusted evicted = none_Decides evicted
evicts_Decides snapshot events entries are None Kept evicted = by (length entries == snapshot.rules.capacity) refl evicted
  where
    some : 1 ≤ snapshot.rules.capacity
    some = snapshot.rules.some_capacity

    one : (a b : Option KeyOf) → a ≡ b → b ≡ a
    one a b h = sym h

    by : (full : Bool) → (length entries == snapshot.rules.capacity) ≡ full → (evicted : Option KeyOf)
        → Decides (if full then is_victim snapshot (reverse events) events evicted else not (is_there evicted)) (evicted ≡ (if full then last_key entries else None))
    by false is evicted = none_Decides evicted
    by true is None =
        (λ h. absurd cc, λ h. absurd (let none : length entries ≡ 0 = none_last entries (sym h) in let n : length entries ≡ snapshot.rules.capacity = grind (arith, nat_tests) in omega (arith, none, n, some)))
    by true is (Some key) =
        let least = least_Decides snapshot events entries are key in
        (λ h. sym (least.0 h), λ h. least.1 (sym h))
