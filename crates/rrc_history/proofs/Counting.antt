-- SPDX-License-Identifier: MIT
-- How many keys are held after an event.
use Rattle.std.specs.Prelude.{◌≡◌, ℕ, ◌+◌, ◌-◌, List, [], ◌∷◌, length, Bool, true, false, ◌||◌, ◌==◌, Option, Some, None, filter}
use Rattle.std.specs.List.{AllByRecursion, IsDistinct}
use Rattle.std.specs.List.Sorted.{IsStrictlySortedBy}
use Rattle.std.specs.declared.cmp.Ordering.TheVariants.{Less}
use Rattle.std.specs.Ordering.{is_eq}
use Rattle.std.proofs.Common.{refl, sym, ap, subst, ◌∙◌, arith}
use Rattle.std.proofs.lemmas.Map.Made.{length-from_same_keys}
use Rattle.rrc_name.specs.Key.{KeyOf, key_eq, key_order}
use Rattle.rrc_name.specs.lemmas.KeyLaws.{key_eq-laws, key_eq-same, key_order-ties}
use Rattle.rrc_history.specs.declared.event.Outcome.{Outcome}
use Rattle.rrc_history.specs.declared.event.Outcome.TheVariants.{Kept, Cleared, LessTrusted}
use Rattle.rrc_history.specs.declared.snapshot.Entry.{Entry}
use Rattle.rrc_history.specs.Fits.{OfferOf}
use Rattle.rrc_history.specs.Lives.{is_fully_expired}
use Rattle.rrc_history.specs.Past.{entry_at, is_among, last_key}
use Rattle.rrc_history.specs.Right.{evicted_by, is_swept}
use Rattle.rrc_history.specs.Entries.{LacksKey, AreApart, staying, goes, kept_after, in_front, answered_from, living, fully_expired_keys}
use Rattle.rrc_history.specs.lemmas.SweepLaws.{fully_expired_keys-found}
use Rattle.rrc_history.specs.Auditing.{is_there, present_after_offer}
use Rattle.rrc_history.proofs.Evicting.{last_there}

-- ---- one key goes

-- where no key goes, all stay
all_stay : (out : KeyOf → Bool) (entries : List Entry) → AllByRecursion (λ entry. out entry.key ≡ false) entries → staying out entries ≡ entries
all_stay out [] none = refl
all_stay out (entry ∷ entries) none = let stays = none.0 in rw stays (ap (λ es. entry ∷ es) (all_stay out entries none.1))

lacked : (out : KeyOf → Bool) (key : KeyOf) (entries : List Entry) → AllByRecursion (λ entry. out entry.key ≡ key_eq key entry.key) entries → LacksKey key entries
    → AllByRecursion (λ entry. out entry.key ≡ false) entries
lacked out key [] same lacks = tt
lacked out key (entry ∷ entries) same lacks = (same.0 ∙ lacks.0, lacked out key entries same.1 lacks.1)

-- where just the key goes, one entry goes
one_goes : (out : KeyOf → Bool) (key : KeyOf) (entries : List Entry) → AreApart entries → AllByRecursion (λ entry. out entry.key ≡ key_eq key entry.key) entries
    → is_there (entry_at key entries) ≡ true → length (staying out entries) + 1 ≡ length entries
one_goes out key [] apart same there = absurd cc
one_goes out key (entry ∷ entries) apart same there = by (one_goes out key entries apart.1 same.1) (key_eq key entry.key) refl
  where
    by : (is_there (entry_at key entries) ≡ true → length (staying out entries) + 1 ≡ length entries) → (own : Bool) → key_eq key entry.key ≡ own
        → length (staying out (entry ∷ entries)) + 1 ≡ length (entry ∷ entries)
    by rest true is =
        let gone : out entry.key ≡ true = same.0 ∙ is in
        let lacks : LacksKey key entries = subst (λ k. LacksKey k entries) (sym (key_eq-same key entry.key is)) apart.0 in
        let stay : length (staying out entries) ≡ length entries = ap length (all_stay out entries (lacked out key entries same.1 lacks)) in
        rw (gone, filter) (omega (arith, stay))
    by rest false is =
        let stays : out entry.key ≡ false = same.0 ∙ is in
        let less : length (staying out entries) + 1 ≡ length entries = rest (rw is at there) in
        rw (stays, filter) (omega (arith, less))

-- a key that is not found is no entry's
none_lacks : (key : KeyOf) (entries : List Entry) → entry_at key entries ≡ None → LacksKey key entries
none_lacks key [] h = tt
none_lacks key (entry ∷ entries) h = (here (key_eq key entry.key) refl, none_lacks key entries (behind (key_eq key entry.key) refl))
  where
    here : (own : Bool) → key_eq key entry.key ≡ own → key_eq key entry.key ≡ false
    here true is = let bad : Some entry ≡ None = rw is at h in absurd cc
    here false is = is

    behind : (own : Bool) → key_eq key entry.key ≡ own → entry_at key entries ≡ None
    behind true is = let bad : Some entry ≡ None = rw is at h in absurd cc
    behind false is = rw is at h

or_false : (b : Bool) → (b || false) ≡ b
or_false true = refl
or_false false = refl

itself_goes : (key : KeyOf) (entries : List Entry) → AllByRecursion (λ entry. goes key None entry.key ≡ key_eq key entry.key) entries
itself_goes key [] = tt
itself_goes key (entry ∷ entries) = (or_false (key_eq key entry.key), itself_goes key entries)

-- beside a key that is not there just the evicted one goes
evicted_goes : (key evicted : KeyOf) (entries : List Entry) → LacksKey key entries → AllByRecursion (λ entry. goes key (Some evicted) entry.key ≡ key_eq evicted entry.key) entries
evicted_goes key evicted [] lacks = tt
evicted_goes key evicted (entry ∷ entries) lacks =
    (ap (λ b. b || key_eq entry.key evicted) lacks.0 ∙ key_eq-laws.symm entry.key evicted, evicted_goes key evicted entries lacks.1)

there_of : (o : Option Entry) (entry : Entry) → o ≡ Some entry → is_there o ≡ true
there_of o entry h = ap is_there h

-- so many are left after an offer that evicted what it had to
pub count-offer : (capacity number : ℕ) (offer : OfferOf) (outcome : Outcome) (before : Option Entry) (evicted : Option KeyOf) (entries : List Entry) → AreApart entries
    → entry_at offer.key entries ≡ before → evicted ≡ evicted_by capacity entries before outcome
    → length (kept_after outcome offer number evicted entries) ≡ present_after_offer outcome (is_there before) (is_there evicted) (length entries)
count-offer capacity number offer Kept (Some entry) evicted entries apart at is =
    let less : length (staying (goes offer.key None) entries) + 1 ≡ length entries =
    one_goes (goes offer.key None) offer.key entries apart (itself_goes offer.key entries) (there_of (entry_at offer.key entries) entry at) in
    subst (λ (e : Option KeyOf). length (kept_after Kept offer number e entries) ≡ length entries) (sym is) (omega (arith, less))
count-offer capacity number offer Kept None None entries apart at is =
    let stay : length (staying (goes offer.key None) entries) ≡ length entries =
    ap length (all_stay (goes offer.key None) entries (lacked (goes offer.key None) offer.key entries (itself_goes offer.key entries) (none_lacks offer.key entries at))) in
    omega (arith, stay)
count-offer capacity number offer Kept None (Some key) entries apart at is =
    let last : last_key entries ≡ Some key = by (length entries == capacity) refl is in
    let less : length (staying (goes offer.key (Some key)) entries) + 1 ≡ length entries =
    one_goes (goes offer.key (Some key)) key entries apart (evicted_goes offer.key key entries (none_lacks offer.key entries at)) (last_there key entries last) in
    omega (arith, less)
  where
    by : (full : Bool) → (length entries == capacity) ≡ full → Some key ≡ evicted_by capacity entries None Kept → last_key entries ≡ Some key
    by true full h = sym (rw full at h)
    by false full h = let bad : Some key ≡ None = rw full at h in absurd cc
count-offer capacity number offer Cleared (Some entry) evicted entries apart at is =
    let less : length (staying (goes offer.key None) entries) + 1 ≡ length entries =
    one_goes (goes offer.key None) offer.key entries apart (itself_goes offer.key entries) (there_of (entry_at offer.key entries) entry at) in
    omega (arith, less)
count-offer capacity number offer Cleared None evicted entries apart at is =
    ap length (all_stay (goes offer.key None) entries (lacked (goes offer.key None) offer.key entries (itself_goes offer.key entries) (none_lacks offer.key entries at)))
count-offer capacity number offer LessTrusted before evicted entries apart at is = refl

-- as many are left after an answer
pub count-answered : (key : Option KeyOf) (entries : List Entry) → AreApart entries → length (answered_from key entries) ≡ length entries
count-answered None entries apart = refl
count-answered (Some key) entries apart = by (entry_at key entries) refl
  where
    by : (found : Option Entry) → entry_at key entries ≡ found → length (in_front key found entries) ≡ length entries
    by None is = refl
    by (Some entry) is =
        let less : length (staying (goes key None) entries) + 1 ≡ length entries =
        one_goes (goes key None) key entries apart (itself_goes key entries) (there_of (entry_at key entries) entry is) in
        omega (arith, less)

-- ---- the fully expired go

expired_and_living : (stale moment : ℕ) (entries : List Entry) → length (living stale moment entries) + length (fully_expired_keys stale moment entries) ≡ length entries
expired_and_living stale moment [] = refl
expired_and_living stale moment (entry ∷ entries) = by (is_fully_expired stale entry moment) refl (expired_and_living stale moment entries)
  where
    by : (dead : Bool) → is_fully_expired stale entry moment ≡ dead → length (living stale moment entries) + length (fully_expired_keys stale moment entries) ≡ length entries
        → length (living stale moment (entry ∷ entries)) + length (fully_expired_keys stale moment (entry ∷ entries)) ≡ length (entry ∷ entries)
    by true is rest = rw (is, filter) (omega (arith, rest))
    by false is rest = rw (is, filter) (omega (arith, rest))

lacks_expired : (stale moment : ℕ) (key : KeyOf) (entries : List Entry) → LacksKey key entries → AllByRecursion (λ k. key_eq key k ≡ false) (fully_expired_keys stale moment entries)
lacks_expired stale moment key [] lacks = tt
lacks_expired stale moment key (entry ∷ entries) lacks = by (is_fully_expired stale entry moment) refl (lacks_expired stale moment key entries lacks.1)
  where
    by : (dead : Bool) → is_fully_expired stale entry moment ≡ dead → AllByRecursion (λ k. key_eq key k ≡ false) (fully_expired_keys stale moment entries)
        → AllByRecursion (λ k. key_eq key k ≡ false) (fully_expired_keys stale moment (entry ∷ entries))
    by true is rest = rw (is, filter) (lacks.0, rest)
    by false is rest = rw (is, filter) rest

expired_apart : (stale moment : ℕ) (entries : List Entry) → AreApart entries → IsDistinct key_eq (fully_expired_keys stale moment entries)
unfolding IsDistinct
expired_apart stale moment [] apart = tt
expired_apart stale moment (entry ∷ entries) apart = by (is_fully_expired stale entry moment) refl (expired_apart stale moment entries apart.1)
  where
    by : (dead : Bool) → is_fully_expired stale entry moment ≡ dead → IsDistinct key_eq (fully_expired_keys stale moment entries)
        → IsDistinct key_eq (fully_expired_keys stale moment (entry ∷ entries))
    by true is rest = rw (is, filter) (lacks_expired stale moment entry.key entries apart.0, rest)
    by false is rest = rw (is, filter) rest

less_apart : (key : KeyOf) (keys : List KeyOf) → AllByRecursion (λ k. key_order key k ≡ Less) keys → AllByRecursion (λ k. key_eq key k ≡ false) keys
less_apart key [] all = tt
less_apart key (next ∷ keys) all = (key_order-ties key next ∙ ap is_eq all.0, less_apart key keys all.1)

sorted_apart : (keys : List KeyOf) → IsStrictlySortedBy key_order keys → IsDistinct key_eq keys
unfolding IsDistinct IsStrictlySortedBy
sorted_apart [] sorted = tt
sorted_apart (key ∷ keys) sorted = (less_apart key keys sorted.0, sorted_apart keys sorted.1)

-- so many are left after a sweep that removed what it had to
pub count-swept : (stale moment : ℕ) (gone : List KeyOf) (entries : List Entry) → AreApart entries → IsStrictlySortedBy key_order gone
    → ((key : KeyOf) → is_among key gone ≡ is_swept stale (entry_at key entries) moment) → length (living stale moment entries) ≡ length entries - length gone
count-swept stale moment gone entries apart sorted dead =
    let same : length gone ≡ length (fully_expired_keys stale moment entries) =
    length-from_same_keys key_eq-laws gone (fully_expired_keys stale moment entries) (sorted_apart gone sorted) (expired_apart stale moment entries apart)
    (λ key. dead key ∙ sym (fully_expired_keys-found stale moment key entries apart)) in
    let all = expired_and_living stale moment entries in
    omega (arith, same, all)
