-- SPDX-License-Identifier: MIT
-- What the calls of a map of entries by their keys leave of the entries, in the words of a history.
use Rattle.std.proofs.Common.{◌≡◌, ℕ, zero, suc, ◌+◌, ◌-◌, ◌<◌, List, [], ◌∷◌, ◌++◌, length, take, Bool, true, false, ◌||◌, Option, Some, None, refl, sym, ap, subst, ◌∙◌, arith}
use Rattle.std.specs.Prelude.{cond, if◌then◌else◌, is_some, IsSome}
use Rattle.std.specs.List.{AllByRecursion, IsDistinct, slice_get}
use Rattle.std.specs.Option.{option_map, option_map_or}
use Rattle.std.specs.Map.{keys_of, lookup, lookup_entry, remove_entry, set_value}
use Rattle.std.proofs.lemmas.List.{append-nil, take-map}
use Rattle.std.proofs.lemmas.Option.{slice_get_past}
use Rattle.lru.specs.LruCache as lru
use Rattle.rrc_name.specs.Key.{KeyOf, key_eq}
use Rattle.rrc_name.specs.lemmas.KeyLaws.{key_eq-same}
use Rattle.rrc_history.specs.declared.snapshot.Entry.{Entry}
use Rattle.rrc_history.specs.Past.{entry_at, last_key}
use Rattle.rrc_history.specs.Entries.{LacksKey, AreApart, goes, in_front, promoted, staying}
use Rattle.rrc_history.specs.lemmas.Apart.{entry_at-middle, staying-lacks, staying-middle}
use Rattle.rrc_cache.specs.declared.seeded.Seeded.{Seeded}
use Rattle.rrc_cache.specs.Ages.{ahead_of}
use Rattle.rrc_cache.specs.Clocked.{ahead_in}
use Rattle.rrc_cache.specs.Pairs.{entries_in, AreOwn, EntriesOf, StoreOf}

-- ---- the views

-- entries, as the callers of a map see them
abbrev pub listed : Seeded → List Entry → EntriesOf
listed seeded entries = record { seeded = seeded; entries = entries }

-- an edit of them
pub edited : (edit : List Entry → List Entry) (seeded still : Seeded) (before after : List Entry) (now : EntriesOf) → still ≡ seeded → after ≡ edit before
    → listed seeded before ≡ now → listed still after ≡ listed now.seeded (edit now.entries)
edited edit seeded still before after now same is view =
    ap (λ s. listed s after) same ∙ (ap (listed seeded) is ∙ ap (λ (map : EntriesOf). listed map.seeded (edit map.entries)) view)

-- entries, as the callers of a store see them
abbrev pub seen : Seeded → ℕ → List Entry → StoreOf
seen seeded stale entries = record { seeded = seeded; stale = stale; entries = entries }

-- an edit of them
pub edited_store : (edit : List Entry → List Entry) (stale : ℕ) (before after : EntriesOf) (now : StoreOf) → after ≡ listed before.seeded (edit before.entries)
    → seen before.seeded stale before.entries ≡ now → seen after.seeded stale after.entries ≡ seen now.seeded now.stale (edit now.entries)
edited_store edit stale before after now is view =
    ap (λ (map : EntriesOf). seen map.seeded stale map.entries) is ∙ ap (λ (store : StoreOf). seen store.seeded store.stale (edit store.entries)) view

-- ---- look-ups

-- what is found under a key
pub found_in_pairs : (key : KeyOf) (pairs : List (KeyOf × Entry)) → AreOwn pairs → lookup (key_eq key) pairs ≡ entry_at key (entries_in pairs)
found_in_pairs key [] own = refl
found_in_pairs key (pair ∷ pairs) own =
    ap (λ k. cond (key_eq key k) (Some pair.1) (lookup (key_eq key) pairs)) (sym own.0)
    ∙ ap (λ rest. cond (key_eq key pair.1.key) (Some pair.1) rest) (found_in_pairs key pairs own.1)

-- how many stand before it
pub ahead_in_pairs : (key : KeyOf) (pairs : List (KeyOf × Entry)) → AreOwn pairs → ahead_in (key_eq key) pairs ≡ ahead_of key (entries_in pairs)
ahead_in_pairs key [] own = refl
ahead_in_pairs key (pair ∷ pairs) own =
    ap (λ k. if key_eq key k then 0 else ahead_in (key_eq key) pairs + 1) (sym own.0)
    ∙ ap (λ n. if key_eq key pair.1.key then 0 else n + 1) (ahead_in_pairs key pairs own.1)

-- a pair that is found is that of the entry that is found
pub entry_of_pair : (test : KeyOf → Bool) (pairs : List (KeyOf × Entry)) → lookup test pairs ≡ option_map (λ pair. pair.1) (lookup_entry test pairs)
entry_of_pair test [] = refl
entry_of_pair test (pair ∷ pairs) = by (test pair.0) refl (entry_of_pair test pairs)
  where
    by : (b : Bool) → test pair.0 ≡ b → lookup test pairs ≡ option_map (λ p. p.1) (lookup_entry test pairs)
        → lookup test (pair ∷ pairs) ≡ option_map (λ p. p.1) (lookup_entry test (pair ∷ pairs))
    by true is rest = rw is refl
    by false is rest = rw is rest

-- it passes the test, and is kept under its own key
pub pair_is_own : (test : KeyOf → Bool) (pairs : List (KeyOf × Entry)) (pair : KeyOf × Entry) → AreOwn pairs → lookup_entry test pairs ≡ Some pair
    → (test pair.0 ≡ true) × (pair.1.key ≡ pair.0)
pair_is_own test [] pair own h = absurd cc
pair_is_own test (first ∷ pairs) pair own h = by (test first.0) refl (pair_is_own test pairs pair own.1)
  where
    by : (b : Bool) → test first.0 ≡ b → (lookup_entry test pairs ≡ Some pair → (test pair.0 ≡ true) × (pair.1.key ≡ pair.0)) → (test pair.0 ≡ true) × (pair.1.key ≡ pair.0)
    by true is rest =
        let same : first ≡ pair = cc (rw is at h) in
        let P : KeyOf × Entry → Type 0 = λ p. (test p.0 ≡ true) × (p.1.key ≡ p.0) in
        subst P same (is, own.0)
    by false is rest = rest (rw is at h)

-- ---- entries apart

lacks_in : (pair : KeyOf × Entry) (pairs : List (KeyOf × Entry)) → pair.1.key ≡ pair.0 → AreOwn pairs
    → AllByRecursion (λ key. key_eq pair.0 key ≡ false) (keys_of pairs) → LacksKey pair.1.key (entries_in pairs)
lacks_in pair [] here own all = tt
lacks_in pair (other ∷ pairs) here own all =
    (ap (λ k. key_eq k other.1.key) here ∙ (ap (λ k. key_eq pair.0 k) own.0 ∙ all.0), lacks_in pair pairs here own.1 all.1)

-- the entries of a map are apart
pub apart_in : (pairs : List (KeyOf × Entry)) → AreOwn pairs → IsDistinct key_eq (keys_of pairs) → AreApart (entries_in pairs)
unfolding IsDistinct
apart_in [] own distinct = tt
apart_in (pair ∷ pairs) own distinct = (lacks_in pair pairs own.0 own.1 distinct.0, apart_in pairs own.1 distinct.1)

-- ---- removals

pub own_removed : (test : KeyOf → Bool) (pairs : List (KeyOf × Entry)) → AreOwn pairs → AreOwn (remove_entry test pairs)
own_removed test [] own = tt
own_removed test (pair ∷ pairs) own = by (test pair.0) refl (own_removed test pairs own.1)
  where
    by : (b : Bool) → test pair.0 ≡ b → AreOwn (remove_entry test pairs) → AreOwn (remove_entry test (pair ∷ pairs))
    by true is rest = rw is (own.1)
    by false is rest = rw is (own.0, rest)

pub removed_in : (key : KeyOf) (pairs : List (KeyOf × Entry)) → AreOwn pairs → AreApart (entries_in pairs)
    → entries_in (remove_entry (key_eq key) pairs) ≡ staying (goes key None) (entries_in pairs)
removed_in key [] own apart = refl
removed_in key (pair ∷ pairs) own apart = by (key_eq key pair.1.key) refl (removed_in key pairs own.1 apart.1)
  where
    by : (b : Bool) → key_eq key pair.1.key ≡ b → entries_in (remove_entry (key_eq key) pairs) ≡ staying (goes key None) (entries_in pairs)
        → entries_in (remove_entry (key_eq key) (pair ∷ pairs)) ≡ staying (goes key None) (entries_in (pair ∷ pairs))
    by true is rest =
        let here : key_eq key pair.0 ≡ true = ap (key_eq key) (sym own.0) ∙ is in
        let gone : goes key None pair.1.key ≡ true = ap (λ b. b || false) is in
        let P : KeyOf → Type 0 = λ k. LacksKey k (entries_in pairs) in
        rw (here, gone) (sym (staying-lacks key (entries_in pairs) (subst P (sym (key_eq-same key pair.1.key is)) apart.0)))
    by false is rest =
        let here : key_eq key pair.0 ≡ false = ap (key_eq key) (sym own.0) ∙ is in
        let stays : goes key None pair.1.key ≡ false = ap (λ b. b || false) is in
        rw (here, stays) (ap (λ es. pair.1 ∷ es) rest)

pub own_taken : (n : ℕ) (pairs : List (KeyOf × Entry)) → AreOwn pairs → AreOwn (take n pairs)
own_taken zero pairs own = tt
own_taken (suc n) [] own = tt
own_taken (suc n) (pair ∷ pairs) own = (own.0, own_taken n pairs own.1)

-- ---- the front

pub promoted_in : (key : KeyOf) (pairs : List (KeyOf × Entry)) → AreOwn pairs → AreApart (entries_in pairs)
    → entries_in (lru.promoted (key_eq key) pairs) ≡ promoted key (entries_in pairs)
promoted_in key pairs own apart = by (lookup_entry (key_eq key) pairs) refl
  where
    by : (found : Option (KeyOf × Entry)) → lookup_entry (key_eq key) pairs ≡ found
        → entries_in (option_map_or (λ pair. pair ∷ remove_entry (key_eq key) pairs) found pairs) ≡ in_front key (entry_at key (entries_in pairs)) (entries_in pairs)
    by None is =
        let none : entry_at key (entries_in pairs) ≡ None = sym (found_in_pairs key pairs own) ∙ (entry_of_pair (key_eq key) pairs ∙ ap (option_map (λ p. p.1)) is) in
        rw none refl
    by (Some pair) is =
        let some : entry_at key (entries_in pairs) ≡ Some pair.1 = sym (found_in_pairs key pairs own) ∙ (entry_of_pair (key_eq key) pairs ∙ ap (option_map (λ p. p.1)) is) in
        rw some (ap (λ es. pair.1 ∷ es) (removed_in key pairs own apart))

pub own_promoted : (test : KeyOf → Bool) (pairs : List (KeyOf × Entry)) → AreOwn pairs → AreOwn (lru.promoted test pairs)
own_promoted test pairs own = by (lookup_entry test pairs) refl
  where
    by : (found : Option (KeyOf × Entry)) → lookup_entry test pairs ≡ found → AreOwn (option_map_or (λ pair. pair ∷ remove_entry test pairs) found pairs)
    by None is = own
    by (Some pair) is = ((pair_is_own test pairs pair own is).1, own_removed test pairs own)

-- the first one is then the one that was found
pub promoted_first : (test : KeyOf → Bool) (pairs : List (KeyOf × Entry)) → is_some (lookup test pairs) ≡ true
    → option_map (λ pair. pair.1.number) (slice_get (lru.promoted test pairs) 0) ≡ option_map (λ entry. entry.number) (lookup test pairs)
promoted_first test pairs some = by (lookup_entry test pairs) refl
  where
    by : (found : Option (KeyOf × Entry)) → lookup_entry test pairs ≡ found
        → option_map (λ pair. pair.1.number) (slice_get (lru.promoted test pairs) 0) ≡ option_map (λ entry. entry.number) (lookup test pairs)
    by None is =
        let none : lookup test pairs ≡ None = entry_of_pair test pairs ∙ ap (option_map (λ p. p.1)) is in
        let bad : false ≡ true = sym (ap is_some none) ∙ some in absurd cc
    by (Some pair) is =
        let found : lookup test pairs ≡ Some pair.1 = entry_of_pair test pairs ∙ ap (option_map (λ p. p.1)) is in
        rw (is, found) refl

-- ---- puts

-- what a push hands back where there is room: the key, with what it had
pub displaced_in : (key : KeyOf) (entry : Entry) (cache : lru.LruCache KeyOf Entry) → length cache.entries < cache.cap
    → lru.displaced key_eq cache key entry ≡ option_map (λ old. (key, old)) (lookup (key_eq key) cache.entries)
displaced_in key entry cache room = by (lookup (key_eq key) cache.entries)
  where
    by : (found : Option Entry) → option_map_or (λ old. Some (key, old)) found (slice_get cache.entries (cache.cap - 1)) ≡ option_map (λ old. (key, old)) found
    by None = slice_get_past cache.entries (cache.cap - 1) (omega (arith, room))
    by (Some old) = refl

-- the pair that passes a test is found with what was written there
lookup_entry-written : (test : KeyOf → Bool) (entry : Entry) (pairs : List (KeyOf × Entry))
    → lookup_entry test (set_value test pairs entry) ≡ option_map (λ pair. (pair.0, entry)) (lookup_entry test pairs)
lookup_entry-written test entry [] = refl
lookup_entry-written test entry (pair ∷ pairs) = by (test pair.0) refl (lookup_entry-written test entry pairs)
  where
    written : List (KeyOf × Entry)
    written = set_value test pairs entry

    cut : Bool → Option (KeyOf × Entry)
    cut b = lookup_entry test (cond b ((pair.0, entry) ∷ pairs) (pair ∷ written))

    found : Bool → Option (KeyOf × Entry)
    found b = option_map (λ p. (p.0, entry)) (cond b (Some pair) (lookup_entry test pairs))

    by : (b : Bool) → test pair.0 ≡ b → lookup_entry test written ≡ option_map (λ p. (p.0, entry)) (lookup_entry test pairs)
        → lookup_entry test (set_value test (pair ∷ pairs) entry) ≡ option_map (λ p. (p.0, entry)) (lookup_entry test (pair ∷ pairs))
    by true is rest = ap cut is ∙ (ap (λ b. cond b (Some (pair.0, entry)) (lookup_entry test pairs)) is ∙ sym (ap found is))
    by false is rest = ap cut is ∙ (ap (λ b. cond b (Some pair) (lookup_entry test written)) is ∙ (rest ∙ sym (ap found is)))

-- and the others stay
remove_entry-written : (test : KeyOf → Bool) (entry : Entry) (pairs : List (KeyOf × Entry)) → remove_entry test (set_value test pairs entry) ≡ remove_entry test pairs
remove_entry-written test entry [] = refl
remove_entry-written test entry (pair ∷ pairs) = by (test pair.0) refl (remove_entry-written test entry pairs)
  where
    written : List (KeyOf × Entry)
    written = set_value test pairs entry

    cut : Bool → List (KeyOf × Entry)
    cut b = remove_entry test (cond b ((pair.0, entry) ∷ pairs) (pair ∷ written))

    left : Bool → List (KeyOf × Entry)
    left b = cond b pairs (pair ∷ remove_entry test pairs)

    by : (b : Bool) → test pair.0 ≡ b → remove_entry test written ≡ remove_entry test pairs
        → remove_entry test (set_value test (pair ∷ pairs) entry) ≡ remove_entry test (pair ∷ pairs)
    by true is rest = ap cut is ∙ (ap (λ b. cond b pairs ((pair.0, entry) ∷ remove_entry test pairs)) is ∙ sym (ap left is))
    by false is rest = ap cut is ∙ (ap (λ b. cond b written (pair ∷ remove_entry test written)) is ∙ (ap (λ ps. pair ∷ ps) rest ∙ sym (ap left is)))

-- what is there may be written there
pub written_same : {K : Type 0} (test : K → Bool) (entry : Entry) (pairs : List (K × Entry)) → lookup test pairs ≡ Some entry → set_value test pairs entry ≡ pairs
written_same test entry [] is = refl
written_same test entry (pair ∷ pairs) is = by (test pair.0) refl (written_same test entry pairs)
  where
    by : (b : Bool) → test pair.0 ≡ b → (lookup test pairs ≡ Some entry → set_value test pairs entry ≡ pairs) → set_value test (pair ∷ pairs) entry ≡ pair ∷ pairs
    by true at rest = let same : pair.1 ≡ entry = cc (rw at at is) in rw at (ap (λ e. (pair.0, e) ∷ pairs) (sym same))
    by false at rest = rw at (ap (λ ps. pair ∷ ps) (rest (rw at at is)))

-- what a key has is written over, and comes to the front: that is a put
pub written_put : (key : KeyOf) (entry : Entry) (cache : lru.LruCache KeyOf Entry) → IsSome (lookup (key_eq key) cache.entries)
    → lru.promoted (key_eq key) (set_value (key_eq key) cache.entries entry) ≡ lru.put_entries key_eq cache key entry
written_put key entry cache some = by (lookup_entry (key_eq key) cache.entries) refl
  where
    by : (found : Option (KeyOf × Entry)) → lookup_entry (key_eq key) cache.entries ≡ found
        → lru.promoted (key_eq key) (set_value (key_eq key) cache.entries entry) ≡ lru.put_entries key_eq cache key entry
    by None is =
        let none : lookup (key_eq key) cache.entries ≡ None = entry_of_pair (key_eq key) cache.entries ∙ ap (option_map (λ p. p.1)) is in
        let bad : false ≡ true = subst (λ found. IsSome found) none some in absurd cc
    by (Some pair) is =
        let found : lookup_entry (key_eq key) (set_value (key_eq key) cache.entries entry) ≡ Some (pair.0, entry) =
        lookup_entry-written (key_eq key) entry cache.entries ∙ ap (option_map (λ p. (p.0, entry))) is in
        rw (is, found) (ap (λ ps. (pair.0, entry) ∷ ps) (remove_entry-written (key_eq key) entry cache.entries))

-- the pairs after a put
abbrev put_over : ℕ → KeyOf → Entry → List (KeyOf × Entry) → Option (KeyOf × Entry) → List (KeyOf × Entry)
put_over most key entry pairs found = option_map_or (λ pair. (pair.0, entry) ∷ remove_entry (key_eq key) pairs) found ((key, entry) ∷ take (most - 1) pairs)

-- where the first so many are all
pub all_taken : {X : Type 0} (n : ℕ) (xs : List X) → length xs < n + 1 → take n xs ≡ xs
all_taken zero [] lt = refl
all_taken (suc n) [] lt = refl
all_taken zero (x ∷ xs) lt = absurd (omega arith)
all_taken (suc n) (x ∷ xs) lt = ap (λ ys. x ∷ ys) (all_taken n xs (omega arith))

pub absent_lacks : (key : KeyOf) (entries : List Entry) → entry_at key entries ≡ None → LacksKey key entries
absent_lacks key [] none = tt
absent_lacks key (entry ∷ entries) none = by (key_eq key entry.key) refl (absent_lacks key entries)
  where
    by : (b : Bool) → key_eq key entry.key ≡ b → (entry_at key entries ≡ None → LacksKey key entries) → LacksKey key (entry ∷ entries)
    by true is rest = let bad : Some entry ≡ None = rw is at none in absurd cc
    by false is rest = (is, rest (rw is at none))

pub put_in : (most : ℕ) (entry : Entry) (pairs : List (KeyOf × Entry)) → AreOwn pairs → AreApart (entries_in pairs) → length pairs < most
    → entries_in (lru.put_entries key_eq (lru.lru_cache pairs most) entry.key entry) ≡ entry ∷ staying (goes entry.key None) (entries_in pairs)
put_in most entry pairs own apart room = by (lookup_entry (key_eq entry.key) pairs) refl
  where
    by : (found : Option (KeyOf × Entry)) → lookup_entry (key_eq entry.key) pairs ≡ found
        → entries_in (put_over most entry.key entry pairs found) ≡ entry ∷ staying (goes entry.key None) (entries_in pairs)
    by None is =
        let none : entry_at entry.key (entries_in pairs) ≡ None =
        sym (found_in_pairs entry.key pairs own) ∙ (entry_of_pair (key_eq entry.key) pairs ∙ ap (option_map (λ p. p.1)) is) in
        ap (λ ps. entry ∷ entries_in ps) (all_taken (most - 1) pairs (omega arith))
        ∙ ap (λ es. entry ∷ es) (sym (staying-lacks entry.key (entries_in pairs) (absent_lacks entry.key (entries_in pairs) none)))
    by (Some pair) is = ap (λ es. entry ∷ es) (removed_in entry.key pairs own apart)

pub own_put : (most : ℕ) (entry : Entry) (pairs : List (KeyOf × Entry)) → AreOwn pairs
    → AreOwn (lru.put_entries key_eq (lru.lru_cache pairs most) entry.key entry)
own_put most entry pairs own = by (lookup_entry (key_eq entry.key) pairs) refl
  where
    by : (found : Option (KeyOf × Entry)) → lookup_entry (key_eq entry.key) pairs ≡ found → AreOwn (put_over most entry.key entry pairs found)
    by None is = (refl, own_taken (most - 1) pairs own)
    by (Some pair) is =
        (key_eq-same entry.key pair.0 (pair_is_own (key_eq entry.key) pairs pair own is).0, own_removed (key_eq entry.key) pairs own)

-- ---- the end

pub last_in : (pairs : List (KeyOf × Entry)) → AreOwn pairs → option_map (λ pair. pair.0) (lru.last_entry pairs) ≡ last_key (entries_in pairs)
last_in [] own = refl
last_in (pair ∷ []) own = ap Some (sym own.0)
last_in (pair ∷ next ∷ pairs) own =
    let behind : length (pair ∷ next ∷ pairs) - 1 ≡ suc (length (next ∷ pairs) - 1) = omega arith in
    ap (λ i. option_map (λ (p : KeyOf × Entry). p.0) (slice_get (pair ∷ next ∷ pairs) i)) behind ∙ last_in (next ∷ pairs) own.1

-- it is kept under its own key
pub last_own : (pairs : List (KeyOf × Entry)) (pair : KeyOf × Entry) → AreOwn pairs → lru.last_entry pairs ≡ Some pair → pair.1.key ≡ pair.0
last_own [] pair own is = absurd cc
last_own (first ∷ []) pair own is = let same : first ≡ pair = cc in subst (λ (p : KeyOf × Entry). p.1.key ≡ p.0) same own.0
last_own (first ∷ next ∷ pairs) pair own is =
    let behind : length (first ∷ next ∷ pairs) - 1 ≡ suc (length (next ∷ pairs) - 1) = omega arith in
    last_own (next ∷ pairs) pair own.1 (sym (ap (slice_get (first ∷ next ∷ pairs)) behind) ∙ is)

-- where there is no last one, there is none
pub none_taken : (pairs : List (KeyOf × Entry)) → lru.last_entry pairs ≡ None → pairs ≡ take (length pairs - 1) pairs
none_taken [] is = refl
none_taken (pair ∷ []) is = absurd cc
none_taken (first ∷ next ∷ pairs) is =
    let behind : length (first ∷ next ∷ pairs) - 1 ≡ suc (length (next ∷ pairs) - 1) = omega arith in
    ap (λ ps. first ∷ ps) (none_taken (next ∷ pairs) (sym (ap (slice_get (first ∷ next ∷ pairs)) behind) ∙ is))
    ∙ ap (λ n. take n (first ∷ next ∷ pairs)) (sym behind)

-- the last entry stands behind the others
last_behind : (pairs : List (KeyOf × Entry)) (pair : KeyOf × Entry) → lru.last_entry pairs ≡ Some pair
    → entries_in pairs ≡ entries_in (take (length pairs - 1) pairs) ++ pair.1 ∷ []
last_behind [] pair is = absurd cc
last_behind (first ∷ []) pair is = let same : first ≡ pair = cc in ap (λ (p : KeyOf × Entry). p.1 ∷ []) same
last_behind (first ∷ next ∷ pairs) pair is =
    let behind : length (first ∷ next ∷ pairs) - 1 ≡ suc (length (next ∷ pairs) - 1) = omega arith in
    ap (λ es. first.1 ∷ es) (last_behind (next ∷ pairs) pair (sym (ap (slice_get (first ∷ next ∷ pairs)) behind) ∙ is))
    ∙ ap (λ n. entries_in (take n (first ∷ next ∷ pairs)) ++ pair.1 ∷ []) (sym behind)

-- the last entry goes alone
pub last_gone : (pairs : List (KeyOf × Entry)) (pair : KeyOf × Entry) → AreApart (entries_in pairs) → lru.last_entry pairs ≡ Some pair
    → staying (goes pair.1.key None) (entries_in pairs) ≡ entries_in (take (length pairs - 1) pairs)
last_gone pairs pair apart is =
    let front : List Entry = entries_in (take (length pairs - 1) pairs) in
    let split : entries_in pairs ≡ front ++ pair.1 ∷ [] = last_behind pairs pair is in
    ap (staying (goes pair.1.key None)) split ∙ (staying-middle front pair.1 [] (subst AreApart split apart) ∙ append-nil front)

-- it is found under its key
pub last_found : (pairs : List (KeyOf × Entry)) (pair : KeyOf × Entry) → AreApart (entries_in pairs) → lru.last_entry pairs ≡ Some pair
    → entry_at pair.1.key (entries_in pairs) ≡ Some pair.1
last_found pairs pair apart is =
    let front : List Entry = entries_in (take (length pairs - 1) pairs) in
    let split : entries_in pairs ≡ front ++ pair.1 ∷ [] = last_behind pairs pair is in
    ap (entry_at pair.1.key) split ∙ entry_at-middle front pair.1 [] (subst AreApart split apart)

pub taken_in : (pairs : List (KeyOf × Entry)) → entries_in (take (length pairs - 1) pairs) ≡ take (length (entries_in pairs) - 1) (entries_in pairs)
taken_in pairs = sym (take-map (λ pair. pair.1) (length pairs - 1) pairs) ∙ ap (λ n. take (n - 1) (entries_in pairs)) (sym (length_in pairs))
  where
    length_in : (ps : List (KeyOf × Entry)) → length (entries_in ps) ≡ length ps
    length_in [] = refl
    length_in (p ∷ ps) = ap suc (length_in ps)
