-- SPDX-License-Identifier: MIT
-- What the calls of a map of entries by their keys leave of the octets of its entries.
use Rattle.std.proofs.Common.{◌≡◌, ℕ, suc, ◌+◌, ◌-◌, ◌<◌, ◌^◌, ◌%◌, List, [], ◌∷◌, length, take, Bool, true, false, Option, Some, None, refl, sym, ap, ◌∙◌, arith}
use Rattle.std.specs.Prelude.{is_some, IsSome}
use Rattle.std.specs.List.{slice_get}
use Rattle.std.specs.Option.{option_map, option_map_or}
use Rattle.std.specs.Map.{lookup, lookup_entry, remove_entry}
use Rattle.lru.specs.LruCache as lru
use Rattle.rrc_name.specs.Key.{KeyOf, key_eq}
use Rattle.rrc_history.specs.declared.snapshot.Entry.{Entry}
use Rattle.rrc_history.specs.Octets.{entry_octets, octets_of}
use Rattle.rrc_cache.specs.Counted.{counted_octets, held_octets}
use Rattle.rrc_cache.specs.Pairs.{entries_in}
use Rattle.rrc_cache.proofs.Paired.{all_taken, entry_of_pair}

-- the octets of the entries of a map
abbrev pub octets_in : List (KeyOf × Entry) → ℕ
octets_in pairs = octets_of (entries_in pairs)

-- what stays and what is removed are all
pub removed_octets : (test : KeyOf → Bool) (pairs : List (KeyOf × Entry)) → octets_in (remove_entry test pairs) + held_octets (lookup test pairs) ≡ octets_in pairs
removed_octets test [] = refl
removed_octets test (pair ∷ pairs) = by (test pair.0) refl (removed_octets test pairs)
  where
    by : (b : Bool) → test pair.0 ≡ b → octets_in (remove_entry test pairs) + held_octets (lookup test pairs) ≡ octets_in pairs
        → octets_in (remove_entry test (pair ∷ pairs)) + held_octets (lookup test (pair ∷ pairs)) ≡ octets_in (pair ∷ pairs)
    by true is rest = rw is (omega arith)
    by false is rest = rw is (omega (arith, rest))

-- what comes to the front was among them
pub promoted_octets : (test : KeyOf → Bool) (pairs : List (KeyOf × Entry)) → octets_in (lru.promoted test pairs) ≡ octets_in pairs
promoted_octets test pairs = by (lookup_entry test pairs) refl
  where
    by : (found : Option (KeyOf × Entry)) → lookup_entry test pairs ≡ found
        → octets_in (option_map_or (λ pair. pair ∷ remove_entry test pairs) found pairs) ≡ octets_in pairs
    by None is = refl
    by (Some pair) is =
        let some : lookup test pairs ≡ Some pair.1 = entry_of_pair test pairs ∙ ap (option_map (λ p. p.1)) is in
        let all : octets_in (remove_entry test pairs) + entry_octets pair.1 ≡ octets_in pairs =
        ap (λ found. octets_in (remove_entry test pairs) + held_octets found) (sym some) ∙ removed_octets test pairs in
        omega (arith, all)

-- what a put leaves, with what the key had, is what there was with what was put
pub put_octets : (key : KeyOf) (entry : Entry) (cache : lru.LruCache KeyOf Entry) → length cache.entries < cache.cap
    → octets_in (lru.put_entries key_eq cache key entry) + held_octets (lookup (key_eq key) cache.entries) ≡ entry_octets entry + octets_in cache.entries
put_octets key entry cache room = by (lookup_entry (key_eq key) cache.entries) refl
  where
    by : (found : Option (KeyOf × Entry)) → lookup_entry (key_eq key) cache.entries ≡ found
        → octets_in (option_map_or (λ pair. (pair.0, entry) ∷ remove_entry (key_eq key) cache.entries) found ((key, entry) ∷ take (cache.cap - 1) cache.entries))
        + held_octets (lookup (key_eq key) cache.entries) ≡ entry_octets entry + octets_in cache.entries
    by None is =
        let none : lookup (key_eq key) cache.entries ≡ None = entry_of_pair (key_eq key) cache.entries ∙ ap (option_map (λ p. p.1)) is in
        let all : take (cache.cap - 1) cache.entries ≡ cache.entries = all_taken (cache.cap - 1) cache.entries (omega (arith, room)) in
        rw (none, all) (omega arith)
    by (Some pair) is =
        let all : octets_in (remove_entry (key_eq key) cache.entries) + held_octets (lookup (key_eq key) cache.entries) ≡ octets_in cache.entries =
        removed_octets (key_eq key) cache.entries in
        omega (arith, all)

-- all but the last, and the last
pub last_octets : (pairs : List (KeyOf × Entry))
    → octets_in (take (length pairs - 1) pairs) + held_octets (option_map (λ pair. pair.1) (lru.last_entry pairs)) ≡ octets_in pairs
last_octets [] = refl
last_octets (pair ∷ []) = omega arith
last_octets (first ∷ next ∷ pairs) =
    let behind : length (first ∷ next ∷ pairs) - 1 ≡ suc (length (next ∷ pairs) - 1) = omega arith in
    let front : octets_in (take (length (first ∷ next ∷ pairs) - 1) (first ∷ next ∷ pairs)) ≡ entry_octets first.1 + octets_in (take (length (next ∷ pairs) - 1) (next ∷ pairs)) =
    ap (λ n. octets_in (take n (first ∷ next ∷ pairs))) behind in
    let last : lru.last_entry (first ∷ next ∷ pairs) ≡ lru.last_entry (next ∷ pairs) = ap (slice_get (first ∷ next ∷ pairs)) behind in
    let same : held_octets (option_map (λ pair. pair.1) (lru.last_entry (first ∷ next ∷ pairs))) ≡ held_octets (option_map (λ pair. pair.1) (lru.last_entry (next ∷ pairs))) =
    ap (λ (found : Option (KeyOf × Entry)). held_octets (option_map (λ pair. pair.1) found)) last in
    omega (arith, front, same, last_octets (next ∷ pairs))

-- ---- what each call leaves

module _ (before after : lru.LruCache KeyOf Entry) where
  pub without : (test : KeyOf → Bool) (gone : Option Entry) → gone ≡ lookup test before.entries
      → after ≡ lru.lru_cache (remove_entry test before.entries) before.cap → octets_in after.entries + held_octets gone ≡ octets_in before.entries
  without test gone found left =
      ap (λ (map : lru.LruCache KeyOf Entry). octets_in map.entries + held_octets gone) left
      ∙ (ap (λ held. octets_in (remove_entry test before.entries) + held_octets held) found ∙ removed_octets test before.entries)

  pub without_last : (gone : Option (KeyOf × Entry)) → gone ≡ lru.last_entry before.entries
      → after ≡ lru.lru_cache (take (length before.entries - 1) before.entries) before.cap
      → octets_in after.entries + held_octets (option_map (λ pair. pair.1) gone) ≡ octets_in before.entries
  without_last gone found left =
      let front : List (KeyOf × Entry) = take (length before.entries - 1) before.entries in
      ap (λ (map : lru.LruCache KeyOf Entry). octets_in map.entries + held_octets (option_map (λ pair. pair.1) gone)) left
      ∙ (ap (λ (last : Option (KeyOf × Entry)). octets_in front + held_octets (option_map (λ pair. pair.1) last)) found ∙ last_octets before.entries)

  pub with_promoted : (test : KeyOf → Bool) → after ≡ lru.lru_cache (lru.promoted test before.entries) before.cap → octets_in after.entries ≡ octets_in before.entries
  with_promoted test moved = ap (λ (map : lru.LruCache KeyOf Entry). octets_in map.entries) moved ∙ promoted_octets test before.entries

  pub with_put : (key : KeyOf) (entry : Entry) (old : Option Entry) → length before.entries < before.cap
      → old ≡ lookup (key_eq key) before.entries → after ≡ lru.lru_cache (lru.put_entries key_eq before key entry) before.cap
      → octets_in after.entries + held_octets old ≡ entry_octets entry + octets_in before.entries
  with_put key entry old room found left =
      ap (λ (map : lru.LruCache KeyOf Entry). octets_in map.entries + held_octets old) left
      ∙ (ap (λ held. octets_in (lru.put_entries key_eq before key entry) + held_octets held) found ∙ put_octets key entry before room)

  pub with_written : (key : KeyOf) (entry : Entry) → IsSome (lookup (key_eq key) before.entries)
      → after ≡ lru.lru_cache (lru.put_entries key_eq before key entry) before.cap
      → octets_in after.entries + held_octets (lookup (key_eq key) before.entries) ≡ entry_octets entry + octets_in before.entries
  with_written key entry held left = by (lookup_entry (key_eq key) before.entries) refl
    where
      by : (found : Option (KeyOf × Entry)) → lookup_entry (key_eq key) before.entries ≡ found
          → octets_in after.entries + held_octets (lookup (key_eq key) before.entries) ≡ entry_octets entry + octets_in before.entries
      by None at =
          let none : lookup (key_eq key) before.entries ≡ None = entry_of_pair (key_eq key) before.entries ∙ ap (option_map (λ p. p.1)) at in
          let bad : false ≡ true = sym (ap is_some none) ∙ held in absurd cc
      by (Some pair) at =
          let some : lookup (key_eq key) before.entries ≡ Some pair.1 = entry_of_pair (key_eq key) before.entries ∙ ap (option_map (λ p. p.1)) at in
          let rest : octets_in (remove_entry (key_eq key) before.entries) + held_octets (lookup (key_eq key) before.entries) ≡ octets_in before.entries =
          removed_octets (key_eq key) before.entries in
          let now : octets_in after.entries ≡ entry_octets entry + octets_in (remove_entry (key_eq key) before.entries) =
          ap (λ (map : lru.LruCache KeyOf Entry). octets_in map.entries) left
          ∙ ap (λ (found : Option (KeyOf × Entry)). octets_in (option_map_or (λ p. (p.0, entry) ∷ remove_entry (key_eq key) before.entries) found ((key, entry) ∷ take (before.cap - 1) before.entries))) at in
          omega (arith, rest, now)

-- octets that are told of what a key holds are those of that
pub told_octets : (found : Option Entry) (octets : ℕ) → option_map counted_octets found ≡ Some octets → octets ≡ held_octets found % 2 ^ 64
told_octets None octets is = absurd cc
told_octets (Some entry) octets is = let same : counted_octets entry ≡ octets = cc in sym same
