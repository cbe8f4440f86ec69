-- SPDX-License-Identifier: MIT
-- The last entry goes.
use Rattle.std.proofs.Common.{◌≡◌, ℕ, suc, ◌-◌, List, [], ◌∷◌, length, take, Option, Some, None, true, false, ◌||◌, refl, ap, sym, subst, ◌∙◌, arith}
use Rattle.std.specs.List.{slice_get}
use Rattle.std.specs.Option.{option_map}
use Rattle.lru.specs.LruCache.{last_entry}
use Rattle.rrc_name.specs.Key.{KeyOf, key_eq}
use Rattle.rrc_name.specs.lemmas.KeyLaws.{key_eq-laws}
use Rattle.rrc_history.specs.declared.snapshot.Entry.{Entry}
use Rattle.rrc_history.specs.Past.{last_key}
use Rattle.rrc_history.specs.Entries.{LacksKey, AreApart, goes, staying}
use Rattle.rrc_cache.specs.declared.clocked.Stamped.{Stamped}
use Rattle.rrc_cache.specs.declared.hashed.HashedKey.{HashedKey}
use Rattle.rrc_cache.specs.ExpiryQueue.{AreQueued, ExpiryQueueOf}
use Rattle.rrc_cache.specs.Keyed.{hashed_entries}
use Rattle.rrc_cache.specs.Lasts.{last_of}
use Rattle.rrc_cache.proofs.Timed.{removed_queued}

-- a key that no entry has is not the last one's
pub lacks_last : (key : KeyOf) (entries : List Entry) (last : KeyOf) → LacksKey key entries → last_key entries ≡ Some last → key_eq key last ≡ false
lacks_last key [] last lacks is = absurd cc
lacks_last key (entry ∷ []) last lacks is = let same : entry.key ≡ last = cc in subst (λ k. key_eq key k ≡ false) same lacks.0
lacks_last key (entry ∷ next ∷ entries) last lacks is = lacks_last key (next ∷ entries) last lacks.1 is

-- the entry of a pair
abbrev pub entry_in : HashedKey × Stamped → Entry
entry_in pair = pair.1.entry

-- the last pair is that of the last entry
pub last_hashed : (pairs : List (HashedKey × Stamped)) → option_map entry_in (last_entry pairs) ≡ last_of (hashed_entries pairs)
last_hashed [] = refl
last_hashed (pair ∷ []) = refl
last_hashed (first ∷ next ∷ pairs) =
    let behind : length (first ∷ next ∷ pairs) - 1 ≡ suc (length (next ∷ pairs) - 1) = omega arith in
    let others : length (hashed_entries (first ∷ next ∷ pairs)) - 1 ≡ suc (length (hashed_entries (next ∷ pairs)) - 1) = omega arith in
    ap (λ n. option_map entry_in (slice_get (first ∷ next ∷ pairs) n)) behind
    ∙ (last_hashed (next ∷ pairs) ∙ sym (ap (slice_get (hashed_entries (first ∷ next ∷ pairs))) others))

-- its key goes just where it does
pub last_leaves : (key : KeyOf) (entries : List Entry) → AreApart entries → last_key entries ≡ Some key
    → staying (goes key None) entries ≡ take (length entries - 1) entries
last_leaves key [] apart is = absurd cc
last_leaves key (entry ∷ []) apart is =
    let same : entry.key ≡ key = cc in
    let own : goes key None entry.key ≡ true = ap (λ b. b || false) (subst (λ k. key_eq k entry.key ≡ true) same (key_eq-laws.refl entry.key)) in
    rw own refl
last_leaves key (entry ∷ next ∷ entries) apart is =
    let other : key_eq entry.key key ≡ false = lacks_last entry.key (next ∷ entries) key apart.0 is in
    let stays : goes key None entry.key ≡ false = ap (λ b. b || false) (key_eq-laws.symm key entry.key ∙ other) in
    let rest = last_leaves key (next ∷ entries) apart.1 is in
    let many : length (entry ∷ next ∷ entries) - 1 ≡ suc (length (next ∷ entries) - 1) = omega arith in
    rw stays (ap (λ es. entry ∷ es) rest ∙ ap (λ n. take n (entry ∷ next ∷ entries)) (sym many))

-- where there is no last key, none goes
pub none_leaves : (entries : List Entry) → last_key entries ≡ None → entries ≡ take (length entries - 1) entries
none_leaves [] is = refl
none_leaves (entry ∷ []) is = absurd cc
none_leaves (entry ∷ next ∷ entries) is =
    let rest = none_leaves (next ∷ entries) is in
    let many : length (entry ∷ next ∷ entries) - 1 ≡ suc (length (next ∷ entries) - 1) = omega arith in
    ap (λ es. entry ∷ es) rest ∙ ap (λ n. take n (entry ∷ next ∷ entries)) (sym many)

-- what stays is queued still
pub last_queued : (stale : ℕ) (entries : List Entry) (queue : ExpiryQueueOf) → AreApart entries → AreQueued stale entries queue
    → AreQueued stale (take (length entries - 1) entries) queue
last_queued stale entries queue apart are = by (last_key entries) refl
  where
    by : (last : Option KeyOf) → last_key entries ≡ last → AreQueued stale (take (length entries - 1) entries) queue
    by None is = subst (λ es. AreQueued stale es queue) (none_leaves entries is) are
    by (Some key) is = subst (λ es. AreQueued stale es queue) (last_leaves key entries apart is) (removed_queued stale entries queue are key)
