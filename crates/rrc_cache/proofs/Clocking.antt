-- SPDX-License-Identifier: MIT
-- Times of touch fall from the front on, and so no more entries stand before one than touches came after its last.
use Rattle.std.proofs.Common.{◌≡◌, ℕ, zero, suc, ◌+◌, ◌-◌, ◌<◌, ◌≤◌, ◌^◌, List, [], ◌∷◌, length, take, Bool, true, false, Option, Some, None, refl, sym, ap, subst, ◌∙◌, arith}
use Rattle.std.specs.Prelude.{cond, is_some, nat_le, if◌then◌else◌}
use Rattle.std.specs.List.{IsDistinct, slice_get}
use Rattle.std.specs.Option.{option_map, option_map_or}
use Rattle.std.specs.Map.{keys_of, lookup, lookup_entry, remove_entry, set_value}
use Rattle.std.proofs.lemmas.Bool.{leb-false, leb-true}
use Rattle.std.proofs.lemmas.List.{length-map, take-map}
use Rattle.std.proofs.lemmas.Option.{slice_get-map}
use Rattle.lru.specs.LruCache as lru
use Rattle.rrc_history.specs.declared.snapshot.Entry.{Entry}
use Rattle.rrc_cache.specs.declared.clocked.Stamped.{Stamped}
use Rattle.rrc_cache.specs.declared.hashed.HashedKey.{HashedKey}
use Rattle.rrc_cache.specs.Clocked.{FallBelow, IsClocked, ahead_in, unstamped, unstamped_map}
use Rattle.rrc_cache.specs.Keyed.{hashed_eq}
use Rattle.rrc_cache.proofs.Paired.{written_same}
use Rattle.rrc_cache.proofs.Plain.{unmoved}

abbrev pub bare : HashedKey × Stamped → HashedKey × Entry
bare pair = (pair.0, pair.1.entry)

-- ---- times

pub fall_later : (early late : ℕ) (pairs : List (HashedKey × Stamped)) → early ≤ late → FallBelow early pairs → FallBelow late pairs
fall_later early late [] le falls = tt
fall_later early late (pair ∷ pairs) le falls = let lt : pair.1.touched < early = falls.0 in (omega (arith, lt, le), falls.1)

module _ (test : HashedKey → Bool) where
  pub fall_removed : (time : ℕ) (pairs : List (HashedKey × Stamped)) → FallBelow time pairs → FallBelow time (remove_entry test pairs)
  fall_removed time [] falls = tt
  fall_removed time (pair ∷ pairs) falls = by (test pair.0) refl (fall_removed pair.1.touched pairs falls.1)
    where
      by : (b : Bool) → test pair.0 ≡ b → FallBelow pair.1.touched (remove_entry test pairs) → FallBelow time (remove_entry test (pair ∷ pairs))
      by true is rest = let lt : pair.1.touched < time = falls.0 in rw is (fall_later pair.1.touched time pairs (omega (arith, lt)) falls.1)
      by false is rest = rw is (falls.0, rest)

  -- THE LEMMA: as many as stand before an entry were touched after it
  pub ahead_below : (time : ℕ) (pairs : List (HashedKey × Stamped)) (stamped : Stamped) → FallBelow time pairs → lookup test pairs ≡ Some stamped
      → ahead_in test pairs + stamped.touched < time
  ahead_below time [] stamped falls is = absurd cc
  ahead_below time (pair ∷ pairs) stamped falls is = by (test pair.0) refl (ahead_below pair.1.touched pairs stamped falls.1)
    where
      by : (b : Bool) → test pair.0 ≡ b → (lookup test pairs ≡ Some stamped → ahead_in test pairs + stamped.touched < pair.1.touched)
          → ahead_in test (pair ∷ pairs) + stamped.touched < time
      by true at rest = let same : pair.1 ≡ stamped = cc (rw at at is) in
          let lt : stamped.touched < time = subst (λ (s : Stamped). s.touched < time) same falls.0 in
          rw at (omega (arith, lt))
      by false at rest =
          let behind : ahead_in test pairs + stamped.touched < pair.1.touched = rest (rw at at is) in
          let lt : pair.1.touched < time = falls.0 in
          rw at (omega (arith, behind, lt))

  pub ahead_few : {V : Type 0} (pairs : List (HashedKey × V)) → ahead_in test pairs ≤ length pairs
  ahead_few [] = omega arith
  ahead_few (pair ∷ pairs) = by (test pair.0) refl (ahead_few pairs)
    where
      by : (b : Bool) → test pair.0 ≡ b → ahead_in test pairs ≤ length pairs → ahead_in test (pair ∷ pairs) ≤ length (pair ∷ pairs)
      by true at rest = rw at (omega arith)
      by false at rest = rw at (omega (arith, rest))

pub fall_taken : (n time : ℕ) (pairs : List (HashedKey × Stamped)) → FallBelow time pairs → FallBelow time (take n pairs)
fall_taken zero time pairs falls = tt
fall_taken (suc n) time [] falls = tt
fall_taken (suc n) time (pair ∷ pairs) falls = (falls.0, fall_taken n pair.1.touched pairs falls.1)

-- ---- entries without the times

module _ (test : HashedKey → Bool) where
  pub lookup_bare : (pairs : List (HashedKey × Stamped)) → option_map (λ stamped. stamped.entry) (lookup test pairs) ≡ lookup test (unstamped pairs)
  lookup_bare [] = refl
  lookup_bare (pair ∷ pairs) = by (test pair.0) (lookup_bare pairs)
    where
      by : (b : Bool) → option_map (λ stamped. stamped.entry) (lookup test pairs) ≡ lookup test (unstamped pairs)
          → option_map (λ stamped. stamped.entry) (cond b (Some pair.1) (lookup test pairs)) ≡ cond b (Some pair.1.entry) (lookup test (unstamped pairs))
      by true rest = refl
      by false rest = rest

  pub lookup_entry_bare : (pairs : List (HashedKey × Stamped)) → option_map (λ pair. bare pair) (lookup_entry test pairs) ≡ lookup_entry test (unstamped pairs)
  lookup_entry_bare [] = refl
  lookup_entry_bare (pair ∷ pairs) = by (test pair.0) (lookup_entry_bare pairs)
    where
      by : (b : Bool) → option_map (λ p. bare p) (lookup_entry test pairs) ≡ lookup_entry test (unstamped pairs)
          → option_map (λ p. bare p) (cond b (Some pair) (lookup_entry test pairs)) ≡ cond b (Some (bare pair)) (lookup_entry test (unstamped pairs))
      by true rest = refl
      by false rest = rest

  pub remove_bare : (pairs : List (HashedKey × Stamped)) → unstamped (remove_entry test pairs) ≡ remove_entry test (unstamped pairs)
  remove_bare [] = refl
  remove_bare (pair ∷ pairs) = by (test pair.0) (remove_bare pairs)
    where
      by : (b : Bool) → unstamped (remove_entry test pairs) ≡ remove_entry test (unstamped pairs)
          → unstamped (cond b pairs (pair ∷ remove_entry test pairs)) ≡ cond b (unstamped pairs) (bare pair ∷ remove_entry test (unstamped pairs))
      by true rest = refl
      by false rest = ap (λ ps. bare pair ∷ ps) rest

  pub ahead_bare : (pairs : List (HashedKey × Stamped)) → ahead_in test (unstamped pairs) ≡ ahead_in test pairs
  ahead_bare [] = refl
  ahead_bare (pair ∷ pairs) = ap (λ n. if test pair.0 then 0 else n + 1) (ahead_bare pairs)

  pub found_entry : (pairs : List (HashedKey × Stamped)) → lookup test pairs ≡ option_map (λ pair. pair.1) (lookup_entry test pairs)
  found_entry [] = refl
  found_entry (pair ∷ pairs) = by (test pair.0) (found_entry pairs)
    where
      by : (b : Bool) → lookup test pairs ≡ option_map (λ p. p.1) (lookup_entry test pairs)
          → cond b (Some pair.1) (lookup test pairs) ≡ option_map (λ p. p.1) (cond b (Some pair) (lookup_entry test pairs))
      by true rest = refl
      by false rest = rest

  passes : (pairs : List (HashedKey × Stamped)) (pair : HashedKey × Stamped) → lookup_entry test pairs ≡ Some pair → test pair.0 ≡ true
  passes [] pair is = absurd cc
  passes (first ∷ pairs) pair is = by (test first.0) refl (passes pairs pair)
    where
      by : (b : Bool) → test first.0 ≡ b → (lookup_entry test pairs ≡ Some pair → test pair.0 ≡ true) → test pair.0 ≡ true
      by true at rest = let same : first ≡ pair = cc (rw at at is) in subst (λ (p : HashedKey × Stamped). test p.0 ≡ true) same at
      by false at rest = rest (rw at at is)

  -- ---- what is found comes to the front, with another stamp

  abbrev pub restamped : List (HashedKey × Stamped) → Stamped → List (HashedKey × Stamped)
  restamped pairs stamped = set_value test (lru.promoted test pairs) stamped

  front_set : (pairs : List (HashedKey × Stamped)) (pair : HashedKey × Stamped) (stamped : Stamped) → lookup_entry test pairs ≡ Some pair
      → restamped pairs stamped ≡ (pair.0, stamped) ∷ remove_entry test pairs
  front_set pairs pair stamped is =
      ap (λ found. set_value test (option_map_or (λ p. p ∷ remove_entry test pairs) found pairs) stamped) is
      ∙ ap (λ b. cond b ((pair.0, stamped) ∷ remove_entry test pairs) (pair ∷ set_value test (remove_entry test pairs) stamped)) (passes pairs pair is)

  pub restamped_bare : (pairs : List (HashedKey × Stamped)) (old new : Stamped) → lookup test pairs ≡ Some old → new.entry ≡ old.entry
      → unstamped (restamped pairs new) ≡ lru.promoted test (unstamped pairs)
  restamped_bare pairs old new is same = by (lookup_entry test pairs) refl
    where
      by : (found : Option (HashedKey × Stamped)) → lookup_entry test pairs ≡ found → unstamped (restamped pairs new) ≡ lru.promoted test (unstamped pairs)
      by None none = let bad : None ≡ Some old = sym (found_entry pairs ∙ ap (option_map (λ p. p.1)) none) ∙ is in absurd cc
      by (Some pair) some =
          let its : Some pair.1 ≡ Some old = sym (found_entry pairs ∙ ap (option_map (λ p. p.1)) some) ∙ is in
          let own : pair.1 ≡ old = cc in
          ap unstamped (front_set pairs pair new some)
          ∙ (ap (λ e. (pair.0, e) ∷ unstamped (remove_entry test pairs)) (same ∙ ap (λ (s : Stamped). s.entry) (sym own))
          ∙ (ap (λ ps. bare pair ∷ ps) (remove_bare pairs)
          ∙ ap (λ found. option_map_or (λ p. p ∷ remove_entry test (unstamped pairs)) found (unstamped pairs))
          (ap (option_map (λ p. bare p)) (sym some) ∙ lookup_entry_bare pairs)))

  pub restamped_falls : (clock : ℕ) (pairs : List (HashedKey × Stamped)) (old new : Stamped) → lookup test pairs ≡ Some old → new.touched ≡ clock
      → FallBelow clock pairs → FallBelow (clock + 1) (restamped pairs new)
  restamped_falls clock pairs old new is stamp falls = by (lookup_entry test pairs) refl
    where
      by : (found : Option (HashedKey × Stamped)) → lookup_entry test pairs ≡ found → FallBelow (clock + 1) (restamped pairs new)
      by None none = let bad : None ≡ Some old = sym (found_entry pairs ∙ ap (option_map (λ p. p.1)) none) ∙ is in absurd cc
      by (Some pair) some =
          subst (FallBelow (clock + 1)) (sym (front_set pairs pair new some))
          (omega (arith, stamp), subst (λ n. FallBelow n (remove_entry test pairs)) (sym stamp) (fall_removed test clock pairs falls))

-- the clock goes on by one, or stands still
pub ticks : (clock next : ℕ) (P : ℕ → Type 0) → next < 2 ^ 64 - 1 → (next ≡ clock + 1) → (clock < 2 ^ 64 - 1 → P (clock + 1)) → P next
ticks clock next P goes is all = subst P (sym is) (all (omega (arith, goes, is)))

-- ---- puts

pub put_bare : (cache : lru.LruCache HashedKey Stamped) (key : HashedKey) (stamped : Stamped)
    → unstamped (lru.put_entries hashed_eq cache key stamped) ≡ lru.put_entries hashed_eq (unstamped_map cache) key stamped.entry
put_bare cache key stamped =
    by (lookup_entry (hashed_eq key) cache.entries)
    ∙ ap (λ found. option_map_or (λ p. (p.0, stamped.entry) ∷ remove_entry (hashed_eq key) (unstamped cache.entries)) found ((key, stamped.entry) ∷ take (cache.cap - 1) (unstamped cache.entries)))
    (lookup_entry_bare (hashed_eq key) cache.entries)
  where
    by : (found : Option (HashedKey × Stamped))
        → unstamped (option_map_or (λ p. (p.0, stamped) ∷ remove_entry (hashed_eq key) cache.entries) found ((key, stamped) ∷ take (cache.cap - 1) cache.entries))
        ≡ option_map_or (λ p. (p.0, stamped.entry) ∷ remove_entry (hashed_eq key) (unstamped cache.entries)) (option_map (λ p. bare p) found)
        ((key, stamped.entry) ∷ take (cache.cap - 1) (unstamped cache.entries))
    by None = ap (λ ps. (key, stamped.entry) ∷ ps) (sym (take-map (λ p. bare p) (cache.cap - 1) cache.entries))
    by (Some pair) = ap (λ ps. (pair.0, stamped.entry) ∷ ps) (remove_bare (hashed_eq key) cache.entries)

pub put_falls : (clock : ℕ) (cache : lru.LruCache HashedKey Stamped) (key : HashedKey) (stamped : Stamped) → stamped.touched ≡ clock → FallBelow clock cache.entries
    → FallBelow (clock + 1) (lru.put_entries hashed_eq cache key stamped)
put_falls clock cache key stamped stamp falls = by (lookup_entry (hashed_eq key) cache.entries)
  where
    by : (found : Option (HashedKey × Stamped))
        → FallBelow (clock + 1) (option_map_or (λ p. (p.0, stamped) ∷ remove_entry (hashed_eq key) cache.entries) found ((key, stamped) ∷ take (cache.cap - 1) cache.entries))
    by None = (omega (arith, stamp), subst (λ n. FallBelow n (take (cache.cap - 1) cache.entries)) (sym stamp) (fall_taken (cache.cap - 1) clock cache.entries falls))
    by (Some pair) =
        (omega (arith, stamp), subst (λ n. FallBelow n (remove_entry (hashed_eq key) cache.entries)) (sym stamp) (fall_removed (hashed_eq key) clock cache.entries falls))

-- ---- the whole map

pub long_bare : (pairs : List (HashedKey × Stamped)) → length (unstamped pairs) ≡ length pairs
long_bare pairs = length-map pairs (λ p. bare p)

pub keys_bare : (pairs : List (HashedKey × Stamped)) → keys_of (unstamped pairs) ≡ keys_of pairs
keys_bare [] = refl
keys_bare (pair ∷ pairs) = ap (λ ks. pair.0 ∷ ks) (keys_bare pairs)

pub valid_bare : (cache : lru.LruCache HashedKey Stamped) → lru.IsValid hashed_eq cache → lru.IsValid hashed_eq (unstamped_map cache)
valid_bare cache valid =
    (subst (IsDistinct hashed_eq) (sym (keys_bare cache.entries)) valid.0, omega (arith, long_bare cache.entries, valid.1), valid.2)

pub last_bare : (pairs : List (HashedKey × Stamped)) → option_map (λ pair. bare pair) (lru.last_entry pairs) ≡ lru.last_entry (unstamped pairs)
last_bare pairs =
    sym (slice_get-map (λ p. bare p) pairs (length pairs - 1)) ∙ ap (λ n. slice_get (unstamped pairs) (n - 1)) (sym (long_bare pairs))

pub first_bare : (pairs : List (HashedKey × Stamped)) → option_map (λ pair. bare pair) (slice_get pairs 0) ≡ slice_get (unstamped pairs) 0
first_bare pairs = sym (slice_get-map (λ p. bare p) pairs 0)

pub fewer_bare : (pairs : List (HashedKey × Stamped)) → unstamped (take (length pairs - 1) pairs) ≡ take (length (unstamped pairs) - 1) (unstamped pairs)
fewer_bare pairs = sym (take-map (λ p. bare p) (length pairs - 1) pairs) ∙ ap (λ n. take (n - 1) (unstamped pairs)) (sym (long_bare pairs))

-- what is told as an age is no less than as many as stand before
pub age_holds : (test : HashedKey → Bool) (clock age : ℕ) (pairs : List (HashedKey × Stamped)) (stamped : Stamped) → IsClocked clock pairs
    → lookup test pairs ≡ Some stamped → length pairs < 2 ^ 63 → (clock < 2 ^ 64 - 1 → age ≡ clock - 1 - stamped.touched) → (2 ^ 64 - 1 ≤ clock → age ≡ 2 ^ 64 - 1)
    → ahead_in test (unstamped pairs) ≤ age
age_holds test clock age pairs stamped clocked found few goes stands = by (nat_le (2 ^ 64 - 1) clock) refl
  where
    by : (b : Bool) → nat_le (2 ^ 64 - 1) clock ≡ b → ahead_in test (unstamped pairs) ≤ age
    by false lt =
        let below : clock < 2 ^ 64 - 1 = leb-false (2 ^ 64 - 1) clock lt in
        let ahead : ahead_in test pairs + stamped.touched < clock = ahead_below test clock pairs stamped (clocked below) found in
        omega (arith, goes below, ahead, ahead_bare test pairs)
    by true ge =
        let past : 2 ^ 64 - 1 ≤ clock = leb-true (2 ^ 64 - 1) clock ge in
        omega (arith, stands past, few, ahead_bare test pairs, ahead_few test pairs)

-- where nothing is found nothing moves
pub bare_unmoved : (test : HashedKey → Bool) (pairs : List (HashedKey × Stamped)) → lookup test pairs ≡ None
    → unstamped pairs ≡ lru.promoted test (unstamped pairs)
bare_unmoved test pairs none =
    sym (unmoved test (unstamped pairs) (ap is_some (sym (lookup_bare test pairs) ∙ ap (option_map (λ (s : Stamped). s.entry)) none)))

-- ---- what is written where it stands keeps its stamp

module _ (test : HashedKey → Bool) where
  pub set_bare : (new : Stamped) (pairs : List (HashedKey × Stamped)) → unstamped (set_value test pairs new) ≡ set_value test (unstamped pairs) new.entry
  set_bare new [] = refl
  set_bare new (pair ∷ pairs) = by (test pair.0) (set_bare new pairs)
    where
      by : (b : Bool) → unstamped (set_value test pairs new) ≡ set_value test (unstamped pairs) new.entry
          → unstamped (cond b ((pair.0, new) ∷ pairs) (pair ∷ set_value test pairs new))
          ≡ cond b ((pair.0, new.entry) ∷ unstamped pairs) (bare pair ∷ set_value test (unstamped pairs) new.entry)
      by true rest = refl
      by false rest = ap (λ ps. bare pair ∷ ps) rest

  pub set_falls : (time : ℕ) (pairs : List (HashedKey × Stamped)) (old new : Stamped) → lookup test pairs ≡ Some old → new.touched ≡ old.touched
      → FallBelow time pairs → FallBelow time (set_value test pairs new)
  set_falls time [] old new is stamp falls = tt
  set_falls time (pair ∷ pairs) old new is stamp falls = by (test pair.0) refl (set_falls pair.1.touched pairs old new)
    where
      by : (b : Bool) → test pair.0 ≡ b
          → (lookup test pairs ≡ Some old → new.touched ≡ old.touched → FallBelow pair.1.touched pairs → FallBelow pair.1.touched (set_value test pairs new))
          → FallBelow time (set_value test (pair ∷ pairs) new)
      by true at rest =
          let same : pair.1 ≡ old = cc (rw at at is) in
          let stamps : pair.1.touched ≡ new.touched = ap (λ (s : Stamped). s.touched) same ∙ sym stamp in
          rw at (subst (λ n. n < time) stamps falls.0, subst (λ n. FallBelow n pairs) stamps falls.1)
      by false at rest = rw at (falls.0, rest (rw at at is) stamp falls.1)

  pub set_same : (pairs : List (HashedKey × Stamped)) (old new : Stamped) → lookup test pairs ≡ Some old → new.entry ≡ old.entry
      → unstamped (set_value test pairs new) ≡ unstamped pairs
  set_same pairs old new is same =
      set_bare new pairs
      ∙ (ap (set_value test (unstamped pairs)) same
      ∙ written_same test old.entry (unstamped pairs) (sym (lookup_bare test pairs) ∙ ap (option_map (λ (s : Stamped). s.entry)) is))
