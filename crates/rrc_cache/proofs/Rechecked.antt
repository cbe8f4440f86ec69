-- SPDX-License-Identifier: MIT
-- A recheck goes through the events one by one.
use Rattle.std.specs.Prelude.{reverse}
use Rattle.std.proofs.Common.{◌≡◌, ℕ, ◌+◌, ◌<◌, List, [], ◌∷◌, ◌++◌, length, take, drop, get_or, sym, ap, subst, ◌∙◌, refl, arith}
use Rattle.std.proofs.lemmas.List.{length-take-le}
use Rattle.rrc_history.specs.declared.event.Event.{Event}
use Rattle.rrc_history.specs.declared.snapshot.Snapshot.{Snapshot}
use Rattle.rrc_history.specs.Audits.{IsFirstBad}
use Rattle.rrc_history.specs.Right.{IsRight}
use Rattle.rrc_history.specs.Sound.{AreSound}
use Rattle.rrc_cache.specs.declared.seeded.Seeded.{Seeded}
use Rattle.rrc_cache.specs.Calls.{Leaves}
use Rattle.rrc_cache.specs.Pairs.{StoreOf}
use Rattle.rrc_cache.proofs.Leaving.{snapshot_leaves}
use Rattle.rrc_cache.proofs.Turned.{reverse_more, split_at}

-- a store holds what a past leaves, and knows the stale limit
pub record IsRechecked (snapshot : Snapshot) (past : List Event) (store : StoreOf) : Type 0 where
  pub leaves : Leaves snapshot past store.entries
  pub stale : store.stale ≡ snapshot.rules.stale

pub rechecked_first : (snapshot : Snapshot) (seeded : Seeded) (store : StoreOf) → AreSound snapshot.rules.capacity snapshot.first snapshot.entries
    → store ≡ record { seeded = seeded; stale = snapshot.rules.stale; entries = snapshot.entries } → IsRechecked snapshot [] store
rechecked_first snapshot seeded store sound is = subst (IsRechecked snapshot []) (sym is) (record { leaves = snapshot_leaves snapshot sound; stale = refl })

pub rechecked_more : (snapshot : Snapshot) (events : List Event) (i : ℕ) (event : Event) (before after : StoreOf) → i < length events → event ≡ get_or events i event
    → IsRechecked snapshot (reverse (take i events)) before → Leaves snapshot (event ∷ reverse (take i events)) after.entries → after.stale ≡ before.stale
    → IsRechecked snapshot (reverse (take (i + 1) events)) after
rechecked_more snapshot events i event before after less is rechecked leaves stale =
    let more : event ∷ reverse (take i events) ≡ reverse (take (i + 1) events) = ap (λ e. e ∷ reverse (take i events)) is ∙ sym (reverse_more events i event less) in
    subst (λ (es : List Event). IsRechecked snapshot es after) more (record { leaves = leaves; stale = stale ∙ rechecked.stale })

pub first_bad : (snapshot : Snapshot) (events : List Event) (i : ℕ) (event : Event) (before : StoreOf) → i < length events → event ≡ get_or events i event
    → IsRechecked snapshot (reverse (take i events)) before → (IsRight snapshot (reverse (take i events)) event → ⊥) → IsFirstBad snapshot events i
first_bad snapshot events i event before less is rechecked wrong = record {
  before = take i events;
  event = event;
  behind = drop (i + 1) events;
  are = split_at events i event less ∙ ap (λ e. take i events ++ e ∷ drop (i + 1) events) (sym is);
  at = length-take-le i events (omega (arith, less));
  legal = rechecked.leaves.legal;
  bad = wrong;
}
