-- SPDX-License-Identifier: MIT
-- What the calls of a store keep of its invariant.
use Rattle.std.proofs.Common.{◌≡◌, ℕ, ◌≤◌, List, Bool, Some, None, true, false, ◌||◌, refl, sym, ap, subst, ◌∙◌}
use Rattle.rrc_name.specs.Key.{KeyOf, key_eq}
use Rattle.rrc_history.specs.declared.snapshot.Entry.{Entry}
use Rattle.rrc_history.specs.Past.{entry_at}
use Rattle.rrc_history.specs.lemmas.EntryLaws.{entry_at-key}
use Rattle.rrc_cache.specs.declared.expiry_queue.Expiry.{Expiry}
use Rattle.rrc_cache.specs.ExpiryQueue.{AreQueued, HasSameExpiries, ExpiryQueueOf, expires_by, is_by}
use Rattle.rrc_cache.specs.FullExpiry.{full_expiry_of}
use Rattle.rrc_cache.specs.Pairs.{EntriesOf, IsStore}
use Rattle.rrc_cache.proofs.Timed.{is_by-other, is_by-own, same_queued, requeued, still_queued}

-- with other entries, which are queued
pub edited_queue : (stale : ℕ) (entries : List Entry) (now : EntriesOf) (queue : ExpiryQueueOf) → stale ≤ 604800 → now.entries ≡ entries → AreQueued stale entries queue
    → IsStore stale now.entries queue
edited_queue stale entries now queue limit is are = record {
  limit = limit;
  queued = subst (λ es. AreQueued stale es queue) (sym is) are;
}

-- with another queue that has each entry
pub queued_store : (stale : ℕ) (entries : List Entry) (old new : ExpiryQueueOf) → IsStore stale entries old → AreQueued stale entries new → IsStore stale entries new
queued_store stale entries old new store are = record {
  limit = store.limit;
  queued = are;
}

-- with the same expiries
pub same_store : (stale : ℕ) (entries : List Entry) (old new : ExpiryQueueOf) → HasSameExpiries new old → IsStore stale entries old → IsStore stale entries new
same_store stale entries old new same store = queued_store stale entries old new store (same_queued stale entries old new same store.queued)

module _ (stale : ℕ) (entries : List Entry) (queue taken : ExpiryQueueOf) (expiry : Expiry) (store : IsStore stale entries queue)
    (takes : (key : KeyOf) (time : ℕ) → expires_by queue key time ≡ (is_by key time expiry || expires_by taken key time)) where
  -- the expiries of other keys stay
  others_stay : (key : KeyOf) (time : ℕ) → key_eq key expiry.key ≡ false → expires_by queue key time ≡ true → expires_by taken key time ≡ true
  others_stay key time other is = sym (ap (λ b. b || expires_by taken key time) (is_by-other key time expiry other)) ∙ (sym (takes key time) ∙ is)

  -- an expiry was let go where there is another of its key that comes no later
  pub repeated_store : ((key : KeyOf) (time : ℕ) → is_by key time expiry ≡ true → expires_by taken key time ≡ true) → IsStore stale entries taken
  repeated_store repeats =
      queued_store stale entries queue taken store
      (λ key. still_queued stale queue taken (entry_at key entries)
      (λ time entry found is. by entry.key time (is_by entry.key time expiry) refl (sym (takes entry.key time) ∙ is)) (store.queued key))
    where
      by : (key : KeyOf) (time : ℕ) (b : Bool) → is_by key time expiry ≡ b → (is_by key time expiry || expires_by taken key time) ≡ true → expires_by taken key time ≡ true
      by key time true at is = repeats key time at
      by key time false at is = sym (ap (λ b. b || expires_by taken key time) at) ∙ is

  -- an expiry was let go whose key holds nothing
  pub gone_store : (key : KeyOf) → key ≡ expiry.key → entry_at key entries ≡ None → IsStore stale entries taken
  gone_store key own none =
      queued_store stale entries queue taken store
      (requeued stale entries queue store.queued expiry taken None
      (ap (λ k. entry_at k entries) (sym own) ∙ none) others_stay tt)

  -- or whose key holds an entry, of which there is the expiry
  pub held_store : (key : KeyOf) (entry : Entry) (time : ℕ) (added : ExpiryQueueOf) → key ≡ expiry.key → entry_at key entries ≡ Some entry
      → time ≡ full_expiry_of stale entry
      → ((k : KeyOf) (t : ℕ) → (is_by k t (record { time = time; key = key }) || expires_by taken k t) ≡ true → expires_by added k t ≡ true) → IsStore stale entries added
  held_store key entry time added own found timed adds =
      queued_store stale entries queue added store
      (requeued stale entries queue store.queued expiry added (Some entry)
      (ap (λ k. entry_at k entries) (sym own) ∙ found)
      (λ k t other is. adds k t (also (is_by k t (record { time = time; key = key })) (expires_by taken k t) (others_stay k t other is)))
      (adds entry.key expires (ap (λ b. b || expires_by taken entry.key expires) here)))
    where
      expires : ℕ
      expires = full_expiry_of stale entry

      also : (a b : Bool) → b ≡ true → (a || b) ≡ true
      also true b h = refl
      also false b h = h

      here : is_by entry.key expires (record { time = time; key = key }) ≡ true
      here =
          ap (λ k. is_by entry.key expires (record { time = time; key = k })) (entry_at-key key entries entry found)
          ∙ (ap (λ t. is_by entry.key expires (record { time = t; key = entry.key })) timed ∙ is_by-own entry.key expires)
