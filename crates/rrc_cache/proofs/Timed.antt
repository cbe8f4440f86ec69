-- SPDX-License-Identifier: MIT
-- When entries expire, and that edits of the entries leave them queued.
use Rattle.std.proofs.Common.{◌≡◌, ℕ, zero, suc, ◌+◌, ◌-◌, ◌^◌, ◌<◌, ◌≤◌, List, [], ◌∷◌, Bool, true, false, ◌&&◌, ◌||◌, Option, Some, None, refl, sym, ap, subst, ◌∙◌, arith}
use Rattle.std.specs.Prelude.{◌==◌, nat_le, min, if◌then◌else◌}
use Rattle.std.specs.List.{AllByRecursion, list_any, slice_get}
use Rattle.std.proofs.lemmas.Bool.{and_parts, and_from, and_left, and_right, le-leb, leb-true, lt-leb}
use Rattle.std.proofs.lemmas.Bool.Decides.{nat_tests}
use Rattle.rrc_name.specs.Key.{KeyOf, key_eq}
use Rattle.rrc_name.specs.lemmas.KeyLaws.{key_eq-laws, key_eq-same}
use Rattle.rrc_history.specs.declared.snapshot.Entry.{Entry}
use Rattle.rrc_history.specs.Lives.{LAST_MOMENT, is_fully_expired, span}
use Rattle.rrc_history.specs.Past.{entry_at, is_among}
use Rattle.rrc_history.specs.Right.{is_swept}
use Rattle.rrc_history.specs.Entries.{goes, in_front, promoted, staying}
use Rattle.rrc_history.specs.lemmas.EntryLaws.{entry_at-key, entry_at-staying}
use Rattle.rrc_cache.specs.declared.expiry_queue.Expiry.{Expiry}
use Rattle.rrc_cache.specs.ExpiryQueue.{AreQueued, HasSameExpiries, ExpiryQueueOf, IsQueued, expired_among, expiry_of, expiries_of, expires_by, is_by, is_expired_by}
use Rattle.rrc_cache.specs.FullExpiry.{full_expiry_of}

-- ---- the expiry of an entry

over_by : (since span moment : ℕ) → (span == 0) ≡ false → moment ≤ 2 ^ 40 → nat_le (min (since + span) (2 ^ 64 - 1)) moment ≡ nat_le span (moment - since)
over_by since span moment some timely = grind (arith, nat_tests)

-- an entry is fully expired from its expiry on
pub expired_from : (stale moment : ℕ) (entry : Entry) → moment ≤ LAST_MOMENT → nat_le (full_expiry_of stale entry) moment ≡ is_fully_expired stale entry moment
expired_from stale moment entry timely = by (span stale entry.body == 0) refl
  where
    by : (none : Bool) → (span stale entry.body == 0) ≡ none
        → nat_le (if none then 0 else min (entry.moment + span stale entry.body) (2 ^ 64 - 1)) moment ≡ is_fully_expired stale entry moment
    by true is = grind (arith, nat_tests)
    by false is = over_by entry.moment (span stale entry.body) moment is timely

-- ---- one among the expiries

pub either : (a b : Bool) → b ≡ true → (a || b) ≡ true
either true b h = refl
either false b h = h

-- one of its own key, which is as early
pub is_by-own : (key : KeyOf) (time : ℕ) → is_by key time (record { time = time; key = key }) ≡ true
is_by-own key time = and_from (key_eq key key) (nat_le time time) (key_eq-laws.refl key) (le-leb time time (omega arith))

-- one of another key
pub is_by-other : (key : KeyOf) (time : ℕ) (expiry : Expiry) → key_eq key expiry.key ≡ false → is_by key time expiry ≡ false
is_by-other key time expiry other = ap (λ b. b && nat_le expiry.time time) other

-- one that comes by a time comes by a later one
is_by-later : (key : KeyOf) (early late : ℕ) (expiry : Expiry) → early ≤ late → is_by key early expiry ≡ true → is_by key late expiry ≡ true
is_by-later key early late expiry le is =
    let parts = and_parts (key_eq key expiry.key) (nat_le expiry.time early) is in
    and_from (key_eq key expiry.key) (nat_le expiry.time late) parts.0 (le-leb expiry.time late (omega (arith, le, leb-true expiry.time early parts.1)))

-- what comes by a time is there where one of the same key is that comes no later
pub is_by-before : (key : KeyOf) (time : ℕ) (expiry other : Expiry) → is_by other.key other.time expiry ≡ true → is_by key time other ≡ true → is_by key time expiry ≡ true
is_by-before key time expiry other before is =
    let parts = and_parts (key_eq key other.key) (nat_le other.time time) is in
    is_by-later key other.time time expiry (leb-true other.time time parts.1)
    (ap (λ k. is_by k other.time expiry) (key_eq-same key other.key parts.0) ∙ before)

-- one at a place is one of them
pub any_at : (test : Expiry → Bool) (expiries : List Expiry) (place : ℕ) (expiry : Expiry) → slice_get expiries place ≡ Some expiry → test expiry ≡ true → list_any test expiries ≡ true
any_at test [] place expiry is so = absurd cc
any_at test (first ∷ expiries) zero expiry is so =
    let it : first ≡ expiry = cc in
    ap (λ b. b || list_any test expiries) (ap test it ∙ so)
any_at test (first ∷ expiries) (suc place) expiry is so = either (test first) (list_any test expiries) (any_at test expiries place expiry is so)

any-later : (key : KeyOf) (early late : ℕ) (expiries : List Expiry) → early ≤ late → list_any (is_by key early) expiries ≡ true → list_any (is_by key late) expiries ≡ true
any-later key early late [] le is = is
any-later key early late (first ∷ expiries) le is = by (is_by key early first) refl (any-later key early late expiries le)
  where
    by : (b : Bool) → is_by key early first ≡ b → (list_any (is_by key early) expiries ≡ true → list_any (is_by key late) expiries ≡ true)
        → (is_by key late first || list_any (is_by key late) expiries) ≡ true
    by true at rest = ap (λ b. b || list_any (is_by key late) expiries) (is_by-later key early late first le at)
    by false at rest = either (is_by key late first) (list_any (is_by key late) expiries) (rest (sym (ap (λ b. b || list_any (is_by key early) expiries) at) ∙ is))

-- one that comes by a time is one of the key
any_of_key : (key : KeyOf) (time : ℕ) (expiries : List Expiry) → list_any (is_by key time) expiries ≡ true → list_any (λ expiry. key_eq key expiry.key) expiries ≡ true
any_of_key key time [] is = is
any_of_key key time (first ∷ expiries) is = by (key_eq key first.key) refl (any_of_key key time expiries)
  where
    by : (b : Bool) → key_eq key first.key ≡ b → (list_any (is_by key time) expiries ≡ true → list_any (λ expiry. key_eq key expiry.key) expiries ≡ true)
        → (key_eq key first.key || list_any (λ expiry. key_eq key expiry.key) expiries) ≡ true
    by true at rest = ap (λ b. b || list_any (λ expiry. key_eq key expiry.key) expiries) at
    by false at rest =
        either (key_eq key first.key) (list_any (λ expiry. key_eq key expiry.key) expiries)
        (rest (sym (ap (λ b. (b && nat_le first.time time) || list_any (is_by key time) expiries) at) ∙ is))

-- where expiries are kept, or not
pub of_kept : (kept is other : Bool) → kept ≡ true → (if kept then is else other) ≡ true → is ≡ true
of_kept kept is other at so = sym (ap (λ k. if k then is else other) at) ∙ so

pub where_kept : (kept is other : Bool) → kept ≡ true → is ≡ true → (if kept then is else other) ≡ true
where_kept kept is other at so = ap (λ k. if k then is else other) at ∙ so

if_kept : (kept is so other others : Bool) → (is ≡ true → so ≡ true) → (other ≡ true → others ≡ true) → (if kept then is else other) ≡ true
    → (if kept then so else others) ≡ true
if_kept true is so other others goes go at = goes at
if_kept false is so other others goes go at = go at

-- one that comes by a time, of those that wait or are due, comes by a later one
any_later : (key : KeyOf) (early late : ℕ) (waiting due : List Expiry) → early ≤ late → (list_any (is_by key early) waiting || list_any (is_by key early) due) ≡ true
    → (list_any (is_by key late) waiting || list_any (is_by key late) due) ≡ true
any_later key early late waiting due le is = by (list_any (is_by key early) waiting) refl
  where
    by : (b : Bool) → list_any (is_by key early) waiting ≡ b → (list_any (is_by key late) waiting || list_any (is_by key late) due) ≡ true
    by true at = ap (λ b. b || list_any (is_by key late) due) (any-later key early late waiting le at)
    by false at =
        either (list_any (is_by key late) waiting) (list_any (is_by key late) due)
        (any-later key early late due le (sym (ap (λ b. b || list_any (is_by key early) due) at) ∙ is))

expires_by-later : (queue : ExpiryQueueOf) (key : KeyOf) (early late : ℕ) → early ≤ late → expires_by queue key early ≡ true → expires_by queue key late ≡ true
expires_by-later queue key early late le =
    if_kept queue.kept (list_any (is_by key early) queue.waiting || list_any (is_by key early) queue.due)
    (list_any (is_by key late) queue.waiting || list_any (is_by key late) queue.due) (nat_le queue.soonest early) (nat_le queue.soonest late)
    (any_later key early late queue.waiting queue.due le) (λ is. le-leb queue.soonest late (omega (arith, le, leb-true queue.soonest early is)))

-- ---- what is found

-- what is found under the same key
found_same : (key other : KeyOf) (entries : List Entry) (found : Option Entry) → entry_at key entries ≡ found → key_eq key other ≡ true → entry_at other entries ≡ found
found_same key other entries found is same = ap (λ k. entry_at k entries) (sym (key_eq-same key other same)) ∙ is

goes_same : (key other : KeyOf) (b : Bool) → key_eq key other ≡ b → goes key None other ≡ b
goes_same key other true is = ap (λ b. b || false) is
goes_same key other false is = ap (λ b. b || false) is

-- what is found where a key goes
found_staying : (key other : KeyOf) (entries : List Entry) (b : Bool) → key_eq key other ≡ b
    → entry_at other (staying (goes key None) entries) ≡ (if b then None else entry_at other entries)
found_staying key other entries b is =
    entry_at-staying (goes key None) other entries ∙ ap (λ gone. if gone then None else entry_at other entries) (goes_same key other b is)

-- ---- the same expiries, and more

-- where an expiry under a key stays, or another key's
pub still_queued : (stale : ℕ) (old new : ExpiryQueueOf) (found : Option Entry)
    → ((time : ℕ) (entry : Entry) → found ≡ Some entry → expires_by old entry.key time ≡ true → expires_by new entry.key time ≡ true)
    → IsQueued stale old found → IsQueued stale new found
still_queued stale old new None stays is = tt
still_queued stale old new (Some entry) stays is = stays (full_expiry_of stale entry) entry refl is

pub same_queued : (stale : ℕ) (entries : List Entry) (old new : ExpiryQueueOf) → HasSameExpiries new old → AreQueued stale entries old → AreQueued stale entries new
same_queued stale entries old new same are = λ key. still_queued stale old new (entry_at key entries) (λ time entry found is. same entry.key time ∙ is) (are key)

module _ (stale : ℕ) (entries : List Entry) (queue : ExpiryQueueOf) (are : AreQueued stale entries queue) where
  -- ---- removals

  -- where a key goes
  pub removed_queued : (key : KeyOf) → AreQueued stale (staying (goes key None) entries) queue
  removed_queued key = λ other. by other (key_eq key other) refl
    where
      by : (other : KeyOf) (b : Bool) → key_eq key other ≡ b → IsQueued stale queue (entry_at other (staying (goes key None) entries))
      by other true same = subst (IsQueued stale queue) (sym (found_staying key other entries true same)) tt
      by other false same = subst (IsQueued stale queue) (sym (found_staying key other entries false same)) (are other)

  -- ---- puts

  module _ (entry : Entry) where
    abbrev after_put : List Entry
    after_put = entry ∷ staying (goes entry.key None) entries

    -- what is found after a put
    found_put : (key : KeyOf) (b : Bool) → key_eq entry.key key ≡ b → entry_at key after_put ≡ (if b then Some entry else entry_at key entries)
    found_put key true same = ap (λ b. if b then Some entry else entry_at key (staying (goes entry.key None) entries)) (key_eq-laws.symm key entry.key ∙ same)
    found_put key false same =
        ap (λ b. if b then Some entry else entry_at key (staying (goes entry.key None) entries)) (key_eq-laws.symm key entry.key ∙ same)
        ∙ found_staying entry.key key entries false same

    -- where the entry has an expiry, and no expiry of another goes
    pub put_queued : (new : ExpiryQueueOf) → ((key : KeyOf) (time : ℕ) → expires_by queue key time ≡ true → expires_by new key time ≡ true)
        → expires_by new entry.key (full_expiry_of stale entry) ≡ true → AreQueued stale after_put new
    put_queued new stays own = λ key. by key (key_eq entry.key key) refl
      where
        by : (key : KeyOf) (b : Bool) → key_eq entry.key key ≡ b → IsQueued stale new (entry_at key after_put)
        by key true same = subst (IsQueued stale new) (sym (found_put key true same)) own
        by key false same =
            subst (IsQueued stale new) (sym (found_put key false same))
            (still_queued stale queue new (entry_at key entries) (λ time found at is. stays found.key time is) (are key))

    -- where it takes the place of what expires no later
    pub queued_before : (held : Option Entry) → entry_at entry.key entries ≡ held → is_expired_by stale (full_expiry_of stale entry) held ≡ true
        → expires_by queue entry.key (full_expiry_of stale entry) ≡ true
    queued_before None is gone = absurd cc
    queued_before (Some old) is gone =
        let own : entry.key ≡ old.key = entry_at-key entry.key entries old is in
        let expires : expires_by queue old.key (full_expiry_of stale old) ≡ true = subst (IsQueued stale queue) is (are entry.key) in
        ap (λ k. expires_by queue k (full_expiry_of stale entry)) own
        ∙ expires_by-later queue old.key (full_expiry_of stale old) (full_expiry_of stale entry) (leb-true (full_expiry_of stale old) (full_expiry_of stale entry) gone) expires

  -- ---- the front

  -- where the entry of a key comes to the front
  pub promoted_queued : (key : KeyOf) → AreQueued stale (promoted key entries) queue
  promoted_queued key = by (entry_at key entries) refl
    where
      by : (found : Option Entry) → entry_at key entries ≡ found → AreQueued stale (in_front key found entries) queue
      by None is = are
      by (Some entry) is = λ other. subst (IsQueued stale queue) (sym (stays other (key_eq key other) refl)) (are other)
        where
          own : key ≡ entry.key
          own = entry_at-key key entries entry is

          mirrored : (k : KeyOf) → key_eq k entry.key ≡ key_eq key k
          mirrored k = ap (key_eq k) (sym own) ∙ key_eq-laws.symm k key

          stays : (k : KeyOf) (b : Bool) → key_eq key k ≡ b → entry_at k (entry ∷ staying (goes key None) entries) ≡ entry_at k entries
          stays k true same =
              ap (λ b. if b then Some entry else entry_at k (staying (goes key None) entries)) (mirrored k ∙ same) ∙ sym (found_same key k entries (Some entry) is same)
          stays k false same =
              ap (λ b. if b then Some entry else entry_at k (staying (goes key None) entries)) (mirrored k ∙ same) ∙ found_staying key k entries false same

  -- ---- sweeps

  -- where an expiry is let go, and another stands for what its key holds still
  pub requeued : (expiry : Expiry) (new : ExpiryQueueOf) (found : Option Entry) → entry_at expiry.key entries ≡ found
      → ((key : KeyOf) (time : ℕ) → key_eq key expiry.key ≡ false → expires_by queue key time ≡ true → expires_by new key time ≡ true)
      → IsQueued stale new found → AreQueued stale entries new
  requeued expiry new found is stays own = λ key. by key (key_eq expiry.key key) refl
    where
      by : (key : KeyOf) (b : Bool) → key_eq expiry.key key ≡ b → IsQueued stale new (entry_at key entries)
      by key true same = subst (IsQueued stale new) (sym (found_same expiry.key key entries found is same)) own
      by key false same =
          still_queued stale queue new (entry_at key entries)
          (λ time entry at is'. stays entry.key time (sym (ap (λ k. key_eq k expiry.key) (entry_at-key key entries entry at)) ∙ (key_eq-laws.symm key expiry.key ∙ same)) is')
          (are key)

  -- where none that waits is due, what is fully expired has an expiry among the due
  pub among_due : (moment : ℕ) (key : KeyOf) (entry : Entry) → queue.kept ≡ true → AllByRecursion (λ expiry. moment < expiry.time) queue.waiting
      → entry_at key entries ≡ Some entry → full_expiry_of stale entry ≤ moment → list_any (λ expiry. key_eq key expiry.key) queue.due ≡ true
  among_due moment key entry kept waits is dead =
      let own : key ≡ entry.key = entry_at-key key entries entry is in
      let expires : expires_by queue entry.key (full_expiry_of stale entry) ≡ true = subst (IsQueued stale queue) is (are key) in
      let due : list_any (is_by entry.key (full_expiry_of stale entry)) queue.due ≡ true =
      sym (ap (λ b. b || list_any (is_by entry.key (full_expiry_of stale entry)) queue.due) (none_early queue.waiting waits))
      ∙ of_kept queue.kept (list_any (is_by entry.key (full_expiry_of stale entry)) queue.waiting || list_any (is_by entry.key (full_expiry_of stale entry)) queue.due)
      (nat_le queue.soonest (full_expiry_of stale entry)) kept expires in
      ap (λ k. list_any (λ expiry. key_eq k expiry.key) queue.due) own ∙ any_of_key entry.key (full_expiry_of stale entry) queue.due due
    where
      none_early : (ds : List Expiry) → AllByRecursion (λ expiry. moment < expiry.time) ds → list_any (is_by entry.key (full_expiry_of stale entry)) ds ≡ false
      none_early [] all = refl
      none_early (d ∷ ds) all =
          ap (λ b. b || list_any (is_by entry.key (full_expiry_of stale entry)) ds)
          (and_right (key_eq entry.key d.key) (nat_le d.time (full_expiry_of stale entry)) (lt-leb d.time (full_expiry_of stale entry) (omega (arith, all.0, dead))))
          ∙ none_early ds all.1

-- the keys of expiries under which something fully expired is kept
among_expired : (stale moment : ℕ) (entries : List Entry) (key : KeyOf) (expiries : List Expiry)
    → is_among key (expired_among stale moment entries expiries) ≡ (is_swept stale (entry_at key entries) moment && list_any (λ expiry. key_eq key expiry.key) expiries)
among_expired stale moment entries key [] = sym (and_right (is_swept stale (entry_at key entries) moment) false refl)
among_expired stale moment entries key (first ∷ expiries) =
    by (is_swept stale (entry_at first.key entries) moment) refl (key_eq key first.key) refl (among_expired stale moment entries key expiries)
  where
    swept : Bool
    swept = is_swept stale (entry_at key entries) moment

    rest_any : Bool
    rest_any = list_any (λ expiry. key_eq key expiry.key) expiries

    same_swept : key_eq key first.key ≡ true → is_swept stale (entry_at key entries) moment ≡ is_swept stale (entry_at first.key entries) moment
    same_swept same = ap (λ k. is_swept stale (entry_at k entries) moment) (key_eq-same key first.key same)

    by : (b : Bool) → is_swept stale (entry_at first.key entries) moment ≡ b → (same : Bool) → key_eq key first.key ≡ same
        → is_among key (expired_among stale moment entries expiries) ≡ (swept && rest_any)
        → is_among key (expired_among stale moment entries (first ∷ expiries)) ≡ (swept && (key_eq key first.key || rest_any))
    by true at true same rest =
        rw at (ap (λ b. b || is_among key (expired_among stale moment entries expiries)) same ∙ sym (and_from swept (key_eq key first.key || rest_any) (same_swept same ∙ at) (ap (λ b. b || rest_any) same)))
    by true at false same rest =
        rw at (ap (λ b. b || is_among key (expired_among stale moment entries expiries)) same ∙ (rest ∙ sym (ap (λ b. swept && (b || rest_any)) same)))
    by false at true same rest =
        rw at (rest ∙ (and_left swept rest_any (same_swept same ∙ at) ∙ sym (and_left swept (key_eq key first.key || rest_any) (same_swept same ∙ at))))
    by false at false same rest = rw at (rest ∙ sym (ap (λ b. swept && (b || rest_any)) same))

-- where none that waits is due, the keys of the due that hold something fully expired are all that do
pub due_swept : (stale moment : ℕ) (entries : List Entry) (queue : ExpiryQueueOf) → AreQueued stale entries queue → moment ≤ LAST_MOMENT → queue.kept ≡ true
    → AllByRecursion (λ expiry. moment < expiry.time) queue.waiting
    → (key : KeyOf) → is_among key (expired_among stale moment entries queue.due) ≡ is_swept stale (entry_at key entries) moment
due_swept stale moment entries queue are timely kept waits key = among_expired stale moment entries key queue.due ∙ by (entry_at key entries) refl
  where
    by : (found : Option Entry) → entry_at key entries ≡ found
        → (is_swept stale (entry_at key entries) moment && list_any (λ expiry. key_eq key expiry.key) queue.due) ≡ is_swept stale (entry_at key entries) moment
    by None is = rw is refl
    by (Some entry) is = dead (is_fully_expired stale entry moment) refl
      where
        swept : is_swept stale (entry_at key entries) moment ≡ is_fully_expired stale entry moment
        swept = ap (λ f. is_swept stale f moment) is

        dead : (b : Bool) → is_fully_expired stale entry moment ≡ b
            → (is_swept stale (entry_at key entries) moment && list_any (λ expiry. key_eq key expiry.key) queue.due) ≡ is_swept stale (entry_at key entries) moment
        dead false at = and_left (is_swept stale (entry_at key entries) moment) (list_any (λ expiry. key_eq key expiry.key) queue.due) (swept ∙ at) ∙ sym (swept ∙ at)
        dead true at =
            let le : full_expiry_of stale entry ≤ moment = leb-true (full_expiry_of stale entry) moment (expired_from stale moment entry timely ∙ at) in
            and_from (is_swept stale (entry_at key entries) moment) (list_any (λ expiry. key_eq key expiry.key) queue.due) (swept ∙ at)
            (among_due stale entries queue are moment key entry kept waits is le)
            ∙ sym (swept ∙ at)

-- ---- before the first expiry

none_by : (key : KeyOf) (time first : ℕ) (expiries : List Expiry) → AllByRecursion (λ expiry. first ≤ expiry.time) expiries → time < first → list_any (is_by key time) expiries ≡ false
none_by key time first [] all less = refl
none_by key time first (expiry ∷ expiries) all less =
    ap (λ b. b || list_any (is_by key time) expiries) (and_right (key_eq key expiry.key) (nat_le expiry.time time) (lt-leb expiry.time time (omega (arith, all.0, less))))
    ∙ none_by key time first expiries all.1 less

min-left : (a b time : ℕ) → nat_le a time ≡ true → nat_le (min a b) time ≡ true
min-left a b time is = grind (arith, nat_tests)

min-right : (a b time : ℕ) → nat_le b time ≡ true → nat_le (min a b) time ≡ true
min-right a b time is = grind (arith, nat_tests)

-- one more, where none are kept
pub sooner : (key : KeyOf) (time soonest now : ℕ) (expiry : Expiry) (kept is : Bool) → kept ≡ false → now ≡ min soonest expiry.time
    → (is_by key time expiry || (if kept then is else nat_le soonest time)) ≡ true → (if kept then is else nat_le now time) ≡ true
sooner key time soonest now expiry kept is at least so =
    ap (λ k. if k then is else nat_le now time) at ∙ (ap (λ t. nat_le t time) least ∙ by (is_by key time expiry) refl)
  where
    by : (b : Bool) → is_by key time expiry ≡ b → nat_le (min soonest expiry.time) time ≡ true
    by true one = min-right soonest expiry.time time (and_parts (key_eq key expiry.key) (nat_le expiry.time time) one).1
    by false one =
        min-left soonest expiry.time time
        (ap (λ k. if k then is else nat_le soonest time) (sym at) ∙ (ap (λ b. b || (if kept then is else nat_le soonest time)) (sym one) ∙ so))

-- before the soonest, where none are kept, and before the first that waits, where they are, none comes
pub soonest_none : (key : KeyOf) (time : ℕ) (queue : ExpiryQueueOf) → queue.kept ≡ false → time < queue.soonest → expires_by queue key time ≡ false
soonest_none key time queue at less =
    ap (λ k. if k then list_any (is_by key time) queue.waiting || list_any (is_by key time) queue.due else nat_le queue.soonest time) at
    ∙ lt-leb queue.soonest time less

pub expires_none : (key : KeyOf) (time first : ℕ) (queue : ExpiryQueueOf) → queue.kept ≡ true → queue.due ≡ [] → AllByRecursion (λ expiry. first ≤ expiry.time) queue.waiting
    → time < first → expires_by queue key time ≡ false
expires_none key time first queue kept none all less =
    ap (λ k. if k then list_any (is_by key time) queue.waiting || list_any (is_by key time) queue.due else nat_le queue.soonest time) kept
    ∙ (ap (λ b. b || list_any (is_by key time) queue.due) (none_by key time first queue.waiting all less)
    ∙ ap (λ (ds : List Expiry). list_any (is_by key time) ds) none)

module _ (stale : ℕ) (entries : List Entry) (queue : ExpiryQueueOf) (are : AreQueued stale entries queue) where
  -- no entry is fully expired before a moment before which no expiry comes
  pub none_before : (first : ℕ) → ((key : KeyOf) (time : ℕ) → time < first → expires_by queue key time ≡ false)
      → (key : KeyOf) (moment : ℕ) → moment < first → moment ≤ LAST_MOMENT → is_swept stale (entry_at key entries) moment ≡ false
  none_before first never key moment less timely = by (entry_at key entries) refl
    where
      by : (found : Option Entry) → entry_at key entries ≡ found → is_swept stale found moment ≡ false
      by None is = refl
      by (Some entry) is = dead (is_fully_expired stale entry moment) refl
        where
          dead : (b : Bool) → is_fully_expired stale entry moment ≡ b → is_fully_expired stale entry moment ≡ false
          dead false at = at
          dead true at =
              let le : full_expiry_of stale entry ≤ moment = leb-true (full_expiry_of stale entry) moment (expired_from stale moment entry timely ∙ at) in
              let has : expires_by queue entry.key (full_expiry_of stale entry) ≡ true = subst (IsQueued stale queue) is (are key) in
              let some : expires_by queue entry.key moment ≡ true = expires_by-later queue entry.key (full_expiry_of stale entry) moment le has in
              let not : expires_by queue entry.key moment ≡ false = never entry.key moment less in
              absurd cc

-- ---- all entries

-- the expiries of all entries are a queue of them
pub all_queued : (stale : ℕ) (entries : List Entry) (queue : ExpiryQueueOf)
    → ((key : KeyOf) (time : ℕ) → expires_by queue key time ≡ list_any (is_by key time) (expiries_of stale entries)) → AreQueued stale entries queue
all_queued stale entries queue all = λ key. by key (entry_at key entries) refl
  where
    stands : (key : KeyOf) (es : List Entry) (entry : Entry) → entry_at key es ≡ Some entry
        → list_any (is_by entry.key (full_expiry_of stale entry)) (expiries_of stale es) ≡ true
    stands key [] entry is = absurd cc
    stands key (first ∷ es) entry is = at (key_eq key first.key) refl (stands key es entry)
      where
        at : (b : Bool) → key_eq key first.key ≡ b
            → (entry_at key es ≡ Some entry → list_any (is_by entry.key (full_expiry_of stale entry)) (expiries_of stale es) ≡ true)
            → list_any (is_by entry.key (full_expiry_of stale entry)) (expiries_of stale (first ∷ es)) ≡ true
        at true same rest =
            let it : first ≡ entry = cc (rw same at is) in
            subst (λ (e : Entry). list_any (is_by e.key (full_expiry_of stale e)) (expiries_of stale (first ∷ es)) ≡ true) it
            (ap (λ b. b || list_any (is_by first.key (full_expiry_of stale first)) (expiries_of stale es)) (is_by-own first.key (full_expiry_of stale first)))
        at false same rest =
            either (is_by entry.key (full_expiry_of stale entry) (expiry_of stale first)) (list_any (is_by entry.key (full_expiry_of stale entry)) (expiries_of stale es))
            (rest (rw same at is))

    by : (key : KeyOf) (found : Option Entry) → entry_at key entries ≡ found → IsQueued stale queue (entry_at key entries)
    by key None is = subst (IsQueued stale queue) (sym is) tt
    by key (Some entry) is = subst (IsQueued stale queue) (sym is) (all entry.key (full_expiry_of stale entry) ∙ stands key entries entry is)
