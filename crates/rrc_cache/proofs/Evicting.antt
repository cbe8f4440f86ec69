-- SPDX-License-Identifier: MIT
-- A part that keeps no events evicts the key touched least recently.
use Rattle.std.proofs.Common.{◌≡◌, ℕ, ◌+◌, ◌-◌, ◌^◌, ◌<◌, ◌≤◌, List, [], ◌∷◌, ◌++◌, length, take, ◌||◌, true, false, Option, Some, None, refl, sym, ap, subst, ◌∙◌, arith, append_assoc}
use Rattle.std.proofs.lemmas.List.{length-append}
use Rattle.std.specs.List.{AllByRecursion}
use Rattle.std.specs.List.Sorted.{IsStrictlySortedBy}
use Rattle.rrc_name.specs.Key.{KeyOf, key_order}
use Rattle.rrc_name.specs.lemmas.KeyLaws.{key_eq-laws}
use Rattle.rrc_history.specs.declared.body.Body.{Body}
use Rattle.rrc_history.specs.declared.body.Body.TheVariants.{Positive, Negative, Failure}
use Rattle.rrc_history.specs.declared.event.Event.{Event}
use Rattle.rrc_history.specs.declared.event.Event.TheVariants.{Offered, Swept}
use Rattle.rrc_history.specs.declared.event.Outcome.TheVariants.{Kept, Cleared}
use Rattle.rrc_history.specs.declared.event.Tag.{Tag}
use Rattle.rrc_history.specs.declared.rules.Rules.{Rules}
use Rattle.rrc_history.specs.declared.snapshot.Entry.{Entry}
use Rattle.rrc_history.specs.declared.snapshot.Snapshot.{Snapshot}
use Rattle.rrc_history.specs.Entries.{AreApart, LacksKey, fully_expired_keys, goes, staying}
use Rattle.rrc_history.specs.Fits.{OfferOf, fits}
use Rattle.rrc_history.specs.Judged.{verdict_by}
use Rattle.rrc_history.specs.Lives.{LAST_MOMENT}
use Rattle.rrc_history.specs.Past.{entry_at, entry_of, is_among, number_after}
use Rattle.rrc_history.specs.Right.{evicted_by}
use Rattle.rrc_history.specs.lemmas.Apart.{apart_before, entry_at-middle, falls_apart, staying-lacks}
use Rattle.rrc_history.specs.lemmas.ContentsLaws.{staying-all}
use Rattle.rrc_history.specs.lemmas.OneHistory.{one_contents}
use Rattle.rrc_cache.specs.Evicting.{evicting_body, evicting_offer, evictions_by, is_data, AreLasting, EvictsKey, EvictsNone, Has, Lasts}
use Rattle.rrc_cache.specs.Lasts.{last_of}
use Rattle.rrc_cache.specs.Lean.{HoldsLean, with_event}
use Rattle.rrc_cache.specs.Pairs.{StoreOf}
use Rattle.rrc_cache.specs.Part.{PartOf, past_of, next_number}
use Rattle.rrc_cache.specs.Taken.{AreExpiredKeys, IsTaken}
use Rattle.rrc_cache.specs.lemmas.Evictions.{Ends, all_taken, cleared, ended_fits, ends, failure_body, last_goes, no_second, none_last}
use Rattle.rrc_cache.proofs.LeanKeeping.{lean_done}
use Rattle.rrc_cache.proofs.Sweeping.{staying_more}

-- ---- what the calls write

none_evicted : (capacity : ℕ) (entries : List Entry) (found : Option Entry) → None ≡ evicted_by capacity entries found Cleared
none_evicted capacity entries None = refl
none_evicted capacity entries (Some entry) = refl

data_taken : (capacity number moment : ℕ) (before : List Entry) (entry : Entry) → AreApart before → Ends before entry → is_data entry.body ≡ true
    → IsTaken capacity number (evicting_offer entry moment) before Cleared None (take (length before - 1) before)
data_taken capacity number moment before entry apart ending is = record {
  judged = sym (cleared (entry_at entry.key before) entry.key moment entry.body is);
  evicts = none_evicted capacity before (entry_at entry.key before);
  left = sym (last_goes before entry apart ending);
}

-- a failure of no second stands in front of the others
abbrev pub with_ended : Entry → ℕ → ℕ → List Entry → List Entry
with_ended entry moment number before = entry_of (evicting_offer entry moment) number ∷ take (length before - 1) before

failure_taken : (capacity number moment ttl : ℕ) (before : List Entry) (entry : Entry) → AreApart before → Ends before entry → entry.body ≡ Failure ttl
    → IsTaken capacity number (evicting_offer entry moment) before Kept None (with_ended entry moment number before)
failure_taken capacity number moment ttl before entry apart ending is =
    let offer : OfferOf = evicting_offer entry moment in
    let found : entry_at entry.key before ≡ Some entry =
    ap (entry_at entry.key) ending.is ∙ entry_at-middle ending.front entry [] (subst AreApart ending.is apart) in
    record {
      judged = sym (ap (λ b. verdict_by (entry_at entry.key before) offer (evicting_body b)) is);
      evicts = sym (ap (λ f. evicted_by capacity before f Kept) found);
      left = sym (ap (λ es. entry_of offer number ∷ es) (last_goes before entry apart ending));
    }

-- of entries that last and one in front that does not, that one's key is fully expired at moment 0
one_expired : (stale : ℕ) (front : Entry) (others : List Entry) → front.body ≡ Failure 0 → AllByRecursion (Lasts stale) others
    → fully_expired_keys stale 0 (front ∷ others) ≡ front.key ∷ []
one_expired stale front others is all =
    let dead = no_second stale front is in
    rw dead (ap (λ keys. front.key ∷ keys) (none others all))
  where
    none : (entries : List Entry) → AllByRecursion (Lasts stale) entries → fully_expired_keys stale 0 entries ≡ []
    none [] all' = refl
    none (entry ∷ entries) all' = let lives = all'.0 in rw lives (none entries all'.1)

one_sorted : (key : KeyOf) → IsStrictlySortedBy key_order (key ∷ [])
unfolding IsStrictlySortedBy
one_sorted key = (tt, tt)

failure_swept : (stale number moment : ℕ) (before : List Entry) (entry : Entry) → AreApart before → Ends before entry → evicting_body entry.body ≡ Failure 0
    → AllByRecursion (Lasts stale) before
    → AreExpiredKeys stale 0 (with_ended entry moment number before) (entry.key ∷ [])
    × (take (length before - 1) before ≡ staying (λ key. is_among key (entry.key ∷ [])) (with_ended entry moment number before))
failure_swept stale number moment before entry apart ending is all =
    let others : List Entry = take (length before - 1) before in
    let front : Entry = entry_of (evicting_offer entry moment) number in
    let keys : fully_expired_keys stale 0 (front ∷ others) ≡ entry.key ∷ [] = one_expired stale front others is (all_taken stale (length before - 1) before all) in
    let lacks : LacksKey entry.key others =
    subst (LacksKey entry.key) (sym ending.others) (apart_before ending.front entry [] (subst AreApart ending.is apart)) in
    let rest : staying (λ key. is_among key (entry.key ∷ [])) others ≡ others =
    sym (staying_more [] entry.key others) ∙ (ap (λ es. staying (goes entry.key None) es) (staying-all others) ∙ staying-lacks entry.key others lacks) in
    let own : is_among entry.key (entry.key ∷ []) ≡ true = ap (λ b. b || false) (key_eq-laws.refl entry.key) in
    (record { sorted = one_sorted entry.key; expired = λ key. ap (is_among key) (sym keys) }, sym (rw own rest))

-- ---- what they leave of a part

-- the entries are what the keys of the part hold
module _ (seen part told : PartOf) (number next : ℕ) (rules : Rules) (before after : StoreOf) (was : ℕ) (tag : Tag) (moment : ℕ) (entry : Entry) (is : part ≡ seen)
    (holds : HoldsLean part number next rules before was) (lasts : AreLasting seen) (last : Some entry ≡ last_of before.entries) (fit : fits entry.key entry.body ≡ true)
    (open' : next + 1 < 2 ^ 62) (timely : moment ≤ LAST_MOMENT) (left : after.entries ≡ take (length before.entries - 1) before.entries)
    (same : after.stale ≡ before.stale) where
  has : Has seen before.entries
  has = subst (λ p. Has p before.entries) is holds.leaves.contents

  following : next ≡ next_number seen
  following = holds.following ∙ ap next_number is

  apart : AreApart before.entries
  apart = falls_apart seen.snapshot (past_of seen) (number_after seen.snapshot (past_of seen)) before.entries has.falling

  ending : Ends before.entries entry
  ending = ends before.entries entry last

  -- what is left of the part, once events are written that evict
  evicted : (new : PartOf) → new.number ≡ seen.number → new.snapshot ≡ seen.snapshot → new.events ≡ seen.events ++ evictions_by entry.body tag entry moment
      → Has new after.entries → EvictsKey tag moment seen new
  evicted new numbered snapshot written holds' = record {
    number = numbered;
    snapshot = snapshot;
    entry = entry;
    last = λ contents are.
        last ∙ ap (λ (es : List Entry). last_of es) (one_contents seen.snapshot (past_of seen) before.entries contents has are);
    written = written;
    some = λ contents are.
        let one : before.entries ≡ contents = one_contents seen.snapshot (past_of seen) before.entries contents has are in
        subst (λ (es : List Entry). 1 ≤ length es) one ending.some;
    left = λ contents are.
        let one : before.entries ≡ contents = one_contents seen.snapshot (past_of seen) before.entries contents has are in
        subst (λ (es : List Entry). Has new (take (length es - 1) es)) one (subst (Has new) left holds');
  }

  -- where it held data
  pub record DataGone (holds_data : is_data entry.body ≡ true) : Type 0 where
    pub kept : HoldsLean told number (next + 1) rules after 0
    pub evicts : EvictsKey tag moment seen told

  pub data_gone : (holds_data : is_data entry.body ≡ true) → told ≡ with_event part (Offered Cleared tag (evicting_offer entry moment) None) → DataGone holds_data
  data_gone holds_data tells =
      let event : Event = Offered Cleared tag (evicting_offer entry moment) None in
      let taken : IsTaken rules.capacity next (evicting_offer entry moment) before.entries Cleared None after.entries =
      subst (IsTaken rules.capacity next (evicting_offer entry moment) before.entries Cleared None) (sym left) (data_taken rules.capacity next moment before.entries entry apart ending holds_data) in
      let done = lean_done seen part told number next rules before after was 0 event is tells holds (record { number = omega (arith, open', following); moment = timely })
      (ended_fits entry.key entry.body fit, taken) same refl in
      record {
        kept = done.holds;
        evicts = evicted told done.adds.number done.adds.snapshot (done.adds.written ∙ ap (λ es. seen.events ++ es) (sym (by entry.body holds_data))) done.holds.leaves.contents;
      }
    where
      by : (body : Body) → is_data body ≡ true → evictions_by body tag entry moment ≡ Offered Cleared tag (evicting_offer entry moment) None ∷ []
      by (Positive trust ttl owner items) known = refl
      by (Negative trust ttl owner soa) known = refl
      by (Failure ttl) known = absurd cc

  -- where it held a failure
  pub record FailureGone (holds_none : is_data entry.body ≡ false) : Type 0 where
    pub kept : HoldsLean told number (next + 2) rules after 1
    pub evicts : EvictsKey tag moment seen told

  pub failure_gone : (holds_none : is_data entry.body ≡ false) (middle : PartOf) → middle ≡ with_event part (Offered Kept tag (evicting_offer entry moment) None)
      → told ≡ with_event middle (Swept tag 0 (entry.key ∷ [])) → FailureGone holds_none
  failure_gone holds_none middle tells then_tells =
      let offer : OfferOf = evicting_offer entry moment in
      let body = failure_body entry.body holds_none in
      let between : StoreOf = record before { entries = with_ended entry moment next before.entries } in
      let all : AllByRecursion (Lasts seen.snapshot.rules.stale) before.entries = lasts before.entries has in
      let first = lean_done seen part middle number next rules before between was 0 (Offered Kept tag offer None) is tells holds
      (record { number = omega (arith, open', following); moment = timely })
      (ended_fits entry.key entry.body fit, failure_taken rules.capacity next moment body.0 before.entries entry apart ending body.1) refl refl in
      let ruled : seen.snapshot.rules.stale ≡ rules.stale =
      ap (λ (p : PartOf). p.snapshot.rules.stale) (sym is) ∙ ap (λ (r : Rules). r.stale) (sym holds.ruled) in
      let swept = failure_swept rules.stale next moment before.entries entry apart ending (ap evicting_body body.1)
      (subst (λ stale. AllByRecursion (Lasts stale) before.entries) ruled all) in
      let more : next_number middle ≡ next_number seen + 1 = omega (arith, ap (λ (es : List Event). length es) first.adds.written, length-append seen.events (Offered Kept tag offer None ∷ []), ap (λ (s : Snapshot). s.first) first.adds.snapshot) in
      let second = lean_done middle middle told number (next + 1) rules between after 0 1 (Swept tag 0 (entry.key ∷ [])) refl then_tells first.holds
      (record { number = omega (arith, open', more, following); moment = omega arith }) (swept.0, left ∙ swept.1) same refl in
      record {
        kept = subst (λ n. HoldsLean told number n rules after 1) (omega arith) second.holds;
        evicts = evicted told (second.adds.number ∙ first.adds.number) (second.adds.snapshot ∙ first.adds.snapshot)
            (second.adds.written
            ∙ (ap (λ es. es ++ Swept tag 0 (entry.key ∷ []) ∷ []) first.adds.written
            ∙ (append_assoc seen.events (Offered Kept tag offer None ∷ []) (Swept tag 0 (entry.key ∷ []) ∷ []) ∙ ap (λ es. seen.events ++ es) (sym (by entry.body holds_none)))))
            second.holds.leaves.contents;
      }
    where
      by : (body : Body) → is_data body ≡ false
          → evictions_by body tag entry moment ≡ Offered Kept tag (evicting_offer entry moment) None ∷ Swept tag 0 (entry.key ∷ []) ∷ []
      by (Positive trust ttl owner items) known = absurd cc
      by (Negative trust ttl owner soa) known = absurd cc
      by (Failure ttl) known = refl

-- where there is no key
pub none_gone : (seen part : PartOf) (number next : ℕ) (rules : Rules) (store : StoreOf) (was : ℕ) → part ≡ seen → HoldsLean part number next rules store was
    → None ≡ last_of store.entries → EvictsNone seen seen
none_gone seen part number next rules store was is holds last = record {
  same = refl;
  none = λ contents are.
      let has : Has seen store.entries = subst (λ p. Has p store.entries) is holds.leaves.contents in
      sym (one_contents seen.snapshot (past_of seen) store.entries contents has are) ∙ none_last store.entries last;
}
