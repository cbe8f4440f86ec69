-- SPDX-License-Identifier: MIT
-- Keys go, the one touched least recently first.
use Rattle.std.proofs.Common.{◌≡◌, ℕ, zero, suc, ◌+◌, ◌-◌, ◌^◌, ◌%◌, ◌<◌, ◌≤◌, inl, inr, List, [], ◌∷◌, ◌++◌, length, take, reverse, Bool, true, false, Option, Some, None, Result, Ok, Err, refl, sym, ap, subst, ◌∙◌, arith, append_assoc}
use Rattle.std.specs.Prelude.{IfErr, IfNone, IfOk, IfSome, IsErrAnd, OnOk, OnErr, nat_eq}
use Rattle.std.specs.List.{AllByRecursion}
use Rattle.std.specs.Option.{option_eq}
use Rattle.std.proofs.lemmas.Bool.Decides.{nat_tests}
use Rattle.std.proofs.lemmas.List.{append-nil, length-take-le, reverse-append, take-take}
use Rattle.std.proofs.Math.Seq.{take-length}
use Rattle.rrc_name.specs.Key.{KeyOf}
use Rattle.rrc_history.specs.declared.body.Body.{Body}
use Rattle.rrc_history.specs.declared.body.Body.TheVariants.{Positive, Negative, Failure}
use Rattle.rrc_history.specs.declared.event.Event.{Event}
use Rattle.rrc_history.specs.declared.event.Event.TheVariants.{Offered, Swept}
use Rattle.rrc_history.specs.declared.event.Outcome.{Outcome}
use Rattle.rrc_history.specs.declared.event.Outcome.TheVariants.{Kept, Cleared}
use Rattle.rrc_history.specs.declared.event.Tag.{Tag}
use Rattle.rrc_history.specs.declared.rules.Rules.{Rules}
use Rattle.rrc_history.specs.declared.snapshot.Entry.{Entry}
use Rattle.rrc_history.specs.declared.snapshot.Snapshot.{Snapshot}
use Rattle.rrc_history.specs.Chains.{events_of}
use Rattle.rrc_history.specs.Entries.{AreApart, goes, kept_after, staying}
use Rattle.rrc_history.specs.Fits.{OfferOf}
use Rattle.rrc_history.specs.Judged.{verdict, verdict_by}
use Rattle.rrc_history.specs.Lives.{is_fully_expired, ttl_of}
use Rattle.rrc_history.specs.Octets.{octets_of}
use Rattle.rrc_history.specs.Past.{AreContents, entry_at, entry_of, held, number_after}
use Rattle.rrc_history.specs.Right.{evicted_by, is_swept}
use Rattle.rrc_history.specs.Sound.{AreSound}
use Rattle.rrc_history.specs.lemmas.Apart.{falls_apart, entry_at-middle}
use Rattle.rrc_history.specs.lemmas.ContentsLaws.{staying-all}
use Rattle.rrc_history.specs.lemmas.OfferLaws.{offer_contents}
use Rattle.rrc_history.specs.lemmas.OneHistory.{one_contents}
use Rattle.rrc_history.specs.lemmas.Openings.{opening}
use Rattle.rrc_history.specs.lemmas.SweepLaws.{living-staying, sweep_contents}
use Rattle.rrc_cache.specs.Evicting.{evicting_body, evicting_offer, evictions_by, is_data, AreLasting, EvictsBy, Has, IsEvictDue, Lasts}
use Rattle.rrc_cache.specs.Expiry.{HoldsNothing, IsAfterLastSweep, NoneFullyExpiresBefore}
use Rattle.rrc_cache.specs.Lasts.{last_of}
use Rattle.rrc_cache.specs.Lean.{IsLeanDue}
use Rattle.rrc_cache.specs.Part.{PartOf, past_of, next_number, Adds}
use Rattle.rrc_cache.specs.Sizes.{HoldsOctets}
use Rattle.rrc_cache.specs.Taken.{IsTaken}
use Rattle.rrc_cache.specs.lemmas.Evictions.{Ends, all_taken, cleared, ends, failure_body, last_goes, living_all, no_second, none_last}
use Rattle.rrc_cache.specs.declared.refusal.Refusal.{Refusal}
use Rattle.rrc_cache.specs.declared.refusal.Refusal.TheVariants.{HistoryFull, MomentTooLarge, Memory}
use Rattle.rrc_share.specs.CacheShelf.{CacheShelfOf, IsDueBy, IsLeftBy, IsSoundBy, TakesOffer, TakesSweep}
use Rattle.rrc_share.specs.Evictions.{AreNone, AreTheLasting, AreTheOthers, EvictsLast, IsEvictRefusal, IsSweepRefusal, Took}
use Rattle.rrc_share.specs.Shelf.{ShelfOf, first_snapshot, history_of, Appends, HasMadeRoom, ShelvesChapter}
use Rattle.rrc_share.specs.Trims.{lasting, AreTrimmed, Becomes, Evicts, IsEviction, IsLeanRefusal, Trims}

-- ---- events that evict

all_joined : {A : Type 0} (P : A → Type 0) (front behind : List A) → AllByRecursion P front → AllByRecursion P behind → AllByRecursion P (front ++ behind)
all_joined P [] behind all rest = rest
all_joined P (first ∷ front) behind all rest = (all.0, all_joined P front behind all.1 rest)

pub evicts_none : (tag : Tag) (moment : ℕ) (shelf : ShelfOf) → Evicts tag moment shelf shelf
evicts_none tag moment shelf = record { opening = refl; rules = refl; events = []; written = sym (append-nil (history_of shelf)); only = tt }

pub evicts_then : (tag : Tag) (moment : ℕ) (old middle new : ShelfOf) → Evicts tag moment old middle → Evicts tag moment middle new → Evicts tag moment old new
evicts_then tag moment old middle new first more = record {
  opening = more.opening ∙ first.opening;
  rules = more.rules ∙ first.rules;
  events = first.events ++ more.events;
  written = more.written ∙ (ap (λ events. events ++ more.events) first.written ∙ append_assoc (history_of old) first.events more.events);
  only = all_joined (IsEviction tag moment) first.events more.events first.only more.only;
}

-- a chapter that is closed ends under its rules
shut_rules : (old new : ShelfOf) → ShelvesChapter old new → new.part.snapshot.rules ≡ old.part.snapshot.rules
shut_rules old new shuts =
    ap (λ (part : PartOf). part.snapshot.rules) shuts.part.next
    ∙ (shuts.part.closes.leads.closes.rules ∙ ap (λ (snapshot : Snapshot). snapshot.rules) shuts.part.snapshot)

-- a call that was refused evicted nothing
pub evicts_left : (records : Bool) (tag : Tag) (moment : ℕ) (old new : ShelfOf) → IsLeftBy records old new → Evicts tag moment old new
evicts_left false tag moment old new left = subst (λ shelf. Evicts tag moment old shelf) (sym left) (evicts_none tag moment old)
evicts_left true tag moment old new (inl left) = subst (λ shelf. Evicts tag moment old shelf) (sym left) (evicts_none tag moment old)
evicts_left true tag moment old new (inr left) = record {
  opening = left.1.same.opening;
  rules = shut_rules old new left.1;
  events = [];
  written = left.1.same.history ∙ sym (append-nil (history_of old));
  only = tt;
}

-- a call wrote an event, by whether the history is recorded
abbrev pub Step : Bool → ShelfOf → ShelfOf → Event → Type 0
Step true old new event = Appends old new event
Step false old new event = Adds old.part new.part event

room_rules : (old middle : ShelfOf) → HasMadeRoom old middle → middle.part.snapshot.rules ≡ old.part.snapshot.rules
room_rules old middle (inl shuts) = shut_rules old middle shuts.1
room_rules old middle (inr none) = ap (λ (shelf : ShelfOf). shelf.part.snapshot.rules) none.1

pub evicts_one : (records : Bool) (tag : Tag) (moment : ℕ) (old new : ShelfOf) (event : Event) → IsSoundBy records old → IsSoundBy records new → Step records old new event
    → IsEviction tag moment event → Evicts tag moment old new
evicts_one false tag moment old new event sound sound_too adds is = record {
  opening = ap (λ closed. first_snapshot closed new.part) sound_too.0 ∙ (adds.snapshot ∙ sym (ap (λ closed. first_snapshot closed old.part) sound.0));
  rules = ap (λ (snapshot : Snapshot). snapshot.rules) adds.snapshot;
  events = event ∷ [];
  written =
      ap (λ closed. events_of closed ++ new.part.events) sound_too.0
      ∙ (adds.written ∙ sym (ap (λ closed. (events_of closed ++ old.part.events) ++ event ∷ []) sound.0));
  only = (is, tt);
}
evicts_one true tag moment old new event sound sound_too appends is = record {
  opening = appends.opening;
  rules = ap (λ (snapshot : Snapshot). snapshot.rules) appends.adds.snapshot ∙ room_rules old appends.middle appends.room;
  events = event ∷ [];
  written = appends.written;
  only = (is, tt);
}

-- ---- contents

abbrev pub IsSoundPart : PartOf → Type 0
IsSoundPart part = AreSound part.snapshot.rules.capacity part.snapshot.first part.snapshot.entries

shut_contents : (old new : ShelfOf) (contents : List Entry) → ShelvesChapter old new → IsSoundPart new.part → Has old.part contents → Has new.part contents
shut_contents old new contents shuts sound are =
    let closing : Snapshot = shuts.chapter.closing in
    let closes : AreContents old.part.snapshot (past_of old.part) closing.entries =
    subst (λ events. AreContents old.part.snapshot (reverse events) closing.entries) shuts.part.events
    (subst (λ snapshot. AreContents snapshot (reverse shuts.chapter.events) closing.entries) shuts.part.snapshot shuts.part.closes.leads.closes.contents) in
    let same : closing.entries ≡ contents = one_contents old.part.snapshot (past_of old.part) closing.entries contents closes are in
    let whole : AreSound closing.rules.capacity closing.first closing.entries = subst IsSoundPart shuts.part.next sound in
    subst (λ part. Has part contents) (sym shuts.part.next) (subst (AreContents closing []) same (opening closing whole).contents)

-- the part that an event was written to
pub record Stood (old new : ShelfOf) (contents : List Entry) (event : Event) : Type 0 where
  pub part : PartOf
  pub has : Has part contents
  pub rules : part.snapshot.rules ≡ old.part.snapshot.rules
  pub adds : Adds part new.part event

pub stood : (records : Bool) (old new : ShelfOf) (contents : List Entry) (event : Event) → (records ≡ true → IsSoundPart new.part) → Step records old new event
    → Has old.part contents → Stood old new contents event
stood false old new contents event sound adds are = record { part = old.part; has = are; rules = refl; adds = adds }
stood true old new contents event sound appends are = record {
  part = appends.middle.part;
  has = by appends.room;
  rules = room_rules old appends.middle appends.room;
  adds = appends.adds;
}
  where
    whole : IsSoundPart appends.middle.part
    whole = subst (λ (snapshot : Snapshot). AreSound snapshot.rules.capacity snapshot.first snapshot.entries) appends.adds.snapshot (sound refl)

    by : HasMadeRoom old appends.middle → Has appends.middle.part contents
    by (inl shuts) = shut_contents old appends.middle contents shuts.1 whole are
    by (inr none) = subst (λ (shelf : ShelfOf). Has shelf.part contents) (sym none.1) are

-- what an event leaves of the past, in the words of the part
after_event : (old new : PartOf) (event : Event) (contents : List Entry) → Adds old new event → AreContents old.snapshot (event ∷ past_of old) contents → Has new contents
after_event old new event contents adds are =
    let past : event ∷ past_of old ≡ past_of new = sym (ap reverse adds.written ∙ reverse-append old.events (event ∷ [])) in
    subst (λ snapshot. AreContents snapshot (past_of new) contents) (sym adds.snapshot) (subst (λ past. AreContents old.snapshot past contents) past are)

pub took : (records : Bool) (old new : ShelfOf) (tag : Tag) (offer : OfferOf) (outcome : Outcome) (evicted : Option KeyOf) → (records ≡ true → IsSoundPart new.part)
    → Step records old new (Offered outcome tag offer evicted) → Becomes old new (Took offer outcome)
took records old new tag offer outcome evicted sound step contents are =
    let at : Stood old new contents (Offered outcome tag offer evicted) = stood records old new contents (Offered outcome tag offer evicted) sound step are in
    let snapshot : Snapshot = at.part.snapshot in
    let past : List Event = past_of at.part in
    let number : ℕ = number_after snapshot past in
    let right = at.adds.right.right in
    let here : held snapshot past offer.key ≡ entry_at offer.key contents = sym (at.has.agree offer.key) in
    let same : right.entries ≡ contents = one_contents snapshot past right.entries contents right.contents at.has in
    let after : List Entry = kept_after outcome offer number evicted contents in (
      after,
      after_event at.part new.part (Offered outcome tag offer evicted) after at.adds (offer_contents snapshot past tag offer outcome evicted contents at.has),
      (
        snapshot.rules.capacity,
        number,
        evicted,
        record {
          judged = right.judged ∙ ap (λ found. verdict found offer) here;
          evicts =
              right.evicts
              ∙ (ap (λ es. evicted_by snapshot.rules.capacity es (held snapshot past offer.key) outcome) same
              ∙ ap (λ found. evicted_by snapshot.rules.capacity contents found outcome) here);
          left = refl;
        },
      ),
    )

-- a sweep at moment 0 leaves what has time
pub swept : (records : Bool) (old new : ShelfOf) (tag : Tag) (gone : List KeyOf) → (records ≡ true → IsSoundPart new.part) → Step records old new (Swept tag 0 gone)
    → Becomes old new (AreTheLasting old.part.snapshot.rules.stale)
swept records old new tag gone sound step contents are =
    let at : Stood old new contents (Swept tag 0 gone) = stood records old new contents (Swept tag 0 gone) sound step are in
    let snapshot : Snapshot = at.part.snapshot in
    let past : List Event = past_of at.part in
    let dead = at.adds.right.right in
    let after : List Entry = lasting snapshot.rules.stale contents in (
      after,
      after_event at.part new.part (Swept tag 0 gone) after at.adds
          (sweep_contents snapshot past tag 0 gone contents at.has (falls_apart snapshot past (number_after snapshot past) contents at.has.falling)
          (λ key. dead.expired key ∙ ap (λ found. is_swept snapshot.rules.stale found 0) (sym (at.has.agree key)))),
      ap (λ rules. lasting rules.stale contents) at.rules,
    )

-- ---- entries that last

pub all_living : (stale : ℕ) (entries : List Entry) → AllByRecursion (Lasts stale) (lasting stale entries)
all_living stale [] = tt
all_living stale (entry ∷ entries) = by (is_fully_expired stale entry 0) refl (all_living stale entries)
  where
    by : (dead : Bool) → is_fully_expired stale entry 0 ≡ dead → AllByRecursion (Lasts stale) (lasting stale entries) → AllByRecursion (Lasts stale) (lasting stale (entry ∷ entries))
    by true is rest = rw is rest
    by false is rest = rw is (is, rest)

-- where no key is swept, all entries last
pub none_swept : (stale : ℕ) (part : PartOf) (contents : List Entry) → Has part contents → ((key : KeyOf) → is_swept stale (held part.snapshot (past_of part) key) 0 ≡ false)
    → contents ≡ lasting stale contents
none_swept stale part contents are none =
    sym
    (living-staying stale 0 (λ key. false) contents (falls_apart part.snapshot (past_of part) (number_after part.snapshot (past_of part)) contents are.falling)
    (λ key. sym (ap (λ found. is_swept stale found 0) (are.agree key) ∙ none key))
    ∙ staying-all contents)

-- ---- the last entry

-- where its data are cleared
pub data_went : (old new : ShelfOf) (entry : Entry) (moment : ℕ) (outcome : Outcome) → ((contents : List Entry) → Has old.part contents → Some entry ≡ last_of contents)
    → is_data entry.body ≡ true → Becomes old new (Took (evicting_offer entry moment) outcome) → Becomes old new AreTheOthers
data_went old new entry moment outcome last is becomes contents are =
    let ending : Ends contents entry = ends contents entry (last contents are) in
    let left = becomes contents are in
    let after : List Entry = left.0 in
    let taken = left.2.3 in
    let apart : AreApart contents = falls_apart old.part.snapshot (past_of old.part) (number_after old.part.snapshot (past_of old.part)) contents are.falling in
    let clears : outcome ≡ Cleared = taken.judged ∙ cleared (entry_at entry.key contents) entry.key moment entry.body is in
    let offer : OfferOf = evicting_offer entry moment in
    let stay : after ≡ staying (goes entry.key None) contents = taken.left ∙ ap (λ o. kept_after o offer left.2.1 left.2.2 contents) clears in
    (after, left.1, (stay ∙ last_goes contents entry apart ending, ending.some))

-- ---- a failure

-- a failure of no second stands in front, and no other key went
failure_stands : (entry : Entry) (moment : ℕ) (ttl capacity number : ℕ) (before after : List Entry) (evicted : Option KeyOf) (outcome : Outcome) → Ends before entry → AreApart before
    → entry.body ≡ Failure ttl → IsTaken capacity number (evicting_offer entry moment) before outcome evicted after
    → (front : Entry) × (front.body ≡ Failure 0) × (after ≡ front ∷ take (length before - 1) before)
failure_stands entry moment ttl capacity number before after evicted outcome ending apart is taken =
    let offer : OfferOf = evicting_offer entry moment in
    let body : offer.body ≡ Failure 0 = ap evicting_body is in
    let kept : outcome ≡ Kept = taken.judged ∙ ap (λ b. verdict_by (entry_at entry.key before) offer b) body in
    let whole : AreApart (ending.front ++ entry ∷ []) = subst AreApart ending.is apart in
    let found : entry_at entry.key before ≡ Some entry = ap (entry_at entry.key) ending.is ∙ entry_at-middle ending.front entry [] whole in
    let none : evicted ≡ None =
    taken.evicts ∙ (ap (λ f. evicted_by capacity before f outcome) found ∙ ap (λ o. evicted_by capacity before (Some entry) o) kept) in
    let others : staying (goes entry.key None) before ≡ take (length before - 1) before = last_goes before entry apart ending in (
      entry_of offer number,
      body,
      taken.left
          ∙ (ap (λ o. kept_after o offer number evicted before) kept
          ∙ (ap (λ e. entry_of offer number ∷ staying (goes entry.key e) before) none ∙ ap (λ es. entry_of offer number ∷ es) others)),
    )

-- and it goes by a sweep at moment 0
ended_goes : (stale : ℕ) (front : Entry) (others : List Entry) → front.body ≡ Failure 0 → AllByRecursion (Lasts stale) others → lasting stale (front ∷ others) ≡ others
ended_goes stale front others is all =
    let dead = no_second stale front is in
    rw dead (living_all stale others all)

pub failure_went : (old middle new : ShelfOf) (entry : Entry) (moment : ℕ) (outcome : Outcome) → ((contents : List Entry) → Has old.part contents → Some entry ≡ last_of contents)
    → is_data entry.body ≡ false → AreLasting old.part → middle.part.snapshot.rules ≡ old.part.snapshot.rules → Becomes old middle (Took (evicting_offer entry moment) outcome)
    → Becomes middle new (AreTheLasting middle.part.snapshot.rules.stale) → Becomes old new AreTheOthers
failure_went old middle new entry moment outcome last is all rules first next contents are =
    let ending : Ends contents entry = ends contents entry (last contents are) in
    let apart : AreApart contents = falls_apart old.part.snapshot (past_of old.part) (number_after old.part.snapshot (past_of old.part)) contents are.falling in
    let took' = first contents are in
    let body = failure_body entry.body is in
    let stands = failure_stands entry moment body.0 took'.2.0 took'.2.1 contents took'.0 took'.2.2 outcome ending apart body.1 took'.2.3 in
    let left = next took'.0 took'.1 in
    let stale : ℕ = middle.part.snapshot.rules.stale in
    let lasts : AllByRecursion (Lasts stale) (take (length contents - 1) contents) =
    all_taken stale (length contents - 1) contents (subst (λ s. AllByRecursion (Lasts s) contents) (sym (ap (λ (r : Rules). r.stale) rules)) (all contents are)) in (
      left.0,
      left.1,
      (
        left.2 ∙ (ap (λ es. lasting stale es) stands.2 ∙ ended_goes stale stands.0 (take (length contents - 1) contents) stands.1 lasts),
        ending.some,
      ),
    )

-- ---- calls

-- the event of an offer, and that of a sweep
step_of : (records : Bool) (old new : ShelfOf) (tag : Tag) (offer : OfferOf) (outcome : Outcome) → TakesOffer records old new tag offer outcome
    → (evicted : Option KeyOf) × Step records old new (Offered outcome tag offer evicted)
step_of true old new tag offer outcome taken = taken
step_of false old new tag offer outcome taken = taken

sweep_of : (records : Bool) (old new : ShelfOf) (tag : Tag) (moment removed : ℕ) → TakesSweep records old new tag moment removed
    → (gone : List KeyOf) × Step records old new (Swept tag moment gone)
sweep_of true old new tag moment removed taken = (taken.0, taken.2)
sweep_of false old new tag moment removed taken = (taken.0, taken.2)

module _ (old new : CacheShelfOf) (tag : Tag) (same : new.records ≡ old.records) where
  -- a call that wrote an eviction, or was refused
  evicts_by : (event : Event) (moment : ℕ) → IsSoundBy old.records old.shelf → IsSoundBy new.records new.shelf → Step old.records old.shelf new.shelf event → IsEviction tag moment event
      → Evicts tag moment old.shelf new.shelf
  evicts_by event moment sound sound_too step is =
      evicts_one old.records tag moment old.shelf new.shelf event sound (subst (λ records. IsSoundBy records new.shelf) same sound_too) step is

  pub offer_evicts : (offer : OfferOf) (result : Result Outcome Refusal) → IsSoundBy old.records old.shelf → IsSoundBy new.records new.shelf → ttl_of offer.body ≡ 0
      → IfOk result (TakesOffer old.records old.shelf new.shelf tag offer) → OnErr result (IsLeftBy old.records old.shelf new.shelf) → Evicts tag offer.moment old.shelf new.shelf
  offer_evicts offer (Ok outcome) sound sound_too none taken left =
      let its : (evicted : Option KeyOf) × Step old.records old.shelf new.shelf (Offered outcome tag offer evicted) = step_of old.records old.shelf new.shelf tag offer outcome taken in
      evicts_by (Offered outcome tag offer its.0) offer.moment sound sound_too its.1 (refl, refl, none)
  offer_evicts offer (Err refusal) sound sound_too none taken left = evicts_left old.records tag offer.moment old.shelf new.shelf left

  pub offer_becomes : (offer : OfferOf) (result : Result Outcome Refusal) → (new.records ≡ true → IsSoundPart new.shelf.part)
      → IfOk result (TakesOffer old.records old.shelf new.shelf tag offer) → IfOk result (λ outcome. Becomes old.shelf new.shelf (Took offer outcome))
  offer_becomes offer (Ok outcome) sound taken =
      let its : (evicted : Option KeyOf) × Step old.records old.shelf new.shelf (Offered outcome tag offer evicted) = step_of old.records old.shelf new.shelf tag offer outcome taken in
      took old.records old.shelf new.shelf tag offer outcome its.0 (λ is. sound (same ∙ is)) its.1
  offer_becomes offer (Err refusal) sound taken = tt

  pub sweep_evicts : (result : Result ℕ Refusal) → IsSoundBy old.records old.shelf → IsSoundBy new.records new.shelf
      → IfOk result (TakesSweep old.records old.shelf new.shelf tag 0) → OnErr result (IsLeftBy old.records old.shelf new.shelf)
      → (moment : ℕ) → Evicts tag moment old.shelf new.shelf
  sweep_evicts (Ok removed) sound sound_too taken left moment =
      let its : (gone : List KeyOf) × Step old.records old.shelf new.shelf (Swept tag 0 gone) = sweep_of old.records old.shelf new.shelf tag 0 removed taken in
      evicts_by (Swept tag 0 its.0) moment sound sound_too its.1 (refl, refl)
  sweep_evicts (Err refusal) sound sound_too taken left moment = evicts_left old.records tag moment old.shelf new.shelf left

  pub sweep_becomes : (result : Result ℕ Refusal) → (new.records ≡ true → IsSoundPart new.shelf.part)
      → IfOk result (TakesSweep old.records old.shelf new.shelf tag 0) → OnOk result (Becomes old.shelf new.shelf (AreTheLasting old.shelf.part.snapshot.rules.stale))
  sweep_becomes (Ok removed) sound taken =
      let its : (gone : List KeyOf) × Step old.records old.shelf new.shelf (Swept tag 0 gone) = sweep_of old.records old.shelf new.shelf tag 0 removed taken in
      swept old.records old.shelf new.shelf tag its.0 (λ is. sound (same ∙ is)) its.1
  sweep_becomes (Err refusal) sound taken = tt

-- ---- a part that records nothing

no_ttl : (body : Body) → ttl_of (evicting_body body) ≡ 0
no_ttl (Positive trust ttl owner items) = refl
no_ttl (Negative trust ttl owner soa) = refl
no_ttl (Failure ttl) = refl

-- each event of an eviction is one
evictions : (tag : Tag) (moment : ℕ) (entry : Entry) (body : Body) → AllByRecursion (IsEviction tag moment) (evictions_by body tag entry moment)
evictions tag moment entry (Positive trust ttl owner items) = ((refl, refl, no_ttl entry.body), tt)
evictions tag moment entry (Negative trust ttl owner soa) = ((refl, refl, no_ttl entry.body), tt)
evictions tag moment entry (Failure ttl) = ((refl, refl, no_ttl entry.body), ((refl, refl), tt))

module _ (tag : Tag) (moment : ℕ) (old new : ShelfOf) (sound : IsSoundBy false old) (sound_too : IsSoundBy false new) where
  pub lean_evicts : (went : Bool) → EvictsBy went tag moment old.part new.part → Evicts tag moment old new
  lean_evicts true key = record {
    opening = ap (λ closed. first_snapshot closed new.part) sound_too.0 ∙ (key.snapshot ∙ sym (ap (λ closed. first_snapshot closed old.part) sound.0));
    rules = ap (λ (snapshot : Snapshot). snapshot.rules) key.snapshot;
    events = evictions_by key.entry.body tag key.entry moment;
    written =
        ap (λ closed. events_of closed ++ new.part.events) sound_too.0
        ∙ (key.written ∙ sym (ap (λ closed. (events_of closed ++ old.part.events) ++ evictions_by key.entry.body tag key.entry moment) sound.0));
    only = evictions tag moment key.entry key.entry.body;
  }
  lean_evicts false none = subst (λ shelf. Evicts tag moment old shelf) (sym (same_shelf none.same)) (evicts_none tag moment old)
    where
      same_shelf : new.part ≡ old.part → new ≡ old
      same_shelf is = λ i. record { closed = (sound_too.0 ∙ sym sound.0) i; part = is i }

  pub lean_evicts_last : (went : Bool) → EvictsBy went tag moment old.part new.part → EvictsLast went old new
  lean_evicts_last true key = λ contents are. (take (length contents - 1) contents, key.left contents are, (refl, key.some contents are))
  lean_evicts_last false none = λ contents are. (contents, subst (λ part. Has part contents) (sym none.same) are, (none.none contents are, refl))

-- and so does the call, where it is refused too
module _ (tag : Tag) (moment : ℕ) (old new : CacheShelfOf) (lean : old.records ≡ false) (lean_too : new.records ≡ false) (sound : IsSoundBy old.records old.shelf)
    (sound_too : IsSoundBy new.records new.shelf) where
  pub unrecorded_evicts : (result : Result Bool Refusal) → IfOk result (λ went. EvictsBy went tag moment old.shelf.part new.shelf.part) → OnErr result (new ≡ old)
      → Evicts tag moment old.shelf new.shelf
  unrecorded_evicts (Ok went) evicts kept =
      lean_evicts tag moment old.shelf new.shelf (subst (λ r. IsSoundBy r old.shelf) lean sound) (subst (λ r. IsSoundBy r new.shelf) lean_too sound_too) went evicts
  unrecorded_evicts (Err refusal) evicts kept = subst (λ (one : CacheShelfOf). Evicts tag moment old.shelf one.shelf) (sym kept) (evicts_none tag moment old.shelf)

  pub unrecorded_goes : (result : Result Bool Refusal) → IfOk result (λ went. EvictsBy went tag moment old.shelf.part new.shelf.part)
      → IfOk result (λ went. EvictsLast went old.shelf new.shelf)
  unrecorded_goes (Ok went) evicts =
      lean_evicts_last tag moment old.shelf new.shelf (subst (λ r. IsSoundBy r old.shelf) lean sound) (subst (λ r. IsSoundBy r new.shelf) lean_too sound_too) went evicts
  unrecorded_goes (Err refusal) evicts = tt

-- ---- what comes first

-- where the earliest expiry is not at moment 0, no key is swept at that
not_due : (part : PartOf) (next : Option ℕ) → IfNone next (HoldsNothing part) → IfSome next (λ time. NoneFullyExpiresBefore part time) → option_eq nat_eq next (Some 0) ≡ false
    → (key : KeyOf) → is_swept part.snapshot.rules.stale (held part.snapshot (past_of part) key) 0 ≡ false
not_due part None none before other key = ap (λ found. is_swept part.snapshot.rules.stale found 0) (none key)
not_due part (Some zero) none before other key = absurd cc
not_due part (Some (suc time)) none before other key = before key 0 (omega arith) (omega arith)

pub is_lasting : (shelf : ShelfOf) (next : Option ℕ) → IfNone next (HoldsNothing shelf.part) → IfSome next (λ time. NoneFullyExpiresBefore shelf.part time) → option_eq nat_eq next (Some 0) ≡ false
    → Becomes shelf shelf (AreTheLasting shelf.part.snapshot.rules.stale)
is_lasting shelf next none before other contents are =
    (contents, are, none_swept shelf.part.snapshot.rules.stale shelf.part contents are (not_due shelf.part next none before other))

-- and what is left lasts
pub left_lasting : (old new : ShelfOf) (octets : ℕ) → HoldsOctets old.part octets → new.part.snapshot.rules ≡ old.part.snapshot.rules
    → Becomes old new (AreTheLasting old.part.snapshot.rules.stale) → AreLasting new.part
left_lasting old new octets held same left contents are =
    let stale : ℕ = old.part.snapshot.rules.stale in
    let rest = left held.entries held.held in
    let its : contents ≡ lasting stale held.entries = one_contents new.part.snapshot (past_of new.part) contents rest.0 are rest.1 ∙ rest.2 in
    subst (λ s. AllByRecursion (Lasts s) contents) (sym (ap (λ (rules : Rules). rules.stale) same))
    (subst (AllByRecursion (Lasts stale)) (sym its) (all_living stale held.entries))

pub none_went : (shelf : ShelfOf) → ((contents : List Entry) → Has shelf.part contents → None ≡ last_of contents) → Becomes shelf shelf AreNone
none_went shelf last contents are = (contents, are, (none_last contents (last contents are), refl))

-- ---- keys go one after another

-- the entries that are left of some, so many of which went while there were more octets than the limit
pub record AreLeft (limit removed : ℕ) (before after : List Entry) : Type 0 where
  pub left : after ≡ take (length before - removed) before
  pub counted : removed ≤ length before
  pub needed : (fewer : ℕ) → fewer < removed → limit < octets_of (take (length before - fewer) before) % 2 ^ 64

-- so many keys went
pub record HasEvicted (tag : Tag) (moment limit removed : ℕ) (old new : CacheShelfOf) : Type 0 where
  pub records : new.records ≡ old.records
  pub evicts : Evicts tag moment old.shelf new.shelf
  pub lasting : AreLasting new.shelf.part
  pub left : Becomes old.shelf new.shelf (AreLeft limit removed)

-- as many are left
left_length : (limit removed : ℕ) (before after : List Entry) → AreLeft limit removed before after → length after ≡ length before - removed
left_length limit removed before after are =
    ap (λ (es : List Entry). length es) are.left ∙ length-take-le (length before - removed) before (omega arith)

pub none_evicted : (tag : Tag) (moment limit : ℕ) (shelf : CacheShelfOf) → AreLasting shelf.shelf.part → HasEvicted tag moment limit 0 shelf shelf
none_evicted tag moment limit shelf lasts = record {
  records = refl;
  evicts = evicts_none tag moment shelf.shelf;
  lasting = lasts;
  left = λ contents are. (
    contents,
    are,
    record { left = sym (ap (λ n. take n contents) (minus_none (length contents)) ∙ take-length contents); counted = omega arith; needed = λ fewer less. absurd (omega (arith, less)) },
  );
}
  where
    minus_none : (n : ℕ) → n - 0 ≡ n
    minus_none n = omega arith

module _ (tag : Tag) (moment limit removed octets : ℕ) (old middle new : CacheShelfOf) (so_far : HasEvicted tag moment limit removed old middle) where
  -- one more went
  pub one_more : limit < octets → HoldsOctets middle.shelf.part octets → new.records ≡ middle.records → Evicts tag moment middle.shelf new.shelf
      → EvictsLast true middle.shelf new.shelf → HasEvicted tag moment limit (removed + 1) old new
  one_more more held same evicts went = record {
    records = same ∙ so_far.records;
    evicts = evicts_then tag moment old.shelf middle.shelf new.shelf so_far.evicts evicts;
    lasting = λ contents are.
        let last = went held.entries held.held in
        let same_ones : last.0 ≡ contents = one_contents new.shelf.part.snapshot (past_of new.shelf.part) last.0 contents last.1 are in
        let stale : ℕ = middle.shelf.part.snapshot.rules.stale in
        let all : AllByRecursion (Lasts stale) last.0 =
        subst (AllByRecursion (Lasts stale)) (sym last.2.0) (all_taken stale (length held.entries - 1) held.entries (so_far.lasting held.entries held.held)) in
        subst (λ s. AllByRecursion (Lasts s) contents) (sym (ap (λ (rules : Rules). rules.stale) evicts.rules))
        (subst (AllByRecursion (Lasts stale)) same_ones all);
    left = λ contents are.
        let left = so_far.left contents are in
        let last = went left.0 left.1 in
        let many : length left.0 ≡ length contents - removed = left_length limit removed contents left.0 left.2 in
        let fewer_left : length left.0 - 1 ≡ length contents - (removed + 1) = omega (arith, many) in
        let after : last.0 ≡ take (length contents - (removed + 1)) contents =
        last.2.0
        ∙ (ap (λ es. take (length left.0 - 1) es) left.2.left
        ∙ (take-take (length left.0 - 1) (length contents - removed) contents (omega (arith, many)) ∙ ap (λ n. take n contents) fewer_left)) in
        let counts : octets ≡ octets_of (take (length contents - removed) contents) % 2 ^ 64 =
        held.counted left.0 left.1 ∙ ap (λ (es : List Entry). octets_of es % 2 ^ 64) left.2.left in (
          last.0,
          last.1,
          record { left = after; counted = omega (arith, last.2.1, many); needed = λ fewer less. by contents left.2 counts fewer less (nat_eq fewer removed) refl },
        );
  }
    where
      by : (contents : List Entry) {after : List Entry} → AreLeft limit removed contents after → octets ≡ octets_of (take (length contents - removed) contents) % 2 ^ 64
          → (fewer : ℕ) → fewer < removed + 1 → (same : Bool) → nat_eq fewer removed ≡ same → limit < octets_of (take (length contents - fewer) contents) % 2 ^ 64
      by contents left counts fewer less true is =
          let at : removed ≡ fewer = grind (arith, nat_tests) in
          subst (λ n. limit < octets_of (take (length contents - n) contents) % 2 ^ 64) at (subst (λ n. limit < n) counts more)
      by contents left counts fewer less false is =
          let below : fewer < removed = grind (arith, nat_tests) in
          left.needed fewer below

  -- no more went, as there are no more octets than the limit
  pub enough_went : (most : ℕ) → removed ≤ most → octets ≤ limit → HoldsOctets middle.shelf.part octets → Becomes old.shelf middle.shelf (AreTrimmed limit most removed)
  enough_went most few le held contents are =
      let left = so_far.left contents are in (
        left.0,
        left.1,
        record {
          left = left.2.left;
          counted = left.2.counted;
          few = few;
          needed = left.2.needed;
          enough = inl (subst (λ n. n ≤ limit) (held.counted left.0 left.1) le);
        },
      )

  -- or as none is left
  pub none_is_left : (most : ℕ) → removed ≤ most → EvictsLast false middle.shelf new.shelf → Becomes old.shelf new.shelf (AreTrimmed limit most removed)
  none_is_left most few none contents are =
      let left = so_far.left contents are in
      let last = none left.0 left.1 in
      let many : length left.0 ≡ length contents - removed = left_length limit removed contents left.0 left.2 in
      let zero' : length left.0 ≡ 0 = ap (λ (es : List Entry). length es) last.2.0 in (
        last.0,
        last.1,
        record {
          left = last.2.1 ∙ left.2.left;
          counted = left.2.counted;
          few = few;
          needed = left.2.needed;
          enough = inr (inl (omega (arith, many, zero', left.2.counted)));
        },
      )

  -- or as many went as were to go
  pub most_went : (most : ℕ) → removed ≡ most → Becomes old.shelf middle.shelf (AreTrimmed limit most removed)
  most_went most is contents are =
      let left = so_far.left contents are in (
        left.0,
        left.1,
        record { left = left.2.left; counted = left.2.counted; few = omega (arith, is); needed = left.2.needed; enough = inr (inr is) },
      )

-- what has no time went, and then the others as far as they had to
pub trims : (limit most : ℕ) (old middle new : ShelfOf) (result : Result ℕ Refusal) → Becomes old middle (AreTheLasting old.part.snapshot.rules.stale)
    → IfOk result (λ removed. Becomes middle new (AreTrimmed limit most removed)) → IfOk result (Trims limit most old new)
trims limit most old middle new (Ok removed) lasts left = λ contents are.
    let lasting' = lasts contents are in
    let after = left lasting'.0 lasting'.1 in
    (after.0, after.1, subst (λ before. AreTrimmed limit most removed before after.0) lasting'.2 after.2)
trims limit most old middle new (Err refusal) lasts left = tt

-- ---- refusals of a part that records nothing

-- nothing was done, and so its numbers are those that it had
still_spent : (old new : PartOf) → new ≡ old → 2 ^ 62 ≤ next_number old + 1 → 2 ^ 62 ≤ next_number new + 1
still_spent old new same spent = subst (λ part. 2 ^ 62 ≤ next_number part + 1) (sym same) spent

lean_sweep_refused : (old new : ShelfOf) (result : Result ℕ Refusal) → IsLeanDue old.part 0 result → OnErr result (new ≡ old) → IfErr result (IsSweepRefusal new.part)
lean_sweep_refused old new (Ok removed) due same = tt
lean_sweep_refused old new (Err HistoryFull) due same = still_spent old.part new.part (ap (λ (shelf : ShelfOf). shelf.part) same) (omega (arith, due))
lean_sweep_refused old new (Err MomentTooLarge) due same = omega (arith, due.1)
lean_sweep_refused old new (Err Memory) due same = tt

pub sweep_refused : (records : Bool) (old new : ShelfOf) (result : Result ℕ Refusal) → IsDueBy records old.part 0 result → OnErr result (IsLeftBy records old new) → records ≡ false
    → IfErr result (IsSweepRefusal new.part)
sweep_refused records old new result due left lean =
    lean_sweep_refused old new result (subst (λ by. IsDueBy by old.part 0 result) lean due) (subst (λ by. OnErr result (IsLeftBy by old new)) lean left)

pub evict_refused : (moment : ℕ) (old new : CacheShelfOf) (result : Result Bool Refusal) → IsEvictDue old.shelf.part moment result → OnErr result (new ≡ old)
    → IfErr result (IsEvictRefusal new.shelf.part moment)
evict_refused moment old new (Ok went) due same = tt
evict_refused moment old new (Err HistoryFull) due same = still_spent old.shelf.part new.shelf.part (ap (λ (shelf : CacheShelfOf). shelf.shelf.part) same) due
evict_refused moment old new (Err MomentTooLarge) due same = due.1
evict_refused moment old new (Err Memory) due same = due

-- where the earliest expiry is at moment 0, no sweep came behind the last offer
pub not_swept : (part : PartOf) (next : Option ℕ) → IfSome next (λ time. IsAfterLastSweep part time) → option_eq nat_eq next (Some 0) ≡ true → IsAfterLastSweep part 0
not_swept part None after is = absurd cc
not_swept part (Some time) after is =
    let at : time ≡ 0 = grind (arith, nat_tests) in
    subst (λ time. IsAfterLastSweep part time) at after

-- what `?` hands on is the error that it met
pub met : {A : Type 0} (result : Result A Refusal) (refusal : Refusal) (Is : Refusal → Type 0) → IsErrAnd result (λ one. one ≡ refusal) → Is refusal → IfErr result Is
met (Ok answer) refusal Is same is = tt
met (Err one) refusal Is same is = subst Is (sym same) is

pub begin_refused : (old new : PartOf) (moment : ℕ) (refusal : Refusal) → IsSweepRefusal new refusal → IsAfterLastSweep old 0 → IsLeanRefusal old new moment refusal
begin_refused old new moment HistoryFull why after = why
begin_refused old new moment MomentTooLarge why after = absurd why
begin_refused old new moment Memory why after = after

pub trim_refused : (old new : PartOf) (moment : ℕ) (result : Result ℕ Refusal) → IfErr result (IsEvictRefusal new moment) → IfErr result (IsLeanRefusal old new moment)
trim_refused old new moment (Ok removed) why = tt
trim_refused old new moment (Err HistoryFull) why = why
trim_refused old new moment (Err MomentTooLarge) why = why
trim_refused old new moment (Err Memory) why = absurd why
