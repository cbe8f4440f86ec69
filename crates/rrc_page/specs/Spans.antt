-- SPDX-License-Identifier: MIT
-- Spans: what a key held from an event on, until when that may answer, and which later event took it from the key.
use Rattle.std.specs.Prelude.{◌≡◌, ◌⊎◌, ℕ, ◌+◌, ◌≤◌, List, [], ◌∷◌, ◌++◌, true, false, Option, Some, None, nat_lt, nat_le, if◌then◌else◌}
use Rattle.std.specs.Option.{option_map, option_or}
use Rattle.rrc_name.specs.Key.{KeyOf, key_eq}
use Rattle.rrc_history.specs.declared.event.Event.{Event}
use Rattle.rrc_history.specs.declared.event.Event.TheVariants.{Offered, Asked, Swept as SweptKeys}
use Rattle.rrc_history.specs.declared.event.Outcome.TheVariants.{Kept, Cleared as ClearedKey, LessTrusted}
use Rattle.rrc_history.specs.declared.event.Tag.{Tag}
use Rattle.rrc_history.specs.declared.snapshot.Entry.{Entry}
use Rattle.rrc_history.specs.declared.snapshot.Snapshot.{Snapshot}
use Rattle.rrc_history.specs.Chains.{WholeOf}
use Rattle.rrc_history.specs.Fits.{OfferOf}
use Rattle.rrc_history.specs.Lives.{ttl_of, span, is_unexpired, is_fully_expired}
use Rattle.rrc_history.specs.Past.{held, number_after, entry_of, is_among, is_evicted, moment_of}
use Rattle.rrc_collate.specs.Calls.{tag_of}
use Rattle.rrc_page.specs.declared.spans.Ending.{Ending}
use Rattle.rrc_page.specs.declared.spans.Loss.{Loss}
use Rattle.rrc_page.specs.declared.spans.Loss.TheVariants.{Replaced, Cleared, Evicted, Swept}

-- what an event of this tag stored, the first moment at which it is not fresh, the first at which it may answer no more, and what took it
-- from its key, if anything did
pub record SpanOf : Type 0 where
  pub entry : Entry
  pub tag : Tag
  pub fresh : ℕ
  pub until : ℕ
  pub ending : Option Ending

-- ---- when a span is right

-- after a past the key of an entry holds it
abbrev pub Holds : Snapshot → List Event → Entry → Type 0
Holds snapshot past entry = held snapshot past entry.key ≡ Some entry

-- how an event takes from a key what it holds: another body of the key is kept, an offer of ttl 0 clears the key, an offer of another key
-- evicts it, or a sweep removes it
abbrev pub Takes : Loss → KeyOf → Event → Type 0
Takes Replaced key (Offered Kept tag offer evicted) = key_eq key offer.key ≡ true
Takes Cleared key (Offered ClearedKey tag offer evicted) = key_eq key offer.key ≡ true
Takes Evicted key (Offered Kept tag offer evicted) = (key_eq key offer.key ≡ false) × (is_evicted key evicted ≡ true)
Takes Swept key (SweptKeys tag moment gone) = is_among key gone ≡ true
Takes loss key event = ⊥

-- the event behind a past is the one that took the entry from its key
pub record IsTaken (snapshot : Snapshot) (past : List Event) (event : Event) (entry : Entry) (ending : Ending) : Type 0 where
  pub gone : Holds snapshot (event ∷ past) entry → ⊥
  pub takes : Takes ending.loss entry.key event
  pub number : ending.number ≡ number_after snapshot past
  pub tag : ending.tag ≡ tag_of event
  pub moment : ending.moment ≡ moment_of event

abbrev pub IsTakenBy : Snapshot → List Event → Event → Entry → Option Ending → Type 0
IsTakenBy snapshot past event entry None = ⊥
IsTakenBy snapshot past event entry (Some ending) = IsTaken snapshot past event entry ending

-- the key holds the entry after each of these events, up to the one that took it, if one did
abbrev pub Ends : Snapshot → List Event → List Event → Entry → Option Ending → Type 0
Ends snapshot past [] entry ending = ending ≡ None
Ends snapshot past (event ∷ behind) entry ending =
    IsTakenBy snapshot past event entry ending ⊎ (Holds snapshot (event ∷ past) entry × Ends snapshot (event ∷ past) behind entry ending)

-- the event behind a past stored the entry of the span. From then on it is unexpired before `fresh` (RFC 1035 3.2.1, RFC 2308 5), and fully
-- expired from `until` on (RFC 8767 4), and it ends as the span says.
pub record IsSpan (snapshot : Snapshot) (past : List Event) (event : Event) (behind : List Event) (its : SpanOf) : Type 0 where
  pub stored : Holds snapshot (event ∷ past) its.entry
  pub number : its.entry.number ≡ number_after snapshot past
  pub stored_at : its.entry.moment ≡ moment_of event
  pub tag : its.tag ≡ tag_of event
  pub fresh : (moment : ℕ) → its.entry.moment ≤ moment → is_unexpired its.entry moment ≡ nat_lt moment its.fresh
  pub until : (moment : ℕ) → its.entry.moment ≤ moment → is_fully_expired snapshot.rules.stale its.entry moment ≡ nat_le its.until moment
  pub ends : Ends snapshot (event ∷ past) behind its.entry its.ending

-- each event behind a past that stored something has its span, in the order of the events, and no other event has one
abbrev pub AreSpans : Snapshot → List Event → List Event → List SpanOf → Type 0
AreSpans snapshot past [] [] = Unit {0}
AreSpans snapshot past [] (its ∷ spans) = ⊥
AreSpans snapshot past (Offered Kept tag offer evicted ∷ behind) [] = ⊥
AreSpans snapshot past (Offered Kept tag offer evicted ∷ behind) (its ∷ spans) =
    IsSpan snapshot past (Offered Kept tag offer evicted) behind its × AreSpans snapshot (Offered Kept tag offer evicted ∷ past) behind spans
AreSpans snapshot past (event ∷ behind) spans = AreSpans snapshot (event ∷ past) behind spans

-- ---- the spans of a history

-- how a kept offer under another or the same key takes from a key what it holds, if it does
abbrev pub loss_by_kept : KeyOf → KeyOf → Option KeyOf → Option Loss
loss_by_kept key offered evicted = if key_eq key offered then Some Replaced else if is_evicted key evicted then Some Evicted else None

-- how an event takes from a key what it holds, if it does
abbrev pub loss_by : KeyOf → Event → Option Loss
loss_by key (Offered Kept tag offer evicted) = loss_by_kept key offer.key evicted
loss_by key (Offered ClearedKey tag offer evicted) = if key_eq key offer.key then Some Cleared else None
loss_by key (Offered LessTrusted tag offer evicted) = None
loss_by key (Asked tag ask reply) = None
loss_by key (SweptKeys tag moment gone) = if is_among key gone then Some Swept else None

-- what an event of this number took
abbrev pub ending_by : ℕ → Event → Loss → Ending
ending_by number event loss = record { loss = loss; number = number; tag = tag_of event; moment = moment_of event }

-- the first of these events that takes from a key what it holds; the first of them has this number
abbrev pub ending_in : KeyOf → ℕ → List Event → Option Ending
ending_in key number [] = None
ending_in key number (event ∷ behind) = option_or (option_map (ending_by number event) (loss_by key event)) (ending_in key (number + 1) behind)

-- the span of a kept offer of this number, which ended like this
abbrev pub span_ending : ℕ → ℕ → Tag → OfferOf → Option Ending → SpanOf
span_ending stale number tag offer ending =
    record {
      entry = entry_of offer number;
      tag = tag;
      fresh = offer.moment + ttl_of offer.body;
      until = offer.moment + span stale offer.body;
      ending = ending;
    }

-- that of the offer with these events behind it
abbrev pub span_of : ℕ → ℕ → Tag → OfferOf → List Event → SpanOf
span_of stale number tag offer behind = span_ending stale number tag offer (ending_in offer.key (number + 1) behind)

abbrev pub span_at : ℕ → ℕ → Event → List Event → List SpanOf
span_at stale number (Offered Kept tag offer evicted) behind = span_of stale number tag offer behind ∷ []
span_at stale number event behind = []

-- the spans of events, the first of which has this number
abbrev pub spans_from : ℕ → ℕ → List Event → List SpanOf
spans_from stale number [] = []
spans_from stale number (event ∷ behind) = span_at stale number event behind ++ spans_from stale (number + 1) behind

abbrev pub spans_of : WholeOf → List SpanOf
spans_of whole = spans_from whole.snapshot.rules.stale whole.snapshot.first whole.events

-- the spans of a history are right: they say what `held` says
abbrev pub SpansAreRight : Type 0
SpansAreRight = (whole : WholeOf) → AreSpans whole.snapshot [] whole.events (spans_of whole)
