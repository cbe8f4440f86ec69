-- SPDX-License-Identifier: MIT
-- How an audit looks at what was written: walks over the events, and tests of one event.
use Rattle.std.specs.Prelude.{◌≡◌, ℕ, ◌+◌, ◌-◌, ◌^◌, ◌≤◌, List, [], ◌∷◌, length, Bool, true, false, not, ◌&&◌, ◌||◌, ◌==◌, nat_eq, nat_lt, nat_le, if◌then◌else◌, Option, Some, None}
use Rattle.std.specs.List.{list_any, list_all}
use Rattle.std.specs.Option.{option_eq}
use Rattle.std.specs.Cmp.Lexicographic.{pointwise}
use Rattle.std.specs.declared.cmp.Ordering.{Ordering}
use Rattle.std.specs.declared.cmp.Ordering.TheVariants.{Less, Equal, Greater}
use Rattle.rrc_name.specs.Key.{KeyOf, key_order}
use Rattle.rrc_history.specs.declared.event.Event.{Event}
use Rattle.rrc_history.specs.declared.event.Event.TheVariants.{Offered, Asked, Swept}
use Rattle.rrc_history.specs.declared.event.Outcome.{Outcome}
use Rattle.rrc_history.specs.declared.event.Outcome.TheVariants.{Kept, Cleared, LessTrusted}
use Rattle.rrc_history.specs.declared.event.RrSet.{RrSet}
use Rattle.rrc_history.specs.declared.event.Soa.{Soa}
use Rattle.rrc_history.specs.declared.event.Reply.{Reply}
use Rattle.rrc_history.specs.declared.event.Reply.TheVariants.{Fresh, Stale, NoData, NxDomain, Miss}
use Rattle.rrc_history.specs.declared.snapshot.Entry.{Entry}
use Rattle.rrc_history.specs.declared.snapshot.Snapshot.{Snapshot}
use Rattle.rrc_history.specs.Asked.{AskOf}
use Rattle.rrc_history.specs.Fits.{OfferOf}
use Rattle.rrc_history.specs.Lives.{LAST_MOMENT}
use Rattle.rrc_history.specs.Judged.{verdict}
use Rattle.rrc_history.specs.Past.{held, held_after_offer, reply_to, is_among, number_after, AreContents, touch}
use Rattle.rrc_history.specs.Right.{is_swept}

-- what a key holds after an event of a number that held this before
abbrev pub held_after_event : ℕ → Event → KeyOf → Option Entry → Option Entry
held_after_event number (Offered outcome tag offer evicted) key before = held_after_offer number offer outcome evicted key before
held_after_event number (Asked tag ask reply) key before = before
held_after_event number (Swept tag moment gone) key before = if is_among key gone then None else before

-- there is something
abbrev pub is_there : {A : Type 0} → Option A → Bool
is_there None = false
is_there (Some x) = true

-- the replies are the same, octet for octet
abbrev pub set_eq : RrSet → RrSet → Bool
set_eq set other = pointwise nat_eq set.owner other.owner && pointwise (pointwise nat_eq) set.items other.items

abbrev pub soa_eq : Soa → Soa → Bool
soa_eq soa other = pointwise nat_eq soa.owner other.owner && pointwise nat_eq soa.octets other.octets

abbrev pub moment_eq : Option ℕ → Option ℕ → Bool
moment_eq moment other = option_eq nat_eq moment other

abbrev pub reply_eq : Reply → Reply → Bool
reply_eq (Fresh set left) (Fresh other other_left) = set_eq set other && left == other_left
reply_eq (Stale set left) (Stale other other_left) = set_eq set other && left == other_left
reply_eq (NoData soa left) (NoData other other_left) = soa_eq soa other && left == other_left
reply_eq (NxDomain soa left) (NxDomain other other_left) = soa_eq soa other && left == other_left
reply_eq (Miss moment) (Miss other) = moment_eq moment other
reply_eq reply other = false

-- the key that an event offers a body under passes a test
abbrev pub is_offered : (KeyOf → Bool) → Event → Bool
is_offered test (Offered outcome tag offer evicted) = test offer.key
is_offered test (Asked tag ask reply) = false
is_offered test (Swept tag moment gone) = false

-- a key of the snapshot or of an offer passes a test
abbrev pub is_somewhere : (KeyOf → Bool) → Snapshot → List Event → Bool
is_somewhere test snapshot events = list_any (λ entry. test entry.key) snapshot.entries || list_any (is_offered test) events

-- the key is held, and was touched before a number
abbrev pub is_lower : Snapshot → List Event → ℕ → KeyOf → Bool
is_lower snapshot past number key = is_there (held snapshot past key) && nat_lt (touch snapshot past key) number

-- the key is held, and no key that is held was touched before it
abbrev pub is_least : Snapshot → List Event → List Event → KeyOf → Bool
is_least snapshot past events key =
    is_there (held snapshot past key) && not (is_somewhere (is_lower snapshot past (touch snapshot past key)) snapshot events)

-- where a key is to go, it is the one touched least recently
abbrev pub is_victim : Snapshot → List Event → List Event → Option KeyOf → Bool
is_victim snapshot past events None = false
is_victim snapshot past events (Some key) = is_least snapshot past events key

-- an offer of this outcome has to evict a key, where its key holds something or nothing, and so many keys are held
abbrev pub has_to_evict : Outcome → Bool → Bool → Bool
has_to_evict Kept held full = not held && full
has_to_evict Cleared held full = false
has_to_evict LessTrusted held full = false

abbrev pub is_rightly_evicted : Snapshot → List Event → List Event → ℕ → Outcome → Bool → Option KeyOf → Bool
is_rightly_evicted snapshot past events present outcome held evicted =
    if has_to_evict outcome held (present == snapshot.rules.capacity) then is_victim snapshot past events evicted else not (is_there evicted)

-- the key is fully expired, and is not listed
abbrev pub is_left_out : Snapshot → List Event → ℕ → List KeyOf → KeyOf → Bool
is_left_out snapshot past moment gone key = is_swept snapshot.rules.stale (held snapshot past key) moment && not (is_among key gone)

-- each listed key is fully expired, and no fully expired one is left out
abbrev pub are_fully_expired : Snapshot → List Event → List Event → ℕ → List KeyOf → Bool
are_fully_expired snapshot past events moment gone =
    list_all (λ key. is_swept snapshot.rules.stale (held snapshot past key) moment) gone
    && not (is_somewhere (is_left_out snapshot past moment gone) snapshot events)

-- the first is ordered before the second
abbrev pub is_less : Ordering → Bool
is_less Less = true
is_less Equal = false
is_less Greater = false

-- the keys behind one are in their order, each once
abbrev pub are_ordered : KeyOf → List KeyOf → Bool
are_ordered before [] = true
are_ordered before (key ∷ keys) = is_less (key_order before key) && are_ordered key keys

abbrev pub are_in_order : List KeyOf → Bool
are_in_order [] = true
are_in_order (key ∷ keys) = are_ordered key keys

-- ---- one event

abbrev pub outcome_eq : Outcome → Outcome → Bool
outcome_eq Kept Kept = true
outcome_eq Cleared Cleared = true
outcome_eq LessTrusted LessTrusted = true
outcome_eq outcome other = false

abbrev pub is_right_offer : Snapshot → List Event → List Event → ℕ → OfferOf → Outcome → Option KeyOf → Bool
is_right_offer snapshot past events present offer outcome evicted =
    nat_le offer.moment LAST_MOMENT
    && (outcome_eq outcome (verdict (held snapshot past offer.key) offer)
    && is_rightly_evicted snapshot past events present outcome (is_there (held snapshot past offer.key)) evicted)

abbrev pub is_right_ask : Snapshot → List Event → AskOf → Reply → Bool
is_right_ask snapshot past ask reply = nat_le ask.moment LAST_MOMENT && reply_eq (reply_to snapshot past ask) reply

abbrev pub is_right_sweep : Snapshot → List Event → List Event → ℕ → List KeyOf → Bool
is_right_sweep snapshot past events moment gone = nat_le moment LAST_MOMENT && (are_in_order gone && are_fully_expired snapshot past events moment gone)

abbrev pub is_right_then : Snapshot → List Event → List Event → ℕ → Event → Bool
is_right_then snapshot past events present (Offered outcome tag offer evicted) = is_right_offer snapshot past events present offer outcome evicted
is_right_then snapshot past events present (Asked tag ask reply) = is_right_ask snapshot past ask reply
is_right_then snapshot past events present (Swept tag moment gone) = is_right_sweep snapshot past events moment gone

-- the event is right after the past, which are these events with the newest first, and leaves so many keys held
abbrev pub is_right : Snapshot → List Event → List Event → ℕ → Event → Bool
is_right snapshot past events present event = nat_lt (number_after snapshot past) (2 ^ 62) && is_right_then snapshot past events present event

-- how many keys are held after an event, of so many before it
abbrev pub present_after_offer : Outcome → Bool → Bool → ℕ → ℕ
present_after_offer Kept held evicts present = if held || evicts then present else present + 1
present_after_offer Cleared held evicts present = if held then present - 1 else present
present_after_offer LessTrusted held evicts present = present

abbrev pub present_after : Snapshot → List Event → Event → ℕ → ℕ
present_after snapshot past (Offered outcome tag offer evicted) present =
    present_after_offer outcome (is_there (held snapshot past offer.key)) (is_there evicted) present
present_after snapshot past (Asked tag ask reply) present = present
present_after snapshot past (Swept tag moment gone) present = present - length gone

-- so many keys are held, and no more than may be
pub record AreHeld (snapshot : Snapshot) (past : List Event) (present : ℕ) : Type 0 where
  pub entries : List Entry
  pub contents : AreContents snapshot past entries
  pub count : length entries ≡ present
  pub few : length entries ≤ snapshot.rules.capacity
