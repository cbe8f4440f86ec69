-- SPDX-License-Identifier: MIT
-- What an archive may tell Rust holds, and no LF stands within a line of it.
use Rattle.std.proofs.Common.{◌≡◌, ◌==◌, ◌<◌, ◌^◌, ℕ, List, [], ◌∷◌, ◌++◌, Option, Some, None, Bool, true, false, refl, arith, nat_lt, cond, decimal, codes}
use Rattle.std.specs.List.{AllByRecursion}
use Rattle.std.proofs.lemmas.Bool.Decides.{nat_tests}
use Rattle.hex.specs.Hex.{IsBytes}
use Rattle.rrc_name.specs.Key.{KeyOf}
use Rattle.rrc_name.specs.Text.{text_of}
use Rattle.rrc_name.specs.Wire.{labels_of}
use Rattle.rrc_name.specs.declared.slot.Slot.{Slot}
use Rattle.rrc_name.specs.declared.slot.Slot.TheVariants.{Set, Nx, Failed}
use Rattle.rrc_history.specs.Fits.{OfferOf}
use Rattle.rrc_history.specs.Lives.{rank}
use Rattle.rrc_history.specs.declared.ask.Mode.{Mode}
use Rattle.rrc_history.specs.declared.ask.Mode.TheVariants as modes
use Rattle.rrc_history.specs.declared.ask.Purpose.{Purpose}
use Rattle.rrc_history.specs.declared.ask.Purpose.TheVariants as purposes
use Rattle.rrc_history.specs.declared.body.Body.{Body}
use Rattle.rrc_history.specs.declared.body.Body.TheVariants.{Positive, Negative, Failure}
use Rattle.rrc_history.specs.declared.event.Event.{Event}
use Rattle.rrc_history.specs.declared.event.Event.TheVariants.{Offered, Asked, Swept}
use Rattle.rrc_history.specs.declared.event.Outcome.{Outcome}
use Rattle.rrc_history.specs.declared.event.Outcome.TheVariants.{Kept, Cleared, LessTrusted}
use Rattle.rrc_history.specs.declared.event.Reply.{Reply}
use Rattle.rrc_history.specs.declared.event.Reply.TheVariants.{Fresh, Stale, NoData, NxDomain, Miss}
use Rattle.rrc_history.specs.declared.event.Tag.{Tag}
use Rattle.rrc_history.specs.declared.rules.Rules.{Rules}
use Rattle.rrc_history.specs.declared.snapshot.Entry.{Entry}
use Rattle.rrc_text.specs.Grammar.{purpose_word, mode_word}
use Rattle.rrc_text.specs.Cuts.{IsUnended}
use Rattle.rrc_text.specs.Replies.{item_text, items_text, slot_text, class_text, outcome_text, reply_text}
use Rattle.rrc_archive.specs.Archive.{WrittenOf, key_fields, tag_fields, body_fields, keys_fields, evicted_fields, head_text, entry_text, event_text}
use Rattle.rrc_archive.specs.ArchiveFits.{FitsSlot, FitsKey, FitsBody, FitsEntry, FitsReply, FitsEvicted, FitsOffer, FitsAsk, FitsEvent, FitsChapter}
use Rattle.rrc_archive.specs.ArchiveLaw.{IsNumber, HoldsSlot, HoldsKey, HoldsTag, HoldsItems, HoldsBody, HoldsEntry, HoldsReply, HoldsEvicted, HoldsOffer, HoldsEvent, HoldsChapter}
use Rattle.rrc_archive.specs.ArchiveLines.{said_text}
use Rattle.rrc_archive.specs.ArchiveSaid.{FitsSaid}
use Rattle.rrc_archive.specs.declared.read.said.Said.{Said}
use Rattle.rrc_archive.specs.declared.read.said.Said.TheVariants as said
use Rattle.rrc_archive.proofs.CancelLemmas.{Above}
use Rattle.rrc_archive.proofs.CancelFields.{above-append, name-above, item-above}
use Rattle.rrc_archive.proofs.ReadFields.{above-lower, decimal-above, rank-number, kind_text, kind-above, items-above}

holds-slot : (slot : Slot) → FitsSlot slot → HoldsSlot slot
holds-slot (Set rtype) few = omega (arith, few)
holds-slot Nx few = tt
holds-slot (Failed rtype) few = omega (arith, few)

holds-key : (key : KeyOf) → FitsKey key → HoldsKey key
holds-key key fit = (fit.name, (holds-slot key.slot fit.slot, omega (arith, fit.class)))

holds-body : (body : Body) → FitsBody body → HoldsBody body
holds-body (Positive trust ttl owner items) fit = (omega (arith, fit.lives), (fit.name, fit.octets))
holds-body (Negative trust ttl owner soa) fit = (omega (arith, fit.lives), (fit.name, fit.octets))
holds-body (Failure ttl) fit = omega (arith, fit)

pub holds-entry : (entry : Entry) → FitsEntry entry → HoldsEntry entry
holds-entry entry fit = (fit.numbered, (fit.dated, (holds-key entry.key fit.under, holds-body entry.body fit.holds)))

holds-reply : (reply : Reply) → FitsReply reply → HoldsReply reply
holds-reply (Fresh set left) fit = (omega (arith, fit.lives), (fit.name, fit.octets))
holds-reply (Stale set left) fit = (omega (arith, fit.lives), (fit.name, fit.octets))
holds-reply (NoData soa left) fit = (omega (arith, fit.lives), (fit.name, fit.octets))
holds-reply (NxDomain soa left) fit = (omega (arith, fit.lives), (fit.name, fit.octets))
holds-reply (Miss None) fit = tt
holds-reply (Miss (Some moment)) fit = fit

holds-evicted : (evicted : Option KeyOf) → FitsEvicted evicted → HoldsEvicted evicted
holds-evicted None fit = tt
holds-evicted (Some key) fit = holds-key key fit

holds-offer : (offer : OfferOf) → FitsOffer offer → HoldsOffer offer
holds-offer offer fit = (fit.dated, (holds-key offer.key fit.under, holds-body offer.body fit.holds))

all-hold : {X : Type 0} (P Q : X → Type 0) → ((x : X) → P x → Q x) → (xs : List X) → AllByRecursion P xs → AllByRecursion Q xs
all-hold P Q one [] all = tt
all-hold P Q one (x ∷ xs) all = (one x all.0, all-hold P Q one xs all.1)

pub holds-event : (event : Event) → FitsEvent event → HoldsEvent event
holds-event (Offered outcome tag offer evicted) fit = (fit.0, (holds-offer offer fit.1.0, holds-evicted evicted fit.1.1))
holds-event (Asked tag ask reply) fit =
    let asks : FitsAsk ask = fit.1.0 in
    (fit.0, ((asks.dated, (asks.named, (omega (arith, asks.typed), omega (arith, asks.classed)))), holds-reply reply fit.1.1))
holds-event (Swept tag moment gone) fit = (fit.0, (fit.1.0, all-hold FitsKey HoldsKey holds-key gone fit.1.1))

pub holds-chapter : (chapter : WrittenOf) → FitsChapter chapter → HoldsChapter chapter
holds-chapter chapter fit = record {
  number = fit.numbered;
  first = fit.begins;
  entries = all-hold FitsEntry HoldsEntry holds-entry chapter.entries fit.held;
  events = all-hold FitsEvent HoldsEvent holds-event chapter.events fit.told;
}

-- octets are spaces, or above them
abbrev IsPlain : List ℕ → Type 0
IsPlain octets = Above 31 octets

unended : (octets : List ℕ) → IsPlain octets → IsUnended octets
unended [] plain = tt
unended (octet ∷ octets) plain = (λ e. absurd (omega (arith, e, plain.0)), unended octets plain.1)

abbrev is_plain : List ℕ → Bool
is_plain [] = true
is_plain (octet ∷ octets) = cond (nat_lt 31 octet) (is_plain octets) false

word : (octets : List ℕ) → is_plain octets ≡ true → IsPlain octets
word [] is = tt
word (octet ∷ octets) is = by (word octets) (nat_lt 31 octet) refl is
  where
    by : (is_plain octets ≡ true → IsPlain octets) → (high : Bool) → nat_lt 31 octet ≡ high → cond high (is_plain octets) false ≡ true → IsPlain (octet ∷ octets)
    by later true high is = (grind (arith, nat_tests, high), later is)
    by later false low is = absurd cc

both : (x y : List ℕ) → IsPlain x → IsPlain y → IsPlain (x ++ y)
both x y first second = above-append 31 x y first second

spaced : (x y : List ℕ) → IsPlain x → IsPlain y → IsPlain (x ++ (32 ∷ y))
spaced x y first second = both x (32 ∷ y) first (omega arith, second)

number : (n : ℕ) → IsNumber n → IsPlain (decimal n)
number n is = above-lower 31 47 (decimal n) (omega arith) (decimal-above n is)

name : (wire : List ℕ) → IsPlain (text_of wire)
name wire = above-lower 31 32 (text_of wire) (omega arith) (name-above (labels_of wire))

kind : (slot : Slot) (class : ℕ) → FitsSlot slot → class < 2 ^ 16 → IsPlain (kind_text slot class)
kind slot class fit few = above-lower 31 32 (kind_text slot class) (omega arith) (kind-above slot class fit few)

key-plain : (key : KeyOf) → FitsKey key → IsPlain (key_fields key)
key-plain key fit = spaced (text_of key.name) (kind_text key.slot key.class) (name key.name) (kind key.slot key.class fit.slot fit.class)

items : (data_items : List (List ℕ)) → HoldsItems data_items → IsPlain (items_text data_items)
items data_items held = above-lower 31 32 (items_text data_items) (omega arith) (items-above data_items held)

soa : (octets : List ℕ) → IsBytes octets → IsPlain (item_text octets)
soa octets bytes = above-lower 31 44 (item_text octets) (omega arith) (item-above octets bytes)

lived : (left : ℕ) (owner rest : List ℕ) → left < 2 ^ 32 → IsPlain rest → IsPlain (decimal left ++ (32 ∷ (text_of owner ++ (32 ∷ rest))))
lived left owner rest few plain = spaced (decimal left) (text_of owner ++ (32 ∷ rest)) (number left (omega (arith, few))) (spaced (text_of owner) rest (name owner) plain)

body-plain : (body : Body) → FitsBody body → IsPlain (body_fields body)
body-plain (Positive trust ttl owner data_items) fit =
    let rest = decimal ttl ++ (32 ∷ (text_of owner ++ (32 ∷ items_text data_items))) in
    both (codes "set ") (decimal (rank trust) ++ (32 ∷ rest)) (word (codes "set ") refl)
    (spaced (decimal (rank trust)) rest (number (rank trust) (rank-number trust)) (lived ttl owner (items_text data_items) fit.lives (items data_items fit.octets)))
body-plain (Negative trust ttl owner octets) fit =
    let rest = decimal ttl ++ (32 ∷ (text_of owner ++ (32 ∷ item_text octets))) in
    both (codes "negative ") (decimal (rank trust) ++ (32 ∷ rest)) (word (codes "negative ") refl)
    (spaced (decimal (rank trust)) rest (number (rank trust) (rank-number trust)) (lived ttl owner (item_text octets) fit.lives (soa octets fit.octets)))
body-plain (Failure ttl) fit = both (codes "failure ") (decimal ttl) (word (codes "failure ") refl) (number ttl (omega (arith, fit)))

reply-plain : (reply : Reply) → FitsReply reply → IsPlain (reply_text reply)
reply-plain (Fresh set left) fit =
    both (codes "fresh ") _ (word (codes "fresh ") refl) (lived left set.owner (items_text set.items) fit.lives (items set.items fit.octets))
reply-plain (Stale set left) fit =
    both (codes "stale ") _ (word (codes "stale ") refl) (lived left set.owner (items_text set.items) fit.lives (items set.items fit.octets))
reply-plain (NoData record_soa left) fit =
    both (codes "nodata ") _ (word (codes "nodata ") refl) (lived left record_soa.owner (item_text record_soa.octets) fit.lives (soa record_soa.octets fit.octets))
reply-plain (NxDomain record_soa left) fit =
    both (codes "nxdomain ") _ (word (codes "nxdomain ") refl) (lived left record_soa.owner (item_text record_soa.octets) fit.lives (soa record_soa.octets fit.octets))
reply-plain (Miss None) fit = word (codes "miss") refl
reply-plain (Miss (Some moment)) fit = both (codes "miss ") (decimal moment) (word (codes "miss ") refl) (number moment fit)

evicted-plain : (evicted : Option KeyOf) → FitsEvicted evicted → IsPlain (evicted_fields evicted)
evicted-plain None fit = tt
evicted-plain (Some key) fit = (omega arith, key-plain key fit)

keys-plain : (gone : List KeyOf) → AllByRecursion FitsKey gone → IsPlain (keys_fields gone)
keys-plain [] fit = tt
keys-plain (key ∷ gone) fit = (omega arith, both (key_fields key) (keys_fields gone) (key-plain key fit.0) (keys-plain gone fit.1))

outcome-plain : (outcome : Outcome) → IsPlain (outcome_text outcome)
outcome-plain Kept = word (codes "kept") refl
outcome-plain Cleared = word (codes "cleared") refl
outcome-plain LessTrusted = word (codes "less") refl

purpose-plain : (purpose : Purpose) → IsPlain (purpose_word purpose)
purpose-plain purposes.Any = word (codes "any") refl
purpose-plain purposes.Answer = word (codes "answer") refl

mode-plain : (mode : Mode) → IsPlain (mode_word mode)
mode-plain modes.NoStale = word (codes "none") refl
mode-plain modes.Failed = word (codes "failed") refl
mode-plain modes.Now = word (codes "now") refl

tagged : (tag : Tag) (moment : ℕ) (rest : List ℕ) → HoldsTag tag → IsNumber moment → IsPlain rest → IsPlain (tag_fields tag ++ (32 ∷ (decimal moment ++ rest)))
tagged tag moment rest held is plain =
    spaced (tag_fields tag) (decimal moment ++ rest) (spaced (decimal tag.line) (decimal tag.place) (number tag.line held.0) (number tag.place held.1))
    (both (decimal moment) rest (number moment is) plain)

event-plain : (event : Event) → FitsEvent event → IsPlain (event_text event)
event-plain (Offered outcome tag offer evicted) fit =
    let offers : FitsOffer offer = fit.1.0 in
    let told = outcome_text outcome ++ evicted_fields evicted in
    let bodied = body_fields offer.body ++ (32 ∷ told) in
    let rest = key_fields offer.key ++ (32 ∷ bodied) in
    both (codes "offer ") _ (word (codes "offer ") refl)
    (tagged tag offer.moment (32 ∷ rest) fit.0 offers.dated (
      omega arith,
      spaced (key_fields offer.key) bodied (key-plain offer.key offers.under)
          (spaced (body_fields offer.body) told (body-plain offer.body offers.holds)
          (both (outcome_text outcome) (evicted_fields evicted) (outcome-plain outcome) (evicted-plain evicted fit.1.1))),
    ))
event-plain (Asked tag ask reply) fit =
    let asks : FitsAsk ask = fit.1.0 in
    let meant = mode_word ask.mode ++ (32 ∷ reply_text reply) in
    let wanted = purpose_word ask.purpose ++ (32 ∷ meant) in
    let classed = class_text ask.class ++ (32 ∷ wanted) in
    let typed = slot_text (Set ask.rtype) ++ classed in
    let rest = text_of ask.name ++ (32 ∷ typed) in
    let manner : IsPlain wanted =
    spaced (purpose_word ask.purpose) meant (purpose-plain ask.purpose)
    (spaced (mode_word ask.mode) (reply_text reply) (mode-plain ask.mode) (reply-plain reply fit.1.1)) in
    let question : IsPlain typed =
    both (slot_text (Set ask.rtype)) classed (number ask.rtype (omega (arith, asks.typed)))
    (spaced (class_text ask.class) wanted (class-plain ask.class asks.classed) manner) in
    both (codes "ask ") _ (word (codes "ask ") refl)
    (tagged tag ask.moment (32 ∷ rest) fit.0 asks.dated (omega arith, spaced (text_of ask.name) typed (name ask.name) question))
  where
    class-plain : (class : ℕ) → class < 2 ^ 16 → IsPlain (class_text class)
    class-plain class few = by (class == 1) refl
      where
        by : (one : Bool) → (class == 1) ≡ one → IsPlain (class_text class)
        by true is = rw is tt
        by false is = rw is (omega arith, number class (omega (arith, few)))
event-plain (Swept tag moment gone) fit =
    both (codes "sweep ") _ (word (codes "sweep ") refl) (tagged tag moment (keys_fields gone) fit.0 fit.1.0 (keys-plain gone fit.1.1))

entry-plain : (entry : Entry) → FitsEntry entry → IsPlain (entry_text entry)
entry-plain entry fit =
    let keyed = key_fields entry.key ++ (32 ∷ body_fields entry.body) in
    let dated = decimal entry.moment ++ (32 ∷ keyed) in
    both (codes "entry ") (decimal entry.number ++ (32 ∷ dated)) (word (codes "entry ") refl)
    (spaced (decimal entry.number) dated (number entry.number fit.numbered)
    (spaced (decimal entry.moment) keyed (number entry.moment fit.dated)
    (spaced (key_fields entry.key) (body_fields entry.body) (key-plain entry.key fit.under) (body-plain entry.body fit.holds))))

head-plain : (n first : ℕ) (rules : Rules) → IsNumber n → IsNumber first → IsPlain (head_text n first rules)
head-plain n first rules is is_first =
    let aged = decimal rules.stale in
    let cut = decimal rules.chapter ++ (32 ∷ aged) in
    let roomy = decimal rules.capacity ++ (32 ∷ cut) in
    let begun = decimal first ++ (32 ∷ roomy) in
    both (codes "chapter ") (decimal n ++ (32 ∷ begun)) (word (codes "chapter ") refl)
    (spaced (decimal n) begun (number n is) (spaced (decimal first) roomy (number first is_first)
    (spaced (decimal rules.capacity) cut (number rules.capacity (omega (arith, rules.capacity_within)))
    (spaced (decimal rules.chapter) aged (number rules.chapter (omega (arith, rules.chapter_within))) (number rules.stale (omega (arith, rules.stale_within)))))))

-- no LF stands within a line
pub line-unended : (told : Said) → FitsSaid told → IsUnended (said_text told)
line-unended (said.Chapter n first rules) fit = unended (head_text n first rules) (head-plain n first rules fit.0 fit.1)
line-unended (said.Entry entry) fit = unended (entry_text entry) (entry-plain entry fit)
line-unended (said.Event event) fit = unended (event_text event) (event-plain event fit)
