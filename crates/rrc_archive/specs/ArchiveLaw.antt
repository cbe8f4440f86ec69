-- SPDX-License-Identifier: MIT
-- The law of archives: one text tells one list of chapters.
use Rattle.std.specs.Prelude.{◌≡◌, ℕ, ◌<◌, ◌^◌, List, Option, Some, None}
use Rattle.std.specs.List.{AllByRecursion}
use Rattle.hex.specs.Hex.{IsBytes}
use Rattle.rrc_name.specs.Wire.{IsWireForm}
use Rattle.rrc_name.specs.Key.{KeyOf}
use Rattle.rrc_name.specs.declared.slot.Slot.{Slot}
use Rattle.rrc_name.specs.declared.slot.Slot.TheVariants.{Set, Nx, Failed}
use Rattle.rrc_history.specs.Asked.{AskOf}
use Rattle.rrc_history.specs.Fits.{OfferOf}
use Rattle.rrc_history.specs.declared.body.Body.{Body}
use Rattle.rrc_history.specs.declared.body.Body.TheVariants.{Positive, Negative, Failure}
use Rattle.rrc_history.specs.declared.event.Event.{Event}
use Rattle.rrc_history.specs.declared.event.Event.TheVariants.{Offered, Asked, Swept}
use Rattle.rrc_history.specs.declared.event.Reply.{Reply}
use Rattle.rrc_history.specs.declared.event.Reply.TheVariants.{Fresh, Stale, NoData, NxDomain, Miss}
use Rattle.rrc_history.specs.declared.event.Tag.{Tag}
use Rattle.rrc_history.specs.declared.snapshot.Entry.{Entry}
use Rattle.rrc_archive.specs.Archive.{WrittenOf, archive_text}

-- What Rust holds: numbers below 2^64, names in wire form, and octets.

abbrev pub IsNumber : ℕ → Type 0
IsNumber number = number < 2 ^ 64

abbrev pub HoldsSlot : Slot → Type 0
HoldsSlot (Set rtype) = IsNumber rtype
HoldsSlot Nx = Unit {0}
HoldsSlot (Failed rtype) = IsNumber rtype

abbrev pub HoldsKey : KeyOf → Type 0
HoldsKey key = IsWireForm key.name × (HoldsSlot key.slot × IsNumber key.class)

abbrev pub HoldsTag : Tag → Type 0
HoldsTag tag = IsNumber tag.line × IsNumber tag.place

abbrev pub HoldsItems : List (List ℕ) → Type 0
HoldsItems items = AllByRecursion IsBytes items

abbrev pub HoldsBody : Body → Type 0
HoldsBody (Positive trust ttl owner items) = IsNumber ttl × (IsWireForm owner × HoldsItems items)
HoldsBody (Negative trust ttl owner soa) = IsNumber ttl × (IsWireForm owner × IsBytes soa)
HoldsBody (Failure ttl) = IsNumber ttl

abbrev pub HoldsEntry : Entry → Type 0
HoldsEntry entry = IsNumber entry.number × (IsNumber entry.moment × (HoldsKey entry.key × HoldsBody entry.body))

abbrev pub HoldsReply : Reply → Type 0
HoldsReply (Fresh set left) = IsNumber left × (IsWireForm set.owner × HoldsItems set.items)
HoldsReply (Stale set left) = IsNumber left × (IsWireForm set.owner × HoldsItems set.items)
HoldsReply (NoData soa left) = IsNumber left × (IsWireForm soa.owner × IsBytes soa.octets)
HoldsReply (NxDomain soa left) = IsNumber left × (IsWireForm soa.owner × IsBytes soa.octets)
HoldsReply (Miss None) = Unit {0}
HoldsReply (Miss (Some moment)) = IsNumber moment

abbrev pub HoldsEvicted : Option KeyOf → Type 0
HoldsEvicted None = Unit {0}
HoldsEvicted (Some key) = HoldsKey key

abbrev pub HoldsOffer : OfferOf → Type 0
HoldsOffer offer = IsNumber offer.moment × (HoldsKey offer.key × HoldsBody offer.body)

abbrev pub HoldsAsk : AskOf → Type 0
HoldsAsk ask = IsNumber ask.moment × (IsWireForm ask.name × (IsNumber ask.rtype × IsNumber ask.class))

abbrev pub HoldsEvent : Event → Type 0
HoldsEvent (Offered outcome tag offer evicted) = HoldsTag tag × (HoldsOffer offer × HoldsEvicted evicted)
HoldsEvent (Asked tag ask reply) = HoldsTag tag × (HoldsAsk ask × HoldsReply reply)
HoldsEvent (Swept tag moment gone) = HoldsTag tag × (IsNumber moment × AllByRecursion HoldsKey gone)

pub record HoldsChapter (chapter : WrittenOf) : Type 0 where
  pub number : IsNumber chapter.number
  pub first : IsNumber chapter.first
  pub entries : AllByRecursion HoldsEntry chapter.entries
  pub events : AllByRecursion HoldsEvent chapter.events

-- chapters that have the same text are the same
abbrev pub OneArchive : Type 0
OneArchive = (chapters others : List WrittenOf) → AllByRecursion HoldsChapter chapters → AllByRecursion HoldsChapter others
    → archive_text chapters ≡ archive_text others → chapters ≡ others

-- no other chapters that Rust holds have these octets as their text
abbrev pub IsOnlyArchive : List ℕ → List WrittenOf → Type 0
IsOnlyArchive octets chapters = (others : List WrittenOf) → AllByRecursion HoldsChapter others → octets ≡ archive_text others → others ≡ chapters
