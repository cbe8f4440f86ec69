-- SPDX-License-Identifier: MIT
-- What an archive may tell: what Rust holds, in the widths of its fields.
use Rattle.std.specs.Prelude.{◌≡◌, ℕ, ◌<◌, ◌^◌, List, Option, Some, None, true}
use Rattle.std.specs.List.{AllByRecursion}
use Rattle.hex.specs.Hex.{IsBytes}
use Rattle.rrc_name.specs.Wire.{IsWireForm}
use Rattle.rrc_name.specs.Key.{KeyOf, IsFolded}
use Rattle.rrc_name.specs.declared.slot.Slot.{Slot}
use Rattle.rrc_name.specs.declared.slot.Slot.TheVariants.{Set, Nx, Failed}
use Rattle.rrc_history.specs.Asked.{AskOf}
use Rattle.rrc_history.specs.Fits.{OfferOf, has_items, fits}
use Rattle.rrc_history.specs.declared.body.Body.{Body}
use Rattle.rrc_history.specs.declared.body.Body.TheVariants.{Positive, Negative, Failure}
use Rattle.rrc_history.specs.declared.event.Event.{Event}
use Rattle.rrc_history.specs.declared.event.Event.TheVariants.{Offered, Asked, Swept}
use Rattle.rrc_history.specs.declared.event.Reply.{Reply}
use Rattle.rrc_history.specs.declared.event.Reply.TheVariants.{Fresh, Stale, NoData, NxDomain, Miss}
use Rattle.rrc_history.specs.declared.snapshot.Entry.{Entry}
use Rattle.rrc_archive.specs.Archive.{WrittenOf, archive_text}
use Rattle.rrc_archive.specs.ArchiveLaw.{IsNumber, HoldsTag, HoldsItems}

-- types and classes have 16 bits (RFC 1035 3.2)
abbrev pub FitsSlot : Slot → Type 0
FitsSlot (Set rtype) = rtype < 2 ^ 16
FitsSlot Nx = Unit {0}
FitsSlot (Failed rtype) = rtype < 2 ^ 16

-- the name of a key is folded
pub record FitsKey (key : KeyOf) : Type 0 where
  pub name : IsWireForm key.name
  pub folded : IsFolded key.name
  pub slot : FitsSlot key.slot
  pub class : key.class < 2 ^ 16

-- a set lives so many seconds, in 32 bits (RFC 1035 4.1.3), and has a record at least (RFC 2181 5)
pub record FitsSet (left : ℕ) (owner : List ℕ) (items : List (List ℕ)) : Type 0 where
  pub lives : left < 2 ^ 32
  pub name : IsWireForm owner
  pub some : has_items items ≡ true
  pub octets : HoldsItems items

-- a negative answer lives so many seconds, and has the SOA record of its zone (RFC 2308 5)
pub record FitsSoa (left : ℕ) (owner soa : List ℕ) : Type 0 where
  pub lives : left < 2 ^ 32
  pub name : IsWireForm owner
  pub octets : IsBytes soa

abbrev pub FitsBody : Body → Type 0
FitsBody (Positive trust ttl owner items) = FitsSet ttl owner items
FitsBody (Negative trust ttl owner soa) = FitsSoa ttl owner soa
FitsBody (Failure ttl) = ttl < 2 ^ 32

pub record FitsEntry (entry : Entry) : Type 0 where
  pub numbered : IsNumber entry.number
  pub dated : IsNumber entry.moment
  pub under : FitsKey entry.key
  pub holds : FitsBody entry.body

abbrev pub FitsReply : Reply → Type 0
FitsReply (Fresh set left) = FitsSet left set.owner set.items
FitsReply (Stale set left) = FitsSet left set.owner set.items
FitsReply (NoData soa left) = FitsSoa left soa.owner soa.octets
FitsReply (NxDomain soa left) = FitsSoa left soa.owner soa.octets
FitsReply (Miss None) = Unit {0}
FitsReply (Miss (Some moment)) = IsNumber moment

abbrev pub FitsEvicted : Option KeyOf → Type 0
FitsEvicted None = Unit {0}
FitsEvicted (Some key) = FitsKey key

-- the body of an offer fits its key
pub record FitsOffer (offer : OfferOf) : Type 0 where
  pub dated : IsNumber offer.moment
  pub under : FitsKey offer.key
  pub holds : FitsBody offer.body
  pub fit : fits offer.key offer.body ≡ true

-- the name of an ask is folded
pub record FitsAsk (ask : AskOf) : Type 0 where
  pub dated : IsNumber ask.moment
  pub named : IsWireForm ask.name
  pub folded : IsFolded ask.name
  pub typed : ask.rtype < 2 ^ 16
  pub classed : ask.class < 2 ^ 16

abbrev pub FitsEvent : Event → Type 0
FitsEvent (Offered outcome tag offer evicted) = HoldsTag tag × (FitsOffer offer × FitsEvicted evicted)
FitsEvent (Asked tag ask reply) = HoldsTag tag × (FitsAsk ask × FitsReply reply)
FitsEvent (Swept tag moment gone) = HoldsTag tag × (IsNumber moment × AllByRecursion FitsKey gone)

pub record FitsChapter (chapter : WrittenOf) : Type 0 where
  pub numbered : IsNumber chapter.number
  pub begins : IsNumber chapter.first
  pub held : AllByRecursion FitsEntry chapter.entries
  pub told : AllByRecursion FitsEvent chapter.events

-- octets are the text of no chapters
abbrev pub IsNoArchive : List ℕ → Type 0
IsNoArchive octets = (chapters : List WrittenOf) → AllByRecursion FitsChapter chapters → octets ≡ archive_text chapters → ⊥
