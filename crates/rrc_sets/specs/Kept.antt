-- SPDX-License-Identifier: MIT
-- What a message offers is of kept types, and its data are plain, since those of its records are.
use Rattle.std.specs.Prelude.{◌≡◌, ℕ, true, List}
use Rattle.std.specs.List.{AllByRecursion}
use Rattle.rrc_name.specs.declared.slot.Slot.{Slot}
use Rattle.rrc_name.specs.declared.slot.Slot.TheVariants.{Set, Nx, Failed}
use Rattle.rrc_wire.specs.Layout.{is_kept}
use Rattle.rrc_wire.specs.Plain.{IsPlain}
use Rattle.rrc_history.specs.declared.body.Body.{Body}
use Rattle.rrc_history.specs.declared.body.Body.TheVariants.{Positive, Negative, Failure}
use Rattle.rrc_history.specs.Fits.{OfferOf, has_items}

-- the data of an RRset: one at least (RFC 2181 5), all plain data of its type, which is one that is kept in its class
pub record AreOfSet (rtype class : ℕ) (items : List (List ℕ)) : Type 0 where
  pub some : has_items items ≡ true
  pub kept : is_kept rtype class ≡ true
  pub plain : AllByRecursion (IsPlain rtype) items

-- the type that a slot names, if it names one, is kept in a class
abbrev pub HasKeptType : ℕ → Slot → Type 0
HasKeptType class (Set rtype) = is_kept rtype class ≡ true
HasKeptType class Nx = Unit {0}
HasKeptType class (Failed rtype) = is_kept rtype class ≡ true

-- octets are plain data of the type of a set
abbrev pub IsPlainIn : Slot → List ℕ → Type 0
IsPlainIn (Set rtype) rdata = IsPlain rtype rdata
IsPlainIn slot rdata = ⊥

-- the data of a body are plain: those of a set are of its type, and that of a negative answer of type SOA (RFC 2308 2)
abbrev pub HasPlainData : Slot → Body → Type 0
HasPlainData slot (Positive trust ttl owner items) = AllByRecursion (IsPlainIn slot) items
HasPlainData slot (Negative trust ttl soa_owner soa) = IsPlain 6 soa
HasPlainData slot (Failure ttl) = Unit {0}

-- an offer is of a type that is kept in its class, with plain data
pub record IsOfRecords (offer : OfferOf) : Type 0 where
  pub kept_type : HasKeptType offer.key.class offer.key.slot
  pub plain_data : HasPlainData offer.key.slot offer.body
