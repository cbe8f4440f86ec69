-- SPDX-License-Identifier: MIT
-- What a look-up tells of a shelf.
use Rattle.std.proofs.Common.{◌≡◌, ℕ, ◌≤◌, List, [], ◌∷◌, length, Option, Some, None, refl, sym, ap, subst, ◌∙◌, arith}
use Rattle.std.specs.Prelude.{IfSome}
use Rattle.std.specs.Option.{option_map}
use Rattle.rrc_history.specs.Asked.{AskOf}
use Rattle.rrc_history.specs.Views.{held_in, reply_in}
use Rattle.rrc_history.specs.declared.judge.Held.{Held}
use Rattle.rrc_history.specs.declared.snapshot.Entry.{Entry}
use Rattle.rrc_cache.specs.Ages.{StandsWithin, ahead_of}
use Rattle.rrc_cache.specs.Lookups.{TellsLookup}
use Rattle.rrc_cache.specs.declared.lookup.Lookup.{Lookup}
use Rattle.rrc_history.specs.lemmas.EntryLaws.{entry_at-key}
use Rattle.rrc_name.specs.Key.{KeyOf}
use Rattle.rrc_name.specs.Wire.{labels_within, wire_of, IsWireForm}
use Rattle.rrc_share.specs.CacheShelf.{CacheShelfOf, held_by}
use Rattle.rrc_shelf.specs.Asks.{record_of, told_of, TellsEntry, TellsRecord}
use Rattle.rrc_shelf.specs.declared.entry_record.EntryRecord.{EntryRecord}
use Rattle.rrc_shelf.specs.declared.reply_record.ReplyRecord.{ReplyRecord}

-- a name has an octet at least
pub some_octet : (octets : List ℕ) → IsWireForm octets → 1 ≤ length octets
unfolding labels_within
some_octet [] is = let none : wire_of [] ≡ [] = is.whole in absurd cc
some_octet (size ∷ octets) is = omega arith

-- the record of an entry tells its own age
own_age : (entry : Option Entry) (age : ℕ) → record_of entry age ≡ record_of entry (record_of entry age).age
own_age None age = refl
own_age (Some entry) age = refl

-- what is kept stands behind at most so many others
abbrev StandsAt : CacheShelfOf → Option Entry → ℕ → Type 0
StandsAt shelf entry age = IfSome entry (λ (one : Entry). StandsWithin shelf.shelf.part one.key age)

stands_own : (shelf : CacheShelfOf) (entry : Option Entry) (age : ℕ) → StandsAt shelf entry age → StandsAt shelf entry (record_of entry age).age
stands_own shelf None age stands = stands
stands_own shelf (Some entry) age stands = stands

pub tells_entry : (shelf : CacheShelfOf) (entry : Option Entry) (age : ℕ) (told : EntryRecord) → told ≡ record_of entry age → StandsAt shelf entry age → TellsEntry shelf entry told
tells_entry shelf entry age told is stands =
    subst (TellsEntry shelf entry) (sym is) (record { record_is = own_age entry age; stands = stands_own shelf entry age stands })

-- what a key holds stands where the key does
pub stands_where_held : (shelf : CacheShelfOf) (key : KeyOf) (held : Option Entry) (age : ℕ) → held ≡ held_by shelf.shelf key
    → StandsWithin shelf.shelf.part key age → StandsAt shelf held age
stands_where_held shelf key None age is stands = tt
stands_where_held shelf key (Some entry) age is stands =
    λ contents are. subst (λ k. ahead_of k contents ≤ age) (entry_at-key key contents entry (are.agree key ∙ sym is)) (stands contents are)

held_stands : (shelf : CacheShelfOf) (held : Option Held) (age : ℕ) → IfSome held (λ held. StandsWithin shelf.shelf.part held.key.now age)
    → StandsAt shelf (option_map held_in held) age
held_stands shelf None age stands = tt
held_stands shelf (Some held) age stands = stands

-- what is told of a look-up is what the shelf has for the ask
pub tells_record : (shelf : CacheShelfOf) (ask : AskOf) (lookup : Lookup) (told : ReplyRecord) → TellsLookup shelf.shelf.part ask lookup
    → told ≡ told_of ask.rtype (reply_in lookup.reply) (record_of (option_map held_in lookup.entry) lookup.age) → TellsRecord ask shelf told
tells_record shelf ask lookup told is told_is =
    let entry = option_map held_in lookup.entry in
    let told_entry : told.entry ≡ record_of entry lookup.age = ap (λ (it : ReplyRecord). it.entry) told_is in
    let tells = tells_entry shelf entry lookup.age told.entry told_entry (held_stands shelf lookup.entry lookup.age is.ahead) in
    record {
      record_is = told_is ∙ (λ i. told_of ask.rtype (is.reply i) (sym told_entry i));
      entry_is = subst (λ one. TellsEntry shelf one told.entry) is.entry tells;
    }
