-- SPDX-License-Identifier: MIT
-- What a part tells of an ask: the reply, the entry that gives it, and the entry's age.
use Rattle.std.specs.Prelude.{◌≡◌, IfNone, IfSome}
use Rattle.std.specs.Option.{option_map}
use Rattle.rrc_history.specs.Asked.{AskOf}
use Rattle.rrc_history.specs.Judged.{answering}
use Rattle.rrc_history.specs.Past.{found, reply_to}
use Rattle.rrc_history.specs.Views.{held_in, reply_in}
use Rattle.rrc_cache.specs.Ages.{StandsWithin}
use Rattle.rrc_cache.specs.Part.{PartOf, past_of}
use Rattle.rrc_cache.specs.declared.lookup.Lookup.{Lookup}

-- the reply is the one that the part's past has for the ask
abbrev pub TellsReply : PartOf → AskOf → Lookup → Type 0
TellsReply part ask lookup = reply_in lookup.reply ≡ reply_to part.snapshot (past_of part) ask

-- the entry is the one that gives that reply, and none gives a miss
abbrev pub TellsEntry : PartOf → AskOf → Lookup → Type 0
TellsEntry part ask lookup =
    option_map held_in lookup.entry ≡ answering (found part.snapshot (past_of part) ask) ask (reply_to part.snapshot (past_of part) ask)

-- at most as many entries as its age stand before the entry, the key touched last first
abbrev pub TellsAge : PartOf → Lookup → Type 0
TellsAge part lookup = IfSome lookup.entry (λ held. StandsWithin part held.key.now lookup.age)

-- a miss has the age 0
abbrev pub TellsNoAge : Lookup → Type 0
TellsNoAge lookup = IfNone lookup.entry (lookup.age ≡ 0)

-- all that is told of an ask
pub record TellsLookup (part : PartOf) (ask : AskOf) (lookup : Lookup) : Type 0 where
  pub reply : TellsReply part ask lookup
  pub entry : TellsEntry part ask lookup
  pub ahead : TellsAge part lookup
  pub miss : TellsNoAge lookup
