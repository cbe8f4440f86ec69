-- SPDX-License-Identifier: MIT
-- What is borrowed where it is kept, as the definitions speak of it.
use Rattle.std.specs.Option.{option_map}
use Rattle.rrc_name.specs.NameRef.{name_in}
use Rattle.rrc_history.specs.Asked.{AskOf}
use Rattle.rrc_history.specs.declared.ask_ref.AskRef.{AskRef}
use Rattle.rrc_history.specs.declared.event.Reply.{Reply}
use Rattle.rrc_history.specs.declared.event.Reply.TheVariants.{Fresh, Stale, NoData, NxDomain, Miss}
use Rattle.rrc_history.specs.declared.snapshot.Entry.{Entry}
use Rattle.rrc_history.specs.declared.judge.Held.{Held}
use Rattle.rrc_history.specs.declared.judge.Found.{Found}
use Rattle.rrc_history.specs.declared.reply.ReplyRef.{ReplyRef}
use Rattle.rrc_history.specs.declared.reply.ReplyRef.TheVariants.{Fresh as FreshRef, Stale as StaleRef, NoData as NoDataRef, NxDomain as NxDomainRef, Miss as MissRef}
use Rattle.rrc_history.specs.Judged as judged

-- an ask whose name is lent, as the ask that it is
abbrev pub ask_in : AskRef → AskOf
ask_in ask = record { name = name_in ask.name; class = ask.class; rtype = ask.rtype; moment = ask.moment; purpose = ask.purpose; mode = ask.mode }

-- what a key holds, as the entry that it is
abbrev pub held_in : Held → Entry
held_in held = record { key = held.key.now; body = held.body.now; moment = held.moment; number = held.number }

-- what the three keys of an ask hold
abbrev pub found_in : Found → judged.Found
found_in found = record { set = option_map held_in found.set; nx = option_map held_in found.nx; failed = option_map held_in found.failed }

-- a borrowed reply, as the reply that it is
abbrev pub reply_in : ReplyRef → Reply
reply_in (FreshRef set left) = Fresh (record { owner = set.owner.now; items = set.items.now }) left
reply_in (StaleRef set left) = Stale (record { owner = set.owner.now; items = set.items.now }) left
reply_in (NoDataRef soa left) = NoData (record { owner = soa.owner.now; octets = soa.octets.now }) left
reply_in (NxDomainRef soa left) = NxDomain (record { owner = soa.owner.now; octets = soa.octets.now }) left
reply_in (MissRef retry) = Miss retry
