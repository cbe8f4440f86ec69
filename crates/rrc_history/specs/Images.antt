-- SPDX-License-Identifier: MIT
-- Which histories those are now that were made before keys had a class: all their keys and asks are of class IN (RFC 1035 section
-- 3.2.4), and all else is equal.
use Rattle.std.specs.Prelude.{map}
use Rattle.std.specs.Option.{option_map}
use Rattle.rrc_name.specs.Images.{IN, image_of as image_of_key, without_class as key_without_class}
use Rattle.rrc_history.specs.declared.event.Event.{Event}
use Rattle.rrc_history.specs.declared.event.Event.TheVariants.{Offered, Asked, Swept}
use Rattle.rrc_history.specs.declared.snapshot.Entry.{Entry}
use Rattle.rrc_history.specs.declared.snapshot.Snapshot.{Snapshot}
use Rattle.rrc_history.specs.declared.classless.Event.{Event as ClasslessEvent}
use Rattle.rrc_history.specs.declared.classless.Event.TheVariants as classless
use Rattle.rrc_history.specs.declared.classless.Entry.{Entry as ClasslessEntry}
use Rattle.rrc_history.specs.declared.classless.Snapshot.{Snapshot as ClasslessSnapshot}
use Rattle.rrc_history.specs.Asked.{AskOf}
use Rattle.rrc_history.specs.Fits.{OfferOf}
use Rattle.rrc_history.specs.Judged.{Found}
use Rattle.rrc_history.specs.Chapters.{ChapterOf}
use Rattle.rrc_history.specs.classless.Asked as asked
use Rattle.rrc_history.specs.classless.Fits as fits
use Rattle.rrc_history.specs.classless.Judged as judged
use Rattle.rrc_history.specs.classless.Chapters as chapters

abbrev pub image_of_offer : fits.OfferOf → OfferOf
image_of_offer offer = record { key = image_of_key offer.key; body = offer.body; moment = offer.moment }

abbrev pub image_of_ask : asked.AskOf → AskOf
image_of_ask ask = record { name = ask.name; class = IN; rtype = ask.rtype; moment = ask.moment; purpose = ask.purpose; mode = ask.mode }

abbrev pub image_of_event : ClasslessEvent → Event
image_of_event (classless.Offered outcome tag offer evicted) = Offered outcome tag (image_of_offer offer) (option_map image_of_key evicted)
image_of_event (classless.Asked tag ask reply) = Asked tag (image_of_ask ask) reply
image_of_event (classless.Swept tag moment gone) = Swept tag moment (map image_of_key gone)

abbrev pub image_of_entry : ClasslessEntry → Entry
image_of_entry entry = record { key = image_of_key entry.key; body = entry.body; moment = entry.moment; number = entry.number }

abbrev pub image_of_snapshot : ClasslessSnapshot → Snapshot
image_of_snapshot snapshot = record { rules = snapshot.rules; first = snapshot.first; entries = map image_of_entry snapshot.entries }

abbrev pub image_of_chapter : chapters.ChapterOf → ChapterOf
image_of_chapter chapter = record {
  number = chapter.number;
  snapshot = image_of_snapshot chapter.snapshot;
  events = map image_of_event chapter.events;
  closing = image_of_snapshot chapter.closing;
}

-- what the keys of an ask held, as what they hold now
abbrev pub image_of_found : judged.Found → Found
image_of_found found = record {
  set = option_map image_of_entry found.set;
  nx = option_map image_of_entry found.nx;
  failed = option_map image_of_entry found.failed;
}

-- the entry of which one under a key of class IN is the image
abbrev pub entry_without_class : Entry → ClasslessEntry
entry_without_class entry = record { key = key_without_class entry.key; body = entry.body; moment = entry.moment; number = entry.number }

-- the snapshot of which one is the image whose keys are all of class IN
abbrev pub snapshot_without_class : Snapshot → ClasslessSnapshot
snapshot_without_class snapshot = record { rules = snapshot.rules; first = snapshot.first; entries = map entry_without_class snapshot.entries }

-- the ask as it was before asks had a class
abbrev pub ask_without_class : AskOf → asked.AskOf
ask_without_class ask = record { name = ask.name; rtype = ask.rtype; moment = ask.moment; purpose = ask.purpose; mode = ask.mode }
