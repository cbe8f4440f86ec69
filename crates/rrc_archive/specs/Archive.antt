-- SPDX-License-Identifier: MIT
-- The text of an archive: chapters of a part's history, one behind another, and in each a line for
-- what it begins with, for each key held then, and for each event (docs/FORMATS.md, "Archives").
use Rattle.std.specs.Prelude.{ℕ, List, [], ◌∷◌, ◌++◌, map, Option, Some, None, codes}
use Rattle.std.specs.List.{flat_map}
use Rattle.std.specs.Fmt.{decimal}
use Rattle.rrc_name.specs.Key.{KeyOf}
use Rattle.rrc_name.specs.Text.{text_of}
use Rattle.rrc_name.specs.declared.slot.Slot.TheVariants.{Set}
use Rattle.rrc_history.specs.Chapters.{ChapterOf}
use Rattle.rrc_history.specs.Lives.{rank}
use Rattle.rrc_history.specs.declared.body.Body.{Body}
use Rattle.rrc_history.specs.declared.body.Body.TheVariants.{Positive, Negative, Failure}
use Rattle.rrc_history.specs.declared.event.Event.{Event}
use Rattle.rrc_history.specs.declared.event.Event.TheVariants.{Offered, Asked, Swept}
use Rattle.rrc_history.specs.declared.event.Tag.{Tag}
use Rattle.rrc_history.specs.declared.rules.Rules.{Rules}
use Rattle.rrc_history.specs.declared.snapshot.Entry.{Entry}
use Rattle.rrc_text.specs.Grammar.{purpose_word, mode_word}
use Rattle.rrc_text.specs.Replies.{outcome_text, slot_text, class_text, item_text, items_text, reply_text}
use Rattle.rrc_archive.specs.declared.archive.ArchiveLine.{ArchiveLine}
use Rattle.rrc_archive.specs.declared.archive.ArchiveLine.TheVariants as lines

-- a chapter as an archive tells it: its number, the rules of the part, the number of its first
-- event, what the keys held before it, the key touched last first, and the events, the oldest first
pub record WrittenOf : Type 0 where
  pub number : ℕ
  pub rules : Rules
  pub first : ℕ
  pub entries : List Entry
  pub events : List Event

-- what an archive tells of a chapter; what the events lead to it does not tell, since it follows
abbrev pub written_of : ChapterOf → WrittenOf
written_of chapter = record {
  number = chapter.number;
  rules = chapter.snapshot.rules;
  first = chapter.snapshot.first;
  entries = chapter.snapshot.entries;
  events = chapter.events;
}

-- NAME SLOT: the slot is a type, `nx`, or `failed` and a type; behind it `/` and the class, if not IN
abbrev pub key_fields : KeyOf → List ℕ
key_fields key = text_of key.name ++ (32 ∷ (slot_text key.slot ++ class_text key.class))

-- LINE PLACE: where the call stands in a trace, or what its caller calls it by
abbrev pub tag_fields : Tag → List ℕ
tag_fields tag = decimal tag.line ++ (32 ∷ decimal tag.place)

-- set TRUST TTL OWNER ITEMS, negative TRUST TTL OWNER SOA, or failure TTL
abbrev pub body_fields : Body → List ℕ
body_fields (Positive trust ttl owner items) =
    codes "set " ++ (decimal (rank trust) ++ (32 ∷ (decimal ttl ++ (32 ∷ (text_of owner ++ (32 ∷ items_text items))))))
body_fields (Negative trust ttl owner soa) =
    codes "negative " ++ (decimal (rank trust) ++ (32 ∷ (decimal ttl ++ (32 ∷ (text_of owner ++ (32 ∷ item_text soa))))))
body_fields (Failure ttl) = codes "failure " ++ decimal ttl

-- keys, each behind a space
abbrev pub keys_fields : List KeyOf → List ℕ
keys_fields [] = []
keys_fields (key ∷ keys) = 32 ∷ (key_fields key ++ keys_fields keys)

-- a key behind a space, if there is one
abbrev pub evicted_fields : Option KeyOf → List ℕ
evicted_fields None = []
evicted_fields (Some key) = 32 ∷ key_fields key

-- chapter NUMBER FIRST CAPACITY CHAPTER STALE
abbrev pub head_text : ℕ → ℕ → Rules → List ℕ
head_text number first rules =
    codes "chapter "
    ++ (decimal number ++ (32 ∷ (decimal first ++ (32 ∷ (decimal rules.capacity ++ (32 ∷ (decimal rules.chapter ++ (32 ∷ decimal rules.stale))))))))

-- entry NUMBER MOMENT NAME SLOT BODY
abbrev pub entry_text : Entry → List ℕ
entry_text entry =
    codes "entry "
    ++ (decimal entry.number ++ (32 ∷ (decimal entry.moment ++ (32 ∷ (key_fields entry.key ++ (32 ∷ body_fields entry.body))))))

-- offer LINE PLACE MOMENT NAME SLOT BODY OUTCOME, and NAME SLOT of the key that was evicted;
-- ask LINE PLACE MOMENT NAME TYPE PURPOSE MODE REPLY;
-- sweep LINE PLACE MOMENT, and NAME SLOT of each key that was removed
abbrev pub event_text : Event → List ℕ
event_text (Offered outcome tag offer evicted) =
    codes "offer "
    ++ (tag_fields tag ++ (32 ∷ (decimal offer.moment
    ++ (32 ∷ (key_fields offer.key ++ (32 ∷ (body_fields offer.body ++ (32 ∷ (outcome_text outcome ++ evicted_fields evicted)))))))))
event_text (Asked tag ask reply) =
    codes "ask "
    ++ (tag_fields tag ++ (32 ∷ (decimal ask.moment
    ++ (32 ∷ (text_of ask.name ++ (32 ∷ (slot_text (Set ask.rtype) ++ (class_text ask.class
    ++ (32 ∷ (purpose_word ask.purpose ++ (32 ∷ (mode_word ask.mode ++ (32 ∷ reply_text reply)))))))))))))
event_text (Swept tag moment gone) = codes "sweep " ++ (tag_fields tag ++ (32 ∷ (decimal moment ++ keys_fields gone)))

-- a line, without the LF at its end
abbrev pub line_text : ArchiveLine → List ℕ
line_text (lines.Chapter number first rules) = head_text number first rules
line_text (lines.Entry entry) = entry_text entry.now
line_text (lines.Event event) = event_text event.now

-- the lines of a chapter: its head, an entry for each key, and the events
abbrev pub lines_of : WrittenOf → List (List ℕ)
lines_of written = head_text written.number written.first written.rules ∷ (map entry_text written.entries ++ map event_text written.events)

-- lines, each with an LF at its end
abbrev pub text_of_lines : List (List ℕ) → List ℕ
text_of_lines lines = flat_map (λ line. line ++ 10 ∷ []) lines

-- a chapter
abbrev pub chapter_text : WrittenOf → List ℕ
chapter_text written = text_of_lines (lines_of written)

-- chapters, one behind another
abbrev pub archive_text : List WrittenOf → List ℕ
archive_text chapters = flat_map chapter_text chapters
