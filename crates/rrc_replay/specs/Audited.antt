-- SPDX-License-Identifier: MIT
-- What an audit of an archive tells, in text.
use Rattle.std.specs.Prelude.{◌≡◌, ℕ, List, [], ◌∷◌, ◌++◌, length, reverse, codes, Option, Some, None}
use Rattle.std.specs.Fmt.{decimal}
use Rattle.std.specs.List.{flat_map}
use Rattle.rrc_history.specs.declared.event.Event.{Event}
use Rattle.rrc_history.specs.declared.snapshot.Entry.{Entry}
use Rattle.rrc_archive.specs.Archive.{event_text, entry_text}
use Rattle.rrc_replay.specs.declared.unlawful.Due.{Due}
use Rattle.rrc_replay.specs.declared.unlawful.Reason.{Reason}
use Rattle.rrc_history.specs.Chains.{WholeOf}
use Rattle.rrc_history.specs.Chapters.{ChapterOf}
use Rattle.rrc_history.specs.Right.{IsLegal}
use Rattle.rrc_replay.specs.Archives.{AreHistory, IsWhyNoHistory, fault_text}
use Rattle.rrc_replay.specs.declared.history.HistoryFault.{HistoryFault}
use Rattle.rrc_replay.specs.declared.history.HistoryFault.TheVariants.{Empty, BadLine, BadEntry, BadNumber, NotLegal, Broken, Memory}
use Rattle.rrc_replay.specs.declared.audited.Finding.{Finding}
use Rattle.rrc_replay.specs.declared.audited.Finding.TheVariants as found

-- legal: N chapters, M events from number F on
abbrev pub legal_text : ℕ → ℕ → ℕ → List ℕ
legal_text chapters events first =
    codes "legal: " ++ (decimal chapters ++ (codes " chapters, " ++ (decimal events ++ (codes " events from number " ++ (decimal first ++ codes " on\n")))))

-- the octets tell a legal history, and the text how long it is
pub record IsToldLegal (octets text : List ℕ) : Type 0 where
  pub chapters : List ChapterOf
  pub whole : WholeOf
  pub are : AreHistory octets chapters whole
  pub legal : IsLegal whole.snapshot (reverse whole.events)
  pub told : text ≡ legal_text (length chapters) (length whole.events) whole.snapshot.first

-- not legal: and why
abbrev pub why_text : HistoryFault → List ℕ
why_text fault = codes "not legal: " ++ (fault_text fault ++ 10 ∷ [])

-- not legal: chapter N of the archive, event K (line L)
abbrev pub place_text : ℕ → ℕ → ℕ → List ℕ
place_text chapter event line =
    codes "not legal: chapter " ++ (decimal chapter ++ (codes " of the archive, event " ++ (decimal event ++ (codes " (line " ++ (decimal line ++ codes ")\n")))))

-- a word, an event as an archive has it, and an LF
abbrev pub event_line : List ℕ → Event → List ℕ
event_line word event = word ++ (event_text event ++ 10 ∷ [])

-- held: and what a key held, as an archive has it
abbrev pub held_line : Entry → List ℕ
held_line entry = codes "held: " ++ (entry_text entry ++ 10 ∷ [])

-- due: and the event that is due, and what its keys held; or that none is
abbrev pub due_text : Option Due → List ℕ
due_text None = codes "due: none, since the numbers are spent or the moment is above 2^40\n"
due_text (Some due) = event_line (codes "due: ") due.event ++ flat_map held_line due.held.items

-- written: and the event that is not right, and what is due in its place
abbrev pub reason_text : Reason → List ℕ
reason_text reason = event_line (codes "written: ") reason.written ++ due_text reason.due

-- why a history is not legal: of an event that is not right its place and what is due, and else the
-- fault in words
abbrev pub refusal_text : HistoryFault → List ℕ
refusal_text Empty = why_text Empty
refusal_text (BadLine line) = why_text (BadLine line)
refusal_text (BadEntry chapter fault) = why_text (BadEntry chapter fault)
refusal_text (BadNumber chapter) = why_text (BadNumber chapter)
refusal_text (NotLegal chapter event line reason) = place_text chapter event line ++ reason_text reason
refusal_text (Broken fault) = why_text (Broken fault)
refusal_text Memory = why_text Memory

-- the octets tell no legal history, and the text says so
pub record IsToldNot (octets text : List ℕ) : Type 0 where
  pub fault : HistoryFault
  pub why : IsWhyNoHistory octets fault
  pub known : fault ≡ Memory → ⊥
  pub told : text ≡ refusal_text fault

-- what was found is so, and the text tells it
abbrev pub IsAudit : List ℕ → Finding → List ℕ → Type 0
IsAudit octets found.Legal text = IsToldLegal octets text
IsAudit octets found.NotLegal text = IsToldNot octets text
