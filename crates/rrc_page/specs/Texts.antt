-- SPDX-License-Identifier: MIT
-- What a page is told of a report: its text, the histories of the parts, or the spans of what their keys held.
use Rattle.std.specs.Prelude.{◌≡◌, ℕ, List, [], ◌∷◌, ◌++◌}
use Rattle.std.specs.List.{flat_map}
use Rattle.rrc_history.specs.Chains.{WholeOf}
use Rattle.rrc_history.specs.declared.event.Event.{Event}
use Rattle.rrc_trace.specs.Report.{report_text}
use Rattle.rrc_archive.specs.Archive.{event_text, head_text}
use Rattle.rrc_script.specs.declared.config.Config.{Config}
use Rattle.rrc_report.specs.declared.report.Report.{Report}
use Rattle.rrc_page.specs.Replay.{IsTheReport}
use Rattle.rrc_page.specs.SpanLines.{all_spans_text}

-- a line of an archive for an event
abbrev pub event_line : Event → List ℕ
event_line event = event_text event ++ 10 ∷ []

-- the history of a part that began empty, as an archive of one chapter tells it
abbrev pub part_text : WholeOf → List ℕ
part_text whole = (head_text 1 whole.snapshot.first whole.snapshot.rules ++ 10 ∷ []) ++ flat_map event_line whole.events

-- those of all parts, one behind another
abbrev pub histories_text : List WholeOf → List ℕ
histories_text wholes = flat_map part_text wholes

-- what may be told of a report
abbrev pub lines_told : Report → List ℕ
lines_told report = report_text report.lines

abbrev pub histories_told : Report → List ℕ
histories_told report = histories_text report.wholes

abbrev pub spans_told : Report → List ℕ
spans_told report = all_spans_text report.wholes

-- the text is what is told of the one report of a trace
pub record IsTextOf (told_of : Report → List ℕ) (config : Config) (octets text : List ℕ) : Type 0 where
  pub report : Report
  pub is : IsTheReport config octets report
  pub written : text ≡ told_of report
