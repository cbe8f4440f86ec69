-- SPDX-License-Identifier: MIT
-- The report of a trace by one worker, and why there is none.
use Rattle.std.specs.Prelude.{◌≡◌, ℕ, ◌≤◌, List, length}
use Rattle.rrc_text.specs.declared.fault.ReplayFault.{ReplayFault}
use Rattle.rrc_text.specs.declared.fault.ReplayFault.TheVariants.{BadLine, TooManyLines, Read, Write, Strayed, Memory, Spent, TooManyQuestions, NotLegal}
use Rattle.rrc_trace.specs.declared.line.Line.{Line}
use Rattle.rrc_trace.specs.Trace.{TraceOf, IsFirstFault}
use Rattle.rrc_script.specs.declared.config.Config.{Config}
use Rattle.rrc_report.specs.declared.report.Report.{Report}
use Rattle.rrc_report.specs.Reports.{IsCollated}

-- the octets are a trace, and this is a report of it
pub record IsReportOf (config : Config) (octets : List ℕ) (report : Report) : Type 0 where
  pub lines : List Line
  pub trace : TraceOf octets lines
  pub collated : IsCollated config lines report

-- it is the one report of a trace
pub record IsTheReport (config : Config) (octets : List ℕ) (report : Report) : Type 0 where
  pub is : IsReportOf config octets report
  pub only : (other : Report) → IsReportOf config octets other → other ≡ report

-- the octets are a trace, and this is the number of a line or of all its lines
pub record IsWithin (octets : List ℕ) (number : ℕ) : Type 0 where
  pub lines : List Line
  pub trace : TraceOf octets lines
  pub within : number ≤ length lines

-- why octets have no report: a fault of the text is its first one, and each other one is of the replay of a trace, of memory, or of a read
abbrev pub IsFaultOf : List ℕ → ReplayFault → Type 0
IsFaultOf octets (BadLine number) = IsFirstFault octets (BadLine number)
IsFaultOf octets TooManyLines = IsFirstFault octets TooManyLines
IsFaultOf octets Read = Unit {0}
IsFaultOf octets Write = ⊥
IsFaultOf octets Strayed = Unit {0}
IsFaultOf octets Memory = Unit {0}
IsFaultOf octets (Spent number) = IsWithin octets number
IsFaultOf octets (TooManyQuestions number) = IsFirstFault octets (TooManyQuestions number)
IsFaultOf octets NotLegal = ⊥
